-- A list comes apart in one way.
use Rattle.std.proofs.Common.{◌≡◌, ℕ, ◌+◌, ◌*◌, ◌≤◌, true, List, ◌++◌, length, sym, ap, ◌∙◌, arith}
use Rattle.std.proofs.lemmas.List.{append_assoc}
use Rattle.std.proofs.lemmas.Bool.{and_parts, leb-true}
use Rattle.names.specs.Words.{word}
use Rattle.entries.specs.Entries.{LawfulFormat}
use Rattle.entries.proofs.Fronts.{same_fronts}
use Rattle.list.specs.Lists.{Entry, kind, pattern_of, whole, encoded, good, list_format}
use Rattle.list.proofs.Contents.{contents_apart}

same_entry : (d e : Entry) → d.name ≡ e.name → d.content ≡ e.content → d ≡ e
same_entry d e p q = ap (λ x. record { name = x; content = d.content }) p ∙ ap (λ c. record { name = e.name; content = c }) q

-- reading a list is unambiguous
pub lawful : LawfulFormat list_format
lawful = record {
  has_a_byte = λ e h. omega arith;
  comes_apart = apart;
}
  where
    -- what makes an entry well formed
    short : (e : Entry) → good e ≡ true → (length e.name ≤ 31) × (whole e.content ≡ true)
    short e g = let p = and_parts (word e.name) _ g in let q = and_parts _ (whole e.content) p.1 in (leb-true (length e.name) 31 q.0, q.1)

    apart : (d e : Entry) (r s : List ℕ) → good d ≡ true → good e ≡ true → encoded d ++ r ≡ encoded e ++ s → (d ≡ e) × (r ≡ s)
    apart d e r s g h is =
        let (d_short, d_whole) = short d g in
        let (e_short, e_whole) = short e h in
        let heads : kind d.content * 64 + length d.name ≡ kind e.content * 64 + length e.name = cc in
        let tails : (d.name ++ pattern_of d.content) ++ r ≡ (e.name ++ pattern_of e.content) ++ s = cc in
        let names = same_fronts d.name e.name (pattern_of d.content ++ r) (pattern_of e.content ++ s) (omega arith) (sym (append_assoc d.name (pattern_of d.content) r) ∙ tails ∙ append_assoc e.name (pattern_of e.content) s) in
        let contents = contents_apart d.content e.content r s (omega arith) d_whole e_whole names.1 in
        (same_entry d e names.0 contents.0, contents.1)
