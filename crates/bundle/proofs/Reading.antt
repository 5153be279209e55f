-- From entries that were read to a bundle.
use Rattle.std.proofs.Common.{◌≡◌, ℕ, ◌≤◌, true, ◌⊎◌, List, [], ◌∷◌, length, Ok, Err, Result, Vec, vec_items, sym, refl, ap, ◌∙◌, inl, inr, append-nil, arith}
use Rattle.std.specs.List.{AllZip}
use Rattle.std.specs.Result.{MatchResult, IsErrAnd}
use Rattle.std.proofs.lemmas.Result.{err_from_is_err_and}
use Rattle.record.specs.declared.denial.Denial.{Denial}
use Rattle.std.specs.declared.alloc.Global.{Global}
use Rattle.entries.specs.declared.fault.Fault.{Fault}
use Rattle.entries.specs.declared.fault.Fault.TheVariants.{Stopped, OutOfMemory}
use Rattle.entries.specs.declared.placed.Placed.{Placed}
use Rattle.entries.specs.Reading.{all_contents, ReadsAs}
use Rattle.bundle.specs.declared.entry.Entry as code
use Rattle.entries.specs.Entries.{all_encoded, well_formed}
use Rattle.entries.proofs.Unique.{means_only}
use Rattle.bundle.specs.Format.{Entry, format, plain, plain_all, plain_read}
use Rattle.bundle.specs.Bundles.{denial, IsOutOfMemory, too_long, stops, Reads, InvertsWriting}
use Rattle.bundle.proofs.Lawful.{lawful}

-- what is made of an entry and its byte
abbrev pub gives : Placed code.Entry → code.Entry → Type 0
gives placed e = e ≡ placed.entry

-- all entries
pub all_read : (s : List ℕ) (v : Vec code.Entry Global) → length s ≤ 65536 → ReadsAs format plain gives s (Ok v) → Reads s (Ok (plain_all (vec_items v)))
all_read s v short (xs, made, means, placed) =
    (short, means_only format lawful s (Ok (plain_all (vec_items v))) (rw (contents_of xs (vec_items v) made) at means))
  where
    contents_of : (xs : List (Placed code.Entry)) (ys : List code.Entry) → AllZip gives xs ys → all_contents plain xs ≡ plain_all ys
    contents_of [] [] h = refl
    contents_of [] (y ∷ ys) h = absurd h
    contents_of (x ∷ xs) [] h = absurd h
    contents_of (x ∷ xs) (y ∷ ys) h = rw (h.0, contents_of xs ys h.1) refl

-- a refusal to read
pub refuses : (s : List ℕ) (fault : Fault) → length s ≤ 65536 → ReadsAs format plain gives s (Err fault) → Reads s (Err (denial fault))
refuses s (Stopped why byte) short h = inr (stops why short (means_only format lawful s (Err (why, byte)) h))
refuses s (OutOfMemory e) short h = inl refl

-- what reading its entries answers is what reading a bundle answers
pub answers : (s : List ℕ) (r : Result (Vec code.Entry Global) Fault) (q : Result (Vec code.Entry Global) Denial) → length s ≤ 65536 → ReadsAs format plain gives s r → MatchResult r (λ v. q ≡ Ok v) (λ fault. IsErrAnd q (λ d. d ≡ denial fault)) → Reads s (plain_read q)
answers s (Ok v) q short h is = rw is (all_read s v short h)
answers s (Err fault) q short h is =
    let (d, made, e) = err_from_is_err_and q is in
    rw (made, e) (refuses s fault short h)

-- what is read exactly inverts writing
pub inverts : (s : List ℕ) (r : Result (List Entry) Denial) → Reads s r → InvertsWriting s r
inverts s r h = record { there = there r h; back = back r h }
  where
    there : (r : Result (List Entry) Denial) → Reads s r → (es : List Entry) → r ≡ Ok es → (all_encoded format es ≡ s) × (well_formed format es ≡ true)
    there (Ok fs) h es e =
        let same : fs ≡ es = cc in
        let f = h.1.means in
        (sym (ap (all_encoded format) same) ∙ sym (append-nil (all_encoded format fs)) ∙ f.all, sym (ap (well_formed format) same) ∙ f.well)
    there (Err d) h es e = cc

    back : (r : Result (List Entry) Denial) → Reads s r → (es : List Entry) → all_encoded format es ≡ s → well_formed format es ≡ true → length s ≤ 65536 → (r ≡ Ok es) ⊎ ((d : Denial) × (r ≡ Err d) × IsOutOfMemory d)
    back (Ok fs) h es e w l =
        let k = h.1.only (Ok es) (record { all = append-nil (all_encoded format es) ∙ e; well = w }) in
        let same : fs ≡ es = cc in
        inl (ap Ok same)
    back (Err d) (inl m) es e w l = inr (d, refl, m)
    back (Err d) (inr (too_long n)) es e w l = absurd (omega arith)
    back (Err d) (inr (stops why n m)) es e w l = let k = m.only (Ok es) (record { all = append-nil (all_encoded format es) ∙ e; well = w }) in cc
