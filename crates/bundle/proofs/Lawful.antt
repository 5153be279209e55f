-- A bundle comes apart in one way.
use Rattle.std.proofs.Common.{◌≡◌, ℕ, suc, ◌+◌, ◌*◌, ◌/◌, ◌%◌, true, ltb, leb, List, ◌++◌, length, sym, refl, ◌∙◌, append_assoc, arith}
use native.Mathlib.Nat.{div-add-mod}
use Rattle.std.proofs.lemmas.Bool.{and_parts, ltb-true, leb-true}
use Rattle.names.specs.Names.{Name, every}
use Rattle.names.specs.Keys.{segment, parts, key}
use Rattle.entries.specs.Entries.{LawfulFormat}
use Rattle.entries.proofs.Fronts.{same_fronts}
use Rattle.bundle.specs.declared.kind.PayloadKind.{PayloadKind}
use Rattle.bundle.specs.declared.kind.PayloadKind.TheVariants.{Text, List as SyntheticList}
use Rattle.bundle.specs.Format.{Entry, kind_number, encoded, good, format}
use Rattle.bundle.specs.Bundles.{Fits}

pub good_fits : (e : Entry) → good e ≡ true → Fits e
good_fits e g =
    let p = and_parts (key e.key) (ltb (length e.payload) 65536) g in
    let q = and_parts (leb (length e.key) 63) (every segment (parts e.key)) p.0 in
    let l = leb-true (length e.key) 63 q.0 in
    record { key_fits = omega arith; payload_fits = ltb-true (length e.payload) 65536 p.1 }

same_kind : (j k : PayloadKind) → kind_number j ≡ kind_number k → j ≡ k
same_kind Text Text e = refl
same_kind Text SyntheticList e = cc
same_kind SyntheticList Text e = cc
same_kind SyntheticList SyntheticList e = refl

same_entry : {j k : PayloadKind} {x y : Name} {p q : List ℕ} → j ≡ k → x ≡ y → p ≡ q → ◌≡◌ {A = Entry} (record { kind = j; key = x; payload = p }) (record { kind = k; key = y; payload = q })
same_entry a b c = cc

pub comes_apart : (d e : Entry) (r s : List ℕ) → Fits d → Fits e → encoded d ++ r ≡ encoded e ++ s → (d ≡ e) × (r ≡ s)
comes_apart d e r s f g h =
    let first : 64 * kind_number d.kind + length d.key ≡ 64 * kind_number e.kind + length e.key = cc in
    let high : length d.payload / 256 ≡ length e.payload / 256 = cc in
    let low : length d.payload % 256 ≡ length e.payload % 256 = cc in
    let rest : (d.key ++ d.payload) ++ r ≡ (e.key ++ e.payload) ++ s = cc in
    let a = f.key_fits in
    let b = g.key_fits in
    let kinds : kind_number d.kind ≡ kind_number e.kind = omega arith in
    let keys : length d.key ≡ length e.key = omega arith in
    let sizes : length d.payload ≡ length e.payload = omega (arith, div-add-mod (length d.payload) 256, div-add-mod (length e.payload) 256) in
    let p = same_fronts d.key e.key (d.payload ++ r) (e.payload ++ s) keys (sym (append_assoc d.key d.payload r) ∙ rest ∙ append_assoc e.key e.payload s) in
    let q = same_fronts d.payload e.payload r s sizes p.1 in
    (same_entry (same_kind d.kind e.kind kinds) p.0 q.0, q.1)

pub lawful : LawfulFormat format
lawful = record {
  has_a_byte = λ e h. never (length (e.key ++ e.payload)) h;
  comes_apart = λ d e r s g h. comes_apart d e r s (good_fits d g) (good_fits e h);
}
  where
    never : (n : ℕ) → suc (suc (suc n)) ≡ 0 → ⊥
    never n h = omega arith
