-- Taking the first entry from a byte string.
use Rattle.std.proofs.Common.{◌≡◌, ℕ, ◌+◌, ◌*◌, ◌/◌, ◌%◌, ◌<◌, Bool, true, false, cond, ltb, List, [], ◌∷◌, ◌++◌, length, get_or, take, drop, Some, None, sym, refl, ap, ◌∙◌, append_assoc, arith, take-append-drop}
use native.Mathlib.Nat.{div-add-mod}
use Rattle.std.specs.List.{IsSplitAt}
use Rattle.std.proofs.lemmas.List.{take_at}
use Rattle.std.proofs.lemmas.Bool.{both_ways, and_parts, and_from, lt-ltb, ltb-true, ltb-false}
use Rattle.names.specs.Keys.{key}
use Rattle.entries.specs.Entries.{Begins}
use Rattle.entries.specs.Reading.{TakesFirst}
use Rattle.bundle.specs.declared.kind.PayloadKind.{PayloadKind}
use Rattle.bundle.specs.declared.kind.PayloadKind.TheVariants.{Text, List as SyntheticList}
use Rattle.bundle.specs.Format.{kind_number, kind_of, format}
use Rattle.bundle.proofs.Lawful.{good_fits}

-- where the key is none, no well-formed entry begins
pub no_key : (s front behind : List ℕ) → front ≡ take 3 s → behind ≡ drop 3 s → (x more : List ℕ) (m : ℕ) → m ≡ get_or front 0 0 % 64 → IsSplitAt behind m x more → key x ≡ false → ¬ Begins format s
no_key s front behind e f x more m is_m p w b =
    let head : get_or front 0 0 ≡ 64 * kind_number b.entry.kind + length b.entry.key = ap (λ l. get_or l 0 0) (e ∙ ap (take 3) (sym b.is)) in
    let size : length b.entry.key ≡ m = omega (arith, (good_fits b.entry b.well).key_fits, div-add-mod (get_or front 0 0) 64) in
    let rest : behind ≡ b.entry.key ++ (b.entry.payload ++ b.rest) = f ∙ ap (drop 3) (sym b.is) ∙ append_assoc b.entry.key b.entry.payload b.rest in
    let same : x ≡ b.entry.key = p.1 ∙ ap (take m) rest ∙ take_at b.entry.key (b.entry.payload ++ b.rest) m size in
    both_ways (key b.entry.key) (sym (ap key same) ∙ w) (and_parts (key b.entry.key) _ b.well).0

-- the first byte by its kind and its key length
head_byte : (h : ℕ) (k : PayloadKind) → Some k ≡ kind_of (64 * (h / 64)) → 64 * kind_number k + h % 64 ≡ h
head_byte h k e = by (ltb (64 * (h / 64)) 64) (ltb (64 * (h / 64)) 128) refl refl k e
  where
    by : (a b : Bool) → ltb (64 * (h / 64)) 64 ≡ a → ltb (64 * (h / 64)) 128 ≡ b → (j : PayloadKind) → Some j ≡ cond a (Some Text) (cond b (Some SyntheticList) None) → 64 * kind_number j + h % 64 ≡ h
    by true b p q Text z = let l = ltb-true (64 * (h / 64)) 64 p in omega (arith, div-add-mod h 64)
    by true b p q SyntheticList z = cc
    by false true p q Text z = cc
    by false true p q SyntheticList z = let l = ltb-false (64 * (h / 64)) 64 p in let m = ltb-true (64 * (h / 64)) 128 q in omega (arith, div-add-mod h 64)
    by false false p q j z = cc

-- an entry is taken
pub taken : (s front behind : List ℕ) → front ≡ take 3 s → behind ≡ drop 3 s → length behind + 3 ≡ length s → get_or s 1 0 < 256 → get_or s 2 0 < 256
    → (k : PayloadKind) → Some k ≡ kind_of (64 * (get_or front 0 0 / 64))
    → (x more y rest : List ℕ) (m n : ℕ) → m ≡ get_or front 0 0 % 64 → n ≡ get_or front 1 0 * 256 + get_or front 2 0 → IsSplitAt behind m x more → IsSplitAt more n y rest
    → key x ≡ true → TakesFirst format s (Some (record { kind = k; key = x; payload = y }, rest))
taken [] front behind e f l hi lo k kd x more y rest m n is_m is_n p q w = absurd (omega arith)
taken (a ∷ []) front behind e f l hi lo k kd x more y rest m n is_m is_n p q w = absurd (omega arith)
taken (a ∷ (b ∷ [])) front behind e f l hi lo k kd x more y rest m n is_m is_n p q w = absurd (omega arith)
taken (a ∷ (b ∷ (c ∷ t))) front behind e f l hi lo k kd x more y rest m n is_m is_n p q w =
    let front_0 : get_or front 0 0 ≡ a = ap (λ v. get_or v 0 0) e in
    let front_1 : get_or front 1 0 ≡ b = ap (λ v. get_or v 1 0) e in
    let front_2 : get_or front 2 0 ≡ c = ap (λ v. get_or v 2 0) e in
    let head = head_byte (get_or front 0 0) k kd in
    let head_is : 64 * kind_number k + length x ≡ a = omega (arith, p.3) in
    let high_is : length y / 256 ≡ b = omega (arith, q.3, div-add-mod (length y) 256) in
    let low_is : length y % 256 ≡ c = omega (arith, q.3, div-add-mod (length y) 256) in
    let all : (x ++ y) ++ rest ≡ t =
    append_assoc x y rest ∙ ap (λ v. x ++ v) (ap (λ v. v ++ rest) q.1 ∙ ap (λ v. take n more ++ v) q.2 ∙ take-append-drop n more) ∙ ap (λ v. v ++ more) p.1 ∙ ap (λ v. take m behind ++ v) p.2 ∙ take-append-drop m behind ∙ f in (
      bytes head_is high_is low_is all,
      and_from (key x) (ltb (length y) 65536) w (lt-ltb (length y) 65536 (omega (arith, q.3))),
    )
  where
    bytes : {a a' b b' c c' : ℕ} {d d' : List ℕ} → a ≡ a' → b ≡ b' → c ≡ c' → d ≡ d' → ◌≡◌ {A = List ℕ} (a ∷ b ∷ c ∷ d) (a' ∷ b' ∷ c' ∷ d')
    bytes p q r t = cc
