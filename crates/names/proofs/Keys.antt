-- The parts of a path, and what a key is.
use Rattle.std.proofs.Common.{MatchOption, ltb, ltb-true, ltb-false, ◌≡◌, ℕ, ◌+◌, ◌-◌, ◌<◌, ◌≤◌, Bool, true, false, cond, not, ◌&&◌, eqb, leb, List, [], ◌∷◌, ◌++◌, length, take, drop, Some, None, Decides, Option, sym, refl, ap, ◌∙◌, arith}
use mathlib.Core.Path.{subst⁻¹}
use native.Mathlib.Nat.{sub-zero}
use Rattle.std.specs.List.{position, position_or_len}
use Rattle.std.proofs.lemmas.List.{take_rest}
use Rattle.std.proofs.lemmas.List.Elements.{All-from_get_or}
use Rattle.std.proofs.lemmas.List.Splits.{slice_split-cons_no, slice_split_none, slice_split_first, join_with_byte-slice_split}
use Rattle.std.proofs.lemmas.List.Sums.{split_at_first, passes_at_first, fails_before_first}
use Rattle.std.proofs.lemmas.Bool.{and_parts, and_from, true≢false, eqb-true, leb-true, le-leb, not-true}
use Rattle.names.specs.Names.{Name, every}
use Rattle.std.specs.List.{onto_first}
use Rattle.names.specs.Keys.{segment_byte, segment, path, Key, parts, key, not_slash, Splits}

abbrev pub is_slash : ℕ → Bool
is_slash b = eqb b 47

pub parts_last : (a : Name) → every not_slash a ≡ true → parts a ≡ a ∷ []
parts_last [] h = refl
parts_last (b ∷ a) h =
    let p = and_parts (not_slash b) (every not_slash a) h in
    slice_split-cons_no is_slash b a (not-true (is_slash b) p.0) ∙ ap (onto_first b) (parts_last a p.1)

pub parts_cut : (a b : Name) → every not_slash a ≡ true → parts (a ++ (47 ∷ b)) ≡ a ∷ parts b
parts_cut [] b h = refl
parts_cut (c ∷ a) b h =
    let p = and_parts (not_slash c) (every not_slash a) h in
    slice_split-cons_no is_slash c (a ++ (47 ∷ b)) (not-true (is_slash c) p.0) ∙ ap (onto_first c) (parts_cut a b p.1)

-- there is a part
some_part : (s : Name) → (x : Name) × (xs : List Name) × (parts s ≡ x ∷ xs)
some_part [] = ([], [], refl)
some_part (b ∷ s) = by (eqb b 47) (some_part s)
  where
    by : (t : Bool) → (x : Name) × (xs : List Name) × (parts s ≡ x ∷ xs) → (x : Name) × (xs : List Name) × (cond t ([] ∷ parts s) (onto_first b (parts s)) ≡ x ∷ xs)
    by true (x, xs, e) = ([], parts s, refl)
    by false (x, xs, e) = (b ∷ x, xs, ap (onto_first b) e)

-- the parts joined again are the path
pub path_parts : (k : Name) → path (parts k) ≡ k
path_parts k = join_with_byte-slice_split 47 k

byte_not_slash : (b : ℕ) → segment_byte b ≡ true → not_slash b ≡ true
byte_not_slash b h = by (eqb b 47) refl
  where
    by : (t : Bool) → eqb b 47 ≡ t → not t ≡ true
    by true e = absurd (true≢false (sym h ∙ ap segment_byte (eqb-true b 47 e)))
    by false e = refl

bytes_not_slash : (s : Name) → every segment_byte s ≡ true → every not_slash s ≡ true
bytes_not_slash [] h = refl
bytes_not_slash (b ∷ s) h =
    let p = and_parts (segment_byte b) (every segment_byte s) h in
    and_from (not_slash b) (every not_slash s) (byte_not_slash b p.0) (bytes_not_slash s p.1)

-- segments that are joined come apart again
pub parts_path : (x : Name) (xs : List Name) → every segment (x ∷ xs) ≡ true → parts (path (x ∷ xs)) ≡ x ∷ xs
parts_path x [] h = parts_last x (bytes_not_slash x (and_parts _ _ (and_parts (segment x) true h).0).0)
parts_path x (y ∷ ys) h =
    let p = and_parts (segment x) (every segment (y ∷ ys)) h in
    parts_cut x (path (y ∷ ys)) (bytes_not_slash x (and_parts _ _ p.0).0) ∙ ap (λ l. x ∷ l) (parts_path y ys p.1)

-- the test of a key tells what a key is
pub key_decides : (k : Name) → Decides (key k) (Key k)
key_decides k = (is, was)
  where
    is : key k ≡ true → Key k
    is h =
        let p = and_parts (leb (length k) 63) (every segment (parts k)) h in
        let (x, xs, e) = some_part k in
        record { first = x; rest = xs; joined = sym (ap path e) ∙ path_parts k; good = sym (ap (every segment) e) ∙ p.1; short = leb-true (length k) 63 p.0 }

    was : Key k → key k ≡ true
    was q =
        let e : parts k ≡ q.first ∷ q.rest = sym (ap parts q.joined) ∙ parts_path q.first q.rest q.good in
        and_from (leb (length k) 63) (every segment (parts k)) (le-leb (length k) 63 q.short) (ap (every segment) e ∙ q.good)

-- a path comes apart at the first `/` that a search from the front finds, or is one part where it finds none
pub splits : (p : Name) (r : Option ℕ) → r ≡ position is_slash p → MatchOption r (Splits p p None) (λ i. Splits p (take (i - 0) p) (Some (take (length p - (i + 1)) (drop (i + 1) p))))
splits p r e = by (ltb n (length p)) refl e
  where
    n : ℕ
    n = position_or_len is_slash p

    Is : Option ℕ → Type 0
    Is r = MatchOption r (Splits p p None) (λ i. Splits p (take (i - 0) p) (Some (take (length p - (i + 1)) (drop (i + 1) p))))

    found : n < length p → Is (Some n)
    found l =
        let more : take (length p - (n + 1)) (drop (n + 1) p) ≡ drop (n + 1) p = take_rest p (n + 1) in
        let here : take n p ++ (47 ∷ drop (n + 1) p) ≡ p = ap (λ b. take n p ++ (b ∷ drop (n + 1) p)) (sym (eqb-true _ 47 (passes_at_first is_slash p 0 l))) ∙ sym (split_at_first is_slash p 0 l) in
        rw (sub-zero, more) (slice_split_first is_slash p 0 l, here)

    by : (t : Bool) → ltb n (length p) ≡ t → r ≡ cond t (Some n) None → Is r
    by true l q = subst⁻¹ Is q (found (ltb-true _ _ l))
    by false l q = subst⁻¹ Is q (slice_split_none is_slash p (All-from_get_or (λ x. is_slash x ≡ false) p 0 (λ i h. fails_before_first is_slash p i 0 (let k = ltb-false n (length p) l in omega (arith, h, k)))), refl)

-- whether all parts are segments tells whether a path that is short enough is a key
pub decided : (k : Name) (r : Bool) → length k ≤ 63 → r ≡ every segment (parts k) → (r ≡ key k) × Decides r (Key k)
decided k r l e =
    let q : r ≡ key k = e ∙ ap (λ t. t && every segment (parts k)) (sym (le-leb (length k) 63 l)) in
    (q, (λ t. (key_decides k).0 (sym q ∙ t), λ h. q ∙ (key_decides k).1 h))
