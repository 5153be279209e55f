-- Lists of distinct names.
use Rattle.std.proofs.Common.{◌≡◌, Bool, true, false, not, List, [], ◌∷◌, ◌++◌, sym, refl, ◌∙◌}
use Rattle.std.specs.Str.{bytes_eq}
use Rattle.std.proofs.lemmas.Bool.{and_parts, and_from, or_parts, or_from, not-true, not_from_false}
use Rattle.std.proofs.lemmas.Slice.Eq.{bytes_eq-Decides}
use Rattle.names.specs.Names.{Name, among, distinct}

same_flip : (x y : Name) → bytes_eq x y ≡ false → bytes_eq y x ≡ false
same_flip x y h = by (bytes_eq y x) refl
  where
    by : (t : Bool) → bytes_eq y x ≡ t → t ≡ false
    by true e = sym ((bytes_eq-Decides x y).1 (sym ((bytes_eq-Decides y x).0 e))) ∙ h
    by false e = refl

among_push : (xs : List Name) (y x : Name) → among xs x ≡ false → bytes_eq y x ≡ false → among (xs ++ (y ∷ [])) x ≡ false
among_push [] y x h e = or_from _ _ e refl
among_push (z ∷ xs) y x h e = let p = or_parts (bytes_eq z x) (among xs x) h in or_from _ _ p.0 (among_push xs y x p.1 e)

-- one more name
pub distinct_push : (xs : List Name) (y : Name) → distinct xs ≡ true → among xs y ≡ false → distinct (xs ++ (y ∷ [])) ≡ true
distinct_push [] y h e = refl
distinct_push (x ∷ xs) y h e =
    let p = and_parts (not (among xs x)) (distinct xs) h in
    let q = or_parts (bytes_eq x y) (among xs y) e in
    and_from _ _ (not_from_false _ (among_push xs y x (not-true _ p.0) (same_flip x y q.0))) (distinct_push xs y p.1 q.1)

-- the next name is none of those before it
pub distinct_split : (xs : List Name) (y : Name) (ys : List Name) → distinct (xs ++ (y ∷ ys)) ≡ true → among xs y ≡ false
distinct_split [] y ys h = refl
distinct_split (x ∷ xs) y ys h =
    let p = and_parts (not (among (xs ++ (y ∷ ys)) x)) (distinct (xs ++ (y ∷ ys))) h in
    or_from _ _ (same_flip y x (apart xs (not-true _ p.0))) (distinct_split xs y ys p.1)
  where
    apart : (zs : List Name) → among (zs ++ (y ∷ ys)) x ≡ false → bytes_eq y x ≡ false
    apart [] e = (or_parts (bytes_eq y x) (among ys x) e).0
    apart (z ∷ zs) e = apart zs (or_parts (bytes_eq z x) (among (zs ++ (y ∷ ys)) x) e).1
