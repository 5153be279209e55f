-- Names as parts: where they lead, and that a path of them comes apart again.
use Rattle.std.proofs.Common.{◌≡◌, ◌<◌, Bool, true, false, cond, not, ◌&&◌, ◌||◌, eqb, leb, ◌⊎◌, List, [], ◌∷◌, ◌++◌, length, drop, Some, None, codes, Option, sym, refl, ap, ◌∙◌, inl, inr, append_assoc, append-nil, arith}
use Rattle.std.specs.List.{starts_with}
use Rattle.std.specs.Str.{bytes_eq}
use Rattle.std.proofs.lemmas.Slice.Eq.{bytes_eq-Decides, starts_is}
use Rattle.std.proofs.lemmas.Bool.Decides.{Decides-eqb}
use Rattle.std.proofs.lemmas.Bool.{and_parts, and_from, or_cases, not-true, not_from_false, false≢true}
use Rattle.std.specs.Option.{option_and_then}
use Rattle.std.proofs.lemmas.Option.{none-some}
use Rattle.names.specs.Names.{Name, every}
use Rattle.std.specs.List.{onto_first}
use Rattle.names.specs.Keys.{segment, segment_byte, key, parts, path, not_slash}
use Rattle.std.proofs.lemmas.List.Folds.{list_all-append}
use Rattle.names.proofs.Keys.{parts_last, parts_cut, path_parts}
use Rattle.host.specs.Paths.{without_last, parent, stepped, walked, relative}
use Rattle.host.specs.FileHosts.{directory, ordinary, Begins, Steps, Walks}
use Rattle.host.proofs.Backwards.{parts_some}
use Rattle.host.proofs.Walks.{then_some, walked_append, stepped_in, parent_some, parent_push}

abbrev pub slashless : Name → Bool
slashless x = every not_slash x

pub every_weaker : {A : Type 0} (p q : A → Bool) → ((x : A) → p x ≡ true → q x ≡ true) → (xs : List A) → every p xs ≡ true → every q xs ≡ true
every_weaker p q f [] h = refl
every_weaker p q f (x ∷ xs) h = let s = and_parts (p x) (every p xs) h in and_from _ _ (f x s.0) (every_weaker p q f xs s.1)

pub every_without_last : (p : Name → Bool) (xs : List Name) → every p xs ≡ true → every p (without_last xs) ≡ true
every_without_last p [] h = refl
every_without_last p (x ∷ []) h = refl
every_without_last p (x ∷ (y ∷ ys)) h = let s = and_parts (p x) (every p (y ∷ ys)) h in and_from _ _ s.0 (every_without_last p (y ∷ ys) s.1)

stepped_ordinary : (x : Name) → ordinary x ≡ true → (p : List Name) → stepped p x ≡ Some (p ++ (x ∷ []))
stepped_ordinary x h p =
    let s = and_parts (not (bytes_eq x [])) (not (bytes_eq x (codes ".")) && not (bytes_eq x (codes ".."))) h in
    let t = and_parts (not (bytes_eq x (codes "."))) (not (bytes_eq x (codes ".."))) s.1 in
    stepped_in x (not-true _ s.0) (not-true _ t.0) (not-true _ t.1) p

-- names are added one after another
pub walked_ordinary : (xs p : List Name) → every ordinary xs ≡ true → walked p xs ≡ Some (p ++ xs)
walked_ordinary [] p h = ap Some (sym (append-nil p))
walked_ordinary (x ∷ xs) p h =
    let s = and_parts (ordinary x) (every ordinary xs) h in
    ap (λ o. option_and_then (λ q. walked q xs) o) (stepped_ordinary x s.0 p) ∙ walked_ordinary xs (p ++ (x ∷ [])) s.1 ∙ ap Some (append_assoc p (x ∷ []) xs)

segment_ordinary : (x : Name) → segment x ≡ true → ordinary x ≡ true
segment_ordinary x h = (and_parts (every segment_byte x) (ordinary x) h).1

pub key_ordinary : (k : Name) → key k ≡ true → every ordinary (parts k) ≡ true
key_ordinary k h = every_weaker segment ordinary segment_ordinary (parts k) (and_parts (leb (length k) 63) (every segment (parts k)) h).1

pub directory_ordinary : (j : Name) → key j ≡ true → every ordinary (directory j) ≡ true
directory_ordinary j h = every_without_last ordinary (parts j) (key_ordinary j h)

-- from the top through a directory is from the directory
pub from_directory : (j : Name) → key j ≡ true → (ys : List Name) → walked [] (directory j ++ ys) ≡ walked (directory j) ys
from_directory j h ys = walked_append [] (directory j) ys ∙ ap (λ o. option_and_then (λ q. walked q ys) o) (walked_ordinary (directory j) [] (directory_ordinary j h))

pub parts_slashless : (s : Name) → every slashless (parts s) ≡ true
parts_slashless [] = refl
parts_slashless (b ∷ s) = by (eqb b 47) refl (parts s) (parts_slashless s)
  where
    by : (t : Bool) → eqb b 47 ≡ t → (l : List Name) → every slashless l ≡ true → every slashless (cond t ([] ∷ l) (onto_first b l)) ≡ true
    by true e l h = h
    by false e [] h = and_from _ _ (and_from _ _ (not_from_false _ e) refl) refl
    by false e (x ∷ xs) h = let s = and_parts (slashless x) (every slashless xs) h in and_from _ _ (and_from _ _ (not_from_false _ e) s.0) s.1

-- what every segment of the path and every part has, every segment of the path at the end has
module _ (q : Name → Bool) where
  chosen_keeps : (p r : List Name) (x : Name) (s t u : Bool) → every q p ≡ true → q x ≡ true → cond s None (cond t (Some p) (cond u (parent p) (Some (p ++ (x ∷ []))))) ≡ Some r → every q r ≡ true
  chosen_keeps p r x true t u h i e = absurd (none-some _ e)
  chosen_keeps p r x false true u h i e = let z : p ≡ r = cc in sym (ap (every q) z) ∙ h
  chosen_keeps p r x false false true h i e = let (y, g) = parent_some p r e in (and_parts (every q r) (every q (y ∷ [])) (sym (list_all-append q r (y ∷ [])) ∙ sym (ap (every q) g) ∙ h)).0
  chosen_keeps p r x false false false h i e = let z : p ++ (x ∷ []) ≡ r = cc in sym (ap (every q) z) ∙ list_all-append q p (x ∷ []) ∙ and_from _ _ h (and_from _ _ i refl)

  pub walked_keeps : (xs p r : List Name) → every q p ≡ true → every q xs ≡ true → walked p xs ≡ Some r → every q r ≡ true
  walked_keeps [] p r h i e = let z : p ≡ r = cc in sym (ap (every q) z) ∙ h
  walked_keeps (x ∷ xs) p r h i e = let s = and_parts (q x) (every q xs) i in by (stepped p x) (λ o f. chosen_keeps p o x (bytes_eq x []) (bytes_eq x (codes ".")) (bytes_eq x (codes "..")) h s.0 f) (λ o k f. walked_keeps xs o r k s.1 f) e
    where
      by : (o : Option (List Name)) → ((l : List Name) → o ≡ Some l → every q l ≡ true) → ((l : List Name) → every q l ≡ true → walked l xs ≡ Some r → every q r ≡ true) → option_and_then (λ l. walked l xs) o ≡ Some r → every q r ≡ true
      by None f g e = absurd (none-some _ e)
      by (Some l) f g e = g l (f l refl) e

-- a path of such names comes apart into them
pub parts_of_path : (x : Name) (xs : List Name) → every slashless (x ∷ xs) ≡ true → parts (path (x ∷ xs)) ≡ x ∷ xs
parts_of_path x [] h = parts_last x (and_parts (slashless x) true h).0
parts_of_path x (y ∷ ys) h = let s = and_parts (slashless x) (every slashless (y ∷ ys)) h in parts_cut x (path (y ∷ ys)) s.0 ∙ ap (λ l. x ∷ l) (parts_of_path y ys s.1)

pub relative_more : (x : Name) (l : List Name) → 0 < length l → relative (x ∷ l) ≡ (bytes_eq x (codes ".") || bytes_eq x (codes ".."))
relative_more x [] h = absurd (omega arith)
relative_more x (y ∷ ys) h = refl

-- what relative tells of the bytes
pub relative_begins : (x : Name) → relative (parts x) ≡ true → Begins x
relative_begins x h = by (parts x) (path_parts x) h
  where
    by : (l : List Name) → path l ≡ x → relative l ≡ true → Begins x
    by [] e h = absurd (false≢true h)
    by (a ∷ []) e h = absurd (false≢true h)
    by (a ∷ (b ∷ l)) e h = which (or_cases (bytes_eq a (codes ".")) (bytes_eq a (codes "..")) h)
      where
        which : (bytes_eq a (codes ".") ≡ true) ⊎ (bytes_eq a (codes "..") ≡ true) → Begins x
        which (inl t) = inl (path (b ∷ l), sym e ∙ ap (λ q. q ++ (47 ∷ path (b ∷ l))) ((bytes_eq-Decides a (codes ".")).0 t))
        which (inr t) = inr (path (b ∷ l), sym e ∙ ap (λ q. q ++ (47 ∷ path (b ∷ l))) ((bytes_eq-Decides a (codes "..")).0 t))

pub begins_relative : (x : Name) → Begins x → relative (parts x) ≡ true
begins_relative x (inl (rest, e)) = ap (λ q. relative (parts q)) e ∙ ap relative (parts_cut (codes ".") rest refl) ∙ relative_more (codes ".") (parts rest) (parts_some rest)
begins_relative x (inr (rest, e)) = ap (λ q. relative (parts q)) e ∙ ap relative (parts_cut (codes "..") rest refl) ∙ relative_more (codes "..") (parts rest) (parts_some rest)

-- what the beginnings tell of relative
pub relative_starts : (x : Name) (a b : Bool) → a ≡ starts_with eqb x (codes "./") → b ≡ starts_with eqb x (codes "../") → (a || b) ≡ relative (parts x)
relative_starts x a b p q = by a b (starts_is Decides-eqb x (codes "./") a p) (starts_is Decides-eqb x (codes "../") b q)
  where
    by : (a b : Bool) → (a ≡ true → x ≡ codes "./" ++ drop 2 x) × ((rest : Name) → x ≡ codes "./" ++ rest → a ≡ true) → (b ≡ true → x ≡ codes "../" ++ drop 3 x) × ((rest : Name) → x ≡ codes "../" ++ rest → b ≡ true) → (a || b) ≡ relative (parts x)
    by true b f g = sym (begins_relative x (inl (drop 2 x, f.0 refl)))
    by false true f g = sym (begins_relative x (inr (drop 3 x, g.0 refl)))
    by false false f g = neither (relative (parts x)) (relative_begins x)
      where
        which : Begins x → ⊥
        which (inl (rest, e)) = false≢true (f.1 rest e)
        which (inr (rest, e)) = false≢true (g.1 rest e)

        neither : (t : Bool) → (t ≡ true → Begins x) → false ≡ t
        neither true h = absurd (which (h refl))
        neither false h = refl

-- a step by the relation, and by the definition
steps_so : (p q : List Name) (x : Name) → Steps p x q → stepped p x ≡ Some q
steps_so p q x (inl (e, f)) = ap (stepped p) e ∙ ap Some (sym f)
steps_so p q x (inr (inl (e, (y, f)))) = ap (stepped p) e ∙ ap parent f ∙ parent_push q y
steps_so p q x (inr (inr (h, f))) = stepped_ordinary x h p ∙ ap Some (sym f)

so_steps : (p q : List Name) (x : Name) (s t u : Bool) → bytes_eq x [] ≡ s → bytes_eq x (codes ".") ≡ t → bytes_eq x (codes "..") ≡ u → cond s None (cond t (Some p) (cond u (parent p) (Some (p ++ (x ∷ []))))) ≡ Some q → Steps p x q
so_steps p q x true t u hs ht hu e = absurd (none-some _ e)
so_steps p q x false true u hs ht hu e = let z : q ≡ p = cc in inl ((bytes_eq-Decides x (codes ".")).0 ht, z)
so_steps p q x false false true hs ht hu e = inr (inl ((bytes_eq-Decides x (codes "..")).0 hu, parent_some p q e))
so_steps p q x false false false hs ht hu e = let z : q ≡ p ++ (x ∷ []) = cc in inr (inr (and_from _ _ (not_from_false _ hs) (and_from _ _ (not_from_false _ ht) (not_from_false _ hu)), z))

pub walks_so : (xs p r : List Name) → Walks p xs r → walked p xs ≡ Some r
walks_so [] p r e = ap Some (sym e)
walks_so (x ∷ xs) p r (q, s, w) = ap (λ o. option_and_then (λ l. walked l xs) o) (steps_so p q x s) ∙ walks_so xs q r w

pub so_walks : (xs p r : List Name) → walked p xs ≡ Some r → Walks p xs r
so_walks [] p r e = let z : r ≡ p = cc in z
so_walks (x ∷ xs) p r e = let (q, f, g) = then_some (stepped p x) (λ l. walked l xs) r e in (q, so_steps p q x _ _ _ refl refl refl f, so_walks xs q r g)
