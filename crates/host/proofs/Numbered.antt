-- Each key has its number as its place.
use Rattle.std.proofs.Common.{◌≡◌, ℕ, zero, suc, Bool, true, false, not, ◌&&◌, leb, List, [], ◌∷◌, length, Some, None, Option, refl, ap, ◌∙◌}
use Rattle.std.specs.List.{slice_get}
use Rattle.std.specs.Option.{option_map}
use Rattle.std.specs.Str.{bytes_eq}
use Rattle.std.proofs.lemmas.Slice.Eq.{bytes_eq-Decides}
use Rattle.std.proofs.lemmas.Option.{slice_get-get_or, none-some}
use Rattle.std.proofs.lemmas.Bool.{and_parts, or_left, or_right, not-true, cond-true, cond-false, both_ways}
use Rattle.names.specs.Names.{Name, among, distinct, every}
use Rattle.names.specs.Keys.{key}
use Rattle.host.specs.Holding.{place_of, holdable, EachKeyHasItsNumberAsItsPlace}
use Rattle.host.specs.Lawful.{held_at}
use Rattle.host.proofs.Finding.{position_more}

-- where a key is sought, there it stands
pub at_its_place : (ks : List Name) (j : Name) (m : ℕ) → place_of ks j ≡ Some m → slice_get ks m ≡ Some j
at_its_place ks j m e = let h = held_at ks j m e in slice_get-get_or ks m [] h.0 ∙ ap Some h.1

nth_among : (xs : List Name) (i : ℕ) (x : Name) → slice_get xs i ≡ Some x → among xs x ≡ true
nth_among [] i x e = absurd (none-some _ e)
nth_among (y ∷ xs) zero x e = let z : y ≡ x = cc in or_left _ _ ((bytes_eq-Decides y x).1 z)
nth_among (y ∷ xs) (suc i) x e = or_right (bytes_eq y x) _ (nth_among xs i x e)

distinct_numbered : (ks : List Name) → distinct ks ≡ true → (n : ℕ) (k : Name) → slice_get ks n ≡ Some k → place_of ks k ≡ Some n
distinct_numbered [] d n k e = absurd (none-some _ e)
distinct_numbered (x ∷ ks) d zero k e = let z : x ≡ k = cc in position_more (λ y. bytes_eq y k) x ks ∙ cond-true (bytes_eq x k) (Some 0) _ ((bytes_eq-Decides x k).1 z)
distinct_numbered (x ∷ ks) d (suc n) k e =
    let p = and_parts (not (among ks x)) (distinct ks) d in
    position_more (λ y. bytes_eq y k) x ks ∙ cond-false (bytes_eq x k) (Some 0) _ (apart (bytes_eq x k) refl (not-true _ p.0) (nth_among ks n k e)) ∙ ap (option_map suc) (distinct_numbered ks p.1 n k e)
  where
    apart : (t : Bool) → bytes_eq x k ≡ t → among ks x ≡ false → among ks k ≡ true → t ≡ false
    apart true h f g = absurd (both_ways (among ks x) f (ap (among ks) ((bytes_eq-Decides x k).0 h) ∙ g))
    apart false h f g = refl

module _ (ks : List Name) (ok : holdable ks ≡ true) where
  pub numbered : (n : ℕ) (k : Name) → slice_get ks n ≡ Some k → place_of ks k ≡ Some n
  numbered = distinct_numbered ks (and_parts (distinct ks) (leb (length ks) 32) (and_parts (every key ks) (distinct ks && leb (length ks) 32) ok).1).0

  pub numbered_as_given : (given : List Name) → ks ≡ given → EachKeyHasItsNumberAsItsPlace given (place_of ks)
  numbered_as_given given e n k f = numbered n k (ap (λ l. slice_get l n) e ∙ f)

  pub no_key_there : (m : ℕ) → ((j : Name) → ¬ (place_of ks j ≡ Some m)) → slice_get ks m ≡ None
  no_key_there m h = by (slice_get ks m) (λ k e. h k (numbered m k e))
    where
      by : (o : Option Name) → ((k : Name) → ¬ (o ≡ Some k)) → o ≡ None
      by None f = refl
      by (Some k) f = absurd (f k refl)
