-- The place of a name among others, and the first of a list that may not stand in its place.
use Rattle.std.proofs.Common.{◌≡◌, ℕ, zero, suc, ◌+◌, ◌<◌, ◌≤◌, Bool, true, false, cond, not, ◌&&◌, ◌||◌, leb, ltb, List, [], ◌∷◌, ◌++◌, map, length, get_or, take, drop, Some, None, MatchOption, Option, sym, refl, ap, ◌∙◌, subst, add-one, arith, length-append, Bor}
use Rattle.std.proofs.Math.Seq.{split_at}
use Rattle.std.specs.List.{position, position_or_len, list_any, enumerate_from, AllWithin, HoldsAt, FoldsTo}
use Rattle.std.specs.Fn.{Called}
use Rattle.std.specs.Iterator.{YieldsThen}
use denote.Param.Members.{Mut}
use Rattle.std.proofs.lemmas.Iterator.{YieldsList, IsFirst-from_position}
use Rattle.std.proofs.lemmas.List.FromFn.{length-enumerate_from, get_or-enumerate_from}
use Rattle.std.specs.Option.{option_map}
use Rattle.std.specs.Str.{bytes_eq}
use Rattle.std.proofs.lemmas.List.{length-map, take_all, map_more, map-append, length-take-le}
use Rattle.std.proofs.lemmas.List.Sums.{position_or_len_is}
use Rattle.std.proofs.lemmas.Bool.{and_parts, and_from, or_parts, cond-true, cond-false, not-false, lt-ltb, le-leb, leb-false}
use Rattle.std.proofs.lemmas.Bool.Decides.{nat_tests}
use Rattle.names.specs.Names.{Name, among, distinct, every}
use Rattle.names.specs.Keys.{key}
use Rattle.std.proofs.lemmas.List.Folds.{list_all-append}
use Rattle.names.proofs.Distinct.{distinct_push}
use Rattle.host.specs.Holding.{all_now, holdable, misplaced, FirstBad}

module _ {A : Type 0} (p : A → Bool) where
  -- the first that passes stands at i
  pub position_is : (xs : List A) (i : ℕ) (d : A) → i < length xs → p (get_or xs i d) ≡ true → ((k : ℕ) → k < i → p (get_or xs k d) ≡ false) → position p xs ≡ Some i
  position_is xs i d l e f = rw (position_or_len_is p xs i d (omega arith) f (λ _. e)) (cond-true _ _ _ (lt-ltb i (length xs) l))

  -- none passes
  pub position_none : (xs : List A) (d : A) → ((k : ℕ) → k < length xs → p (get_or xs k d) ≡ false) → position p xs ≡ None
  position_none xs d f = let n = position_or_len_is p xs (length xs) d (omega arith) f (λ l. absurd (omega arith)) in let z : ltb (length xs) (length xs) ≡ false = grind arith in rw n (cond-false _ _ _ z)

  -- of a list that begins with x
  pub position_more : (x : A) (xs : List A) → position p (x ∷ xs) ≡ cond (p x) (Some 0) (option_map suc (position p xs))
  position_more x xs = by (p x) (position_or_len p xs)
    where
      by : (t : Bool) (n : ℕ) → cond (ltb (cond (not t) (1 + n) 0) (suc (length xs))) (Some (cond (not t) (1 + n) 0)) None ≡ cond t (Some 0) (option_map suc (cond (ltb n (length xs)) (Some n) None))
      by true n = cond-true _ _ _ (lt-ltb 0 (suc (length xs)) (omega arith))
      by false n = grind arith

pub position_map : {A B : Type 0} (f : A → B) (p : B → Bool) (xs : List A) → position (λ x. p (f x)) xs ≡ position p (map f xs)
position_map f p [] = refl
position_map f p (x ∷ xs) = position_more (λ y. p (f y)) x xs ∙ ap (λ o. cond (p (f x)) (Some 0) (option_map suc o)) (position_map f p xs) ∙ sym (position_more p (f x) (map f xs))

-- a search for the first bad one, where f takes the elements to what they stand for
module _ {A B : Type 0} (f : A → B) (well : List B → Bool) (bad : List B → B → Bool) (none : well [] ≡ true) (more : (xs : List B) (x : B) → well xs ≡ true → bad xs x ≡ false → well (xs ++ (x ∷ [])) ≡ true) where
  -- the test for an element answers so behind those before it
  abbrev Tests : List A → Bool → ℕ × A → Type 0
  Tests xs t p = bad (map f (take p.0 xs)) (f p.1) ≡ t

  module _ (xs : List A) (d : A) where
    test_at : (t : Bool) (k : ℕ) → k < length xs → HoldsAt (Tests xs t) (enumerate_from 0 xs) k → bad (map f (take k xs)) (f (get_or xs k d)) ≡ t
    test_at t k l h = subst (Tests xs t) (get_or-enumerate_from 0 xs k (0, d) l ∙ ap (λ i. (i, get_or xs k d)) (omega arith)) (h (0, d))

    well_before : (n : ℕ) → n ≤ length xs → AllWithin (Tests xs false) (enumerate_from 0 xs) 0 n → well (map f (take n xs)) ≡ true
    well_before zero l h = none
    well_before (suc n) l h =
        rw (sym (add-one n), map_more f xs n d) (more (map f (take n xs)) (f (get_or xs n d)) (well_before n (omega arith) (λ k e z i. h k e z (omega arith))) (test_at false n (omega arith) (λ e. h n e (omega arith) (omega arith))))

    first_bad_at : (i : ℕ) → i < length xs → HoldsAt (Tests xs true) (enumerate_from 0 xs) i → AllWithin (Tests xs false) (enumerate_from 0 xs) 0 i → FirstBad well bad (map f xs) i
    first_bad_at i l e h = record {
      before = map f (take i xs);
      bad = f (get_or xs i d);
      after = map f (drop (suc i) xs);
      all = sym (map-append f (take i xs) (get_or xs i d ∷ drop (suc i) xs)) ∙ ap (map f) (sym (split_at xs i d l));
      are_well = well_before i (omega arith) h;
      is_bad = test_at true i l e;
      is_number = length-map (take i xs) f ∙ length-take-le i xs (omega arith);
    }

  first_of : (xs : List A) (r : Option ℕ) → MatchOption r (AllWithin (Tests xs false) (enumerate_from 0 xs) 0 (length (enumerate_from 0 xs))) (λ i. (i < length (enumerate_from 0 xs)) × HoldsAt (Tests xs true) (enumerate_from 0 xs) i × AllWithin (Tests xs false) (enumerate_from 0 xs) 0 i) → MatchOption r (well (map f xs) ≡ true) (FirstBad well bad (map f xs))
  first_of [] None h = none
  first_of [] (Some i) (l, e, h) = absurd (omega arith)
  first_of (x ∷ xs) None h = let n = length-enumerate_from 0 (x ∷ xs) in ap (λ l. well (map f l)) (sym (take_all (length (x ∷ xs)) (x ∷ xs) (omega arith))) ∙ well_before (x ∷ xs) x (length (x ∷ xs)) (omega arith) (subst (AllWithin (Tests (x ∷ xs) false) (enumerate_from 0 (x ∷ xs)) 0) n h)
  first_of (x ∷ xs) (Some i) (l, e, h) = let n = length-enumerate_from 0 (x ∷ xs) in first_bad_at (x ∷ xs) x i (omega arith) e h

  -- what `position` finds, where it is given each element with its number
  pub first_bad : {S E F : Type 0} {steps : S → Option E → S → Type 0} {v : E → ℕ × A} {g : Mut F (E × Unit {0}) Bool} {s : S} (u : S) (h : F) (xs : List A) (r : Option ℕ) → (ys : List E) × (o : Option E) × (j : F) × YieldsThen steps s ys o u × FoldsTo (λ p x q. Called g p (x, tt) false q) h ys j × MatchOption o (r ≡ None) (λ x. (r ≡ Some (length ys)) × ((k : F) × Called g j (x, tt) true k)) → YieldsList steps v s (enumerate_from 0 xs) → ((x : E) (q : F) → Called g h (x, tt) true q → Tests xs true (v x)) → ((x : E) (q : F) → Called g h (x, tt) false q → (q ≡ h) × Tests xs false (v x)) → MatchOption r (well (map f xs) ≡ true) (FirstBad well bad (map f xs))
  first_bad u h xs r ran chain passed failed = first_of xs r (IsFirst-from_position u h r (Tests xs true) (Tests xs false) ran chain passed failed)

-- one more name that may stand behind those held
pub holdable_more : (ks : List Name) (x : Name) → holdable ks ≡ true → misplaced ks x ≡ false → holdable (ks ++ (x ∷ [])) ≡ true
holdable_more ks x well m =
    let u = or_parts (leb 32 (length ks)) (not (key x) || among ks x) m in
    let few = leb-false 32 (length ks) u.0 in
    let v = or_parts (not (key x)) (among ks x) u.1 in
    let q = and_parts (every key ks) (distinct ks && leb (length ks) 32) well in
    let s = and_parts (distinct ks) (leb (length ks) 32) q.1 in
    and_from _ _ (list_all-append key ks (x ∷ []) ∙ and_from _ _ q.0 (and_from _ _ (not-false (key x) v.0) refl)) (and_from _ _ (distinct_push ks x s.0 v.1) (le-leb _ 32 (let n = length-append ks (x ∷ []) in omega arith)))

-- the test for a held name
pub among_now : (rs : List (Bor (List ℕ))) (x : Name) → list_any (λ y. bytes_eq y.now x) rs ≡ among (all_now rs) x
among_now [] x = refl
among_now (r ∷ rs) x = ap (λ t. bytes_eq r.now x || t) (among_now rs x)

-- behind fewer than 32, a key is misplaced if it is one of them
pub misplaced_again : (ks : List Name) (x : Name) → length ks < 32 → key x ≡ true → among ks x ≡ misplaced ks x
misplaced_again ks x l e = grind (arith, nat_tests)
