-- What outcomes come to when they are joined, and what does not affect it.
use Rattle.std.specs.Prelude.{◌≡◌, Bool, cond, List, [], ◌∷◌, ◌++◌, map}
use mathlib.Core.List.{Memᴰ}
use Rattle.outcome.specs.declared.Outcome.{Outcome}
use Rattle.outcome.specs.declared.Outcome.TheVariants.{Nothing, One, Several}

-- two outcomes joined, by a test of equality
abbrev pub joined : {A : Type 0} → (A → A → Bool) → Outcome A → Outcome A → Outcome A
joined same Nothing b = b
joined same (One x) Nothing = One x
joined same (One x) (One y) = cond (same x y) (One x) Several
joined same (One x) Several = Several
joined same Several b = Several

-- a list of outcomes joined
abbrev pub joined_all : {A : Type 0} → (A → A → Bool) → List (Outcome A) → Outcome A
joined_all same [] = Nothing
joined_all same (o ∷ os) = joined same o (joined_all same os)

-- the test on things that a test on their values makes
abbrev pub by_value : {A V : Type 0} → (A → V) → (V → V → Bool) → A → A → Bool
by_value value same x y = same (value x) (value y)

-- an outcome by the value of what it holds
abbrev pub valued : {A V : Type 0} → (A → V) → Outcome A → Outcome V
valued value Nothing = Nothing
valued value (One x) = One (value x)
valued value Several = Several

abbrev pub valued_all : {A V : Type 0} → (A → V) → List (Outcome A) → List (Outcome V)
valued_all value os = map (valued value) os

-- the same outcomes occur in both lists, in any order and any number of times
pub record SameMembers {A : Type 0} (os ps : List A) : Type 0 where
  pub there : (o : A) → Memᴰ o os → Memᴰ o ps
  pub back : (o : A) → Memᴰ o ps → Memᴰ o os

pub record OrderBracketingAndRepetitionDoNotAffectAJoin {A : Type 0} (same : A → A → Bool) : Type 0 where
  pub order : (a b : Outcome A) → joined same a b ≡ joined same b a
  pub bracketing : (a b c : Outcome A) → joined same (joined same a b) c ≡ joined same a (joined same b c)
  pub repetition : (a : Outcome A) → joined same a a ≡ a
  -- of whole lists: cut anywhere, the parts' joins join to the whole's; and only which outcomes occur counts
  pub lists_bracketing : (os ps : List (Outcome A)) → joined_all same (os ++ ps) ≡ joined same (joined_all same os) (joined_all same ps)
  pub lists_order_and_repetition : (os ps : List (Outcome A)) → SameMembers os ps → joined_all same os ≡ joined_all same ps
