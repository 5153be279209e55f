-- Small lemmas on marks, lists and arrows.
use Rattle.std.proofs.Common.{◌≡◌, ℕ, ◌<◌, ◌≤◌, ◌⊎◌, List, [], ◌∷◌, ◌++◌, Some, None, refl, ◌∙◌, inl, inr, arith}
use Rattle.std.proofs.lemmas.Option.{slice_get_cases, slice_get_within}
use Rattle.std.specs.List.{slice_get}
use mathlib.Core.List.Memᴰ
use mathlib.Core.List.{Memᴰ}
use native.Mathlib.Decide.{ℕ_discrete}
use Rattle.search.specs.declared.mark.Mark.{Mark}
use Rattle.search.specs.declared.mark.Mark.TheVariants.{Fresh, Open, Closed, Spoilt}
use Rattle.search.specs.Graph.{Reaches, itself, through}
use Rattle.search.specs.Search.{put, heed, down_to, under, put_all}

pub put_here : {A : Type 0} (f : ℕ → A) (v : ℕ) (a : A) → put f v a v ≡ a
unfolding put
put_here f v a = grind arith

pub put_at : {A : Type 0} (f : ℕ → A) (v : ℕ) (a : A) (x : ℕ) → x ≡ v → put f v a x ≡ a
unfolding put
put_at f v a x e = grind arith

pub put_else : {A : Type 0} (f : ℕ → A) (v : ℕ) (a : A) (x : ℕ) → ¬ (x ≡ v) → put f v a x ≡ f x
unfolding put
put_else f v a x n = grind arith

pub heed_low : (k : Mark) (a b : ℕ) → heed k a b ≤ a
unfolding heed
heed_low Fresh a b = omega arith
heed_low Open a b = omega arith
heed_low Closed a b = omega arith
heed_low Spoilt a b = omega arith

pub heed_open : (k : Mark) (a b : ℕ) → k ≡ Open → heed k a b ≤ b
unfolding heed
heed_open k a b e = rw e (omega arith)

pub heed_either : (k : Mark) (a b : ℕ) → (heed k a b ≡ a) ⊎ ((k ≡ Open) × (heed k a b ≡ b))
unfolding heed
heed_either Fresh a b = inl refl
heed_either Open a b = grind arith
heed_either Closed a b = inl refl
heed_either Spoilt a b = inl refl

pub reaches_trans : {arrows : ℕ → List ℕ} {a b c : ℕ} → Reaches arrows a b → Reaches arrows b c → Reaches arrows a c
reaches_trans itself q = q
reaches_trans (through h p) q = through h (reaches_trans p q)

pub slice_get_before : (l : List ℕ) (i j w : ℕ) → slice_get l i ≡ None → slice_get l j ≡ Some w → j < i
slice_get_before l i j w p q = elim (slice_get_cases l i).1 [
  | inl h ↦ (let z : ◌≡◌ {A = ℕ} 0 1 = (let k = h.2 in cc) in absurd (omega arith))
  | inr h ↦ (let k = slice_get_within l j w q in omega (arith, h.0))
]

pub down_to_is : (v : ℕ) (l r : List ℕ) → ((x : ℕ) → Memᴰ x l → ¬ (x ≡ v)) → down_to v (l ++ (v ∷ r)) ≡ l ++ (v ∷ [])
unfolding down_to
down_to_is v [] r n = grind arith
down_to_is v (x ∷ xs) r n = let h : ¬ (x ≡ v) = n x (Memᴰ.head refl) in let e : down_to v (xs ++ (v ∷ r)) ≡ xs ++ (v ∷ []) = down_to_is v xs r (λ y m. n y (Memᴰ.tail m)) in grind arith

pub under_is : (v : ℕ) (l r : List ℕ) → ((x : ℕ) → Memᴰ x l → ¬ (x ≡ v)) → under v (l ++ (v ∷ r)) ≡ r
unfolding under
under_is v [] r n = grind arith
under_is v (x ∷ xs) r n = let h : ¬ (x ≡ v) = n x (Memᴰ.head refl) in let e : under v (xs ++ (v ∷ r)) ≡ r = under_is v xs r (λ y m. n y (Memᴰ.tail m)) in grind arith

-- in the list and marked k, or not in the list and as it was
pub put_all_cases : (f : ℕ → Mark) (l : List ℕ) (k : Mark) (x : ℕ) → (Memᴰ x l × (put_all f l k x ≡ k)) ⊎ ((Memᴰ x l → ⊥) × (put_all f l k x ≡ f x))
unfolding put_all
put_all_cases f [] k x = inr ((λ m. elim m [ ]), refl)
put_all_cases f (y ∷ l) k x = elim (ℕ_discrete x y) [
  | yes e ↦ inl (Memᴰ.head e, put_at (put_all f l k) y k x e)
  | no n ↦ elim (put_all_cases f l k x) [
    | inl p ↦ inl (Memᴰ.tail p.0, put_else (put_all f l k) y k x n ∙ p.1)
    | inr p ↦ inr ((λ m. not_cons n p.0 m), put_else (put_all f l k) y k x n ∙ p.1)
  ]
]
  where
    not_cons : ¬ (x ≡ y) → (Memᴰ x l → ⊥) → Memᴰ x (y ∷ l) → ⊥
    not_cons n q m = elim (Memᴰ.cases_cons m) [ inl e ↦ n e | inr m' ↦ q m' ]

pub open_not_fresh : {k : Mark} → k ≡ Open → ¬ (k ≡ Fresh)
open_not_fresh p q = let z : ◌≡◌ {A = ℕ} 0 1 = cc in omega arith

pub closed_not_fresh : {k : Mark} → k ≡ Closed → ¬ (k ≡ Fresh)
closed_not_fresh p q = let z : ◌≡◌ {A = ℕ} 0 1 = cc in omega arith

pub closed_not_open : {k : Mark} → k ≡ Closed → ¬ (k ≡ Open)
closed_not_open p q = let z : ◌≡◌ {A = ℕ} 0 1 = cc in omega arith

pub spoilt_not_fresh : {k : Mark} → k ≡ Spoilt → ¬ (k ≡ Fresh)
spoilt_not_fresh p q = let z : ◌≡◌ {A = ℕ} 0 1 = cc in omega arith

pub fresh? : (k : Mark) → Dec (k ≡ Fresh)
fresh? Fresh = yes refl
fresh? Open = no (open_not_fresh refl)
fresh? Closed = no (closed_not_fresh refl)
fresh? Spoilt = no (spoilt_not_fresh refl)
