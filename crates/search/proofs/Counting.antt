-- How many nodes are new, and the room for them.
use Rattle.std.proofs.Common.{◌≡◌, ℕ, zero, suc, ◌<◌, ◌≤◌, length, sym, refl, ap, ◌∙◌, arith}
use native.Mathlib.Decide.{ℕ_discrete}
use Rattle.search.specs.declared.mark.Mark.{Mark}
use Rattle.search.specs.declared.mark.Mark.TheVariants.{Fresh, Open, Closed, Spoilt}
use Rattle.search.specs.declared.stack.Stack.{Stack}
use Rattle.search.specs.Search.{put}
use Rattle.search.specs.Stacks.{one, count, Room}
use Rattle.search.proofs.Basics.{put_here, put_else, open_not_fresh, fresh?}

one_le : (k m : Mark) → (¬ (k ≡ Fresh) → ¬ (m ≡ Fresh)) → one m ≤ one k
one_le k Fresh h = elim (fresh? k) [ yes f ↦ rw f (omega arith) | no n ↦ absurd (h n refl) ]
one_le k Open h = omega arith
one_le k Closed h = omega arith
one_le k Spoilt h = omega arith

pub count_le : (f g : ℕ → Mark) (n : ℕ) → ((x : ℕ) → ¬ (f x ≡ Fresh) → ¬ (g x ≡ Fresh)) → count g n ≤ count f n
unfolding count
count_le f g zero h = omega arith
count_le f g (suc n) h = omega (arith, one_le (f n) (g n) (h n), count_le f g n h)

-- fewer once v is not new
count_less : (f g : ℕ → Mark) (v n : ℕ) → v < n → f v ≡ Fresh → ¬ (g v ≡ Fresh) → ((x : ℕ) → ¬ (f x ≡ Fresh) → ¬ (g x ≡ Fresh)) → count g n < count f n
unfolding count
count_less f g v zero l p q h = absurd (omega arith)
count_less f g v (suc n) l p q h = elim (ℕ_discrete v n) [
  | yes e ↦ (let a : one (f n) ≡ 1 = ap (λ x. one (f x)) (sym e) ∙ ap one p in let b : one (g n) ≡ 0 = ap (λ x. one (g x)) (sym e) ∙ not_one (g v) q in omega (arith, count_le f g n h))
  | no m ↦ omega (arith, one_le (f n) (g n) (h n), count_less f g v n (omega arith) p q h)
]
  where
    not_one : (k : Mark) → ¬ (k ≡ Fresh) → one k ≡ 0
    not_one Fresh z = absurd (z refl)
    not_one Open z = refl
    not_one Closed z = refl
    not_one Spoilt z = refl

pub count_most : (f : ℕ → Mark) (n : ℕ) → count f n ≤ n
unfolding count
count_most f zero = omega arith
count_most f (suc n) = omega (arith, one_le Fresh (f n) (λ z. absurd (z refl)), count_most f n)

-- a new node below 32 is opened
pub count_opened : (f g : ℕ → Mark) (v : ℕ) → v < 32 → f v ≡ Fresh → ((x : ℕ) → g x ≡ put f v Open x) → count g 32 < count f 32
count_opened f g v l p M = count_less f g v 32 l p (λ q. open_not_fresh (M v ∙ put_here f v Open) q) (λ x n q. elim (ℕ_discrete x v) [ yes e ↦ n (ap f e ∙ p) | no m ↦ n (sym (put_else f v Open x m) ∙ sym (M x) ∙ q) ])

-- there is no less room where no node is new that was not, and no more nodes are on the stack
pub room_kept : (f g : ℕ → Mark) (m n : Stack) → ((x : ℕ) → ¬ (f x ≡ Fresh) → ¬ (g x ≡ Fresh)) → length n.nodes.items ≤ length m.nodes.items → n.next ≡ m.next → Room f m → Room g n
room_kept f g m n h l q R = let k = count_le f g 32 h in record { tops = omega (arith, R.tops); nexts = omega (arith, R.nexts) }
