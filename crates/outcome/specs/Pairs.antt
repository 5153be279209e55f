-- The equality of pairs of numbers.
use Rattle.std.specs.Prelude.{◌≡◌, ℕ, Bool, ◌&&◌, Decides, ◌==◌}
use Rattle.std.proofs.Common.{ap, eq-eqb, eqb-true}
use Rattle.std.proofs.lemmas.Bool.{and_parts, and_from}

abbrev pub same_pair : ℕ × ℕ → ℕ × ℕ → Bool
same_pair x y = x.0 == y.0 && x.1 == y.1

pub same_pair_decides : (x y : ℕ × ℕ) → Decides (same_pair x y) (x ≡ y)
same_pair_decides x y = (λ h. let p = and_parts (x.0 == y.0) (x.1 == y.1) h in equal x.0 y.0 x.1 y.1 (eqb-true x.0 y.0 p.0) (eqb-true x.1 y.1 p.1), λ e. and_from (x.0 == y.0) (x.1 == y.1) (eq-eqb x.0 y.0 (ap (λ (z : ℕ × ℕ). z.0) e)) (eq-eqb x.1 y.1 (ap (λ (z : ℕ × ℕ). z.1) e)))
  where
    equal : (a b m n : ℕ) → a ≡ b → m ≡ n → ◌≡◌ {A = ℕ × ℕ} (a, m) (b, n)
    equal a b m n p q = cc
