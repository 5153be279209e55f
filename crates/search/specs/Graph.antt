-- Arrows between numbered nodes, and which node reaches which.
use Rattle.std.specs.Prelude.{◌≡◌, ℕ, List, Some, slice_get}

module _ (arrows : ℕ → List ℕ) where
  -- an arrow leads from v to w
  pub record Arrow (v w : ℕ) : Type 0 where
    pub place : ℕ
    pub is : slice_get (arrows v) place ≡ Some w

  -- v is u, or an arrow of v leads to a node that reaches u
  pub data Reaches : ℕ → ℕ → Type 0 where
    itself : {v : ℕ} → Reaches v v
    through : {v w u : ℕ} → Arrow v w → Reaches w u → Reaches v u
