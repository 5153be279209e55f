-- What stands while a search goes on.
use Rattle.std.proofs.Common.{◌≡◌, ℕ, ◌<◌, ◌≤◌, ◌⊎◌, List, ◌∷◌, ◌++◌, Some}
use Rattle.std.specs.List.{slice_get}
use mathlib.Core.List.{Memᴰ}
use Rattle.search.specs.declared.mark.Mark.TheVariants.{Fresh, Open, Closed}
use Rattle.search.specs.Graph.{Arrow, Reaches}
use Rattle.search.specs.Search.{Search}

-- the search of the arrow to y is over, and the low mark of x heeds y
abbrev pub Settled : Search → ℕ → ℕ → Type 0
Settled s x y = (s.mark y ≡ Closed) ⊎ ((s.mark y ≡ Open) × (s.low x ≤ s.index y))

-- the nodes that were not new are as they were
pub record Kept (s t : Search) : Type 0 where
  pub marks : (x : ℕ) → ¬ (s.mark x ≡ Fresh) → t.mark x ≡ s.mark x
  pub indices : (x : ℕ) → ¬ (s.mark x ≡ Fresh) → t.index x ≡ s.index x
  pub lows : (x : ℕ) → ¬ (s.mark x ≡ Fresh) → t.low x ≡ s.low x

-- the stack of t is that of s with new nodes on it
pub record Grown (s t : Search) (base : List ℕ) : Type 0 where
  pub top : List ℕ
  pub stacks : t.stack ≡ top ++ base
  pub new : (x : ℕ) → Memᴰ x top → s.mark x ≡ Fresh

module _ (arrows : ℕ → List ℕ) where
  -- x reaches an open node of s
  pub record Leads (s : Search) (x : ℕ) : Type 0 where
    pub node : ℕ
    pub is_open : s.mark node ≡ Open
    pub reached : Reaches arrows x node

  -- the low mark of x is the index of an open node that x reaches
  pub record Lowest (s : Search) (x : ℕ) : Type 0 where
    pub node : ℕ
    pub is_open : s.mark node ≡ Open
    pub is_low : s.index node ≡ s.low x
    pub reached : Reaches arrows x node

  -- the open nodes are those on the stack, with indices and low marks that fit, and finished nodes lead only to finished ones
  pub record Sound (s : Search) : Type 0 where
    pub stacked : (x : ℕ) → s.mark x ≡ Open → Memᴰ x s.stack
    pub on_stack : (x : ℕ) → Memᴰ x s.stack → s.mark x ≡ Open
    pub below : (x : ℕ) → s.mark x ≡ Open → s.index x < s.next
    pub low_index : (x : ℕ) → s.mark x ≡ Open → s.low x ≤ s.index x
    pub lowest : (x : ℕ) → s.mark x ≡ Open → Lowest s x
    pub settled : (x y : ℕ) → s.mark x ≡ Closed → Arrow arrows x y → s.mark y ≡ Closed

  -- what the search asks before it visits v
  pub record Ready (s : Search) (v : ℕ) : Type 0 where
    pub sound : Sound s
    pub back : (x : ℕ) → s.mark x ≡ Open → Reaches arrows x v

  -- what a visit of v gives
  pub record Visited (s : Search) (v : ℕ) (t : Search) : Type 0 where
    pub sound : Sound t
    pub met : (t.mark v ≡ Open) ⊎ (t.mark v ≡ Closed)
    pub kept : Kept s t
    pub nexts : s.next ≤ t.next
    pub grown : Grown s t s.stack
    pub newer : (x : ℕ) → s.mark x ≡ Fresh → t.mark x ≡ Open → s.next ≤ t.index x
    pub from : (x : ℕ) → s.mark x ≡ Fresh → ¬ (t.mark x ≡ Fresh) → Reaches arrows v x
    pub back : (x : ℕ) → s.mark x ≡ Fresh → t.mark x ≡ Open → Leads s x
    pub lows : (x : ℕ) → s.mark x ≡ Fresh → t.mark x ≡ Open → (t.mark v ≡ Open) × (t.low v ≤ t.low x)
    pub searched : (x y : ℕ) → s.mark x ≡ Fresh → t.mark x ≡ Open → Arrow arrows x y → Settled t x y

  -- what stands once the first i arrows of v are searched; s is from before v was entered
  pub record Scanning (s : Search) (v : ℕ) (i : ℕ) (t : Search) : Type 0 where
    pub sound : Sound t
    pub was_fresh : s.mark v ≡ Fresh
    pub is_open : t.mark v ≡ Open
    pub is_index : t.index v ≡ s.next
    pub kept : Kept s t
    pub nexts : s.next < t.next
    pub grown : Grown s t (v ∷ s.stack)
    pub apart : (x : ℕ) → Memᴰ x grown.top → ¬ (x ≡ v)
    pub newer : (x : ℕ) → s.mark x ≡ Fresh → t.mark x ≡ Open → s.next ≤ t.index x
    pub from : (x : ℕ) → s.mark x ≡ Fresh → ¬ (t.mark x ≡ Fresh) → Reaches arrows v x
    pub back : (x : ℕ) → t.mark x ≡ Open → Reaches arrows x v
    pub lows : (x : ℕ) → s.mark x ≡ Fresh → t.mark x ≡ Open → t.low v ≤ t.low x
    pub searched : (x y : ℕ) → s.mark x ≡ Fresh → ¬ (x ≡ v) → t.mark x ≡ Open → Arrow arrows x y → Settled t x y
    pub seen : (j y : ℕ) → slice_get (arrows v) j ≡ Some y → j < i → Settled t v y
