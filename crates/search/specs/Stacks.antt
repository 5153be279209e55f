-- What the stack that a caller lends shows of a search.
use Rattle.std.specs.Prelude.{◌≡◌, refl, ℕ, zero, suc, ◌+◌, ◌-◌, ◌≤◌, min, List, [], ◌∷◌, ◌++◌, Option, length, map, replicate, reverse, take, slice_get, slice_index_or, slice_set}
use mathlib.Core.List.{Memᴰ}
use Rattle.std.proofs.Props.{props}
use Rattle.search.specs.declared.mark.Mark.{Mark}
use Rattle.search.specs.declared.mark.Mark.TheVariants.{Fresh, Open, Closed, Spoilt}
use Rattle.search.specs.declared.node.Node.{Node}
use Rattle.search.specs.declared.stack.Stack.{Stack}
use Rattle.search.specs.declared.stack.Visit.{Visit}
use Rattle.search.specs.Search.{Search}
use Rattle.search.specs.Laws.{Once, none, one_more}

-- the index 0 and the low mark 0
abbrev pub unvisited : Visit
unvisited = record { index = 0; low = 0 }

-- a blank stack
abbrev pub blank : Stack
blank = record { visits = replicate 32 unvisited; nodes = record { items = [] }; next = 0 }

-- the index and the low mark of a node
abbrev pub visit_at : Stack → ℕ → Visit
visit_at m x = slice_index_or m.visits x unvisited

-- the nodes on the stack, the newest first
abbrev pub downward : List Node → List ℕ
downward l = reverse (map (λ (x : Node). x.value) l)

-- the search that marks and a lent stack show
abbrev pub shown : (ℕ → Mark) → Stack → Search
shown f m = record { mark = f; index = λ x. (visit_at m x).index; low = λ x. (visit_at m x).low; stack = downward m.nodes.items; next = m.next }

-- the node takes the next index as its index and its low mark, and goes on the stack
abbrev pub pushed : Stack → Node → Stack
pushed m v = record { visits = slice_set m.visits v.value (record { index = m.next; low = m.next }); nodes = record { items = m.nodes.items ++ v ∷ [] }; next = m.next + 1 }

-- the low mark of v becomes the smaller of those of v and w
abbrev pub lowered : Stack → ℕ → ℕ → Stack
lowered m v w = record { visits = slice_set m.visits v (record { index = (visit_at m v).index; low = min (visit_at m v).low (visit_at m w).low }); nodes = m.nodes; next = m.next }

-- the newest node is taken off, if there is one
abbrev pub popped : Stack → Stack
popped m = record { visits = m.visits; nodes = record { items = take (length m.nodes.items - 1) m.nodes.items }; next = m.next }

-- the newest node, if there is one
abbrev pub newest : Stack → Option Node
newest m = slice_get m.nodes.items (length m.nodes.items - 1)

-- 1 for a new node, else 0
abbrev pub one : Mark → ℕ
one Fresh = 1
one Open = 0
one Closed = 0
one Spoilt = 0

-- how many nodes below n are new
unfoldable pub count : (ℕ → Mark) → ℕ → ℕ
count f zero = 0
count f (suc n) = one (f n) + count f n

-- there is room on the stack, and there are indices, for each node that is new
pub record Room (f : ℕ → Mark) (m : Stack) : Type 0 where
  pub tops : length m.nodes.items + count f 32 ≤ 32
  pub nexts : m.next + count f 32 ≤ 32

-- the nodes on the stack are open, and each stands there once
pub record Stacked (s : Search) : Type 0 where
  pub each_open : (x : ℕ) → Memᴰ x s.stack → s.mark x ≡ Open
  pub once : Once s.stack

-- each of these facts has at most one proof, so that a ghost field may say it
Once-prop : {l : List ℕ} → IsProp (Once l)
Once-prop none none = refl
Once-prop (one_more n o) (one_more m p) = λ i. one_more (λ h. (absurd {A = n h ≡ m h} (n h)) i) (Once-prop o p i)

pub Stacked-prop : (s : Search) → IsProp (Stacked s)
Stacked-prop s p q =
    let open_prop : IsProp ((x : ℕ) → Memᴰ x s.stack → s.mark x ≡ Open) = Prim.hlevel props in
    λ i. record { each_open = open_prop p.each_open q.each_open i; once = Once-prop p.once q.once i }
