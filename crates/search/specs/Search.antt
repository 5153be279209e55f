-- The component search, as a relation between what stood before it and what stands after it.
use Rattle.std.specs.Prelude.{◌≡◌, ℕ, ◌+◌, min, cond, List, [], ◌∷◌, Some, None, Ok, Err, Result, ◌==◌, slice_get}
use Rattle.search.specs.declared.mark.Mark.{Mark}
use Rattle.search.specs.declared.mark.Mark.TheVariants.{Fresh, Open, Closed, Spoilt}

-- what a search knows of the nodes: their marks, indices and low marks, the nodes on the stack, the newest first, and the next index
pub record Search : Type 0 where
  pub mark : ℕ → Mark
  pub index : ℕ → ℕ
  pub low : ℕ → ℕ
  pub stack : List ℕ
  pub next : ℕ

-- a search that begins at these marks, with a blank stack
abbrev pub begin : (ℕ → Mark) → Search
begin f = record { mark = f; index = λ x. 0; low = λ x. 0; stack = []; next = 0 }

-- f, but for a at v
unfoldable pub put : {A : Type 0} → (ℕ → A) → ℕ → A → ℕ → A
put f v a x = cond (x == v) a (f x)

-- v takes the next index as its index and its low mark, becomes open and goes on the stack
abbrev pub enter : Search → ℕ → Search
enter s v = record { mark = put s.mark v Open; index = put s.index v s.next; low = put s.low v s.next; stack = v ∷ s.stack; next = s.next + 1 }

-- the low mark a after an arrow to a node of a mark and the low mark b: the smaller of both, if that node is on the stack
unfoldable pub heed : Mark → ℕ → ℕ → ℕ
heed Fresh a b = a
heed Open a b = min a b
heed Closed a b = a
heed Spoilt a b = a

-- the low mark of v heeds that of w
abbrev pub lower : Search → ℕ → ℕ → Search
lower s v w = record { mark = s.mark; index = s.index; low = put s.low v (heed (s.mark w) (s.low v) (s.low w)); stack = s.stack; next = s.next }

-- the nodes of a stack from its top down to v
unfoldable pub down_to : ℕ → List ℕ → List ℕ
down_to v [] = []
down_to v (x ∷ xs) = cond (x == v) (x ∷ []) (x ∷ down_to v xs)

-- the nodes of a stack under v
unfoldable pub under : ℕ → List ℕ → List ℕ
under v [] = []
under v (x ∷ xs) = cond (x == v) xs (under v xs)

-- f, but for the mark k at each node of a list
unfoldable pub put_all : (ℕ → Mark) → List ℕ → Mark → ℕ → Mark
put_all f [] k = f
put_all f (x ∷ xs) k = put (put_all f xs k) x k

-- the stack is popped through v, and all popped nodes are finished
abbrev pub close : Search → ℕ → Search
close s v = record { mark = put_all s.mark (down_to v s.stack) Closed; index = s.index; low = s.low; stack = under v s.stack; next = s.next }

-- what a search does to a state S, with faults F; each is told where the search stands
pub record Deeds (S F : Type 0) : Type 1 where
  -- the action at a node is done
  pub acts : Search → S → ℕ → S → Type 0
  -- the action at a node ends in a fault
  pub fails : Search → S → ℕ → S → F → Type 0
  -- a node carries a fault, which it hands on
  pub holds : Search → S → ℕ → F → Type 0
  -- a node, given first, is finished as one of those that are popped through another; the search stands as before the first is popped
  pub closes : Search → S → ℕ → ℕ → S → Type 0

-- the nodes of a list are finished one after another, popped through v
pub data Finishes {S F : Type 0} (D : Deeds S F) (s : Search) (v : ℕ) : List ℕ → S → S → Type 0 where
  no_more : {a : S} → Finishes D s v [] a a
  then_more : {x : ℕ} {l : List ℕ} {a b c : S} → D.closes s a x v b → Finishes D s v l b c → Finishes D s v (x ∷ l) a c

module _ (arrows : ℕ → List ℕ) {S F : Type 0} (D : Deeds S F) where
  mutual
    -- from s and a, the search of v comes to t and b
    pub data Visits : Search → S → ℕ → Search → S → Type 0 where
      -- a node on the stack, or finished, is passed over
      passes_open : {s : Search} {a : S} {v : ℕ} → s.mark v ≡ Open → Visits s a v s a
      passes_closed : {s : Search} {a : S} {v : ℕ} → s.mark v ≡ Closed → Visits s a v s a
      -- a new node is entered, its arrows are searched and its action is done; with a smaller low mark it stays on the stack
      stays : {s : Search} {a : S} {v i : ℕ} {t : Search} {b c : S}
          → s.mark v ≡ Fresh
          → Upto (enter s v) a v i t b → slice_get (arrows v) i ≡ None
          → D.acts t b v c
          → ¬ (t.low v ≡ t.index v)
          → Visits s a v t c
      -- where its low mark is its index, the stack is popped through it
      pops : {s : Search} {a : S} {v i : ℕ} {t : Search} {b c d : S}
          → s.mark v ≡ Fresh
          → Upto (enter s v) a v i t b → slice_get (arrows v) i ≡ None
          → D.acts t b v c
          → t.low v ≡ t.index v
          → Finishes D t v (down_to v t.stack) c d
          → Visits s a v (close t v) d

    -- the first i arrows of v are searched, in order, and its low mark heeds each
    pub data Upto : Search → S → ℕ → ℕ → Search → S → Type 0 where
      start : {s : Search} {a : S} {v : ℕ} → Upto s a v 0 s a
      further : {s : Search} {a : S} {v i : ℕ} {t : Search} {b : S} {w : ℕ} {u : Search} {c : S}
          → Upto s a v i t b → slice_get (arrows v) i ≡ Some w
          → Visits t b w u c
          → Upto s a v (i + 1) (lower u v w) c

  -- from s and a, the search of v ends at t and b in the fault e of the node n
  pub data Faults : Search → S → ℕ → Search → S → ℕ → F → Type 0 where
    -- v is spoilt, and hands its fault on
    hands_on : {s : Search} {a : S} {v : ℕ} {e : F} → s.mark v ≡ Spoilt → D.holds s a v e → Faults s a v s a v e
    -- the action at v ends in a fault
    here : {s : Search} {a : S} {v i : ℕ} {t : Search} {b c : S} {e : F}
        → s.mark v ≡ Fresh
        → Upto (enter s v) a v i t b → slice_get (arrows v) i ≡ None
        → D.fails t b v c e
        → Faults s a v t c v e
    -- the search of an arrow of v ends in a fault
    inside : {s : Search} {a : S} {v i : ℕ} {t : Search} {b : S} {w : ℕ} {u : Search} {c : S} {n : ℕ} {e : F}
        → s.mark v ≡ Fresh
        → Upto (enter s v) a v i t b → slice_get (arrows v) i ≡ Some w
        → Faults t b w u c n e
        → Faults s a v u c n e

  -- a search from v ends well, or in the fault of some node
  abbrev pub Ends : Search → S → ℕ → Search → S → Result (Unit {0}) F → Type 0
  Ends s a v t b (Ok x) = Visits s a v t b
  Ends s a v t b (Err e) = (n : ℕ) × Faults s a v t b n e
