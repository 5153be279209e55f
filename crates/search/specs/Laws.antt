-- What holds of every search, for every graph and every action.
use Rattle.std.specs.Prelude.{◌≡◌, ℕ, ◌⊎◌, ◌↔◌, List, [], ◌∷◌, IfOk, IfErr, Result, MatchResult}
use mathlib.Core.List.{Memᴰ}
use Rattle.search.specs.declared.mark.Mark.TheVariants.{Fresh, Open, Closed, Spoilt}
use Rattle.search.specs.Graph.{Arrow, Reaches}
use Rattle.search.specs.Search.{Search, down_to, Deeds, Faults, Ends}

-- no element stands twice
pub data Once : List ℕ → Type 0 where
  none : Once []
  one_more : {x : ℕ} {l : List ℕ} → ¬ Memᴰ x l → Once l → Once (x ∷ l)

module _ (arrows : ℕ → List ℕ) where
  -- finished nodes lead only to finished ones
  abbrev pub FinishedLeadToFinished : Search → Type 0
  FinishedLeadToFinished s = (x y : ℕ) → s.mark x ≡ Closed → Arrow arrows x y → s.mark y ≡ Closed

  -- between two searches: nothing is on the stack, no node is open, and finished nodes lead only to finished ones
  pub record AtRest (s : Search) : Type 0 where
    pub empty : s.stack ≡ []
    pub none_open : (x : ℕ) → ¬ (s.mark x ≡ Open)
    pub finished : FinishedLeadToFinished s

  -- all that v reaches is finished, the search is at rest again, and it met only what v reaches
  pub record FinishedWithAllItReaches (s : Search) (v : ℕ) (t : Search) : Type 0 where
    pub reached : (x : ℕ) → Reaches arrows v x → t.mark x ≡ Closed
    pub rest : AtRest t
    pub only : (x : ℕ) → s.mark x ≡ Fresh → ¬ (t.mark x ≡ Fresh) → Reaches arrows v x

  -- each arrow of v leads to a finished node, or to one on the stack that reaches v, so that both are in one cycle
  abbrev pub ArrowsLeadToFinishedOrIntoTheCycle : Search → ℕ → Type 0
  ArrowsLeadToFinishedOrIntoTheCycle s v = (w : ℕ) → Arrow arrows v w → (s.mark w ≡ Closed) ⊎ (Memᴰ w s.stack × Reaches arrows w v)

  -- the nodes from the top of the stack down to v are exactly the cycle of v: all that v reaches and that reach v
  abbrev pub PoppedAreOneCycle : Search → ℕ → Type 0
  PoppedAreOneCycle s v = (x : ℕ) → Memᴰ x (down_to v s.stack) ↔ (Reaches arrows v x × Reaches arrows x v)

  -- every node on the stack reaches the node n of the fault, and v reaches it; the open nodes are those on the stack, and finished nodes lead only to finished ones
  pub record FaultIsReached (v : ℕ) (t : Search) (n : ℕ) : Type 0 where
    pub stack : (x : ℕ) → Memᴰ x t.stack → Reaches arrows x n
    pub root : Reaches arrows v n
    pub open_nodes : (x : ℕ) → Memᴰ x t.stack ↔ (t.mark x ≡ Open)
    pub finished : FinishedLeadToFinished t

  -- the deeds D, each action where the arrows of its node are searched
  abbrev pub acting_after_arrows : {S F : Type 0} → Deeds S F → Deeds S F
  acting_after_arrows D = record {
    acts = λ s a v b. D.acts s a v b × ArrowsLeadToFinishedOrIntoTheCycle s v;
    fails = λ s a v b e. D.fails s a v b e × ArrowsLeadToFinishedOrIntoTheCycle s v;
    holds = D.holds;
    closes = D.closes;
  }

  -- the deeds D, where the nodes popped together are one cycle
  abbrev pub closing_one_cycle : {S F : Type 0} → Deeds S F → Deeds S F
  closing_one_cycle D = record {
    acts = D.acts;
    fails = D.fails;
    holds = D.holds;
    closes = λ s a x v b. D.closes s a x v b × Memᴰ x (down_to v s.stack) × PoppedAreOneCycle s v;
  }

module _ {S F : Type 0} (D : Deeds S F) where
  -- the state goes from a to b by the actions at the nodes of a list, in this order; nodes may be finished between them
  pub data Acts : S → List ℕ → S → Type 0 where
    nothing : {a : S} → Acts a [] a
    action : {a b c : S} {v : ℕ} {l : List ℕ} (s : Search) → D.acts s a v b → Acts b l c → Acts a (v ∷ l) c
    finish : {a b c : S} {x v : ℕ} {l : List ℕ} (s : Search) → D.closes s a x v b → Acts b l c → Acts a l c

  -- the actions that led from s and a to t and b: one at each node of the list, exactly the nodes that were new and now are met; all other nodes are as they were
  pub record Acted (s : Search) (a : S) (t : Search) (b : S) (nodes : List ℕ) : Type 0 where
    pub chain : Acts a nodes b
    pub once : Once nodes
    pub new : (x : ℕ) → Memᴰ x nodes ↔ ((s.mark x ≡ Fresh) × ¬ (t.mark x ≡ Fresh))
    pub untouched : (x : ℕ) → ¬ Memᴰ x nodes → t.mark x ≡ s.mark x

  -- where the fault e at n comes from, after the actions at the nodes of a list: from the action at n, which was new and not done before; or n, which was spoilt before, handed it on
  pub data Cause (s : Search) (nodes : List ℕ) (a : S) (n : ℕ) (b : S) (e : F) : Type 0 where
    by_action : (u : Search) → D.fails u a n b e → s.mark n ≡ Fresh → ¬ Memᴰ n nodes → Cause s nodes a n b e
    handed_on : (u : Search) → D.holds u a n e → s.mark n ≡ Spoilt → a ≡ b → Cause s nodes a n b e

  -- the actions before the fault e of n: one at each node of the list, all of which were new; a new node that is met and did not act is on the stack; nodes that were not new are as they were
  pub record ActedBeforeFault (s : Search) (a : S) (t : Search) (b : S) (n : ℕ) (e : F) (nodes : List ℕ) : Type 0 where
    pub last : S
    pub chain : Acts a nodes last
    pub cause : Cause s nodes last n b e
    pub once : Once nodes
    pub new : (x : ℕ) → Memᴰ x nodes → (s.mark x ≡ Fresh) × ¬ (t.mark x ≡ Fresh)
    pub others : (x : ℕ) → s.mark x ≡ Fresh → ¬ (t.mark x ≡ Fresh) → ¬ Memᴰ x nodes → t.mark x ≡ Open
    pub untouched : (x : ℕ) → ¬ (s.mark x ≡ Fresh) → t.mark x ≡ s.mark x

module _ (arrows : ℕ → List ℕ) {S F : Type 0} (D : Deeds S F) (s : Search) (a : S) (v : ℕ) (t : Search) (b : S) (r : Result (Unit {0}) F) where
  -- after success all that the root v reaches is finished, nothing is on the stack, and finished nodes lead only to finished ones
  abbrev pub SuccessFinishesAllThatTheRootReaches : Type 0
  SuccessFinishesAllThatTheRootReaches = AtRest arrows s → IfOk r (λ x. FinishedWithAllItReaches arrows s v t)

  -- at each action every arrow of its node leads to a finished node, or to one on the stack that reaches the node
  abbrev pub EachActionFollowsItsArrows : Type 0
  EachActionFollowsItsArrows = AtRest arrows s → Ends arrows (acting_after_arrows arrows D) s a v t b r

  -- at a fault every node on the stack reaches the node of the fault, and the root v reaches it
  abbrev pub AFaultIsReachedFromTheStack : Type 0
  AFaultIsReachedFromTheStack = AtRest arrows s → IfErr r (λ e. (n : ℕ) → Faults arrows D s a v t b n e → FaultIsReached arrows v t n)

  -- an action is done at most once at a node, exactly at nodes that were new, in the order of a list; other nodes are untouched
  abbrev pub ActionsAreDoneOnceAtNewNodes : Type 0
  ActionsAreDoneOnceAtNewNodes = AtRest arrows s → MatchResult r (λ x. (nodes : List ℕ) × Acted D s a t b nodes) (λ e. (n : ℕ) → Faults arrows D s a v t b n e → (nodes : List ℕ) × ActedBeforeFault D s a t b n e nodes)

  -- each set of nodes popped together is exactly one cycle
  abbrev pub NodesPoppedTogetherAreOneCycle : Type 0
  NodesPoppedTogetherAreOneCycle = AtRest arrows s → Ends arrows (closing_one_cycle arrows D) s a v t b r

  -- the laws of a search from v, which began at s and a and came to t and b with the answer r
  pub record Lawful : Type 0 where
    pub finishes : SuccessFinishesAllThatTheRootReaches
    pub follows : EachActionFollowsItsArrows
    pub reached : AFaultIsReachedFromTheStack
    pub once : ActionsAreDoneOnceAtNewNodes
    pub cycles : NodesPoppedTogetherAreOneCycle
