-- The search as a function, for deeds that are functions.
use Rattle.std.specs.Prelude.{◌≡◌, ℕ, zero, suc, ◌≤◌, Bool, true, false, List, [], ◌∷◌, Some, None, Ok, Err, Option, Result, ◌==◌}
use Rattle.search.specs.declared.mark.Mark.{Mark}
use Rattle.search.specs.declared.mark.Mark.TheVariants.{Fresh, Open, Closed, Spoilt}
use Rattle.search.specs.Search.{Search, down_to, enter, lower, close, Deeds, Visits, Faults}

-- what a search does to a state, as functions: the action with the fault that it ends in, if any; what finishing a node changes; the fault that a spoilt node carries
pub record Moves (S F : Type 0) : Type 0 where
  pub acted : S → ℕ → S × Option F
  pub shut : S → ℕ → ℕ → S
  pub held : S → ℕ → F

-- functions as deeds
abbrev pub moves_deeds : {S F : Type 0} → Moves S F → Deeds S F
moves_deeds P = record {
  acts = λ s a v b. P.acted a v ≡ (b, None);
  fails = λ s a v b e. P.acted a v ≡ (b, Some e);
  holds = λ s a v e. P.held a v ≡ e;
  closes = λ s a x v b. P.shut a x v ≡ b;
}

-- how a run ends: well, in a fault of a node, or for want of depth
pub data Outcome (S F : Type 0) : Type 0 where
  finished : Search → S → Outcome S F
  faulted : Search → S → ℕ → F → Outcome S F
  no_depth : Outcome S F

-- where a run has ended well, it goes on
abbrev pub and_then : {S F : Type 0} → Outcome S F → (Search → S → Outcome S F) → Outcome S F
and_then (finished s a) k = k s a
and_then (faulted s a n e) k = faulted s a n e
and_then no_depth k = no_depth

module _ {S F : Type 0} (P : Moves S F) where
  -- the arrows of v that are left are searched by a function, in order
  unfoldable pub scan : (Search → S → ℕ → Outcome S F) → ℕ → List ℕ → Search → S → Outcome S F
  scan visit v [] s a = finished s a
  scan visit v (w ∷ ws) s a = and_then (visit s a w) (λ t b. scan visit v ws (lower t v w) b)

  -- the nodes of a list are finished one after another, popped through v
  unfoldable pub shut_all : ℕ → List ℕ → S → S
  shut_all v [] a = a
  shut_all v (x ∷ l) a = shut_all v l (P.shut a x v)

  -- the stack is popped through v, or not
  abbrev pub leave : Bool → Search → S → ℕ → Outcome S F
  leave true t c v = finished (close t v) (shut_all v (down_to v t.stack) c)
  leave false t c v = finished t c

  -- after the action, which ended in a fault or not
  abbrev pub go_on : S × Option F → Search → ℕ → Outcome S F
  go_on (c, None) t v = leave (t.low v == t.index v) t c v
  go_on (c, Some e) t v = faulted t c v e

  -- what is done at a node of a mark: a new one is searched by a function
  abbrev pub meet : Mark → (Unit {0} → Outcome S F) → Search → S → ℕ → Outcome S F
  meet Fresh k s a v = k tt
  meet Open k s a v = finished s a
  meet Closed k s a v = finished s a
  meet Spoilt k s a v = faulted s a v (P.held a v)

-- the search of v, no deeper than a number
unfoldable pub run : (ℕ → List ℕ) → {S F : Type 0} → Moves S F → ℕ → Search → S → ℕ → Outcome S F
run arrows P zero s a v = no_depth
run arrows P (suc n) s a v = meet P (s.mark v) (λ _. and_then (scan P (run arrows P n) v (arrows v) (enter s v) a) (λ t b. go_on P (P.acted b v) t v)) s a v

-- what an outcome of a run from s and a at v says
abbrev pub Says : (ℕ → List ℕ) → {S F : Type 0} → Moves S F → Search → S → ℕ → Outcome S F → Type 0
Says arrows P s a v (finished t b) = Visits arrows (moves_deeds P) s a v t b
Says arrows P s a v (faulted t b n e) = Faults arrows (moves_deeds P) s a v t b n e
Says arrows P s a v no_depth = Unit {0}

-- each run is a search
abbrev pub RunsAreSearches : Type 0 → Type 0 → Type 0
RunsAreSearches S F = (arrows : ℕ → List ℕ) (P : Moves S F) (n : ℕ) (s : Search) (a : S) (v : ℕ) → Says arrows P s a v (run arrows P n s a v)

-- where each deed of D is what the functions say
pub record ComputedBy {S F : Type 0} (D : Deeds S F) (P : Moves S F) : Type 0 where
  pub acting : (s : Search) (a : S) (v : ℕ) (b : S) → D.acts s a v b → P.acted a v ≡ (b, None)
  pub failing : (s : Search) (a : S) (v : ℕ) (b : S) (e : F) → D.fails s a v b e → P.acted a v ≡ (b, Some e)
  pub holding : (s : Search) (a : S) (v : ℕ) (e : F) → D.holds s a v e → P.held a v ≡ e
  pub closing : (s : Search) (a : S) (x v : ℕ) (b : S) → D.closes s a x v b → P.shut a x v ≡ b

-- each run from s and a at v that is deep enough comes to t, b and the answer r
abbrev pub IsComputed : (ℕ → List ℕ) → {S F : Type 0} → Moves S F → Search → S → ℕ → Search → S → Result (Unit {0}) F → Type 0
IsComputed arrows P s a v t b (Ok x) = (n : ℕ) × ((m : ℕ) → n ≤ m → run arrows P m s a v ≡ finished t b)
IsComputed arrows P s a v t b (Err e) = (x : ℕ) × (n : ℕ) × ((m : ℕ) → n ≤ m → run arrows P m s a v ≡ faulted t b x e)

-- where the deeds D of a search are functions, the search comes to what each deep enough run of them computes
abbrev pub RunsComputeIt : (ℕ → List ℕ) → {S F : Type 0} → Deeds S F → Search → S → ℕ → Search → S → Result (Unit {0}) F → Type 0
RunsComputeIt arrows {S} {F} D s a v t b r = (P : Moves S F) → ComputedBy D P → IsComputed arrows P s a v t b r
