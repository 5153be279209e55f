-- A fixed graph, and what two walks do on it.
use Rattle.std.specs.Prelude.{◌≡◌, ℕ, ◌+◌, ◌%◌, ◌<◌, cond, List, [], ◌∷◌, Result, ◌==◌, slice_index, slice_index_or, slice_set}
use Rattle.search.specs.Graph.{Reaches}
use Rattle.search.specs.Search.{Search, begin, Deeds, Ends}
use Rattle.search.specs.declared.mark.Mark.{Mark}
use Rattle.search.specs.declared.mark.Mark.TheVariants.{Fresh, Open, Closed}
use Rattle.search_tests.specs.declared.counting.Stage.{Stage}
use Rattle.search_tests.specs.declared.counting.Stage.TheVariants.{New, Going, Counted}
use Rattle.search_tests.specs.declared.failing.Failed.{Failed}

-- 0 → 1 → 2 → 3 → 0 with 2 → 1 inside it, and 3 → 4 ⇄ 5
abbrev pub cycles : ℕ → List ℕ
cycles v = cond (v == 0) (1 ∷ []) (cond (v == 1) (2 ∷ []) (cond (v == 2) (1 ∷ (3 ∷ [])) (cond (v == 3) (0 ∷ (4 ∷ [])) (cond (v == 4) (5 ∷ []) (cond (v == 5) (4 ∷ []) [])))))

-- the mark of a stage
abbrev pub marking : Stage → Mark
marking New = Fresh
marking Going = Open
marking Counted = Closed

-- an action counts its node, up to 255
abbrev pub counted : List ℕ → ℕ → List ℕ
counted l v = slice_set l v ((slice_index l v + 1) % 256)

abbrev pub counting : {F : Type 0} → Deeds (List ℕ) F
counting = record {
  acts = λ s a v b. b ≡ counted a v;
  fails = λ s a v b e. ⊥;
  holds = λ s a v e. ⊥;
  closes = λ s a x v b. b ≡ a;
}

-- the action at one node fails, and a spoilt node hands its failure on
abbrev pub failing : ℕ → Deeds (Unit {0}) Failed
failing n = record {
  acts = λ s a v b. v ≡ n → ⊥;
  fails = λ s a v b e. (v ≡ n) × (e.at ≡ n);
  holds = λ s a v e. e.at ≡ n;
  closes = λ s a x v b. Unit {0};
}

-- each node that v reaches is counted once, and no other
abbrev pub EachReachedNodeIsCountedOnce : ℕ → List ℕ → Type 0
EachReachedNodeIsCountedOnce v l = (x : ℕ) → x < 32 → (Reaches cycles v x → slice_index l x ≡ 1) × (¬ Reaches cycles v x → slice_index l x ≡ 0)

-- a search whose action fails at a node leads from marks to others
abbrev pub FailsAt : ℕ → ℕ → List Mark → List Mark → Result (Unit {0}) Failed → Type 0
FailsAt n v old new r = (t : Search) × Ends cycles (failing n) (begin (λ x. slice_index_or old x Fresh)) tt v t tt r × ((x : ℕ) → t.mark x ≡ slice_index_or new x Fresh)
