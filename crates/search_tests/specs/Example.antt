-- A search of the fixed graph, computed.
use Rattle.std.specs.Prelude.{◌≡◌, ℕ, List, [], ◌∷◌, None}
use Rattle.search.specs.declared.mark.Mark.TheVariants.{Fresh}
use Rattle.search.specs.Search.{begin}
use Rattle.search.specs.Running.{Moves, Outcome, finished, faulted, no_depth, run}
use Rattle.search_tests.specs.Walks.{cycles}

-- the nodes that have acted, and the popped ones, each with the node that the stack was popped through; the newest first
pub record Log : Type 0 where
  pub acted : List ℕ
  pub popped : List (ℕ × ℕ)

abbrev pub logging : Moves Log (Unit {0})
logging = record {
  acted = λ l v. (record { acted = v ∷ l.acted; popped = l.popped }, None);
  shut = λ l x v. record { acted = l.acted; popped = (x, v) ∷ l.popped };
  held = λ l v. tt;
}

abbrev pub no_log : Log
no_log = record { acted = []; popped = [] }

-- what stands in the log at the end
abbrev pub logged : Outcome Log (Unit {0}) → Log
logged (finished s l) = l
logged (faulted s l n e) = l
logged no_depth = no_log

-- from 0 the nodes act from 5 down to 0; 5 and 4 are popped together, and then 3, 2, 1 and 0
abbrev pub NestedCyclesArePoppedTogether : Type 0
NestedCyclesArePoppedTogether = logged (run cycles logging 33 (begin (λ x. Fresh)) no_log 0) ≡ record { acted = 0 ∷ (1 ∷ (2 ∷ (3 ∷ (4 ∷ (5 ∷ []))))); popped = (0, 0) ∷ ((1, 0) ∷ ((2, 0) ∷ ((3, 0) ∷ ((4, 4) ∷ ((5, 4) ∷ []))))) }
