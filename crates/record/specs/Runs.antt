-- What a run of a body answers and leaves.
use Rattle.std.specs.Prelude.{◌≡◌, ℕ, List, map, Option, Result, slice_set}
use Rattle.record.specs.declared.value.Value.{Value}
use Rattle.record.specs.declared.value.Fault.{Fault}
use Rattle.record.specs.Cells.{Binding, row, held}
use Rattle.record.specs.Meanings.{Kinding, Ended, answer}

-- how the body at place m ends, whose imports lead to bs, over these cells
abbrev pub end_of : Kinding → ℕ → List Binding → List (List (Option Value)) → Ended
end_of k m bs rows = k.body m bs (map (held rows) bs) (row rows m)

-- the run answers the body's end, and leaves its module's cells as the body says and all others as they were
pub record Runs (k : Kinding) (m : ℕ) (bs : List Binding) (rows : List (List (Option Value))) (r : Result (Unit {0}) Fault) (rows' : List (List (Option Value))) : Type 0 where
  pub answers : r ≡ answer (end_of k m bs rows).fault
  pub leaves : rows' ≡ slice_set rows m (end_of k m bs rows).cells
