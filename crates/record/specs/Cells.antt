-- The cells of all modules, as a list of rows, one for each place; a cell is empty, `None`, or holds a value.
use Rattle.std.specs.Prelude.{◌≡◌, ℕ, ◌<◌, List, [], length, replicate, slice_index_or, slice_set, Option, Some, None}
use Rattle.record.specs.declared.value.Value.{Value}

-- a place, and the index of a cell of the module there
abbrev pub Binding : Type 0
Binding = ℕ × ℕ

abbrev pub blank : List (List (Option Value))
blank = replicate 32 (replicate 32 None)

-- the cells of one module
abbrev pub row : List (List (Option Value)) → ℕ → List (Option Value)
row rows m = slice_index_or rows m []

-- 32 rows of 32 cells
abbrev pub Square : List (List (Option Value)) → Type 0
Square rows = (length rows ≡ 32) × ((m : ℕ) → m < 32 → length (row rows m) ≡ 32)

-- what a binding's cell holds
abbrev pub held : List (List (Option Value)) → Binding → Option Value
held rows b = slice_index_or (row rows b.0) b.1 None

abbrev pub stored : List (List (Option Value)) → Binding → Value → List (List (Option Value))
stored rows b v = slice_set rows b.0 (slice_set (row rows b.0) b.1 (Some v))
