-- What a reader of items answers.
use Rattle.std.specs.Prelude.{◌≡◌, ℕ, ◌⊎◌, List, Some, Ok, Err, vec_items, Result}
use Rattle.record.specs.Denials.{number}
use Rattle.record.specs.Memory.{memory_fault}
use Rattle.record.specs.declared.denial.LoadFault.{LoadFault}
use Rattle.grammar.specs.Grammar.{Item}
use Rattle.grammar.specs.Machine.{ready}
use Rattle.grammar.specs.Courses.{Course, finishes, stops, along, course}
use Rattle.grammar.specs.Trees.{StandFor}
use Rattle.grammar.specs.declared.syntax.Syntax.{Syntax}

-- what stops a reader is answered by its number and byte; or there is no memory
abbrev pub StoppedBy : Course → LoadFault → Type 0
StoppedBy c f = (f ≡ memory_fault) ⊎ ((k : ℕ) × (number f.cause ≡ Some k) × (c ≡ stops k f.byte))

abbrev pub EndsIn : Result ℕ LoadFault → Course → Type 0
EndsIn (Ok p) c = c ≡ finishes p
EndsIn (Err f) c = StoppedBy c f

-- the items of a text in their order, and then its end or what stops the reader
abbrev pub Parses : List ℕ → Syntax → Type 0
Parses s y = (l : List Item) × (rest : Course) × StandFor (vec_items y.items) l × (course s ready 0 ≡ along l rest) × EndsIn y.end rest
