-- The names of the entries read so far, and whether another may follow.
use Rattle.std.specs.Prelude.{◌≡◌, ℕ, cond, List, map, length, Some, None, vec_items, Option, nat_le}
use Rattle.names.specs.Names.{Name, among}
use Rattle.entries.specs.declared.fault.Fault.{Fault}
use Rattle.entries.specs.declared.fault.Fault.TheVariants.{Stopped}
use Rattle.entries.specs.declared.stop.Stop.{Stop}
use Rattle.entries.specs.declared.stop.Stop.TheVariants.{TooMany, Repeated}
use Rattle.entries.specs.declared.seen.Seen.{Seen}

abbrev pub seen : Seen → List Name
seen s = map (λ x. x.now) (vec_items s.names)

-- a 33rd is refused before a repeated one
abbrev pub refusal : List Name → Name → Option Stop
refusal xs x = cond (nat_le 32 (length xs)) (Some TooMany) (cond (among xs x) (Some Repeated) None)

-- the fault of an entry that is refused, where it begins at this byte
abbrev pub Refuses : Option Stop → ℕ → Fault → Type 0
Refuses refused byte fault = (why : Stop) × (refused ≡ Some why) × (fault ≡ Stopped why byte)
