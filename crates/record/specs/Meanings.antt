-- What a host means, and what a record kind means.
use Rattle.std.specs.Prelude.{◌≡◌, ℕ, ◌<◌, true, List, length, Some, None, Ok, Err, Option, Result}
use Rattle.names.specs.Names.{Name}
use Rattle.names.specs.Keys.{Key}
use Rattle.record.specs.declared.value.Value.{Value}
use Rattle.record.specs.declared.value.Fault.{Fault}
use Rattle.record.specs.declared.denial.LoadFault.{LoadFault}
use Rattle.record.specs.Cells.{Binding}
use Rattle.record.specs.Modules.{Module, well_formed}

-- a set of keys, each with its own place, and a partial map from a place and a specifier to a place
pub record Hosting : Type 0 where
  pub seek : Name → Option ℕ
  pub follow : ℕ → Name → Option ℕ

pub record LawfulHost (h : Hosting) : Type 0 where
  pub keys_are_keys : (k : Name) (m : ℕ) → h.seek k ≡ Some m → Key k
  pub places_of_keys_are_below_32 : (k : Name) (m : ℕ) → h.seek k ≡ Some m → m < 32
  pub each_key_has_its_own_place : (j k : Name) (m : ℕ) → h.seek j ≡ Some m → h.seek k ≡ Some m → j ≡ k
  pub followed_places_are_below_32 : (m : ℕ) (x : Name) (n : ℕ) → h.follow m x ≡ Some n → n < 32

-- how a body ended, and what its module's cells hold then
pub record Ended : Type 0 where
  pub fault : Option Fault
  pub cells : List (Option Value)

pub record Kinding : Type 0 where
  -- the record at a place, or what it is refused with
  pub reading : ℕ → Result Module LoadFault
  -- the body at a place: from the cells that its imports lead to, what those hold, and what its own module's cells hold
  pub body : ℕ → List Binding → List (Option Value) → List (Option Value) → Ended
  -- what a run of the body at a place adds to the trail
  pub adds : ℕ → ℕ

pub record LawfulKind (k : Kinding) : Type 0 where
  pub records_are_well_formed : (m : ℕ) (r : Module) → k.reading m ≡ Ok r → well_formed r ≡ true
  pub bodies_keep_the_number_of_cells : (m : ℕ) (bs : List Binding) (held own : List (Option Value)) → length (k.body m bs held own).cells ≡ length own

-- a body's end, as a run answers it
abbrev pub answer : Option Fault → Result (Unit {0}) Fault
answer None = Ok tt
answer (Some f) = Err f
