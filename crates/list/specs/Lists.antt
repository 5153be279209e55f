-- Synthetic lists: how entries are written, and which module a list of them is.
use Rattle.std.specs.Prelude.{◌≡◌, ℕ, ◌+◌, ◌*◌, ◌^◌, Bool, true, ◌&&◌, List, [], ◌∷◌, ◌++◌, map, length, ◌==◌, from_bits, nat_le, slice_index_or}
use Rattle.std.specs.Float.{binary64}
use Rattle.names.specs.Names.{Name}
use Rattle.names.specs.Words.{word}
use Rattle.entries.specs.Entries.{Format, all_encoded}
use Rattle.record.specs.declared.value.Value.{Value}
use Rattle.record.specs.declared.value.Value.TheVariants.{Undefined, Number}
use Rattle.record.specs.Modules.{Declared, Local, Module}

-- what an entry holds: `undefined`, or a number by the eight bytes of its pattern, the highest first
pub data Content : Type 0 where
  undefined : Content
  number : (pattern : List ℕ) → Content

pub record Entry : Type 0 where
  pub name : Name
  pub content : Content

-- the value kind
abbrev pub kind : Content → ℕ
kind undefined = 0
kind (number p) = 1

-- what stands behind the name
abbrev pub pattern_of : Content → List ℕ
pattern_of undefined = []
pattern_of (number p) = p

-- a byte with the value kind in its 2 high bits and the name's length in the others, the name, and a number's pattern
abbrev pub encoded : Entry → List ℕ
encoded e = (kind e.content * 64 + length e.name) ∷ (e.name ++ pattern_of e.content)

abbrev pub whole : Content → Bool
whole undefined = true
whole (number p) = length p == 8

-- the name is a word of at most 31 bytes, and a pattern has eight bytes
abbrev pub good : Entry → Bool
good e = word e.name && (nat_le (length e.name) 31 && whole e.content)

abbrev pub list_format : Format Entry
list_format = record { encoded = encoded; good = good; name = λ e. e.name }

-- the number that these bytes are, the highest first
abbrev pub big_endian : List ℕ → ℕ
big_endian [] = 0
big_endian (b ∷ bs) = b * 256 ^ length bs + big_endian bs

-- IEEE 754 binary64, where every pattern of a NaN is the one NaN
abbrev pub value : Content → Value
value undefined = Undefined
value (number p) = Number (from_bits binary64 (big_endian p))

abbrev pub values_of : List Entry → List Value
values_of es = map (λ e. value e.content) es

-- a cell for each entry, with the entry's first byte, where the first entry begins at this byte
abbrev pub cells_from : ℕ → List Entry → List Declared
cells_from byte [] = []
cells_from byte (e ∷ es) = record { name = e.name; byte = byte } ∷ cells_from (byte + length (encoded e)) es

-- an export of each cell under the entry's name, with the entry's first byte, where the first entry has this cell and begins at this byte
abbrev pub locals_from : ℕ → ℕ → List Entry → List Local
locals_from cell byte [] = []
locals_from cell byte (e ∷ es) = record { export_name = e.name; cell = cell; byte = byte } ∷ locals_from (cell + 1) (byte + length (encoded e)) es

-- a list as a module: each entry is a cell and a local export of that cell, and there is nothing else
abbrev pub module_of : List Entry → Module
module_of es = record { requests = []; imports = []; locals = locals_from 0 0 es; indirects = []; stars = []; cells = cells_from 0 es }

-- at index i the module has a cell of this name, and an export of that cell under the name, both with this byte
pub record HasCell (m : Module) (i : ℕ) (name : Name) (byte : ℕ) : Type 0 where
  pub cell : (d : Declared) → slice_index_or m.cells i d ≡ record { name = name; byte = byte }
  pub local : (d : Local) → slice_index_or m.locals i d ≡ record { export_name = name; cell = i; byte = byte }

-- the law of such a module: an entry with others before it has the cell and the export whose index is their number, and their size in bytes as its byte; there are no others
pub record HasACellForEachEntry (es : List Entry) (m : Module) : Type 0 where
  pub each : (before : List Entry) (e : Entry) (after : List Entry) → before ++ (e ∷ after) ≡ es → HasCell m (length before) e.name (length (all_encoded list_format before))
  pub no_other_cell : length m.cells ≡ length es
  pub no_other_local : length m.locals ≡ length es
