-- What the items of a text add to its record, one after another, and which of these is refused.
use Rattle.std.specs.Prelude.{ℕ, suc, Bool, true, false, cond, List, [], ◌∷◌, length, Some, None, Option, nat_le}
use Rattle.names.specs.Names.{Name, among}
use Rattle.grammar.specs.Grammar.{Entry, entry, Form, imports, exports, reexports, stars, declares, throws}

-- What an item adds, in the order of its bytes, and where a byte is the same, of what its denial goes before.
pub data Event : Type 0 where
  an_import an_export a_cell : ℕ → Event
  -- a specifier; a name declared or imported; a name exported
  asks binds offers : Name → ℕ → Event

abbrev pub byte : Event → ℕ
byte (an_import b) = b
byte (an_export b) = b
byte (a_cell b) = b
byte (asks w b) = b
byte (binds w b) = b
byte (offers w b) = b

abbrev pub import_events : List Entry → List Event → List Event
import_events [] es = es
import_events (entry w a v b ∷ l) es = an_import a ∷ binds v b ∷ import_events l es

abbrev pub export_events : List Entry → List Event → List Event
export_events [] es = es
export_events (entry w a v b ∷ l) es = an_export b ∷ offers v b ∷ export_events l es

abbrev pub events : Form → List Event
events (imports l s c) = import_events l (asks s c ∷ [])
events (exports l) = export_events l []
events (reexports l s c) = export_events l (asks s c ∷ [])
events (stars g s c) = an_export g ∷ asks s c ∷ []
events (declares true w c e) = a_cell c ∷ an_export c ∷ binds w c ∷ offers w c ∷ []
events (declares false w c e) = a_cell c ∷ binds w c ∷ []
events (throws a e) = []

-- what earlier events come to
abbrev pub import_count : List Event → ℕ
import_count [] = 0
import_count (an_import b ∷ es) = suc (import_count es)
import_count (an_export b ∷ es) = import_count es
import_count (a_cell b ∷ es) = import_count es
import_count (asks w b ∷ es) = import_count es
import_count (binds w b ∷ es) = import_count es
import_count (offers w b ∷ es) = import_count es

abbrev pub export_count : List Event → ℕ
export_count [] = 0
export_count (an_import b ∷ es) = export_count es
export_count (an_export b ∷ es) = suc (export_count es)
export_count (a_cell b ∷ es) = export_count es
export_count (asks w b ∷ es) = export_count es
export_count (binds w b ∷ es) = export_count es
export_count (offers w b ∷ es) = export_count es

abbrev pub cell_count : List Event → ℕ
cell_count [] = 0
cell_count (an_import b ∷ es) = cell_count es
cell_count (an_export b ∷ es) = cell_count es
cell_count (a_cell b ∷ es) = suc (cell_count es)
cell_count (asks w b ∷ es) = cell_count es
cell_count (binds w b ∷ es) = cell_count es
cell_count (offers w b ∷ es) = cell_count es

abbrev pub bound : List Event → List Name
bound [] = []
bound (an_import b ∷ es) = bound es
bound (an_export b ∷ es) = bound es
bound (a_cell b ∷ es) = bound es
bound (asks w b ∷ es) = bound es
bound (binds w b ∷ es) = w ∷ bound es
bound (offers w b ∷ es) = bound es

abbrev pub offered : List Event → List Name
offered [] = []
offered (an_import b ∷ es) = offered es
offered (an_export b ∷ es) = offered es
offered (a_cell b ∷ es) = offered es
offered (asks w b ∷ es) = offered es
offered (binds w b ∷ es) = offered es
offered (offers w b ∷ es) = w ∷ offered es

abbrev pub asked_of : List Event → List Name
asked_of [] = []
asked_of (an_import b ∷ es) = asked_of es
asked_of (an_export b ∷ es) = asked_of es
asked_of (a_cell b ∷ es) = asked_of es
asked_of (asks w b ∷ es) = let l = asked_of es in cond (among l w) l (w ∷ l)
asked_of (binds w b ∷ es) = asked_of es
asked_of (offers w b ∷ es) = asked_of es

abbrev pub denying : Bool → ℕ → Option ℕ
denying true k = Some k
denying false k = None

-- the denial of an event behind earlier ones
abbrev pub wrong : List Event → Event → Option ℕ
wrong es (an_import b) = denying (nat_le 32 (import_count es)) 6
wrong es (an_export b) = denying (nat_le 32 (export_count es)) 6
wrong es (a_cell b) = denying (nat_le 32 (cell_count es)) 6
wrong es (asks w b) = cond (among (asked_of es) w) None (denying (nat_le 16 (length (asked_of es))) 6)
wrong es (binds w b) = denying (among (bound es) w) 4
wrong es (offers w b) = denying (among (offered es) w) 4
