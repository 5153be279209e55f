-- The record of a list of items.
use Rattle.std.specs.Prelude.{ℕ, zero, suc, true, false, cond, List, [], ◌∷◌, ◌++◌, map}
use Rattle.std.specs.Str.{bytes_eq}
use Rattle.names.specs.Names.{Name, among}
use Rattle.record.specs.Modules.{Request, Import, Local, Indirect, Star, Declared, Module}
use Rattle.grammar.specs.Grammar.{Entry, entry, Form, imports, exports, reexports, stars, declares, throws, Item, item}

module _ {A B : Type 0} where
  abbrev pub each : (A → List B) → List A → List B
  each f [] = []
  each f (x ∷ xs) = f x ++ each f xs

abbrev pub form : Item → Form
form (item f b) = f

-- the specifier that an item mentions
abbrev pub mentions : Form → List Request
mentions (imports l s c) = record { specifier = s; byte = c } ∷ []
mentions (exports l) = []
mentions (reexports l s c) = record { specifier = s; byte = c } ∷ []
mentions (stars g s c) = record { specifier = s; byte = c } ∷ []
mentions (declares x w c e) = []
mentions (throws a e) = []

-- each specifier once, where it is mentioned first
abbrev pub once : List Name → List Request → List Request
once seen [] = []
once seen (q ∷ l) = cond (among seen q.specifier) (once seen l) (q ∷ once (q.specifier ∷ seen) l)

abbrev pub requested : List Item → List Request
requested l = once [] (each (λ i. mentions (form i)) l)

-- the index of a name in a list
abbrev pub index : List Name → Name → ℕ
index [] w = zero
index (x ∷ xs) w = cond (bytes_eq x w) zero (suc (index xs w))

abbrev pub import_by : ℕ → Entry → Import
import_by q (entry w a v b) = record { request = q; import_name = w; local_name = v; byte = a }

-- the import entries of an item, where qs are the requested specifiers
abbrev pub imports_of : List Name → Form → List Import
imports_of qs (imports l s c) = map (import_by (index qs s)) l
imports_of qs (exports l) = []
imports_of qs (reexports l s c) = []
imports_of qs (stars g s c) = []
imports_of qs (declares x w c e) = []
imports_of qs (throws a e) = []

abbrev pub cells_of : Form → List Declared
cells_of (imports l s c) = []
cells_of (exports l) = []
cells_of (reexports l s c) = []
cells_of (stars g s c) = []
cells_of (declares x w c e) = record { name = w; byte = c } ∷ []
cells_of (throws a e) = []

pub data Export : Type 0 where
  local : Local → Export
  indirect : Indirect → Export
  star : Star → Export

-- an export of an imported name is indirect; cs are the names of the cells
abbrev pub export_by : List Name → List Import → Entry → Export
export_by cs [] (entry w a v b) = local (record { export_name = v; cell = index cs w; byte = b })
export_by cs (i ∷ is) (entry w a v b) = cond (bytes_eq i.local_name w) (indirect (record { export_name = v; request = i.request; import_name = i.import_name; byte = b })) (export_by cs is (entry w a v b))

abbrev pub reexport_by : ℕ → Entry → Export
reexport_by q (entry w a v b) = indirect (record { export_name = v; request = q; import_name = w; byte = b })

abbrev pub exports_of : List Name → List Import → List Name → Form → List Export
exports_of qs is cs (imports l s c) = []
exports_of qs is cs (exports l) = map (export_by cs is) l
exports_of qs is cs (reexports l s c) = map (reexport_by (index qs s)) l
exports_of qs is cs (stars g s c) = star (record { request = index qs s; byte = g }) ∷ []
exports_of qs is cs (declares true w c e) = local (record { export_name = w; cell = index cs w; byte = c }) ∷ []
exports_of qs is cs (declares false w c e) = []
exports_of qs is cs (throws a e) = []

-- the exports of each sort
abbrev pub as_local : Export → List Local
as_local (local e) = e ∷ []
as_local (indirect e) = []
as_local (star e) = []

abbrev pub as_indirect : Export → List Indirect
as_indirect (local e) = []
as_indirect (indirect e) = e ∷ []
as_indirect (star e) = []

abbrev pub as_star : Export → List Star
as_star (local e) = []
as_star (indirect e) = []
as_star (star e) = e ∷ []

abbrev pub specifiers : List Item → List Name
specifiers l = map (λ q. q.specifier) (requested l)

abbrev pub imported : List Item → List Import
imported l = each (λ i. imports_of (specifiers l) (form i)) l

abbrev pub declared : List Item → List Declared
declared l = each (λ i. cells_of (form i)) l

abbrev pub exported : List Item → List Export
exported l = each (λ i. exports_of (specifiers l) (imported l) (map (λ d. d.name) (declared l)) (form i)) l

-- each list in the text's order
abbrev pub recorded : List Item → Module
recorded l = record {
  requests = requested l;
  imports = imported l;
  locals = each as_local (exported l);
  indirects = each as_indirect (exported l);
  stars = each as_star (exported l);
  cells = declared l;
}

abbrev pub local_names : List Entry → List Name
local_names [] = []
local_names (entry w a v b ∷ l) = v ∷ local_names l

-- the names that an item declares or imports
abbrev pub names_of : Form → List Name
names_of (imports l s c) = local_names l
names_of (exports l) = []
names_of (reexports l s c) = []
names_of (stars g s c) = []
names_of (declares x w c e) = w ∷ []
names_of (throws a e) = []

abbrev pub all_names : List Item → List Name
all_names l = each (λ i. names_of (form i)) l
