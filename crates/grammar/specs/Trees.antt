-- What the code's syntax trees stand for.
use Rattle.std.specs.Prelude.{◌≡◌, ℕ, List, [], ◌∷◌, map, vec_items, Option}
use Rattle.grammar.specs.Grammar.{Expr, Entry, entry, Form, imports, exports, reexports, stars, declares, throws, Item, item}
use Rattle.grammar.specs.declared.syntax.Entry as code_entry
use Rattle.grammar.specs.declared.syntax.Form as code_form
use Rattle.grammar.specs.declared.syntax.Form.TheVariants.{Imports, Exports, Reexports, Star, Declares, Throws}
use Rattle.grammar.specs.declared.syntax.Item as code_item

abbrev pub entry_of : code_entry.Entry → Entry
entry_of e = entry e.first.bytes.now e.first.byte e.last.bytes.now e.last.byte

-- expressions have no trees in the code, so a form of the code stands for each form with these names
abbrev pub StandsFor : code_form.Form → Form → Type 0
StandsFor (Imports l s) f = f ≡ imports (map entry_of (vec_items l)) s.bytes.now s.byte
StandsFor (Exports l) f = f ≡ exports (map entry_of (vec_items l))
StandsFor (Reexports l s) f = f ≡ reexports (map entry_of (vec_items l)) s.bytes.now s.byte
StandsFor (Star g s) f = f ≡ stars g s.bytes.now s.byte
StandsFor (Declares x n) f = (e : Option Expr) × (f ≡ declares x n.bytes.now n.byte e)
StandsFor Throws f = (a : ℕ) × (e : Expr) × (f ≡ throws a e)

-- items of the code stand one by one for items
abbrev pub StandFor : List code_item.Item → List Item → Type 0
StandFor [] [] = Unit {0}
StandFor [] (i ∷ l) = ⊥
StandFor (x ∷ xs) [] = ⊥
StandFor (x ∷ xs) (item f b ∷ l) = (x.end ≡ b) × StandsFor x.form f × StandFor xs l
