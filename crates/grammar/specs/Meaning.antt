-- What a module's text means: a record, or one denial at one byte.
use Rattle.std.specs.Prelude.{◌≡◌, ℕ, ◌≤◌, false, List, ◌∷◌, length}
use Rattle.names.specs.Names.{Name, among}
use Rattle.record.specs.Modules.{Module}
use Rattle.lexer.specs.Tokens.{clean, scanned}
use Rattle.grammar.specs.Grammar.{Entry, entry, exports, Item, item, Items}
use Rattle.grammar.specs.Items.{recorded, all_names}
use Rattle.grammar.specs.Faults.{Fault, Decides}

-- the first word of an entry, at byte a, is not among the names ns
pub data Unnamed (ns : List Name) : List Entry → ℕ → Type 0 where
  this : {a b : ℕ} {w v : Name} {l : List Entry} → among ns w ≡ false → Unnamed ns (entry w a v b ∷ l) a
  further : {a : ℕ} {e : Entry} {l : List Entry} → Unnamed ns l a → Unnamed ns (e ∷ l) a

-- an item `export {L};` has such an entry
pub data Undeclared (ns : List Name) : List Item → ℕ → Type 0 where
  in_item : {a b : ℕ} {l : List Entry} {is : List Item} → Unnamed ns l a → Undeclared ns (item (exports l) b ∷ is) a
  in_later : {a : ℕ} {i : Item} {is : List Item} → Undeclared ns is a → Undeclared ns (i ∷ is) a

-- the text is in the grammar, as the items l, and has no fault of 3, 4 and 6
pub record Sound (s : List ℕ) (l : List Item) : Type 0 where
  pub items : Items l (scanned s).tokens
  pub whole : (scanned s).tail ≡ clean (length s)
  pub faultless : (k p : ℕ) → Fault (scanned s) (length s) k p → ⊥

-- a record, or the number of a denial and its byte
pub data Answer : Type 0 where
  made : Module → Answer
  refused : ℕ → ℕ → Answer

pub data Means (s : List ℕ) : Answer → Type 0 where
  -- the record of its items, if every exported local name is declared or imported
  a_record : (l : List Item) → Sound s l → ((a : ℕ) → Undeclared (all_names l) l a → ⊥) → Means s (made (recorded l))
  -- the fault that decides
  a_fault : {k p : ℕ} → Decides (scanned s) (length s) k p → Means s (refused k p)
  -- the first exported local name that is not
  an_unknown : {a : ℕ} (l : List Item) → Sound s l → Undeclared (all_names l) l a → ((b : ℕ) → Undeclared (all_names l) l b → a ≤ b) → Means s (refused 5 a)
