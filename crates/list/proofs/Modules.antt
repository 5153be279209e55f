-- Modules made of entries, one more at a time.
use Rattle.std.proofs.Common.{◌≡◌, ℕ, suc, ◌+◌, ◌≤◌, true, ltb, List, [], ◌∷◌, ◌++◌, map, length, get_or, sym, refl, ap, ◌∙◌, add-zero, zero-add, arith}
use Rattle.std.proofs.lemmas.List.{append-nil, length-append}
use Rattle.std.proofs.lemmas.Bool.{and_from, lt-ltb, le-leb}
use Rattle.names.specs.Names as names
use Rattle.names.specs.Names.{distinct, every}
use Rattle.entries.specs.Entries as entries
use Rattle.entries.proofs.Unique as unique
use Rattle.record.specs.Modules.{Declared, Local, Module, export_count, well_formed}
use Rattle.list.specs.Lists.{Entry, encoded, list_format, cells_from, locals_from, module_of, HasCell, HasACellForEachEntry}
use Rattle.list.specs.Modules.{with_entry}

-- what two pushes make of a module
pub one_more : (m : Module) (name : names.Name) (byte : ℕ) (ls : List Local) (cs : List Declared) → ls ≡ (with_entry m name byte).locals → cs ≡ (with_entry m name byte).cells → record { requests = m.requests; imports = m.imports; locals = ls; indirects = m.indirects; stars = m.stars; cells = cs } ≡ with_entry m name byte
one_more m name byte ls cs p q =
    ap (λ l. record { requests = m.requests; imports = m.imports; locals = l; indirects = m.indirects; stars = m.stars; cells = cs }) p
    ∙ ap (λ l. record { requests = m.requests; imports = m.imports; locals = (with_entry m name byte).locals; indirects = m.indirects; stars = m.stars; cells = l }) q

length_cells : (byte : ℕ) (es : List Entry) → length (cells_from byte es) ≡ length es
length_cells byte [] = refl
length_cells byte (e ∷ es) = ap suc (length_cells (byte + length (encoded e)) es)

-- the bytes of a list
size : List Entry → ℕ
size es = length (entries.all_encoded list_format es)

size_more : (e : Entry) (es : List Entry) (byte : ℕ) → (byte + length (encoded e)) + size es ≡ byte + size (e ∷ es)
unfolding size
size_more e es byte = let n = length-append (encoded e) (entries.all_encoded list_format es) in omega arith

module _ (x : names.Name) where
  cell_at : ℕ → Declared
  cell_at byte = record { name = x; byte = byte }

  local_at : ℕ → ℕ → Local
  local_at cell byte = record { export_name = x; cell = cell; byte = byte }

module _ (e : Entry) where
  cells_push : (byte : ℕ) (es : List Entry) → cells_from byte (es ++ (e ∷ [])) ≡ cells_from byte es ++ (cell_at e.name (byte + size es) ∷ [])
  unfolding cell_at size
  cells_push byte [] = ap (λ b. cell_at e.name b ∷ []) (sym (add-zero byte))
  cells_push byte (d ∷ es) = ap (λ l. cell_at d.name byte ∷ l) (cells_push (byte + length (encoded d)) es ∙ ap (λ b. cells_from (byte + length (encoded d)) es ++ (cell_at e.name b ∷ [])) (size_more d es byte))

  locals_push : (cell byte : ℕ) (es : List Entry) → locals_from cell byte (es ++ (e ∷ [])) ≡ locals_from cell byte es ++ (local_at e.name (cell + length es) (byte + size es) ∷ [])
  unfolding local_at size
  locals_push cell byte [] = let p = add-zero cell in let q = add-zero byte in cc
  locals_push cell byte (d ∷ es) =
      let before = locals_from (cell + 1) (byte + length (encoded d)) es in
      let i : (cell + 1) + length es ≡ cell + length (d ∷ es) = omega arith in
      ap (λ l. local_at d.name cell byte ∷ l)
      (locals_push (cell + 1) (byte + length (encoded d)) es
      ∙ ap (λ j. before ++ (local_at e.name j ((byte + length (encoded d)) + size es) ∷ [])) i
      ∙ ap (λ j. before ++ (local_at e.name (cell + length (d ∷ es)) j ∷ [])) (size_more d es byte))

  -- one entry more is one cell more, at the entry's byte
  pub module_push : (es : List Entry) → module_of (es ++ (e ∷ [])) ≡ with_entry (module_of es) e.name (length (entries.all_encoded list_format es))
  unfolding cell_at local_at size
  module_push es =
      let i : 0 + length es ≡ length (cells_from 0 es) = zero-add (length es) ∙ sym (length_cells 0 es) in
      one_more (module_of es) e.name (size es) _ _
      (locals_push 0 0 es
      ∙ ap (λ j. locals_from 0 0 es ++ (local_at e.name j (0 + size es) ∷ [])) i
      ∙ ap (λ j. locals_from 0 0 es ++ (local_at e.name (length (cells_from 0 es)) j ∷ [])) (zero-add (size es)))
      (cells_push 0 es ∙ ap (λ j. cells_from 0 es ++ (cell_at e.name j ∷ [])) (zero-add (size es)))

length_locals : (cell byte : ℕ) (es : List Entry) → length (locals_from cell byte es) ≡ length es
length_locals cell byte [] = refl
length_locals cell byte (e ∷ es) = ap suc (length_locals (cell + 1) (byte + length (encoded e)) es)

module _ (e : Entry) (after : List Entry) where
  cells_at : (byte : ℕ) (before : List Entry) (d : Declared) → get_or (cells_from byte (before ++ (e ∷ after))) (length before) d ≡ cell_at e.name (byte + size before)
  unfolding cell_at size
  cells_at byte [] d = ap (cell_at e.name) (sym (add-zero byte))
  cells_at byte (b ∷ before) d = cells_at (byte + length (encoded b)) before d ∙ ap (cell_at e.name) (size_more b before byte)

  locals_at : (cell byte : ℕ) (before : List Entry) (d : Local) → get_or (locals_from cell byte (before ++ (e ∷ after))) (length before) d ≡ local_at e.name (cell + length before) (byte + size before)
  unfolding local_at size
  locals_at cell byte [] d = let p = add-zero cell in let q = add-zero byte in cc
  locals_at cell byte (b ∷ before) d =
      let i : (cell + 1) + length before ≡ cell + length (b ∷ before) = omega arith in
      locals_at (cell + 1) (byte + length (encoded b)) before d
      ∙ ap (λ j. local_at e.name j ((byte + length (encoded b)) + size before)) i
      ∙ ap (local_at e.name (cell + length (b ∷ before))) (size_more b before byte)

-- the module of a list has a cell and an export for each entry
pub module_entries : (es : List Entry) → HasACellForEachEntry es (module_of es)
unfolding cell_at local_at size
module_entries es = record { each = at; no_other_cell = length_cells 0 es; no_other_local = length_locals 0 0 es }
  where
    at : (before : List Entry) (e : Entry) (after : List Entry) → before ++ (e ∷ after) ≡ es → HasCell (module_of es) (length before) e.name (length (entries.all_encoded list_format before))
    at before e after is = record {
      cell = λ d. ap (λ l. get_or (cells_from 0 l) (length before) d) (sym is) ∙ cells_at e after 0 before d ∙ ap (cell_at e.name) (zero-add (size before));
      local = λ d. ap (λ l. get_or (locals_from 0 0 l) (length before) d) (sym is) ∙ locals_at e after 0 0 before d
          ∙ ap (λ j. local_at e.name j (0 + size before)) (zero-add (length before))
          ∙ ap (local_at e.name (length before)) (zero-add (size before));
    }

-- the names of the cells and of the exports are those of the entries
cell_names : (byte : ℕ) (es : List Entry) → map (λ d. d.name) (cells_from byte es) ≡ map (λ e. e.name) es
cell_names byte [] = refl
cell_names byte (e ∷ es) = ap (λ l. e.name ∷ l) (cell_names (byte + length (encoded e)) es)

local_names : (cell byte : ℕ) (es : List Entry) → map (λ l. l.export_name) (locals_from cell byte es) ≡ map (λ e. e.name) es
local_names cell byte [] = refl
local_names cell byte (e ∷ es) = ap (λ l. e.name ∷ l) (local_names (cell + 1) (byte + length (encoded e)) es)

cells_in_range : (cell byte : ℕ) (es : List Entry) (n : ℕ) → cell + length es ≤ n → every (λ l. ltb l.cell n) (locals_from cell byte es) ≡ true
cells_in_range cell byte [] n h = refl
cells_in_range cell byte (e ∷ es) n h = and_from _ _ (lt-ltb cell n (omega arith)) (cells_in_range (cell + 1) (byte + length (encoded e)) es n (omega arith))

-- a well-formed list is a well-formed module
pub module_well_formed : (es : List Entry) → entries.well_formed list_format es ≡ true → well_formed (module_of es) ≡ true
module_well_formed es w =
    let p = unique.parts list_format es w in
    let few = p.few in
    let n = length_locals 0 0 es in
    let m = length_cells 0 es in
    and_from _ _ (and_from _ _ (le-leb (export_count (module_of es)) 32 (omega arith)) (le-leb (length (cells_from 0 es)) 32 (omega arith)))
    (and_from _ _ (and_from _ _ (cells_in_range 0 0 es (length (cells_from 0 es)) (omega arith)) refl)
    (and_from _ _ (ap distinct (append-nil _ ∙ local_names 0 0 es) ∙ p.apart)
    (ap distinct (append-nil _ ∙ cell_names 0 es) ∙ p.apart)))
