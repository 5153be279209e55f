-- Modules, one cell more.
use Rattle.std.specs.Prelude.{ℕ, [], ◌∷◌, ◌++◌, length}
use Rattle.names.specs.Names.{Name}
use Rattle.record.specs.Modules.{Module}

-- a module with one more cell, which it exports under the cell's name
abbrev pub with_entry : Module → Name → ℕ → Module
with_entry m name byte = record {
  requests = m.requests;
  imports = m.imports;
  locals = m.locals ++ (record { export_name = name; cell = length m.cells; byte = byte } ∷ []);
  indirects = m.indirects;
  stars = m.stars;
  cells = m.cells ++ (record { name = name; byte = byte } ∷ []);
}
