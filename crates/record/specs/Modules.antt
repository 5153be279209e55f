-- What a module record holds, and when it is well formed.
use Rattle.std.specs.Prelude.{ℕ, ◌+◌, Bool, ◌&&◌, List, ◌++◌, map, length, nat_le, nat_lt}
use Rattle.names.specs.Names.{Name, distinct, every}

-- a specifier, and the byte of its first mention
pub record Request : Type 0 where
  pub specifier : Name
  pub byte : ℕ

-- `request` is the index of a request, `cell` that of a cell; each entry has its byte in the payload
pub record Import : Type 0 where
  pub request : ℕ
  pub import_name : Name
  pub local_name : Name
  pub byte : ℕ

pub record Local : Type 0 where
  pub export_name : Name
  pub cell : ℕ
  pub byte : ℕ

pub record Indirect : Type 0 where
  pub export_name : Name
  pub request : ℕ
  pub import_name : Name
  pub byte : ℕ

pub record Star : Type 0 where
  pub request : ℕ
  pub byte : ℕ

pub record Declared : Type 0 where
  pub name : Name
  pub byte : ℕ

pub record Module : Type 0 where
  pub requests : List Request
  pub imports : List Import
  pub locals : List Local
  pub indirects : List Indirect
  pub stars : List Star
  pub cells : List Declared

-- the names under which a module exports a cell, or passes a binding on
abbrev pub export_names : Module → List Name
export_names m = map (λ e. e.export_name) m.locals ++ map (λ e. e.export_name) m.indirects

-- the names that a module's own text can use
abbrev pub bound_names : Module → List Name
bound_names m = map (λ e. e.name) m.cells ++ map (λ e. e.local_name) m.imports

abbrev pub export_count : Module → ℕ
export_count m = length m.locals + (length m.indirects + length m.stars)

-- at most 16 requests, 32 import entries, 32 exports in all and 32 cells
abbrev pub within_limits : Module → Bool
within_limits m = nat_le (length m.requests) 16 && (nat_le (length m.imports) 32 && (nat_le (export_count m) 32 && nat_le (length m.cells) 32))

-- every entry's request is among the requests, every exported cell among the cells
abbrev pub in_range : Module → Bool
in_range m =
    every (λ e. nat_lt e.request (length m.requests)) m.imports
    && (every (λ e. nat_lt e.cell (length m.cells)) m.locals
    && (every (λ e. nat_lt e.request (length m.requests)) m.indirects
    && every (λ e. nat_lt e.request (length m.requests)) m.stars))

-- no specifier is requested twice, no name exported twice, no name bound twice
abbrev pub well_formed : Module → Bool
well_formed m = within_limits m && (in_range m && (distinct (map (λ q. q.specifier) m.requests) && (distinct (export_names m) && distinct (bound_names m))))
