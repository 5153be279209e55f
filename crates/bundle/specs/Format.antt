-- How a bundle is written.
use Rattle.std.specs.Prelude.{ℕ, ◌+◌, ◌*◌, ◌/◌, ◌%◌, Bool, cond, ◌&&◌, List, [], ◌∷◌, ◌++◌, map, length, Some, None, Ok, Err, vec_items, Option, Result, Vec, nat_lt}
use Rattle.std.specs.declared.alloc.Global.{Global}
use Rattle.names.specs.Names.{Name}
use Rattle.names.specs.Keys.{key}
use Rattle.record.specs.declared.denial.Denial.{Denial}
use Rattle.entries.specs.Entries.{Format}
use Rattle.bundle.specs.declared.kind.PayloadKind.{PayloadKind}
use Rattle.bundle.specs.declared.kind.PayloadKind.TheVariants.{Text, List as SyntheticList}
use Rattle.bundle.specs.declared.entry.Entry as code

-- a module: what its payload is, its key, and its payload
pub record Entry : Type 0 where
  pub kind : PayloadKind
  pub key : Name
  pub payload : List ℕ

abbrev pub kind_number : PayloadKind → ℕ
kind_number Text = 0
kind_number SyntheticList = 1

-- the kind that the top two bits of a byte give
abbrev pub kind_of : ℕ → Option PayloadKind
kind_of head = cond (nat_lt head 64) (Some Text) (cond (nat_lt head 128) (Some SyntheticList) None)

-- 2 bits kind, 6 bits key length, 16 bits payload length; the top bit stands first
abbrev pub head_bytes : Entry → List ℕ
head_bytes e = (64 * kind_number e.kind + length e.key) ∷ (length e.payload / 256) ∷ (length e.payload % 256) ∷ []

-- these, the key, and the payload
abbrev pub encoded : Entry → List ℕ
encoded e = head_bytes e ++ (e.key ++ e.payload)

-- its key is one, and the payload's length fits its 16 bits
abbrev pub good : Entry → Bool
good e = key e.key && nat_lt (length e.payload) 65536

abbrev pub format : Format Entry
format = record { encoded = encoded; good = good; name = λ e. e.key }

-- an entry of the code, by its contents
abbrev pub plain : code.Entry → Entry
plain e = record { kind = e.kind; key = e.key.now; payload = e.payload.now }

abbrev pub plain_all : List code.Entry → List Entry
plain_all es = map plain es

-- what a read answers, by its contents
abbrev pub plain_read : Result (Vec code.Entry Global) Denial → Result (List Entry) Denial
plain_read (Ok v) = Ok (plain_all (vec_items v))
plain_read (Err d) = Err d

-- what a write answers, by its contents
abbrev pub plain_written : Result (Vec ℕ Global) Denial → Result (List ℕ) Denial
plain_written (Ok v) = Ok (vec_items v)
plain_written (Err d) = Err d
