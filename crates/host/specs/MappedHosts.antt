-- What the mapped host means.
use Rattle.std.specs.Prelude.{◌≡◌, ℕ, Bool, true, cond, not, ◌&&◌, ◌||◌, List, map, length, Some, None, Option, nat_le}
use mathlib.Core.List.{Memᴰ}
use Rattle.std.specs.List.{slice_get}
use Rattle.std.specs.Str.{bytes_eq}
use Rattle.std.specs.Option.{option_and_then}
use Rattle.names.specs.Names.{Name, every}
use Rattle.names.specs.Keys.{key}
use Rattle.outcome.specs.declared.Outcome.{Outcome}
use Rattle.outcome.specs.declared.Outcome.TheVariants.{Nothing, One, Several}
use Rattle.outcome.specs.Joining.{joined_all, SameMembers}
use Rattle.record.specs.declared.denial.Denial.{Denial}
use Rattle.record.specs.Meanings.{Hosting}
use Rattle.record.specs.Memory.{memory_denial}
use Rattle.record.specs.Denials.{malformed_at}
use Rattle.host.specs.Holding.{place_of, holdable, FirstBad, FirstMisplaced}
use Rattle.host.specs.declared.row.Row as code

-- in the module with this key, the specifier leads to that key
pub record Row : Type 0 where
  pub referrer : Name
  pub specifier : Name
  pub target : Name

-- a row of the code, by its contents
abbrev pub plain : code.Row → Row
plain r = record { referrer = r.referrer.now; specifier = r.specifier.now; target = r.target.now }

abbrev pub plain_all : List code.Row → List Row
plain_all rs = map plain rs

-- what a row says of a referrer and a specifier: its target, if both are its own, and else nothing
abbrev pub says : Name → Name → Row → Outcome Name
says j x r = cond (bytes_eq r.referrer j && bytes_eq r.specifier x) (One r.target) Nothing

-- one target that is a key held gives its place, anything else none
abbrev pub placed : List Name → Outcome Name → Option ℕ
placed ks Nothing = None
placed ks (One t) = place_of ks t
placed ks Several = None

-- what all rows say, joined
abbrev pub mapped_to : List Name → List Row → Name → Name → Option ℕ
mapped_to ks rows j x = placed ks (joined_all bytes_eq (map (says j x) rows))

-- the host of these keys and rows
abbrev pub mapped_hosting : List Name → List Row → Hosting
mapped_hosting ks rows = record { seek = place_of ks; follow = λ m x. option_and_then (λ j. mapped_to ks rows j x) (slice_get ks m) }

abbrev pub row_of : Name → Name → Name → Row
row_of j x t = record { referrer = j; specifier = x; target = t }

-- of a referrer and a specifier the rows say one target, which is held at a place
pub record OneTargetAt (h : Hosting) (rows : List Row) (j x : Name) (n : ℕ) : Type 0 where
  pub target : Name
  pub said : Memᴰ (row_of j x target) rows
  pub only : (t : Name) → Memᴰ (row_of j x t) rows → t ≡ target
  pub held : h.seek target ≡ Some n

-- follow answers exactly the places of such targets, and none at a place without a key
pub record FollowsRows (rows : List Row) (h : Hosting) : Type 0 where
  pub answers : (j : Name) (m : ℕ) → h.seek j ≡ Some m → (x : Name) (n : ℕ) → h.follow m x ≡ Some n → OneTargetAt h rows j x n
  pub answered : (j : Name) (m : ℕ) → h.seek j ≡ Some m → (x : Name) (n : ℕ) → OneTargetAt h rows j x n → h.follow m x ≡ Some n
  pub without_referrer : (m : ℕ) → ((j : Name) → ¬ (h.seek j ≡ Some m)) → (x : Name) → h.follow m x ≡ None

-- only which rows there are counts
abbrev pub OrderOfRowsAndRowsWrittenTwiceDoNotAffectAnAnswer : List Name → List Row → Type 0
OrderOfRowsAndRowsWrittenTwiceDoNotAffectAnAnswer ks rows = (others : List Row) → SameMembers rows others → (m : ℕ) (x : Name) → (mapped_hosting ks others).follow m x ≡ (mapped_hosting ks rows).follow m x

-- the referrer and the target are keys; the specifier may be any
abbrev pub good_row : Row → Bool
good_row r = key r.referrer && key r.target

-- at most 64 rows of keys
abbrev pub good_rows : List Row → Bool
good_rows rows = every good_row rows && nat_le (length rows) 64

-- whether a row may not stand behind others: they are 64, or a key of it is malformed
abbrev pub bad_row_behind : List Row → Row → Bool
bad_row_behind before r = nat_le 64 (length before) || not (good_row r)

-- the first such row, and its number
abbrev pub FirstBadRow : List Row → ℕ → Type 0
FirstBadRow = FirstBad good_rows bad_row_behind

-- keys and rows are held as given, if they can be held
pub record Maps (ks : List Name) (rows : List Row) (held : List Name) (kept : List Row) : Type 0 where
  pub keys : held ≡ ks
  pub rows_are : kept ≡ rows
  pub holdable_keys : holdable ks ≡ true
  pub good : good_rows rows ≡ true

-- else the first misplaced key is refused, or if all keys can be held the first bad row, by its number; or there is no memory
pub data RefusesToMap (ks : List Name) (rows : List Row) : Denial → Type 0 where
  no_memory : RefusesToMap ks rows memory_denial
  bad_key : {n : ℕ} → FirstMisplaced ks n → RefusesToMap ks rows (malformed_at n)
  bad_row : {n : ℕ} → holdable ks ≡ true → FirstBadRow rows n → RefusesToMap ks rows (malformed_at n)
