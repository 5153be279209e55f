-- The keys that a host holds: the first at place 0, the next at place 1, and so on.
use Rattle.std.specs.Prelude.{◌≡◌, ℕ, Bool, true, not, ◌&&◌, ◌||◌, ◌⊎◌, List, ◌∷◌, ◌++◌, map, length, Some, Option, nat_le}
use Rattle.std.specs.Borrow.{Bor}
use Rattle.std.specs.List.{slice_get, position}
use Rattle.std.specs.Str.{bytes_eq}
use Rattle.names.specs.Names.{Name, among, distinct, every}
use Rattle.names.specs.Keys.{key}
use Rattle.record.specs.declared.denial.Denial.{Denial}
use Rattle.record.specs.Denials.{malformed_at}
use Rattle.record.specs.Memory.{memory_denial}

-- the place of a key, if it is held
abbrev pub place_of : List Name → Name → Option ℕ
place_of ks x = position (λ k. bytes_eq k x) ks

-- names that a host can hold: each a key, none twice, at most 32
abbrev pub holdable : List Name → Bool
holdable ks = every key ks && (distinct ks && nat_le (length ks) 32)

-- borrowed names, by their bytes
abbrev pub all_now : List (Bor (List ℕ)) → List Name
all_now rs = map (λ r. r.now) rs

-- whether a name may not stand behind others: they are 32, or it is no key, or it is one of them
abbrev pub misplaced : List Name → Name → Bool
misplaced before k = nat_le 32 (length before) || (not (key k) || among before k)

-- the first of a list that may not stand behind those before it, and its number; those before it are well
pub record FirstBad {A : Type 0} (well : List A → Bool) (bad_behind : List A → A → Bool) (xs : List A) (n : ℕ) : Type 0 where
  pub before : List A
  pub bad : A
  pub after : List A
  pub all : before ++ (bad ∷ after) ≡ xs
  pub are_well : well before ≡ true
  pub is_bad : bad_behind before bad ≡ true
  pub is_number : length before ≡ n

-- the first misplaced name, and its number
abbrev pub FirstMisplaced : List Name → ℕ → Type 0
FirstMisplaced = FirstBad holdable misplaced

-- keys are held as given, if a host can hold them
abbrev pub Holds : List Name → List Name → Type 0
Holds ks held = (held ≡ ks) × (holdable ks ≡ true)

-- and are else refused at the number of the first that is misplaced, or there is no memory
abbrev pub RefusesKeys : List Name → Denial → Type 0
RefusesKeys ks d = (d ≡ memory_denial) ⊎ ((n : ℕ) × (d ≡ malformed_at n) × FirstMisplaced ks n)

-- each key given has its number as its place
abbrev pub EachKeyHasItsNumberAsItsPlace : List Name → (Name → Option ℕ) → Type 0
EachKeyHasItsNumberAsItsPlace ks seek = (n : ℕ) (k : Name) → slice_get ks n ≡ Some k → seek k ≡ Some n
