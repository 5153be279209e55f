-- Keys: segments joined by `/`.
use Rattle.std.specs.Prelude.{◌≡◌, ℕ, ◌≤◌, Bool, true, not, ◌&&◌, ◌||◌, List, [], ◌∷◌, ◌++◌, length, Some, None, codes, Option, ◌==◌, nat_le}
use Rattle.std.specs.List.{slice_split, join_with_byte}
use Rattle.std.specs.Str.{bytes_eq}
use Rattle.names.specs.Names.{Name, every}
use Rattle.names.specs.Words.{between, digit}

-- a to z, 0 to 9, `_`, `-` or `.`
abbrev pub segment_byte : ℕ → Bool
segment_byte b = between 97 122 b || (digit b || (b == 95 || (b == 45 || b == 46)))

-- a segment of a key: not empty, `.` or `..`, and of such bytes
abbrev pub segment : Name → Bool
segment s = every segment_byte s && (not (bytes_eq s []) && (not (bytes_eq s (codes ".")) && not (bytes_eq s (codes ".."))))

-- segments with `/` between them
abbrev pub path : List Name → Name
path xs = join_with_byte 47 xs

-- a key: one or more segments joined, at most 63 bytes
pub record Key (k : Name) : Type 0 where
  pub first : Name
  pub rest : List Name
  pub joined : path (first ∷ rest) ≡ k
  pub good : every segment (first ∷ rest) ≡ true
  pub short : length k ≤ 63

abbrev pub not_slash : ℕ → Bool
not_slash b = not (b == 47)

-- the parts of a path between its `/`
abbrev pub parts : Name → List Name
parts s = slice_split (λ b. b == 47) s

-- a path comes apart at its first `/` into a first part and the rest, or is one part
abbrev pub Splits : Name → Name → Option Name → Type 0
Splits p x None = (parts p ≡ x ∷ []) × (x ≡ p)
Splits p x (Some more) = (parts p ≡ x ∷ parts more) × (x ++ (47 ∷ more) ≡ p)

-- whether a name is a key
abbrev pub key : Name → Bool
key k = nat_le (length k) 63 && every segment (parts k)
