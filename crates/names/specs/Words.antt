-- Words.
use Rattle.std.specs.Prelude.{ℕ, Bool, false, ◌&&◌, ◌||◌, [], ◌∷◌, ◌==◌, nat_le}
use Rattle.names.specs.Names.{Name, every}

abbrev pub between : ℕ → ℕ → ℕ → Bool
between a z b = nat_le a b && nat_le b z

-- a to z, A to Z, `_` or `$`
abbrev pub letter : ℕ → Bool
letter b = between 97 122 b || (between 65 90 b || (b == 95 || b == 36))

abbrev pub digit : ℕ → Bool
digit b = between 48 57 b

abbrev pub letter_or_digit : ℕ → Bool
letter_or_digit b = letter b || digit b

-- a letter, and then letters or digits
abbrev pub word : Name → Bool
word [] = false
word (b ∷ s) = letter b && every letter_or_digit s
