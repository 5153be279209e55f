-- Names, as lists of bytes.
use Rattle.std.specs.Prelude.{ℕ, Bool, true, not, ◌&&◌, List, [], ◌∷◌}
use Rattle.std.specs.List.{list_all, list_any}
use Rattle.std.specs.Str.{bytes_eq}

-- a word, a key or a specifier, by its bytes
abbrev pub Name : Type 0
Name = List ℕ

abbrev pub among : List Name → Name → Bool
among ys x = list_any (λ y. bytes_eq y x) ys

-- no name twice
abbrev pub distinct : List Name → Bool
distinct [] = true
distinct (x ∷ xs) = not (among xs x) && distinct xs

-- each passes the test
abbrev pub every : {A : Type 0} → (A → Bool) → List A → Bool
every p xs = list_all p xs
