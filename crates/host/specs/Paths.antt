-- Where the parts of a specifier lead, from a directory.
use Rattle.std.specs.Prelude.{Bool, false, cond, ◌||◌, List, [], ◌∷◌, ◌++◌, Some, None, codes, Option}
use Rattle.std.specs.Str.{bytes_eq}
use Rattle.std.specs.Option.{option_and_then}
use Rattle.names.specs.Names.{Name}
use Rattle.names.specs.Keys.{parts}

-- segments without the last
abbrev pub without_last : List Name → List Name
without_last [] = []
without_last (x ∷ []) = []
without_last (x ∷ (y ∷ ys)) = x ∷ without_last (y ∷ ys)

-- a path without its last segment, if it has one
abbrev pub parent : List Name → Option (List Name)
parent [] = None
parent (x ∷ xs) = Some (without_last (x ∷ xs))

-- where one part leads from a path: an empty one nowhere, `.` to the same path, `..` to its parent; any other is added
abbrev pub stepped : List Name → Name → Option (List Name)
stepped p x = cond (bytes_eq x []) None (cond (bytes_eq x (codes ".")) (Some p) (cond (bytes_eq x (codes "..")) (parent p) (Some (p ++ (x ∷ [])))))

-- where parts lead, one after another
abbrev pub walked : List Name → List Name → Option (List Name)
walked p [] = Some p
walked p (x ∷ xs) = option_and_then (λ q. walked q xs) (stepped p x)

-- the parts of a specifier that begins with `./` or `../`
abbrev pub relative : List Name → Bool
relative [] = false
relative (x ∷ []) = false
relative (x ∷ (y ∷ ys)) = bytes_eq x (codes ".") || bytes_eq x (codes "..")

-- the segments of a path; where there is no path there are none
abbrev pub segments : Option Name → List Name
segments None = []
segments (Some p) = parts p
