-- What going back over the parts of a specifier gives.
use Rattle.std.specs.Prelude.{◌≡◌, List, [], ◌∷◌, ◌++◌, length, Some, None, Option}
use Rattle.std.specs.Option.{option_map}
use Rattle.names.specs.Names.{Name}
use Rattle.names.specs.Keys.{parts}
use Rattle.host.specs.Paths.{segments, walked}
use Rattle.host.specs.declared.goal.Goal.{Goal}

-- a path comes apart at its last `/` into what stands before it, if there is one, and the last part
abbrev pub SplitsLast : Name → Option Name → Name → Type 0
SplitsLast p None x = (parts p ≡ x ∷ []) × (x ≡ p)
SplitsLast p (Some front) x = (parts p ≡ parts front ++ (x ∷ [])) × (front ++ (47 ∷ x) ≡ p)

-- the segments of a goal
abbrev pub aim : Goal → List Name
aim g = segments (option_map (λ x. x.now) g.path)

-- a path meets a goal: it has the goal's segments, and so many more behind them
abbrev pub Meets : Goal → List Name → Type 0
Meets g p = (more : List Name) × (length more ≡ g.extra) × (p ≡ aim g ++ more)

-- parts lead from a path to one that meets a goal
abbrev pub LeadsTo : List Name → Goal → List Name → Type 0
LeadsTo xs g p = (q : List Name) × (walked p xs ≡ Some q) × Meets g q

-- going back over parts: the parts lead from a path to one that meets the first goal exactly if the path meets the second; from none where there is no second
abbrev pub GoesBack : List Name → Goal → Option Goal → Type 0
GoesBack xs g None = (p : List Name) → ¬ LeadsTo xs g p
GoesBack xs g (Some h) = (p : List Name) → (LeadsTo xs g p → Meets h p) × (Meets h p → LeadsTo xs g p)
