-- What the file host means.
use Rattle.std.specs.Prelude.{◌≡◌, ℕ, ◌<◌, Bool, true, cond, not, ◌&&◌, ◌⊎◌, List, [], ◌∷◌, ◌++◌, map, length, Some, None, codes, Option}
use Rattle.std.specs.List.{slice_get}
use Rattle.std.specs.Str.{bytes_eq}
use Rattle.std.specs.Option.{option_and_then}
use Rattle.names.specs.Names.{Name, every}
use Rattle.names.specs.Keys.{parts, path, not_slash}
use Rattle.record.specs.Meanings.{Hosting}
use Rattle.host.specs.Paths.{without_last, walked, relative}
use Rattle.host.specs.Holding.{place_of}

-- the directory of a key: its segments without the last
abbrev pub directory : Name → List Name
directory j = without_last (parts j)

-- where a specifier leads from a referrer: to the key at the end of its parts, walked from the referrer's directory
abbrev pub led_to : List Name → Name → Name → Option ℕ
led_to ks j x = cond (relative (parts x)) (option_and_then (λ p. place_of ks (path p)) (walked (directory j) (parts x))) None

-- the host of these keys
abbrev pub file_hosting : List Name → Hosting
file_hosting ks = record { seek = place_of ks; follow = λ m x. option_and_then (λ j. led_to ks j x) (slice_get ks m) }

-- a specifier begins with `./` or `../`
abbrev pub Begins : Name → Type 0
Begins x = ((rest : Name) × (x ≡ codes "./" ++ rest)) ⊎ ((rest : Name) × (x ≡ codes "../" ++ rest))

-- a name as a part: not empty, `.` or `..`
abbrev pub ordinary : Name → Bool
ordinary x = not (bytes_eq x []) && (not (bytes_eq x (codes ".")) && not (bytes_eq x (codes "..")))

-- a part takes a path to a path: `.` adds nothing, `..` drops the last segment, a name is added
abbrev pub Steps : List Name → Name → List Name → Type 0
Steps p x q = ((x ≡ codes ".") × (q ≡ p)) ⊎ ((((x ≡ codes "..") × ((y : Name) × (p ≡ q ++ (y ∷ []))))) ⊎ ((ordinary x ≡ true) × (q ≡ p ++ (x ∷ []))))

-- and so do parts, one after another
abbrev pub Walks : List Name → List Name → List Name → Type 0
Walks p [] r = r ≡ p
Walks p (x ∷ xs) r = (q : List Name) × Steps p x q × Walks q xs r

-- from a referrer a specifier leads to the key held at a place
pub record LeadsToPlace (h : Hosting) (j x : Name) (n : ℕ) : Type 0 where
  pub begins : Begins x
  pub end : List Name
  pub walks : Walks (directory j) (parts x) end
  pub held : h.seek (path end) ≡ Some n

-- follow answers exactly the places to which specifiers lead, and none at a place without a key
pub record FollowsPaths (h : Hosting) : Type 0 where
  pub answers : (j : Name) (m : ℕ) → h.seek j ≡ Some m → (x : Name) (n : ℕ) → h.follow m x ≡ Some n → LeadsToPlace h j x n
  pub answered : (j : Name) (m : ℕ) → h.seek j ≡ Some m → (x : Name) (n : ℕ) → LeadsToPlace h j x n → h.follow m x ≡ Some n
  pub without_referrer : (m : ℕ) → ((j : Name) → ¬ (h.seek j ≡ Some m)) → (x : Name) → h.follow m x ≡ None

-- such a name, without `/`
abbrev pub plain_part : Name → Bool
plain_part x = ordinary x && every not_slash x

-- `./` and then names: the answer is the place of the referrer's directory plus the names
abbrev pub PlainSpecifiersLeadDown : Hosting → Type 0
PlainSpecifiersLeadDown h = (j : Name) (m : ℕ) → h.seek j ≡ Some m → (x : Name) (xs : List Name) → every plain_part (x ∷ xs) ≡ true → h.follow m (path (codes "." ∷ (x ∷ xs))) ≡ h.seek (path (directory j ++ (x ∷ xs)))

-- out of these segments by `..`, and then down these
abbrev pub way : List Name → List Name → List Name
way up down = map (λ _. codes "..") up ++ down

-- a specifier that spells the way from one held key to another finds it: out of the referrer's directory as far as to segments that both share, and down to the target; behind `./`, or if it begins with `../` without that
pub record WaysBetweenHeldKeysAreFound (h : Hosting) : Type 0 where
  pub behind_here : (j k : Name) (m n : ℕ) → h.seek j ≡ Some m → h.seek k ≡ Some n → (shared up down : List Name) → directory j ≡ shared ++ up → parts k ≡ shared ++ down → 0 < length (way up down) → h.follow m (path (codes "." ∷ way up down)) ≡ Some n
  pub upwards : (j k : Name) (m n : ℕ) → h.seek j ≡ Some m → h.seek k ≡ Some n → (shared up down : List Name) → directory j ≡ shared ++ up → parts k ≡ shared ++ down → 0 < length up → 1 < length (way up down) → h.follow m (path (way up down)) ≡ Some n
