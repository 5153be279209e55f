-- What is found of a name among those seen.
use Rattle.std.proofs.Common.{◌≡◌, ℕ, ◌<◌, ◌≤◌, Bool, true, false, cond, ◌||◌, leb, List, [], ◌∷◌, map, length, Some, None, refl, ap, subst, Bor}
use Rattle.std.specs.Str.{bytes_eq}
use Rattle.std.specs.List.{list_any}
use Rattle.std.proofs.lemmas.Bool.{leb-true, leb-false}
use Rattle.names.specs.Names.{Name, among}
use Rattle.entries.specs.declared.stop.Stop.{Stop}
use Rattle.entries.specs.declared.stop.Stop.TheVariants.{Malformed, TooMany, Repeated}
use Rattle.entries.specs.Seen.{refusal}

-- a name is among those seen if the test finds it
pub among_any : (rs : List (Bor (List ℕ))) (x : Name) → list_any (λ y. bytes_eq y.now x) rs ≡ among (map (λ y. y.now) rs) x
among_any [] x = refl
among_any (r ∷ rs) x = ap (λ t. bytes_eq r.now x || t) (among_any rs x)

-- what each refusal says of the names
abbrev pub RefusedFor : List Name → Name → Stop → Type 0
RefusedFor xs x Malformed = ⊥
RefusedFor xs x TooMany = 32 ≤ length xs
RefusedFor xs x Repeated = (length xs < 32) × (among xs x ≡ true)

pub refused_since : (xs : List Name) (x : Name) (why : Stop) → refusal xs x ≡ Some why → RefusedFor xs x why
refused_since xs x why e = by (leb 32 (length xs)) (among xs x) refl refl e
  where
    by : (t u : Bool) → leb 32 (length xs) ≡ t → among xs x ≡ u → cond t (Some TooMany) (cond u (Some Repeated) None) ≡ Some why → RefusedFor xs x why
    by true u p q h = let is : TooMany ≡ why = cc in subst (RefusedFor xs x) is (leb-true 32 (length xs) p)
    by false true p q h = let is : Repeated ≡ why = cc in subst (RefusedFor xs x) is (leb-false 32 (length xs) p, q)
    by false false p q h = cc

pub passed_since : (xs : List Name) (x : Name) → refusal xs x ≡ None → (length xs < 32) × (among xs x ≡ false)
passed_since xs x e = by (leb 32 (length xs)) (among xs x) refl refl e
  where
    by : (t u : Bool) → leb 32 (length xs) ≡ t → among xs x ≡ u → cond t (Some TooMany) (cond u (Some Repeated) None) ≡ None → (length xs < 32) × (among xs x ≡ false)
    by true u p q h = cc
    by false true p q h = cc
    by false false p q h = (leb-false 32 (length xs) p, q)
