-- An error that a function made of another.
use Rattle.std.proofs.Common.{◌≡◌, Ok, Err, Result, refl}
use Rattle.std.specs.Result.{MatchResult, IsErrAnd}
use Rattle.std.proofs.lemmas.Result.{err_from_is_err_and}

-- the error from which `map_err` made this one
pub mapped_err : {T D E : Type 0} (P : D → E → Type 0) (r : Result T D) (q : Result T E) (y : E) → MatchResult r (λ x. q ≡ Ok x) (λ d. IsErrAnd q (P d)) → q ≡ Err y → (d : D) × (r ≡ Err d) × P d y
mapped_err P (Ok x) q y m w = cc
mapped_err P (Err d) q y m w =
    let (z, is, p) = err_from_is_err_and q m in
    let same : z ≡ y = cc in
    (d, refl, rw same at p)

-- the value that `map_err` kept
pub mapped_ok : {T D E : Type 0} (P : D → E → Type 0) (r : Result T D) (q : Result T E) (x : T) → MatchResult r (λ y. q ≡ Ok y) (λ d. IsErrAnd q (P d)) → q ≡ Ok x → r ≡ Ok x
mapped_ok P (Ok y) q x m w = cc
mapped_ok P (Err d) q x m w = let (z, is, p) = err_from_is_err_and q m in cc
