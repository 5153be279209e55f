-- What stands behind a name.
use Rattle.std.proofs.Common.{◌≡◌, ℕ, ◌+◌, ◌*◌, true, List, [], ◌∷◌, ◌++◌, length, get_or, take, sym, refl, ap, ◌∙◌, arith}
use Rattle.std.proofs.lemmas.List.{take_at, append_cancel_left}
use Rattle.std.proofs.lemmas.Bool.{eqb-true}
use Rattle.list.specs.Lists.{Content, undefined, number, kind, pattern_of, whole, big_endian}

-- eight bytes as one number
pub eight_bytes : (p : List ℕ) → length p ≡ 8 → big_endian p ≡ get_or p 0 0 * 72057594037927936 + get_or p 1 0 * 281474976710656 + get_or p 2 0 * 1099511627776 + get_or p 3 0 * 4294967296 + get_or p 4 0 * 16777216 + get_or p 5 0 * 65536 + get_or p 6 0 * 256 + get_or p 7 0
eight_bytes (a ∷ (b ∷ (c ∷ (d ∷ (e ∷ (f ∷ (g ∷ (h ∷ [])))))))) l = omega arith
eight_bytes (a ∷ (b ∷ (c ∷ (d ∷ (e ∷ (f ∷ (g ∷ (h ∷ (i ∷ s))))))))) l = absurd (omega arith)
eight_bytes [] l = absurd (omega arith)
eight_bytes (a ∷ []) l = absurd (omega arith)
eight_bytes (a ∷ (b ∷ [])) l = absurd (omega arith)
eight_bytes (a ∷ (b ∷ (c ∷ []))) l = absurd (omega arith)
eight_bytes (a ∷ (b ∷ (c ∷ (d ∷ [])))) l = absurd (omega arith)
eight_bytes (a ∷ (b ∷ (c ∷ (d ∷ (e ∷ []))))) l = absurd (omega arith)
eight_bytes (a ∷ (b ∷ (c ∷ (d ∷ (e ∷ (f ∷ [])))))) l = absurd (omega arith)
eight_bytes (a ∷ (b ∷ (c ∷ (d ∷ (e ∷ (f ∷ (g ∷ []))))))) l = absurd (omega arith)

-- contents of one kind come apart
pub contents_apart : (c d : Content) (r s : List ℕ) → kind c ≡ kind d → whole c ≡ true → whole d ≡ true → pattern_of c ++ r ≡ pattern_of d ++ s → (c ≡ d) × (r ≡ s)
contents_apart undefined undefined r s k v w e = (refl, e)
contents_apart undefined (number q) r s k v w e = absurd (omega arith)
contents_apart (number p) undefined r s k v w e = absurd (omega arith)
contents_apart (number p) (number q) r s k v w e =
    let same : p ≡ q = sym (take_at p r 8 (eqb-true _ 8 v)) ∙ ap (take 8) e ∙ take_at q s 8 (eqb-true _ 8 w) in
    (ap number same, append_cancel_left q r s (ap (λ x. x ++ r) (sym same) ∙ e))
