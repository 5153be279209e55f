-- What the steps of a search preserve, a search preserves, whatever stood before it.
use Rattle.std.proofs.Common.{◌≡◌, ℕ, List, sym, ◌∙◌, inl, inr, arith}
use Rattle.search.specs.declared.mark.Mark.TheVariants.{Fresh, Closed, Spoilt}
use Rattle.search.specs.Search.{Search, put, enter, lower, down_to, close, Deeds, Visits, passes_open, passes_closed, stays, pops, Upto, start, further}
use Rattle.search.proofs.Basics.{put_all_cases, closed_not_fresh}

-- P holds from each search to itself and along its steps
pub record Preserved (P : Search → Search → Type 0) : Type 0 where
  pub self : (s : Search) → P s s
  pub trans : (s t u : Search) → P s t → P t u → P s u
  pub entering : (s : Search) (v : ℕ) → s.mark v ≡ Fresh → P s (enter s v)
  pub lowering : (s : Search) (v w : ℕ) → P s (lower s v w)
  pub closing : (s : Search) (v : ℕ) → P s (close s v)

module _ (P : Search → Search → Type 0) (K : Preserved P) {arrows : ℕ → List ℕ} {S F : Type 0} {D : Deeds S F} where
  mutual
    pub visits_preserve : {s : Search} {a : S} {v : ℕ} {t : Search} {b : S} → Visits arrows D s a v t b → P s t
    visits_preserve {s} (passes_open o) = K.self s
    visits_preserve {s} (passes_closed c) = K.self s
    visits_preserve {s} {v = v} (stays {t = t} f u e d n) = K.trans s (enter s v) t (K.entering s v f) (upto_preserve u)
    visits_preserve {s} {v = v} (pops {t = t} f u e d r k) = K.trans s t (close t v) (K.trans s (enter s v) t (K.entering s v f) (upto_preserve u)) (K.closing t v)

    pub upto_preserve : {s : Search} {a : S} {v i : ℕ} {t : Search} {b : S} → Upto arrows D s a v i t b → P s t
    upto_preserve {s} start = K.self s
    upto_preserve {s} {v = v} (further {t = t} {w = w} {u = u} p e V) = K.trans s u (lower u v w) (K.trans s t u (upto_preserve p) (visits_preserve V)) (K.lowering u v w)

-- what is not new stays so
abbrev pub StaysMet : Search → Search → Type 0
StaysMet s t = (x : ℕ) → ¬ (s.mark x ≡ Fresh) → ¬ (t.mark x ≡ Fresh)

enter_met : (s : Search) (v x : ℕ) → ¬ (s.mark x ≡ Fresh) → ¬ ((enter s v).mark x ≡ Fresh)
unfolding put
enter_met s v x n g = grind arith

pub close_met : (t : Search) (v x : ℕ) → ¬ (t.mark x ≡ Fresh) → ¬ ((close t v).mark x ≡ Fresh)
close_met t v x n g = elim (put_all_cases t.mark (down_to v t.stack) Closed x) [ inl p ↦ closed_not_fresh p.1 g | inr p ↦ n (sym p.1 ∙ g) ]

pub met_preserved : Preserved StaysMet
met_preserved = record { self = λ s x n. n; trans = λ s t u p q x n. q x (p x n); entering = λ s v f. enter_met s v; lowering = λ s v w x n. n; closing = close_met }

-- no node becomes spoilt
abbrev pub WasSpoilt : Search → Search → Type 0
WasSpoilt s t = (x : ℕ) → t.mark x ≡ Spoilt → s.mark x ≡ Spoilt

enter_spoilt : (s : Search) (v x : ℕ) → (enter s v).mark x ≡ Spoilt → s.mark x ≡ Spoilt
unfolding put
enter_spoilt s v x g = grind arith

close_spoilt : (t : Search) (v x : ℕ) → (close t v).mark x ≡ Spoilt → t.mark x ≡ Spoilt
close_spoilt t v x g = elim (put_all_cases t.mark (down_to v t.stack) Closed x) [ inl p ↦ (let z : ◌≡◌ {A = ℕ} 0 1 = cc in absurd (omega arith)) | inr p ↦ sym p.1 ∙ g ]

pub spoilt_preserved : Preserved WasSpoilt
spoilt_preserved = record { self = λ s x n. n; trans = λ s t u p q x n. p x (q x n); entering = λ s v f. enter_spoilt s v; lowering = λ s v w x n. n; closing = close_spoilt }
