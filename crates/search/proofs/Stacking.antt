-- The nodes on the stack are open and stand there once, whatever stood before.
use Rattle.std.proofs.Common.{◌≡◌, ℕ, List, [], ◌∷◌, ◌++◌, sym, refl, ap, ◌∙◌, subst, inl, inr, append_assoc}
use mathlib.Core.Path.{subst⁻¹}
use mathlib.Core.List.Memᴰ
use mathlib.Core.List.{Memᴰ}
use Rattle.search.specs.declared.mark.Mark.TheVariants.{Fresh, Open, Closed}
use Rattle.search.specs.Search.{Search, enter, down_to, under, close, Deeds, Visits, passes_open, passes_closed, stays, pops, Upto, start, further}
use Rattle.search.specs.Laws.{Once, one_more}
use Rattle.search.specs.Stacks.{Stacked}
use Rattle.search.proofs.Basics.{put_at, put_else, down_to_is, under_is, put_all_cases, open_not_fresh}

once_apart : (l : List ℕ) (r : List ℕ) → Once (l ++ r) → (x : ℕ) → Memᴰ x l → ¬ Memᴰ x r
once_apart [] r o x m h = elim m [ ]
once_apart (y ∷ l) r (one_more n o) x m h = elim (Memᴰ.cases_cons m) [ inl e ↦ n (Memᴰ.append_right l (subst (λ z. Memᴰ z r) e h)) | inr k ↦ once_apart l r o x k h ]

once_right : (l : List ℕ) {r : List ℕ} → Once (l ++ r) → Once r
once_right [] o = o
once_right (y ∷ l) (one_more n o) = once_right l o

pub once_first : {x : ℕ} {l : List ℕ} → Once (x ∷ l) → ¬ Memᴰ x l
once_first (one_more n o) = n

pub once_rest : {x : ℕ} {l : List ℕ} → Once (x ∷ l) → Once l
once_rest (one_more n o) = o

pub enter_stacked : {s : Search} {v : ℕ} → Stacked s → s.mark v ≡ Fresh → Stacked (enter s v)
enter_stacked {s} {v} S f = record {
  each_open = λ x m. elim (Memᴰ.cases_cons m) [ inl e ↦ put_at s.mark v Open x e | inr k ↦ put_else s.mark v Open x (λ e. open_not_fresh (S.each_open x k) (ap s.mark e ∙ f)) ∙ S.each_open x k ];
  once = one_more (λ m. open_not_fresh (S.each_open v m) f) S.once;
}

-- the stack of t is that of s with other nodes on it
pub record GrownOn (s t : Search) : Type 0 where
  pub top : List ℕ
  pub is : t.stack ≡ top ++ s.stack

pub record StillStacked (s t : Search) : Type 0 where
  pub stacked : Stacked t
  pub grown : GrownOn s t

close_stacked : {s : Search} {v : ℕ} {t : Search} → StillStacked (enter s v) t → StillStacked s (close t v)
close_stacked {s} {v} {t} K = record {
  stacked = record { each_open = λ x m. still x (subst (λ l. Memᴰ x l) base m); once = subst⁻¹ (λ l. Once l) base (once_rest (once_right K.grown.top once)) };
  grown = record { top = []; is = base };
}
  where
    once : Once (K.grown.top ++ (v ∷ s.stack))
    once = subst (λ l. Once l) K.grown.is K.stacked.once

    apart : (x : ℕ) → Memᴰ x K.grown.top → ¬ (x ≡ v)
    apart x m e = once_apart K.grown.top (v ∷ s.stack) once x m (Memᴰ.head e)

    base : under v t.stack ≡ s.stack
    base = ap (under v) K.grown.is ∙ under_is v K.grown.top s.stack apart

    popped : down_to v t.stack ≡ K.grown.top ++ (v ∷ [])
    popped = ap (down_to v) K.grown.is ∙ down_to_is v K.grown.top s.stack apart

    still : (x : ℕ) → Memᴰ x s.stack → (close t v).mark x ≡ Open
    still x m = elim (put_all_cases t.mark (down_to v t.stack) Closed x) [
      | inl p ↦ elim (Memᴰ.append_cases K.grown.top (subst (λ l. Memᴰ x l) popped p.0)) [
        | inl h ↦ absurd (once_apart K.grown.top (v ∷ s.stack) once x h (Memᴰ.tail m))
        | inr h ↦ absurd (once_first (once_right K.grown.top once) (subst (λ z. Memᴰ z s.stack) (Memᴰ.eq_of_singleton h) m))
      ]
      | inr p ↦ p.1 ∙ K.stacked.each_open x (subst⁻¹ (λ l. Memᴰ x l) K.grown.is (Memᴰ.append_right K.grown.top (Memᴰ.tail m)))
    ]

module _ {arrows : ℕ → List ℕ} {S F : Type 0} {D : Deeds S F} where
  mutual
    pub visits_stacked : {s : Search} {a : S} {v : ℕ} {t : Search} {b : S} → Visits arrows D s a v t b → Stacked s → StillStacked s t
    visits_stacked (passes_open o) K = record { stacked = K; grown = record { top = []; is = refl } }
    visits_stacked (passes_closed c) K = record { stacked = K; grown = record { top = []; is = refl } }
    visits_stacked {s} {v = v} (stays f u e d n) K =
        let Q = upto_stacked u (enter_stacked K f) in
        record { stacked = Q.stacked; grown = record { top = Q.grown.top ++ (v ∷ []); is = Q.grown.is ∙ sym (append_assoc Q.grown.top (v ∷ []) s.stack) } }
    visits_stacked (pops f u e d r k) K = close_stacked (upto_stacked u (enter_stacked K f))

    pub upto_stacked : {s : Search} {a : S} {v i : ℕ} {t : Search} {b : S} → Upto arrows D s a v i t b → Stacked s → StillStacked s t
    upto_stacked start K = record { stacked = K; grown = record { top = []; is = refl } }
    upto_stacked {s} (further u e V) K =
        let Q = upto_stacked u K in
        let W = visits_stacked V Q.stacked in
        record {
          stacked = record { each_open = W.stacked.each_open; once = W.stacked.once };
          grown = record { top = W.grown.top ++ Q.grown.top; is = W.grown.is ∙ ap (λ (l : List ℕ). W.grown.top ++ l) Q.grown.is ∙ sym (append_assoc W.grown.top Q.grown.top s.stack) };
        }
