-- What the code of a visit does is a search.
use Rattle.std.proofs.Common.{◌≡◌, ℕ, ◌+◌, ◌<◌, List, Some, None, sym, refl, ap, ◌∙◌, subst, arith}
use Rattle.std.specs.List.{slice_get}
use mathlib.Core.Path.{subst⁻¹}
use mathlib.Core.List.Memᴰ
use mathlib.Core.List.{Memᴰ}
use Rattle.search.specs.declared.mark.Mark.{Mark}
use Rattle.search.specs.declared.mark.Mark.TheVariants.{Fresh, Open, Closed, Spoilt}
use Rattle.search.specs.Search.{Search, enter, lower, down_to, close, Deeds, Finishes, Visits, passes_open, passes_closed, stays, pops, Upto, start, further, Faults, here, inside}
use Rattle.search.specs.Stacks.{count, Stacked}
use Rattle.search.proofs.Preserving.{upto_preserve, StaysMet, met_preserved}
use Rattle.search.proofs.Counting.{count_le, count_opened}
use Rattle.search.proofs.Stacking.{enter_stacked, upto_stacked}

-- v was new and has been entered, and its first i arrows are searched: from k0, s0 and a0 the search has come to k, t and b
pub record Along {K S F : Type 0} (arrows : K → ℕ → List ℕ) (deeds : K → Deeds S F) (k0 : K) (s0 : Search) (a0 : S) (v i : ℕ) (k : K) (t : Search) (b : S) : Type 0 where
  pub fresh : s0.mark v ≡ Fresh
  pub fixed : k ≡ k0
  pub upto : Upto (arrows k0) (deeds k0) (enter s0 v) a0 v i t b

module _ {K S F : Type 0} {arrows : K → ℕ → List ℕ} {deeds : K → Deeds S F} {k0 : K} {s0 : Search} {a0 : S} {v : ℕ} where
  pub along_starts : {k : K} {t : Search} {b : S} → s0.mark v ≡ Fresh → k ≡ k0 → b ≡ a0 → t ≡ enter s0 v → Along arrows deeds k0 s0 a0 v 0 k t b
  along_starts {b = b} f p q e = record {
    fresh = f;
    fixed = p;
    upto = subst⁻¹ (λ (s : Search). Upto (arrows k0) (deeds k0) (enter s0 v) a0 v 0 s b) e (subst⁻¹ (λ (a : S). Upto (arrows k0) (deeds k0) (enter s0 v) a0 v 0 (enter s0 v) a) q start);
  }

  module _ {i : ℕ} {k : K} {t : Search} {b : S} (A : Along arrows deeds k0 s0 a0 v i k t b) where
    -- one arrow more: the search came to u, and its low mark heeded
    pub along_further : {k1 : K} {w : ℕ} {u u1 : Search} {c c1 : S} → slice_get (arrows k v) i ≡ Some w → Visits (arrows k) (deeds k) t b w u c → k1 ≡ k → u1 ≡ lower u v w → c1 ≡ c → Along arrows deeds k0 s0 a0 v (i + 1) k1 u1 c1
    along_further {w = w} {u = u} {u1 = u1} {c = c} q V p e r = record {
      fresh = A.fresh;
      fixed = p ∙ A.fixed;
      upto =
          subst⁻¹ (λ (y : S). Upto (arrows k0) (deeds k0) (enter s0 v) a0 v (i + 1) u1 y) r
          (subst⁻¹ (λ (z : Search). Upto (arrows k0) (deeds k0) (enter s0 v) a0 v (i + 1) z c) e
          (further A.upto (subst (λ (k : K). slice_get (arrows k v) i ≡ Some w) A.fixed q) (subst (λ (k : K). Visits (arrows k) (deeds k) t b w u c) A.fixed V)));
    }

    pub along_within : Stacked s0 → Memᴰ v t.stack
    along_within K = let G = (upto_stacked A.upto (enter_stacked K A.fresh)).grown in subst⁻¹ (λ l. Memᴰ v l) G.is (Memᴰ.append_right G.top (Memᴰ.head refl))

    -- fewer nodes are new than before v was entered
    pub along_fewer : v < 32 → count t.mark 32 < count s0.mark 32
    along_fewer l =
        let h = count_opened s0.mark (enter s0 v).mark v l A.fresh (λ x. refl) in
        let k = count_le (enter s0 v).mark t.mark 32 (upto_preserve StaysMet met_preserved A.upto) in
        omega arith

    pub along_inside : {w : ℕ} {t1 : Search} {c : S} {n : ℕ} {e : F} → slice_get (arrows k v) i ≡ Some w → Faults (arrows k) (deeds k) t b w t1 c n e → Faults (arrows k0) (deeds k0) s0 a0 v t1 c n e
    along_inside {w} {t1} {c} {n} {e} q h =
        inside A.fresh A.upto (subst (λ (k : K). slice_get (arrows k v) i ≡ Some w) A.fixed q) (subst (λ (k : K). Faults (arrows k) (deeds k) t b w t1 c n e) A.fixed h)

    -- no arrow is left, and the action follows, with the marks as they are
    module _ (q : slice_get (arrows k v) i ≡ None) {t1 : Search} (g : t1 ≡ t) where
      none_left : slice_get (arrows k0 v) i ≡ None
      none_left = subst (λ (k : K). slice_get (arrows k v) i ≡ None) A.fixed q

      pub along_fails : {c : S} {e : F} → (deeds k).fails t b v c e → Faults (arrows k0) (deeds k0) s0 a0 v t1 c v e
      along_fails {c} {e} h =
          subst⁻¹ (λ (s : Search). Faults (arrows k0) (deeds k0) s0 a0 v s c v e) g
          (here A.fresh A.upto none_left (subst (λ (k : K). (deeds k).fails t b v c e) A.fixed h))

      pub along_stays : {c : S} → (deeds k).acts t b v c → ¬ (t1.low v ≡ t1.index v) → Visits (arrows k0) (deeds k0) s0 a0 v t1 c
      along_stays {c} h n =
          subst⁻¹ (λ (s : Search). Visits (arrows k0) (deeds k0) s0 a0 v s c) g
          (stays A.fresh A.upto none_left (subst (λ (k : K). (deeds k).acts t b v c) A.fixed h) (subst (λ (s : Search). ¬ (s.low v ≡ s.index v)) g n))

      pub along_pops : {k1 : K} {c d : S} {t2 : Search} → (deeds k).acts t b v c → t1.low v ≡ t1.index v → k1 ≡ k → Finishes (deeds k1) t1 v (down_to v t1.stack) c d → t2 ≡ close t1 v → Visits (arrows k0) (deeds k0) s0 a0 v t2 d
      along_pops {c = c} {d = d} h n r m z =
          let M = subst (λ (k : K). Finishes (deeds k) t1 v (down_to v t1.stack) c d) (r ∙ A.fixed) m in
          subst⁻¹ (λ (s : Search). Visits (arrows k0) (deeds k0) s0 a0 v s d) (z ∙ ap (λ (s : Search). close s v) g)
          (pops A.fresh A.upto none_left (subst (λ (k : K). (deeds k).acts t b v c) A.fixed h) (subst (λ (s : Search). s.low v ≡ s.index v) g n) (subst (λ (s : Search). Finishes (deeds k0) s v (down_to v s.stack) c d) g M))

-- a node that is neither new nor spoilt is passed over
pub passes : {arrows : ℕ → List ℕ} {S F : Type 0} {D : Deeds S F} {s : Search} {a : S} {v : ℕ} (k : Mark) → k ≡ s.mark v → ¬ (k ≡ Fresh) → ¬ (k ≡ Spoilt) → Visits arrows D s a v s a
passes Fresh e n m = absurd (n refl)
passes Open e n m = passes_open (sym e)
passes Closed e n m = passes_closed (sym e)
passes Spoilt e n m = absurd (m refl)
