-- Where the deeds are functions, a search comes to what its run computes.
use Rattle.std.proofs.Common.{◌≡◌, ℕ, zero, suc, ◌+◌, ◌≤◌, Bool, true, false, eqb, List, [], ◌∷◌, drop, Some, None, Ok, Err, Result, refl, ap, ◌∙◌, arith, eq-eqb, ne_eqb}
use Rattle.std.specs.List.{slice_get}
use Rattle.search.specs.declared.mark.Mark.TheVariants.{Fresh, Open, Closed, Spoilt}
use Rattle.search.specs.Search.{Search, enter, lower, close, Deeds, Finishes, no_more, then_more, Visits, passes_open, passes_closed, stays, pops, Upto, start, further, Faults, hands_on, here, inside, Ends}
use Rattle.search.specs.Running.{Moves, Outcome, finished, faulted, and_then, scan, shut_all, leave, go_on, run, ComputedBy, IsComputed}

drop_some : (l : List ℕ) (i w : ℕ) → slice_get l i ≡ Some w → drop i l ≡ w ∷ drop (i + 1) l
drop_some [] i w e = let z : ◌≡◌ {A = ℕ} 0 1 = cc in absurd (omega arith)
drop_some (x ∷ l) zero w e = let q : x ≡ w = cc in ap (λ y. y ∷ l) q
drop_some (x ∷ l) (suc i) w e = drop_some l i w e ∙ ap (λ n. w ∷ drop n (x ∷ l)) (let q : suc (i + 1) ≡ suc i + 1 = omega arith in q)

drop_none : (l : List ℕ) (i : ℕ) → slice_get l i ≡ None → drop i l ≡ []
drop_none [] zero e = refl
drop_none [] (suc i) e = refl
drop_none (x ∷ l) zero e = let z : ◌≡◌ {A = ℕ} 0 1 = cc in absurd (omega arith)
drop_none (x ∷ l) (suc i) e = drop_none l i e

module _ (arrows : ℕ → List ℕ) {S F : Type 0} {D : Deeds S F} (P : Moves S F) (C : ComputedBy D P) where
  shut_is : {s : Search} {v : ℕ} {l : List ℕ} {a b : S} → Finishes D s v l a b → shut_all P v l a ≡ b
  unfolding shut_all
  shut_is no_more = refl
  shut_is {s} {v} (then_more {x = x} {l = l} {a = a} {b = b} d k) = ap (shut_all P v l) (C.closing s a x v b d) ∙ shut_is k

  run_open : (s : Search) (a : S) (v m : ℕ) → 1 ≤ m → s.mark v ≡ Open → run arrows P m s a v ≡ finished s a
  unfolding run
  run_open s a v zero h o = absurd (omega arith)
  run_open s a v (suc m) h o = rw o refl

  run_closed : (s : Search) (a : S) (v m : ℕ) → 1 ≤ m → s.mark v ≡ Closed → run arrows P m s a v ≡ finished s a
  unfolding run
  run_closed s a v zero h o = absurd (omega arith)
  run_closed s a v (suc m) h o = rw o refl

  run_spoilt : (s : Search) (a : S) (v m : ℕ) → 1 ≤ m → s.mark v ≡ Spoilt → run arrows P m s a v ≡ faulted s a v (P.held a v)
  unfolding run
  run_spoilt s a v zero h o = absurd (omega arith)
  run_spoilt s a v (suc m) h o = rw o refl

  -- a new node, once its arrows are searched
  run_fresh : (s : Search) (a : S) (v m : ℕ) (o : Outcome S F) → s.mark v ≡ Fresh → scan P (run arrows P m) v (arrows v) (enter s v) a ≡ o → run arrows P (suc m) s a v ≡ and_then o (λ t b. go_on P (P.acted b v) t v)
  unfolding run
  run_fresh s a v m o f e = rw f (ap (λ z. and_then z (λ t b. go_on P (P.acted b v) t v)) e)

  -- whatever its depth from some number on
  abbrev ComesTo : (ℕ → Outcome S F) → (ℕ → Outcome S F) → Type 0
  ComesTo f g = (n : ℕ) × ((m : ℕ) → n ≤ m → f m ≡ g m)

  deeper : (s : Search) (a : S) (v : ℕ) (o : Outcome S F) (n : ℕ) → ((m : ℕ) → n ≤ m → run arrows P (suc m) s a v ≡ o) → (m : ℕ) → n + 1 ≤ m → run arrows P m s a v ≡ o
  deeper s a v o n h zero l = absurd (omega arith)
  deeper s a v o n h (suc m) l = h m (omega arith)

  scan_none : (m v : ℕ) (l : List ℕ) (t : Search) (b : S) → l ≡ [] → scan P (run arrows P m) v l t b ≡ finished t b
  unfolding scan
  scan_none m v l t b e = rw e refl

  scan_some : (m v : ℕ) (l : List ℕ) (w : ℕ) (ws : List ℕ) (t : Search) (b : S) (u : Outcome S F) → l ≡ w ∷ ws → run arrows P m t b w ≡ u → scan P (run arrows P m) v l t b ≡ and_then u (λ t1 c. scan P (run arrows P m) v ws (lower t1 v w) c)
  unfolding scan
  scan_some m v l w ws t b u e q = rw e (ap (λ z. and_then z (λ t1 c. scan P (run arrows P m) v ws (lower t1 v w) c)) q)

  left_is : (t : Search) (b c : S) (v : ℕ) (k : Bool) → P.acted b v ≡ (c, None) → eqb (t.low v) (t.index v) ≡ k → go_on P (P.acted b v) t v ≡ leave P k t c v
  left_is t b c v k d e = ap (λ z. go_on P z t v) d ∙ ap (λ z. leave P z t c v) e

  mutual
    visits_run : {s : Search} {a : S} {v : ℕ} {t : Search} {b : S} → Visits arrows D s a v t b → ComesTo (λ m. run arrows P m s a v) (λ m. finished t b)
    visits_run {s} {a} {v} (passes_open o) = (1, λ m h. run_open s a v m h o)
    visits_run {s} {a} {v} (passes_closed o) = (1, λ m h. run_closed s a v m h o)
    visits_run {s} {a} {v} (stays {i = i} {t = t} {b = b} {c = c} f u e d n) =
        let U = upto_run u in (
          U.0 + 1,
          deeper s a v (finished t c) U.0 (λ m h.
              run_fresh s a v m (finished t b) f (U.1 m h ∙ scan_none m v (drop i (arrows v)) t b (drop_none (arrows v) i e))
              ∙ left_is t b c v false (C.acting t b v c d) (ne_eqb (t.low v) (t.index v) n)),
        )
    visits_run {s} {a} {v} (pops {i = i} {t = t} {b = b} {c = c} {d = x} f u e d r k) =
        let U = upto_run u in (
          U.0 + 1,
          deeper s a v (finished (close t v) x) U.0 (λ m h.
              run_fresh s a v m (finished t b) f (U.1 m h ∙ scan_none m v (drop i (arrows v)) t b (drop_none (arrows v) i e))
              ∙ left_is t b c v true (C.acting t b v c d) (eq-eqb (t.low v) (t.index v) r)
              ∙ ap (finished (close t v)) (shut_is k)),
        )

    upto_run : {s : Search} {a : S} {v i : ℕ} {t : Search} {b : S} → Upto arrows D s a v i t b → ComesTo (λ m. scan P (run arrows P m) v (arrows v) s a) (λ m. scan P (run arrows P m) v (drop i (arrows v)) t b)
    upto_run start = (0, λ m h. refl)
    upto_run {v = v} (further {i = i} {t = t} {b = b} {w = w} {u = u} {c = c} p e V) =
        let U = upto_run p in
        let W = visits_run V in
        (U.0 + W.0, λ m h. U.1 m (omega arith) ∙ scan_some m v (drop i (arrows v)) w (drop (i + 1) (arrows v)) t b (finished u c) (drop_some (arrows v) i w e) (W.1 m (omega arith)))

  faults_run : {s : Search} {a : S} {v : ℕ} {t : Search} {b : S} {n : ℕ} {e : F} → Faults arrows D s a v t b n e → ComesTo (λ m. run arrows P m s a v) (λ m. faulted t b n e)
  faults_run {s} {a} {v} {e = x} (hands_on o h) = (1, λ m l. run_spoilt s a v m l o ∙ ap (faulted s a v) (C.holding s a v x h))
  faults_run {s} {a} {v} {e = x} (here {i = i} {t = t} {b = b} {c = c} f u e d) =
      let U = upto_run u in (
        U.0 + 1,
        deeper s a v (faulted t c v x) U.0 (λ m h.
            run_fresh s a v m (finished t b) f (U.1 m h ∙ scan_none m v (drop i (arrows v)) t b (drop_none (arrows v) i e))
            ∙ ap (λ z. go_on P z t v) (C.failing t b v c x d)),
      )
  faults_run {s} {a} {v} {n = n} {e = x} (inside {i = i} {t = t} {b = b} {w = w} {u = u} {c = c} f p e h) =
      let U = upto_run p in
      let W = faults_run h in (
        U.0 + W.0 + 1,
        deeper s a v (faulted u c n x) (U.0 + W.0) (λ m l.
            run_fresh s a v m (faulted u c n x) f (U.1 m (omega arith) ∙ scan_some m v (drop i (arrows v)) w (drop (i + 1) (arrows v)) t b (faulted u c n x) (drop_some (arrows v) i w e) (W.1 m (omega arith)))),
      )

  pub ends_run : (s : Search) (a : S) (v : ℕ) (t : Search) (b : S) (r : Result (Unit {0}) F) → Ends arrows D s a v t b r → IsComputed arrows P s a v t b r
  ends_run s a v t b (Ok x) V = visits_run V
  ends_run s a v t b (Err e) V = (let W = faults_run V.1 in (V.0, W.0, W.1))
