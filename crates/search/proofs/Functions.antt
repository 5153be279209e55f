-- The search as a function is the search as a relation.
use Rattle.std.proofs.Common.{◌≡◌, ℕ, zero, suc, ◌+◌, Bool, true, false, eqb, List, [], ◌∷◌, ◌++◌, length, Some, None, Option, sym, refl, ap, ◌∙◌, append_assoc, append-nil, arith, length-append}
use Rattle.std.proofs.lemmas.Option.{slice_get_past}
use Rattle.std.specs.List.{slice_get}
use mathlib.Core.Path.{subst⁻¹}
use Rattle.search.specs.declared.mark.Mark.{Mark}
use Rattle.search.specs.declared.mark.Mark.TheVariants.{Fresh, Open, Closed, Spoilt}
use Rattle.search.specs.Search.{Search, enter, lower, down_to, Finishes, no_more, then_more, passes_open, passes_closed, stays, pops, Upto, start, further, Faults, hands_on, here, inside}
use Rattle.search.specs.Running.{Moves, moves_deeds, Outcome, finished, faulted, no_depth, and_then, scan, shut_all, leave, go_on, meet, run, Says}

item_at : (pre : List ℕ) (w : ℕ) (ws : List ℕ) → slice_get (pre ++ (w ∷ ws)) (length pre) ≡ Some w
item_at [] w ws = refl
item_at (x ∷ pre) w ws = item_at pre w ws

module _ (arrows : ℕ → List ℕ) {S F : Type 0} (P : Moves S F) where
  shut_finishes : (s : Search) (v : ℕ) (l : List ℕ) (a : S) → Finishes (moves_deeds P) s v l a (shut_all P v l a)
  unfolding shut_all
  shut_finishes s v [] a = no_more
  shut_finishes s v (x ∷ l) a = then_more refl (shut_finishes s v l (P.shut a x v))

  module _ (s : Search) (a : S) (v : ℕ) (f : s.mark v ≡ Fresh) where
    -- what an outcome of a scan of the arrows of v says
    abbrev Scanned : Outcome S F → Type 0
    Scanned (finished t b) = (i : ℕ) × (slice_get (arrows v) i ≡ None) × Upto arrows (moves_deeds P) (enter s v) a v i t b
    Scanned (faulted t b n e) = Faults arrows (moves_deeds P) s a v t b n e
    Scanned no_depth = Unit {0}

    module _ (rec : Search → S → ℕ → Outcome S F) (ih : (t : Search) (b : S) (w : ℕ) → Says arrows P t b w (rec t b w)) where
      scan_says : (pre ws : List ℕ) (t : Search) (b : S) → arrows v ≡ pre ++ ws → Upto arrows (moves_deeds P) (enter s v) a v (length pre) t b → Scanned (scan P rec v ws t b)
      unfolding scan
      scan_says pre [] t b q u = (length pre, subst⁻¹ (λ l. slice_get l (length pre) ≡ None) (q ∙ append-nil pre) (slice_get_past pre (length pre) (omega arith)), u)
      scan_says pre (w ∷ ws) t b q u = visited (λ t1 c u1. scan_says (pre ++ (w ∷ [])) ws t1 c (q ∙ sym (append_assoc pre (w ∷ []) ws)) (subst⁻¹ (λ i. Upto arrows (moves_deeds P) (enter s v) a v i t1 c) (length-append pre (w ∷ [])) u1)) (rec t b w) (ih t b w)
        where
          at : slice_get (arrows v) (length pre) ≡ Some w
          at = ap (λ l. slice_get l (length pre)) q ∙ item_at pre w ws

          visited : ((t1 : Search) (c : S) → Upto arrows (moves_deeds P) (enter s v) a v (length pre + 1) t1 c → Scanned (scan P rec v ws t1 c)) → (o : Outcome S F) → Says arrows P t b w o → Scanned (and_then o (λ t1 c. scan P rec v ws (lower t1 v w) c))
          visited g (finished t1 c) V = g (lower t1 v w) c (further u at V)
          visited g (faulted t1 c n e) V = inside f u at V
          visited g no_depth V = tt

    leave_says : (i : ℕ) (t : Search) (b c : S) → slice_get (arrows v) i ≡ None → Upto arrows (moves_deeds P) (enter s v) a v i t b → P.acted b v ≡ (c, None) → (k : Bool) → eqb (t.low v) (t.index v) ≡ k → Says arrows P s a v (leave P k t c v)
    leave_says i t b c q u d true e = pops f u q d (grind arith) (shut_finishes t v (down_to v t.stack) c)
    leave_says i t b c q u d false e = stays f u q d (λ r. grind arith)

    acted_says : (i : ℕ) (t : Search) (b : S) → slice_get (arrows v) i ≡ None → Upto arrows (moves_deeds P) (enter s v) a v i t b → (o : S × Option F) → P.acted b v ≡ o → Says arrows P s a v (go_on P o t v)
    acted_says i t b q u (c, None) d = leave_says i t b c q u d (eqb (t.low v) (t.index v)) refl
    acted_says i t b q u (c, Some e) d = here f u q d

    finish_says : (o : Outcome S F) → Scanned o → Says arrows P s a v (and_then o (λ t b. go_on P (P.acted b v) t v))
    finish_says (faulted t b n e) h = h
    finish_says no_depth h = tt
    finish_says (finished t b) h = acted_says h.0 t b h.1 h.2 (P.acted b v) refl

  meet_says : (s : Search) (a : S) (v : ℕ) (k : Mark) (o : Unit {0} → Outcome S F) → s.mark v ≡ k → (s.mark v ≡ Fresh → Says arrows P s a v (o tt)) → Says arrows P s a v (meet P k o s a v)
  meet_says s a v Fresh o q h = h q
  meet_says s a v Open o q h = passes_open q
  meet_says s a v Closed o q h = passes_closed q
  meet_says s a v Spoilt o q h = hands_on q refl

  pub run_says : (n : ℕ) (s : Search) (a : S) (v : ℕ) → Says arrows P s a v (run arrows P n s a v)
  unfolding run
  run_says zero s a v = tt
  run_says (suc n) s a v = meet_says s a v (s.mark v) _ refl (λ f. finish_says s a v f (scan P (run arrows P n) v (arrows v) (enter s v) a) (scan_says s a v f (run arrows P n) (run_says n) [] (arrows v) (enter s v) a refl start))
