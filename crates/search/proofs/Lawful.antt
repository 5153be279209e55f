-- The laws of a search that begins at rest, but for that of its actions.
use Rattle.std.proofs.Common.{◌≡◌, ℕ, List, [], ◌∷◌, None, Ok, Err, Result, sym, refl, ◌∙◌, subst, inl, inr}
use Rattle.std.specs.List.{slice_get}
use mathlib.Core.List.{Memᴰ}
use Rattle.search.specs.declared.mark.Mark.TheVariants.{Open, Closed}
use Rattle.search.specs.Graph.{Reaches, itself, through}
use Rattle.search.specs.Search.{Search, down_to, close, Deeds, Finishes, no_more, then_more, Visits, passes_open, passes_closed, stays, pops, Upto, start, further, Faults, hands_on, here, inside, Ends}
use Rattle.search.specs.Laws.{FinishedLeadToFinished, AtRest, FinishedWithAllItReaches, ArrowsLeadToFinishedOrIntoTheCycle, PoppedAreOneCycle, acting_after_arrows, closing_one_cycle, SuccessFinishesAllThatTheRootReaches, EachActionFollowsItsArrows, AFaultIsReachedFromTheStack, NodesPoppedTogetherAreOneCycle}
use Rattle.search.proofs.Basics.{open_not_fresh, closed_not_open, fresh?}
use Rattle.search.proofs.Invariants.{Sound, Ready, Visited, Scanning}
use Rattle.search.proofs.Entering.{enters}
use Rattle.search.proofs.Scanning.{readies}
use Rattle.search.proofs.Leaving.{all_seen, batch_new, new_batch, after, close_settled}
use Rattle.search.proofs.Visiting.{visits, upto, scanned, fault_back, fault_from, fault_sound}

no_element : (l : List ℕ) → ((x : ℕ) → ¬ Memᴰ x l) → l ≡ []
no_element [] n = refl
no_element (x ∷ l) n = absurd (n x (Memᴰ.head refl))

-- what stands when the action at v is done
pub record AtAction (arrows : ℕ → List ℕ) (s : Search) (v : ℕ) : Type 0 where
  pub sound : Sound arrows s
  pub is_open : s.mark v ≡ Open
  pub back : (x : ℕ) → s.mark x ≡ Open → Reaches arrows x v
  pub arrows_led : ArrowsLeadToFinishedOrIntoTheCycle arrows s v

module _ {arrows : ℕ → List ℕ} where
  -- from a finished node only finished ones are reached
  pub finished_along : (s : Search) → FinishedLeadToFinished arrows s → {x y : ℕ} → Reaches arrows x y → s.mark x ≡ Closed → s.mark y ≡ Closed
  finished_along s S itself c = c
  finished_along s S (through {v = x} {w = w} a p) c = finished_along s S p (S x w c a)

  pub rest_ready : {s : Search} (v : ℕ) → AtRest arrows s → Ready arrows s v
  rest_ready v R = record {
    sound = record {
      stacked = λ x o. absurd (R.none_open x o);
      on_stack = λ x m. elim (subst (λ l. Memᴰ x l) R.empty m) [ ];
      below = λ x o. absurd (R.none_open x o);
      low_index = λ x o. absurd (R.none_open x o);
      lowest = λ x o. absurd (R.none_open x o);
      settled = R.finished;
    };
    back = λ x o. absurd (R.none_open x o);
  }

  pub finishes_all : {s : Search} {v : ℕ} {t : Search} → AtRest arrows s → Visited arrows s v t → FinishedWithAllItReaches arrows s v t
  finishes_all {s} {v} {t} R V = record {
    reached = λ x p. finished_along t V.sound.settled p root;
    rest = record { empty = no_element t.stack (λ x m. none_open x (V.sound.on_stack x m)); none_open = none_open; finished = V.sound.settled };
    only = V.from;
  }
    where
      none_open : (x : ℕ) → ¬ (t.mark x ≡ Open)
      none_open x o = elim (fresh? (s.mark x)) [
        | yes f ↦ (let l = V.back x f o in R.none_open l.node l.is_open)
        | no n ↦ R.none_open x (sym (V.kept.marks x n) ∙ o)
      ]

      root : t.mark v ≡ Closed
      root = elim V.met [ inl o ↦ absurd (none_open v o) | inr c ↦ c ]

  pub at_action : {s : Search} {v i : ℕ} {t : Search} → Scanning arrows s v i t → slice_get (arrows v) i ≡ None → AtAction arrows t v
  at_action C e = record {
    sound = C.sound;
    is_open = C.is_open;
    back = C.back;
    arrows_led = λ w a. elim (all_seen C e w a) [ inl c ↦ inl c | inr p ↦ inr (C.sound.stacked w p.0, C.back w p.0) ];
  }

  pub pops_one_cycle : {s : Search} {v i : ℕ} {t : Search} → Ready arrows s v → Scanning arrows s v i t → slice_get (arrows v) i ≡ None → t.low v ≡ t.index v → PoppedAreOneCycle arrows t v
  pops_one_cycle {s} {v} {i} {t} R C e r x = (
    (λ m. let h = batch_new R C e r x m in (C.from x h.0 (open_not_fresh h.1), C.back x h.1)),
    (λ p. elim (after R C e r x) [
      | inl h ↦ new_batch R C e r x h.0 h.1
      | inr h ↦
          let d : (close t v).mark x ≡ Closed = finished_along (close t v) (close_settled R C e r) p.0 closed in
          absurd (closed_not_open (finished_along t C.sound.settled p.1 (sym h.1 ∙ d)) C.is_open)
    ]),
  )
    where
      closed : (close t v).mark v ≡ Closed
      closed = elim (after R C e r v) [ inl k ↦ k.2 | inr k ↦ absurd (k.0 C.was_fresh C.is_open) ]

finishes_map : {S F : Type 0} {D D' : Deeds S F} {s : Search} {v : ℕ} {l : List ℕ} {a b : S} → ((x : ℕ) (a b : S) → Memᴰ x l → D.closes s a x v b → D'.closes s a x v b) → Finishes D s v l a b → Finishes D' s v l a b
finishes_map f no_more = no_more
finishes_map f (then_more {x = x} {a = a} {b = b} d k) = then_more (f x a b (Memᴰ.head refl) d) (finishes_map (λ y a b m. f y a b (Memᴰ.tail m)) k)

-- where each deed of D is one of D', by what stands when it is done
pub record Enriched (arrows : ℕ → List ℕ) {S F : Type 0} (D D' : Deeds S F) : Type 0 where
  pub acting : (s : Search) (a : S) (v : ℕ) (b : S) → AtAction arrows s v → D.acts s a v b → D'.acts s a v b
  pub failing : (s : Search) (a : S) (v : ℕ) (b : S) (e : F) → AtAction arrows s v → D.fails s a v b e → D'.fails s a v b e
  pub holding : (s : Search) (a : S) (v : ℕ) (e : F) → Ready arrows s v → D.holds s a v e → D'.holds s a v e
  pub closing : (s : Search) (a : S) (x v : ℕ) (b : S) → AtAction arrows s v → PoppedAreOneCycle arrows s v → Memᴰ x (down_to v s.stack) → D.closes s a x v b → D'.closes s a x v b

module _ {arrows : ℕ → List ℕ} {S F : Type 0} {D D' : Deeds S F} (E : Enriched arrows D D') where
  mutual
    pub enriched_visits : {s : Search} {a : S} {v : ℕ} {t : Search} {b : S} → Visits arrows D s a v t b → Ready arrows s v → Visits arrows D' s a v t b
    enriched_visits (passes_open o) R = passes_open o
    enriched_visits (passes_closed c) R = passes_closed c
    enriched_visits {s} {v = v} (stays {t = t} {b = b} {c = c} f u e d n) R =
        let C = scanned R f u in
        stays f (enriched_upto u (enters s v f R)) e (E.acting t b v c (at_action C e) d) n
    enriched_visits {s} {v = v} (pops {t = t} {b = b} {c = c} f u e d r k) R =
        let C = scanned R f u in
        let A = at_action C e in
        pops f (enriched_upto u (enters s v f R)) e (E.acting t b v c A d) r (finishes_map (λ x a1 b1 m. E.closing t a1 x v b1 A (pops_one_cycle R C e r) m) k)

    pub enriched_upto : {s0 s : Search} {v : ℕ} {a : S} {i : ℕ} {t : Search} {b : S} → Upto arrows D s a v i t b → Scanning arrows s0 v 0 s → Upto arrows D' s a v i t b
    enriched_upto start C = start
    enriched_upto (further u e V) C = further (enriched_upto u C) e (enriched_visits V (readies (upto u C) e))

  pub enriched_faults : {s : Search} {a : S} {v : ℕ} {t : Search} {b : S} {n : ℕ} {e : F} → Faults arrows D s a v t b n e → Ready arrows s v → Faults arrows D' s a v t b n e
  enriched_faults {s} {a} {v} {e = e} (hands_on m h) R = hands_on m (E.holding s a v e R h)
  enriched_faults {s} {v = v} {e = e} (here {t = t} {b = b} {c = c} f u q h) R = here f (enriched_upto u (enters s v f R)) q (E.failing t b v c e (at_action (scanned R f u) q) h)
  enriched_faults {s} {v = v} (inside f u q h) R = inside f (enriched_upto u (enters s v f R)) q (enriched_faults h (readies (scanned R f u) q))

module _ (arrows : ℕ → List ℕ) {S F : Type 0} (D : Deeds S F) where
  acting_enriched : Enriched arrows D (acting_after_arrows arrows D)
  acting_enriched = record { acting = λ s a v b A d. (d, A.arrows_led); failing = λ s a v b e A d. (d, A.arrows_led); holding = λ s a v e R d. d; closing = λ s a x v b A P m d. d }

  closing_enriched : Enriched arrows D (closing_one_cycle arrows D)
  closing_enriched = record { acting = λ s a v b A d. d; failing = λ s a v b e A d. d; holding = λ s a v e R d. d; closing = λ s a x v b A P m d. (d, m, P) }

  module _ (s : Search) (a : S) (v : ℕ) (t : Search) (b : S) where
    ends_enriched : (D' : Deeds S F) → Enriched arrows D D' → (r : Result (Unit {0}) F) → AtRest arrows s → Ends arrows D s a v t b r → Ends arrows D' s a v t b r
    ends_enriched D' E (Ok x) R V = enriched_visits E V (rest_ready v R)
    ends_enriched D' E (Err e) R V = (V.0, enriched_faults E V.1 (rest_ready v R))

    pub success_finishes : (r : Result (Unit {0}) F) → Ends arrows D s a v t b r → SuccessFinishesAllThatTheRootReaches arrows D s a v t b r
    success_finishes (Ok x) V R = finishes_all R (visits V (rest_ready v R))
    success_finishes (Err e) V R = tt

    pub action_follows : (r : Result (Unit {0}) F) → Ends arrows D s a v t b r → EachActionFollowsItsArrows arrows D s a v t b r
    action_follows r V R = ends_enriched (acting_after_arrows arrows D) acting_enriched r R V

    pub popped_cycle : (r : Result (Unit {0}) F) → Ends arrows D s a v t b r → NodesPoppedTogetherAreOneCycle arrows D s a v t b r
    popped_cycle r V R = ends_enriched (closing_one_cycle arrows D) closing_enriched r R V

    pub fault_reached : (r : Result (Unit {0}) F) → AFaultIsReachedFromTheStack arrows D s a v t b r
    fault_reached (Ok x) R = tt
    fault_reached (Err e) R = λ n V.
        let Q = rest_ready v R in
        let K = fault_sound V Q in
        record {
          stack = λ x m. fault_back V Q x (K.on_stack x m);
          root = fault_from V;
          open_nodes = λ x. (K.on_stack x, K.stacked x);
          finished = K.settled;
        }
