-- What each search keeps, by recursion on it.
use Rattle.std.proofs.Common.{◌≡◌, ℕ, ◌⊎◌, List, [], sym, refl, ◌∙◌, inl, inr, arith}
use Rattle.search.specs.declared.mark.Mark.TheVariants.{Fresh, Open, Closed}
use Rattle.search.specs.Graph.{Reaches, itself, through}
use Rattle.search.specs.Search.{Search, enter, Deeds, Visits, passes_open, passes_closed, stays, pops, Upto, start, further, Faults, hands_on, here, inside}
use Rattle.search.proofs.Basics.{open_not_fresh}
use Rattle.search.proofs.Invariants.{Sound, Ready, Visited, Scanning}
use Rattle.search.proofs.Entering.{enters}
use Rattle.search.proofs.Scanning.{readies, scans}
use Rattle.search.proofs.Leaving.{stays_visited, pops_visited}

-- a node that is open or closed is passed over
passed : {arrows : ℕ → List ℕ} {s : Search} {v : ℕ} → Sound arrows s → (s.mark v ≡ Open) ⊎ (s.mark v ≡ Closed) → Visited arrows s v s
passed R n = record {
  sound = R;
  met = n;
  kept = record { marks = λ x m. refl; indices = λ x m. refl; lows = λ x m. refl };
  nexts = omega arith;
  grown = record { top = []; stacks = refl; new = λ x m. elim m [ ] };
  newer = λ x f o. absurd (open_not_fresh o f);
  from = λ x f m. absurd (m f);
  back = λ x f o. absurd (open_not_fresh o f);
  lows = λ x f o. absurd (open_not_fresh o f);
  searched = λ x y f o a. absurd (open_not_fresh o f);
}

module _ {arrows : ℕ → List ℕ} {S F : Type 0} {D : Deeds S F} where
  mutual
    pub visits : {s : Search} {a : S} {v : ℕ} {t : Search} {b : S} → Visits arrows D s a v t b → Ready arrows s v → Visited arrows s v t
    visits (passes_open o) R = passed R.sound (inl o)
    visits (passes_closed c) R = passed R.sound (inr c)
    visits {s} {v = v} (stays f u e _ n) R = stays_visited R (upto u (enters s v f R)) e n
    visits {s} {v = v} (pops f u e _ r _) R = pops_visited R (upto u (enters s v f R)) e r

    pub upto : {s0 s : Search} {v : ℕ} {a : S} {i : ℕ} {t : Search} {b : S} → Upto arrows D s a v i t b → Scanning arrows s0 v 0 s → Scanning arrows s0 v i t
    upto start C = C
    upto (further u e V) C = let C1 = upto u C in scans C1 e (visits V (readies C1 e))

  -- once the first i arrows of v are searched
  pub scanned : {s : Search} {v : ℕ} {a : S} {i : ℕ} {t : Search} {b : S} → Ready arrows s v → s.mark v ≡ Fresh → Upto arrows D (enter s v) a v i t b → Scanning arrows s v i t
  scanned {s} {v} R f u = upto u (enters s v f R)

  -- each open node reaches the node of a fault
  pub fault_back : {s : Search} {a : S} {v : ℕ} {t : Search} {b : S} {n : ℕ} {e : F} → Faults arrows D s a v t b n e → Ready arrows s v → (x : ℕ) → t.mark x ≡ Open → Reaches arrows x n
  fault_back (hands_on _ _) R = R.back
  fault_back (here f u q _) R = (scanned R f u).back
  fault_back (inside f u q h) R = fault_back h (readies (scanned R f u) q)

  -- the root reaches the node of a fault
  pub fault_from : {s : Search} {a : S} {v : ℕ} {t : Search} {b : S} {n : ℕ} {e : F} → Faults arrows D s a v t b n e → Reaches arrows v n
  fault_from (hands_on _ _) = itself
  fault_from (here _ _ _ _) = itself
  fault_from (inside {i = i} f u q h) = through (record { place = i; is = q }) (fault_from h)

  -- what stands at a fault is sound
  pub fault_sound : {s : Search} {a : S} {v : ℕ} {t : Search} {b : S} {n : ℕ} {e : F} → Faults arrows D s a v t b n e → Ready arrows s v → Sound arrows t
  fault_sound (hands_on _ _) R = R.sound
  fault_sound (here f u q _) R = (scanned R f u).sound
  fault_sound (inside f u q h) R = fault_sound h (readies (scanned R f u) q)

  -- a node that was not new is as it was
  pub fault_kept : {s : Search} {a : S} {v : ℕ} {t : Search} {b : S} {n : ℕ} {e : F} → Faults arrows D s a v t b n e → Ready arrows s v → (x : ℕ) → ¬ (s.mark x ≡ Fresh) → t.mark x ≡ s.mark x
  fault_kept (hands_on _ _) R x m = refl
  fault_kept (here f u q _) R x m = (scanned R f u).kept.marks x m
  fault_kept (inside f u q h) R x m =
      let C = scanned R f u in
      fault_kept h (readies C q) x (λ g. m (sym (C.kept.marks x m) ∙ g)) ∙ C.kept.marks x m
