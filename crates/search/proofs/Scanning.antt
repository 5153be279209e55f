-- What the search of one more arrow keeps.
use Rattle.std.proofs.Common.{◌≡◌, ℕ, ◌+◌, ◌<◌, ◌≤◌, ◌⊎◌, List, ◌∷◌, ◌++◌, Some, sym, refl, ap, ◌∙◌, subst, inl, inr, append_assoc, arith}
use Rattle.std.proofs.lemmas.Option.{same_Some}
use Rattle.std.specs.List.{slice_get}
use mathlib.Core.List.Memᴰ
use native.Mathlib.Decide.{ℕ_discrete}
use Rattle.search.specs.declared.mark.Mark.TheVariants.{Fresh, Open, Closed}
use Rattle.search.specs.Graph.{Arrow, Reaches, itself, through}
use Rattle.search.specs.Search.{Search, heed, lower}
use Rattle.search.proofs.Basics.{put_at, put_else, heed_low, heed_open, heed_either, reaches_trans, open_not_fresh, closed_not_fresh, fresh?}
use Rattle.search.proofs.Invariants.{Settled, Kept, Lowest, Sound, Ready, Visited, Scanning}

-- what is settled for a node that is not Fresh stays so
kept_settled : (t t1 : Search) → Kept t t1 → (x y : ℕ) → ¬ (t.mark x ≡ Fresh) → Settled t x y → Settled t1 x y
kept_settled t t1 K x y n (inl c) = inl (K.marks y (closed_not_fresh c) ∙ c)
kept_settled t t1 K x y n (inr p) =
    let m : ¬ (t.mark y ≡ Fresh) = open_not_fresh p.0 in
    inr (K.marks y m ∙ p.0, (let a = K.indices y m in let b = K.lows x n in omega arith))

module _ (t : Search) (v w : ℕ) where
  lower_at : (x : ℕ) → x ≡ v → (lower t v w).low x ≡ heed (t.mark w) (t.low v) (t.low w)
  lower_at x e = put_at t.low v (heed (t.mark w) (t.low v) (t.low w)) x e

  lower_else : (x : ℕ) → ¬ (x ≡ v) → (lower t v w).low x ≡ t.low x
  lower_else x n = put_else t.low v (heed (t.mark w) (t.low v) (t.low w)) x n

  -- no low mark grows
  lower_low : (x : ℕ) → (lower t v w).low x ≤ t.low x
  lower_low x = elim (ℕ_discrete x v) [
    | yes e ↦ (let h = heed_low (t.mark w) (t.low v) (t.low w) in let g = lower_at x e in let k = ap t.low e in omega arith)
    | no n ↦ (let h = lower_else x n in omega arith)
  ]

  lower_settled : (x y : ℕ) → Settled t x y → Settled (lower t v w) x y
  lower_settled x y (inl c) = inl c
  lower_settled x y (inr p) = inr (p.0, (let g = lower_low x in omega arith))

  module _ {arrows : ℕ → List ℕ} where
    lower_lowest : (x : ℕ) → Arrow arrows v w → Lowest arrows t x → (t.mark w ≡ Open → Lowest arrows t w) → Lowest arrows (lower t v w) x
    lower_lowest x a L M = elim (ℕ_discrete x v) [
      | yes e ↦ elim (heed_either (t.mark w) (t.low v) (t.low w)) [
        | inl h ↦ record { node = L.node; is_open = L.is_open; is_low = L.is_low ∙ ap t.low e ∙ sym h ∙ sym (lower_at x e); reached = L.reached }
        | inr h ↦ (let m = M h.0 in record { node = m.node; is_open = m.is_open; is_low = m.is_low ∙ sym h.1 ∙ sym (lower_at x e); reached = subst (λ y. Reaches arrows y m.node) (sym e) (through a m.reached) })
      ]
      | no n ↦ record { node = L.node; is_open = L.is_open; is_low = L.is_low ∙ sym (lower_else x n); reached = L.reached }
    ]

    lower_sound : Arrow arrows v w → Sound arrows t → Sound arrows (lower t v w)
    lower_sound a S = record {
      stacked = S.stacked;
      on_stack = S.on_stack;
      below = S.below;
      low_index = λ x o. (let h = S.low_index x o in let g = lower_low x in omega arith);
      lowest = λ x o. lower_lowest x a (S.lowest x o) (S.lowest w);
      settled = S.settled;
    }

module _ {arrows : ℕ → List ℕ} where
  pub readies : {s : Search} {v i : ℕ} {t : Search} {w : ℕ} → Scanning arrows s v i t → slice_get (arrows v) i ≡ Some w → Ready arrows t w
  readies {i = i} C e = record {
    sound = C.sound;
    back = λ x o. reaches_trans (C.back x o) (through (record { place = i; is = e }) itself);
  }

  module _ {s : Search} {v i : ℕ} {t : Search} {w : ℕ} {t1 : Search} (C : Scanning arrows s v i t) (e : slice_get (arrows v) i ≡ Some w) (V : Visited arrows t w t1) where
    -- a node open after the visit was Fresh or open before it
    was : (x : ℕ) → t1.mark x ≡ Open → (t.mark x ≡ Fresh) ⊎ (t.mark x ≡ Open)
    was x o = elim (fresh? (t.mark x)) [ yes f ↦ inl f | no n ↦ inr (sym (V.kept.marks x n) ∙ o) ]

    not_fresh : (x : ℕ) → ¬ (s.mark x ≡ Fresh) → ¬ (t.mark x ≡ Fresh)
    not_fresh x n f = n (sym (C.kept.marks x n) ∙ f)

    arrow : Arrow arrows v w
    arrow = record { place = i; is = e }

    v_stays : t1.mark v ≡ Open
    v_stays = V.kept.marks v (open_not_fresh C.is_open) ∙ C.is_open

    scans_kept : Kept s (lower t1 v w)
    scans_kept = record {
      marks = λ x n. V.kept.marks x (not_fresh x n) ∙ C.kept.marks x n;
      indices = λ x n. V.kept.indices x (not_fresh x n) ∙ C.kept.indices x n;
      lows = λ x n. lower_else t1 v w x (λ q. n (ap s.mark q ∙ C.was_fresh)) ∙ V.kept.lows x (not_fresh x n) ∙ C.kept.lows x n;
    }

    was_new : (x : ℕ) → t.mark x ≡ Fresh → s.mark x ≡ Fresh
    was_new x f = elim (fresh? (s.mark x)) [ yes g ↦ g | no n ↦ absurd (not_fresh x n f) ]

    -- the low mark of v is at most that of each new open node
    scans_lows : (x : ℕ) → s.mark x ≡ Fresh → t1.mark x ≡ Open → (lower t1 v w).low v ≤ (lower t1 v w).low x
    scans_lows x f o = elim (ℕ_discrete x v) [
      | yes q ↦ (let h = ap (lower t1 v w).low q in omega arith)
      | no n ↦
          let a = lower_else t1 v w x n in
          let b = lower_at t1 v w v refl in
          elim (was x o) [
            | inl g ↦ (let h = V.lows x g o in let c = heed_open (t1.mark w) (t1.low v) (t1.low w) h.0 in omega arith)
            | inr p ↦ (let h = C.lows x f p in let c = V.kept.lows x (open_not_fresh p) in let d = V.kept.lows v (open_not_fresh C.is_open) in let k = lower_low t1 v w v in omega arith)
          ]
    ]

    -- the arrow to w is settled
    scans_here : (t1.mark w ≡ Open) ⊎ (t1.mark w ≡ Closed) → Settled (lower t1 v w) v w
    scans_here (inl q) = inr (q, (let b = lower_at t1 v w v refl in let c = heed_open (t1.mark w) (t1.low v) (t1.low w) q in let h = V.sound.low_index w q in omega arith))
    scans_here (inr q) = inl q

    scans_seen : (j y : ℕ) → slice_get (arrows v) j ≡ Some y → j < i + 1 → Settled (lower t1 v w) v y
    scans_seen j y q l = elim (ℕ_discrete j i) [
      | yes r ↦ (let h : w ≡ y = same_Some w y (sym e ∙ ap (slice_get (arrows v)) (sym r) ∙ q) in subst (λ z. Settled (lower t1 v w) v z) h (scans_here V.met))
      | no n ↦ lower_settled t1 v w v y (kept_settled t t1 V.kept v y (open_not_fresh C.is_open) (C.seen j y q (omega arith)))
    ]

    pub scans : Scanning arrows s v (i + 1) (lower t1 v w)
    scans = record {
      sound = lower_sound t1 v w arrow V.sound;
      was_fresh = C.was_fresh;
      is_open = v_stays;
      is_index = V.kept.indices v (open_not_fresh C.is_open) ∙ C.is_index;
      kept = scans_kept;
      nexts = omega arith;
      grown = record { top = V.grown.top ++ C.grown.top; stacks = V.grown.stacks ∙ ap (λ (l : List ℕ). V.grown.top ++ l) C.grown.stacks ∙ sym (append_assoc V.grown.top C.grown.top (v ∷ s.stack)); new = λ x m. elim (Memᴰ.append_cases V.grown.top m) [ inl p ↦ was_new x (V.grown.new x p) | inr p ↦ C.grown.new x p ] };
      apart = λ x m q. elim (Memᴰ.append_cases V.grown.top m) [ inl p ↦ open_not_fresh (ap t.mark q ∙ C.is_open) (V.grown.new x p) | inr p ↦ C.apart x p q ];
      newer = λ x f o. elim (was x o) [ inl g ↦ (let h = V.newer x g o in omega arith) | inr p ↦ (let h = C.newer x f p in let k = V.kept.indices x (open_not_fresh p) in omega arith) ];
      from = λ x f n. elim (fresh? (t.mark x)) [ yes g ↦ through arrow (V.from x g n) | no m ↦ C.from x f m ];
      back = λ x o. elim (was x o) [ inl g ↦ (let l = V.back x g o in reaches_trans l.reached (C.back l.node l.is_open)) | inr p ↦ C.back x p ];
      lows = scans_lows;
      searched = λ x y f n o a. elim (was x o) [ inl g ↦ lower_settled t1 v w x y (V.searched x y g o a) | inr p ↦ lower_settled t1 v w x y (kept_settled t t1 V.kept x y (open_not_fresh p) (C.searched x y f n p a)) ];
      seen = scans_seen;
    }
