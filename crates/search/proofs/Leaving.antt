-- What stands when a node is left.
use Rattle.std.proofs.Common.{◌≡◌, ℕ, ◌<◌, ◌⊎◌, List, [], ◌∷◌, ◌++◌, None, sym, ap, ◌∙◌, subst, inl, inr, append_assoc, arith}
use Rattle.std.specs.List.{slice_get}
use mathlib.Core.List.Memᴰ
use mathlib.Core.List.{Memᴰ}
use native.Mathlib.Decide.{ℕ_discrete}
use Rattle.search.specs.declared.mark.Mark.TheVariants.{Fresh, Open, Closed}
use Rattle.search.specs.Graph.{Arrow}
use Rattle.search.specs.Search.{Search, down_to, under, close}
use Rattle.search.proofs.Basics.{reaches_trans, slice_get_before, down_to_is, under_is, put_all_cases, open_not_fresh, closed_not_open, fresh?}
use Rattle.search.proofs.Invariants.{Settled, Kept, Sound, Ready, Visited, Scanning}

module _ {arrows : ℕ → List ℕ} where
  -- each arrow of v is settled
  pub all_seen : {s : Search} {v i : ℕ} {t : Search} → Scanning arrows s v i t → slice_get (arrows v) i ≡ None → (y : ℕ) → Arrow arrows v y → Settled t v y
  all_seen {v = v} {i = i} C e y a = C.seen a.place y a.is (slice_get_before (arrows v) i a.place y e a.is)

  module _ {s : Search} {v i : ℕ} {t : Search} (R : Ready arrows s v) (C : Scanning arrows s v i t) (e : slice_get (arrows v) i ≡ None) where
    -- an open node is new, or it was open and lies under v
    was : (x : ℕ) → t.mark x ≡ Open → (s.mark x ≡ Fresh) ⊎ ((s.mark x ≡ Open) × (t.index x < s.next))
    was x o = elim (fresh? (s.mark x)) [
      | yes f ↦ inl f
      | no n ↦ (let p = sym (C.kept.marks x n) ∙ o in inr (p, (let a = C.kept.indices x n in let b = R.sound.below x p in omega arith)))
    ]

    -- the arrows of a new open node that are not Closed lead to new open nodes, if v is the root of its cycle
    searched : (x y : ℕ) → s.mark x ≡ Fresh → t.mark x ≡ Open → Arrow arrows x y → Settled t x y
    searched x y f o a = elim (ℕ_discrete x v) [
      | yes q ↦ subst (λ z. Settled t z y) (sym q) (all_seen C e y (subst (λ z. Arrow arrows z y) q a))
      | no n ↦ C.searched x y f n o a
    ]

    pub stays_visited : ¬ (t.low v ≡ t.index v) → Visited arrows s v t
    stays_visited n = record {
      sound = C.sound;
      met = inl C.is_open;
      kept = C.kept;
      nexts = omega arith;
      grown = record { top = C.grown.top ++ (v ∷ []); stacks = C.grown.stacks ∙ sym (append_assoc C.grown.top (v ∷ []) s.stack); new = λ x m. elim (Memᴰ.append_cases C.grown.top m) [ inl p ↦ C.grown.new x p | inr p ↦ ap s.mark (Memᴰ.eq_of_singleton p) ∙ C.was_fresh ] };
      newer = C.newer;
      from = C.from;
      back = λ x f o. (
          let l = C.sound.lowest v C.is_open in
          let h = C.sound.low_index v C.is_open in
          elim (was l.node l.is_open) [
            | inl g ↦ (let k = C.newer l.node g l.is_open in absurd (n (omega arith)))
            | inr p ↦ record { node = l.node; is_open = p.0; reached = reaches_trans (C.back x o) l.reached }
          ]);
      lows = λ x f o. (C.is_open, C.lows x f o);
      searched = searched;
    }

    module _ (r : t.low v ≡ t.index v) where
      unders : under v t.stack ≡ s.stack
      unders = ap (under v) C.grown.stacks ∙ under_is v C.grown.top s.stack C.apart

      batch : down_to v t.stack ≡ C.grown.top ++ (v ∷ [])
      batch = ap (down_to v) C.grown.stacks ∙ down_to_is v C.grown.top s.stack C.apart

      -- each node of the batch is new and open
      pub batch_new : (x : ℕ) → Memᴰ x (down_to v t.stack) → (s.mark x ≡ Fresh) × (t.mark x ≡ Open)
      batch_new x m = elim (Memᴰ.append_cases C.grown.top (subst (λ l. Memᴰ x l) batch m)) [
        | inl h ↦ (C.grown.new x h, C.sound.on_stack x (subst (λ l. Memᴰ x l) (sym C.grown.stacks) (Memᴰ.append_left (v ∷ s.stack) h)))
        | inr h ↦ (let q = Memᴰ.eq_of_singleton h in (ap s.mark q ∙ C.was_fresh, ap t.mark q ∙ C.is_open))
      ]

      -- each node that is new and open is of the batch
      pub new_batch : (x : ℕ) → s.mark x ≡ Fresh → t.mark x ≡ Open → Memᴰ x (down_to v t.stack)
      new_batch x f o = elim (Memᴰ.append_cases C.grown.top (subst (λ l. Memᴰ x l) C.grown.stacks (C.sound.stacked x o))) [
        | inl p ↦ subst (λ l. Memᴰ x l) (sym batch) (Memᴰ.append_left (v ∷ []) p)
        | inr p ↦ elim (Memᴰ.cases_cons p) [ inl q ↦ subst (λ l. Memᴰ x l) (sym batch) (Memᴰ.append_right C.grown.top (Memᴰ.head q)) | inr m ↦ absurd (open_not_fresh (R.sound.on_stack x m) f) ]
      ]

      -- the marks after: of the batch Closed, of others as they were
      pub after : (x : ℕ) → ((s.mark x ≡ Fresh) × (t.mark x ≡ Open) × ((close t v).mark x ≡ Closed)) ⊎ ((s.mark x ≡ Fresh → ¬ (t.mark x ≡ Open)) × ((close t v).mark x ≡ t.mark x))
      after x = elim (put_all_cases t.mark (down_to v t.stack) Closed x) [
        | inl p ↦ (let h = batch_new x p.0 in inl (h.0, h.1, p.1))
        | inr p ↦ inr ((λ f o. p.0 (new_batch x f o)), p.1)
      ]

      not_open : (x : ℕ) → s.mark x ≡ Fresh → ¬ ((close t v).mark x ≡ Open)
      not_open x f o = elim (after x) [ inl p ↦ closed_not_open p.2 o | inr p ↦ p.0 f (sym p.1 ∙ o) ]

      close_kept : Kept s (close t v)
      close_kept = record {
        marks = λ x n. elim (after x) [ inl p ↦ absurd (n p.0) | inr p ↦ p.1 ∙ C.kept.marks x n ];
        indices = C.kept.indices;
        lows = C.kept.lows;
      }

      -- an open node was open
      was_open : (x : ℕ) → (close t v).mark x ≡ Open → s.mark x ≡ Open
      was_open x o = elim (fresh? (s.mark x)) [ yes f ↦ absurd (not_open x f o) | no n ↦ sym (close_kept.marks x n) ∙ o ]

      still : (x : ℕ) → s.mark x ≡ Open → (close t v).mark x ≡ Open
      still x o = close_kept.marks x (open_not_fresh o) ∙ o

      stays_closed : (x : ℕ) → t.mark x ≡ Closed → (close t v).mark x ≡ Closed
      stays_closed x c = elim (after x) [ inl p ↦ p.2 | inr p ↦ p.1 ∙ c ]

      pub close_settled : (x y : ℕ) → (close t v).mark x ≡ Closed → Arrow arrows x y → (close t v).mark y ≡ Closed
      close_settled x y c a = elim (after x) [
        | inl p ↦ elim (searched x y p.0 p.1 a) [
          | inl k ↦ stays_closed y k
          | inr q ↦ elim (after y) [
            | inl h ↦ h.2
            | inr h ↦ elim (was y q.0) [
              | inl g ↦ absurd (h.0 g q.0)
              | inr k ↦ absurd (let l = C.lows x p.0 p.1 in let m = C.is_index in omega arith)
            ]
          ]
        ]
        | inr p ↦ stays_closed y (C.sound.settled x y (sym p.1 ∙ c) a)
      ]

      close_sound : Sound arrows (close t v)
      close_sound = record {
        stacked = λ x o. subst (λ l. Memᴰ x l) (sym unders) (R.sound.stacked x (was_open x o));
        on_stack = λ x m. still x (R.sound.on_stack x (subst (λ l. Memᴰ x l) unders m));
        below = λ x o. (let a = R.sound.below x (was_open x o) in let b = C.kept.indices x (open_not_fresh (was_open x o)) in let c = C.nexts in omega arith);
        low_index = λ x o. (let a = R.sound.low_index x (was_open x o) in let b = C.kept.indices x (open_not_fresh (was_open x o)) in let c = C.kept.lows x (open_not_fresh (was_open x o)) in omega arith);
        lowest = λ x o. (let l = R.sound.lowest x (was_open x o) in record { node = l.node; is_open = still l.node l.is_open; is_low = C.kept.indices l.node (open_not_fresh l.is_open) ∙ l.is_low ∙ sym (C.kept.lows x (open_not_fresh (was_open x o))); reached = l.reached });
        settled = close_settled;
      }

      pub pops_visited : Visited arrows s v (close t v)
      pops_visited = record {
        sound = close_sound;
        met = inr (elim (after v) [ inl p ↦ p.2 | inr p ↦ absurd (p.0 C.was_fresh C.is_open) ]);
        kept = close_kept;
        nexts = omega arith;
        grown = record { top = []; stacks = unders; new = λ x m. elim m [ ] };
        newer = λ x f o. absurd (not_open x f o);
        from = λ x f n. C.from x f (λ g. n (elim (after x) [ inl p ↦ absurd (open_not_fresh p.1 g) | inr p ↦ p.1 ∙ g ]));
        back = λ x f o. absurd (not_open x f o);
        lows = λ x f o. absurd (not_open x f o);
        searched = λ x y f o a. absurd (not_open x f o);
      }
