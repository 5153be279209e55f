-- What stands when a node has been entered.
use Rattle.std.proofs.Common.{◌≡◌, ℕ, ◌⊎◌, List, [], sym, refl, ap, ◌∙◌, subst, inl, inr, arith}
use mathlib.Core.List.Memᴰ
use native.Mathlib.Decide.{ℕ_discrete}
use Rattle.search.specs.declared.mark.Mark.TheVariants.{Fresh, Open, Closed}
use Rattle.search.specs.Graph.{Reaches, itself}
use Rattle.search.specs.Search.{Search, put, enter}
use Rattle.search.proofs.Basics.{put_here, put_at, put_else}
use Rattle.search.proofs.Invariants.{Kept, Lowest, Sound, Ready, Scanning}

module _ (s : Search) (v : ℕ) (f : s.mark v ≡ Fresh) where
  kept_enter : Kept s (enter s v)
  kept_enter = record {
    marks = λ x n. put_else s.mark v Open x (λ e. n (ap s.mark e ∙ f));
    indices = λ x n. put_else s.index v s.next x (λ e. n (ap s.mark e ∙ f));
    lows = λ x n. put_else s.low v s.next x (λ e. n (ap s.mark e ∙ f));
  }

  -- an open node is v, or was open
  opened_cases : (x : ℕ) → (enter s v).mark x ≡ Open → (x ≡ v) ⊎ ((¬ (x ≡ v)) × (s.mark x ≡ Open))
  opened_cases x o = elim (ℕ_discrete x v) [ yes e ↦ inl e | no n ↦ inr (n, sym (put_else s.mark v Open x n) ∙ o) ]

  closed_was : (x : ℕ) → (enter s v).mark x ≡ Closed → s.mark x ≡ Closed
  closed_was x c = elim (ℕ_discrete x v) [ yes e ↦ (let h = put_at s.mark v Open x e in grind arith) | no n ↦ sym (put_else s.mark v Open x n) ∙ c ]

  not_fresh : (x : ℕ) → s.mark x ≡ Open → ¬ (s.mark x ≡ Fresh)
  not_fresh x o g = grind arith

  module _ {arrows : ℕ → List ℕ} where
    enters_lowest : (x : ℕ) → (s.mark x ≡ Open → Lowest arrows s x) → (enter s v).mark x ≡ Open → Lowest arrows (enter s v) x
    enters_lowest x L o = elim (opened_cases x o) [
      | inl e ↦ record { node = x; is_open = o; is_low = put_at s.index v s.next x e ∙ sym (put_at s.low v s.next x e); reached = itself }
      | inr p ↦
          let l = L p.1 in
          let n = not_fresh l.node l.is_open in
          record { node = l.node; is_open = kept_enter.marks l.node n ∙ l.is_open; is_low = kept_enter.indices l.node n ∙ l.is_low ∙ sym (kept_enter.lows x (not_fresh x p.1)); reached = l.reached }
    ]

    enters_sound : Sound arrows s → Sound arrows (enter s v)
    unfolding put
    enters_sound S = record {
      stacked = λ x o. elim (opened_cases x o) [ inl e ↦ Memᴰ.head e | inr p ↦ Memᴰ.tail (S.stacked x p.1) ];
      on_stack = λ x m. elim (Memᴰ.cases_cons m) [ inl e ↦ put_at s.mark v Open x e | inr m' ↦ (let h = S.on_stack x m' in grind arith) ];
      below = λ x o. (let h = S.below x in grind arith);
      low_index = λ x o. (let h = S.low_index x in grind arith);
      lowest = λ x o. enters_lowest x (S.lowest x) o;
      settled = λ x y c a. (let h = S.settled x y (closed_was x c) a in grind arith);
    }

    pub enters : Ready arrows s v → Scanning arrows s v 0 (enter s v)
    unfolding put
    enters R = record {
      sound = enters_sound R.sound;
      was_fresh = f;
      is_open = put_here s.mark v Open;
      is_index = put_here s.index v s.next;
      kept = kept_enter;
      nexts = omega arith;
      grown = record { top = []; stacks = refl; new = λ x m. elim m [ ] };
      apart = λ x m. elim m [ ];
      newer = λ x g o. grind arith;
      from = λ x g n. elim (ℕ_discrete x v) [ yes e ↦ subst (λ y. Reaches arrows v y) (sym e) itself | no m ↦ absurd (n (put_else s.mark v Open x m ∙ g)) ];
      back = λ x o. elim (opened_cases x o) [ inl e ↦ subst (λ y. Reaches arrows y v) (sym e) itself | inr p ↦ R.back x p.1 ];
      lows = λ x g o. grind arith;
      searched = λ x y g n o a. (let z : ◌≡◌ {A = ℕ} 0 1 = grind arith in absurd (grind arith));
      seen = λ j y e l. absurd (omega arith);
    }
