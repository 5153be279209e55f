-- The stack is popped one node at a time.
use Rattle.std.proofs.Common.{◌≡◌, ℕ, ◌-◌, ◌≤◌, List, [], ◌∷◌, Some, None, length, get_or, sym, refl, ap, ◌∙◌, subst, inl, inr, arith}
use mathlib.Core.Path.{subst⁻¹}
use mathlib.Core.List.Memᴰ
use mathlib.Core.List.{Memᴰ}
use native.Mathlib.Decide.{ℕ_discrete}
use Rattle.std.proofs.lemmas.List.{length-take}
use Rattle.std.proofs.lemmas.Option.{slice_get-get_or}
use Rattle.std.specs.List.{slice_get}
use Rattle.search.specs.declared.mark.Mark.{Mark}
use Rattle.search.specs.declared.mark.Mark.TheVariants.{Fresh, Open, Closed}
use Rattle.search.specs.declared.node.Node.{Node}
use Rattle.search.specs.declared.stack.Stack.{Stack}
use Rattle.search.specs.Search.{Search, put, down_to, under, put_all, close, Deeds, Finishes, no_more, then_more}
use Rattle.search.specs.Laws.{Once}
use Rattle.search.specs.Stacks.{downward, shown, popped, newest, Room, Stacked}
use Rattle.search.proofs.Basics.{put_at, put_else, closed_not_fresh}
use Rattle.search.proofs.Counting.{room_kept}
use Rattle.search.proofs.Shown.{search_path, newest_first, off_stack, shown_off}
use Rattle.search.proofs.Stacking.{once_first, once_rest}

put_all_in : (f : ℕ → Mark) (l : List ℕ) (x y : ℕ) → put_all f (x ∷ l) Closed y ≡ put_all (put f x Closed) l Closed y
unfolding put_all put
put_all_in f [] x y = refl
put_all_in f (z ∷ l) x y = (let h = put_all_in f l x y in grind arith)

down_to_other : (v x : ℕ) (r : List ℕ) → ¬ (x ≡ v) → down_to v (x ∷ r) ≡ x ∷ down_to v r
unfolding down_to
down_to_other v x r n = grind arith

down_to_same : (v : ℕ) (r : List ℕ) → down_to v (v ∷ r) ≡ v ∷ []
unfolding down_to
down_to_same v r = grind arith

under_other : (v x : ℕ) (r : List ℕ) → ¬ (x ≡ v) → under v (x ∷ r) ≡ under v r
unfolding under
under_other v x r n = grind arith

under_same : (v : ℕ) (r : List ℕ) → under v (v ∷ r) ≡ r
unfolding under
under_same v r = grind arith

end_marks : (f : ℕ → Mark) (v y : ℕ) → put_all f (v ∷ []) Closed y ≡ put f v Closed y
unfolding put_all
end_marks f v y = refl

-- one node more is popped, or the last
close_more : (s : Search) (v x : ℕ) (r : List ℕ) → s.stack ≡ x ∷ r → ¬ (x ≡ v) → close (off_stack s x r) v ≡ close s v
close_more s v x r e n = sym (search_path (close s v) (close (off_stack s x r) v) (λ y. ap (λ l. put_all s.mark l Closed y) (ap (down_to v) e ∙ down_to_other v x r n) ∙ put_all_in s.mark (down_to v r) x y) (λ y. refl) (λ y. refl) (ap (under v) e ∙ under_other v x r n) refl)

close_end : (s : Search) (v : ℕ) (r : List ℕ) → s.stack ≡ v ∷ r → off_stack s v r ≡ close s v
close_end s v r e = sym (search_path (close s v) (off_stack s v r) (λ y. ap (λ l. put_all s.mark l Closed y) (ap (down_to v) e ∙ down_to_same v r) ∙ end_marks s.mark v y) (λ y. refl) (λ y. refl) (ap (under v) e ∙ under_same v r) refl)

-- without the newest node
off_stacked : (s : Search) (x : ℕ) (r : List ℕ) → s.stack ≡ x ∷ r → Stacked s → Stacked (off_stack s x r)
off_stacked s x r e S =
    let o = subst (λ l. Once l) e S.once in
    record {
      each_open = λ y m. put_else s.mark x Closed y (λ q. once_first o (subst (λ z. Memᴰ z r) q m)) ∙ S.each_open y (subst⁻¹ (λ l. Memᴰ y l) e (Memᴰ.tail m));
      once = once_rest o;
    }

-- what stands while the stack of s0 is popped through v: the search has come to s, and the state from a0 to a
pub record Popping {S F : Type 0} (D : Deeds S F) (v : ℕ) (s0 : Search) (a0 : S) (s : Search) (a : S) : Type 0 where
  pub within : Memᴰ v s.stack
  pub same : close s v ≡ close s0 v
  pub rest : (b : S) → Finishes D s0 v (down_to v s.stack) a b → Finishes D s0 v (down_to v s0.stack) a0 b

module _ {S F : Type 0} {D : Deeds S F} {v : ℕ} {s0 : Search} {a0 : S} where
  pub popping_more : {s : Search} {a : S} {x : ℕ} {r : List ℕ} {b : S} → Popping D v s0 a0 s a → s.stack ≡ x ∷ r → ¬ (x ≡ v) → D.closes s0 a x v b → Popping D v s0 a0 (off_stack s x r) b
  popping_more {s} {a} {x} {r} {b} P e n d = record {
    within = elim (Memᴰ.cases_cons (subst (λ l. Memᴰ v l) e P.within)) [ inl q ↦ absurd (n (sym q)) | inr q ↦ q ];
    same = close_more s v x r e n ∙ P.same;
    rest = λ c k. P.rest c (subst⁻¹ (λ l. Finishes D s0 v l a c) (ap (down_to v) e ∙ down_to_other v x r n) (then_more d k));
  }

  pub popping_ends : {s : Search} {a : S} {r : List ℕ} {b : S} → Popping D v s0 a0 s a → s.stack ≡ v ∷ r → D.closes s0 a v v b → Finishes D s0 v (down_to v s0.stack) a0 b × (off_stack s v r ≡ close s0 v)
  popping_ends {s} {a} {r} {b} P e d = (P.rest b (subst⁻¹ (λ l. Finishes D s0 v l a b) (ap (down_to v) e ∙ down_to_same v r) (then_more d no_more)), close_end s v r e ∙ P.same)

none_newest : (l : List Node) → slice_get l (length l - 1) ≡ None → l ≡ []
none_newest [] e = refl
none_newest (x ∷ l) e = let h : slice_get (x ∷ l) (length (x ∷ l) - 1) ≡ Some (get_or (x ∷ l) (length (x ∷ l) - 1) x) = slice_get-get_or (x ∷ l) (length (x ∷ l) - 1) x (omega arith) in grind arith

-- on a lent stack m with the marks f
module _ (f : ℕ → Mark) (m : Stack) where
  -- there is a newest node while v is on the stack
  pub pop_some : {v : ℕ} → Memᴰ v (shown f m).stack → ¬ (newest m ≡ None)
  pop_some {v} h e = elim (subst (λ l. Memᴰ v (downward l)) (none_newest m.nodes.items e) h) [ ]

  -- the newest node is x, and is open
  module _ (x : Node) (q : newest m ≡ Some x) (ok : Stacked (shown f m)) where
    pub pop_open : f x.value ≡ Open
    pop_open = ok.each_open x.value (subst⁻¹ (λ l. Memᴰ x.value l) (newest_first m x q) (Memᴰ.head refl))

    -- it is taken off and closed, and m1 and g are left
    module _ (m1 : Stack) (e : m1 ≡ popped m) (g : ℕ → Mark) (M : (y : ℕ) → g y ≡ put f x.value Closed y) where
      shown_is : shown g m1 ≡ off_stack (shown f m) x.value (downward (popped m).nodes.items)
      shown_is = ap (shown g) e ∙ shown_off f g m x.value M

      pub pop_stacked : Stacked (shown g m1)
      pop_stacked = subst⁻¹ (λ (s : Search). Stacked s) shown_is (off_stacked (shown f m) x.value (downward (popped m).nodes.items) (newest_first m x q) ok)

      pub pop_room : Room f m → Room g m1
      pop_room R = room_kept f g m m1 met fewer (ap (λ (n : Stack). n.next) e) R
        where
          met : (y : ℕ) → ¬ (f y ≡ Fresh) → ¬ (g y ≡ Fresh)
          met y n z = elim (ℕ_discrete y x.value) [ yes w ↦ closed_not_fresh (M y ∙ put_at f x.value Closed y w) z | no w ↦ n (sym (put_else f x.value Closed y w) ∙ sym (M y) ∙ z) ]

          fewer : length m1.nodes.items ≤ length m.nodes.items
          fewer = let h = ap (λ (n : Stack). length n.nodes.items) e ∙ length-take (length m.nodes.items - 1) m.nodes.items in omega (arith, h)

      -- so it goes on, or ends with v
      module _ {K S F : Type 0} (deeds : K → Deeds S F) {k0 k : K} {v : ℕ} {s0 : Search} {a0 a b : S} (P : Popping (deeds k0) v s0 a0 (shown f m) a) (r : k ≡ k0) (d : (s : Search) → (deeds k).closes s a x.value v b) where
        closes_it : (deeds k0).closes s0 a x.value v b
        closes_it = subst (λ z. (deeds z).closes s0 a x.value v b) r (d s0)

        pub pop_more : ¬ (x.value ≡ v) → Popping (deeds k0) v s0 a0 (shown g m1) b
        pop_more n = subst⁻¹ (λ z. Popping (deeds k0) v s0 a0 z b) shown_is (popping_more P (newest_first m x q) n closes_it)

        pub pop_last : x.value ≡ v → Finishes (deeds k0) s0 v (down_to v s0.stack) a0 b × (shown g m1 ≡ close s0 v)
        pop_last n =
            let E = popping_ends P (newest_first m x q ∙ ap (λ y. y ∷ downward (popped m).nodes.items) n) (subst (λ y. (deeds k0).closes s0 a y v b) n closes_it) in
            (E.0, shown_is ∙ ap (λ y. off_stack (shown f m) y (downward (popped m).nodes.items)) n ∙ E.1)
