-- An action is done once at each node that is new, and at no other.
use Rattle.std.proofs.Common.{◌≡◌, ℕ, List, [], ◌∷◌, ◌++◌, Ok, Err, Result, sym, refl, ap, ◌∙◌, inl, inr}
use mathlib.Core.List.Memᴰ
use mathlib.Core.List.{Memᴰ}
use native.Mathlib.Decide.{ℕ_discrete}
use Rattle.search.specs.declared.mark.Mark.TheVariants.{Fresh, Open}
use Rattle.search.specs.Search.{Search, enter, down_to, close, Deeds, Finishes, no_more, then_more, Visits, passes_open, passes_closed, stays, pops, Upto, start, further, Faults, hands_on, here, inside, Ends}
use Rattle.search.specs.Laws.{Once, none, one_more, Acts, nothing, action, finish, Acted, Cause, by_action, handed_on, ActedBeforeFault, ActionsAreDoneOnceAtNewNodes}
use Rattle.search.proofs.Basics.{put_here, put_at, put_else, open_not_fresh, closed_not_fresh, fresh?}
use Rattle.search.proofs.Invariants.{Ready, Scanning}
use Rattle.search.proofs.Entering.{enters}
use Rattle.search.proofs.Scanning.{readies}
use Rattle.search.proofs.Leaving.{after}
use Rattle.search.proofs.Visiting.{visits, upto, scanned, fault_kept}
use Rattle.search.proofs.Preserving.{visits_preserve, upto_preserve, StaysMet, met_preserved, WasSpoilt, spoilt_preserved}
use Rattle.search.proofs.Lawful.{rest_ready}

once_append : {l m : List ℕ} → Once l → Once m → ((x : ℕ) → Memᴰ x l → Memᴰ x m → ⊥) → Once (l ++ m)
once_append none q d = q
once_append {l = x ∷ l} (one_more n p) q d = one_more (λ h. elim (Memᴰ.append_cases l h) [ inl k ↦ n k | inr k ↦ d x (Memᴰ.head refl) k ]) (once_append p q (λ y a b. d y (Memᴰ.tail a) b))

module _ {S F : Type 0} {D : Deeds S F} where
  acts_append : {a b c : S} {l m : List ℕ} → Acts D a l b → Acts D b m c → Acts D a (l ++ m) c
  acts_append nothing q = q
  acts_append (action s d p) q = action s d (acts_append p q)
  acts_append (finish s d p) q = finish s d (acts_append p q)

  -- nodes are finished with no action
  finishes_acts : {s : Search} {v : ℕ} {l : List ℕ} {a b c : S} {m : List ℕ} → Finishes D s v l a b → Acts D b m c → Acts D a m c
  finishes_acts no_more q = q
  finishes_acts {s = s} (then_more d k) q = finish s d (finishes_acts k q)

  acts_finishes : {s : Search} {v : ℕ} {l m : List ℕ} {a b c : S} → Acts D a m b → Finishes D s v l b c → Acts D a m c
  acts_finishes nothing k = finishes_acts k nothing
  acts_finishes (action s d p) k = action s d (acts_finishes p k)
  acts_finishes (finish s d p) k = finish s d (acts_finishes p k)

-- the actions of a list led from s and a to t and b, at the nodes that are new in s and not in t
pub record Doing {S F : Type 0} (D : Deeds S F) (s : Search) (a : S) (t : Search) (b : S) : Type 0 where
  pub nodes : List ℕ
  pub chain : Acts D a nodes b
  pub once : Once nodes
  pub were_new : (x : ℕ) → Memᴰ x nodes → s.mark x ≡ Fresh
  pub are_met : (x : ℕ) → Memᴰ x nodes → ¬ (t.mark x ≡ Fresh)
  pub all : (x : ℕ) → s.mark x ≡ Fresh → ¬ (t.mark x ≡ Fresh) → Memᴰ x nodes

module _ {S F : Type 0} {D : Deeds S F} where
  no_actions : {s : Search} {a : S} → Doing D s a s a
  no_actions = record { nodes = []; chain = nothing; once = none; were_new = λ x m. elim m [ ]; are_met = λ x m. elim m [ ]; all = λ x f n. absurd (n f) }

  -- one after another, where what is not new stays so
  joined : {s : Search} {a : S} {t : Search} {b : S} {u : Search} {c : S} → Doing D s a t b → Doing D t b u c → ((x : ℕ) → ¬ (s.mark x ≡ Fresh) → ¬ (t.mark x ≡ Fresh)) → ((x : ℕ) → ¬ (t.mark x ≡ Fresh) → ¬ (u.mark x ≡ Fresh)) → Doing D s a u c
  joined {s} {t = t} A B K L = record {
    nodes = A.nodes ++ B.nodes;
    chain = acts_append A.chain B.chain;
    once = once_append A.once B.once (λ x m n. A.are_met x m (B.were_new x n));
    were_new = λ x m. elim (Memᴰ.append_cases A.nodes m) [ inl p ↦ A.were_new x p | inr p ↦ elim (fresh? (s.mark x)) [ yes f ↦ f | no n ↦ absurd (K x n (B.were_new x p)) ] ];
    are_met = λ x m. elim (Memᴰ.append_cases A.nodes m) [ inl p ↦ L x (A.are_met x p) | inr p ↦ B.are_met x p ];
    all = λ x f n. elim (fresh? (t.mark x)) [ yes g ↦ Memᴰ.append_right A.nodes (B.all x g n) | no h ↦ Memᴰ.append_left B.nodes (A.all x f h) ];
  }

  -- v has been entered, others have acted, and then v
  acts_last : {s : Search} {a : S} {v : ℕ} {t : Search} {b c : S} → Doing D (enter s v) a t b → s.mark v ≡ Fresh → ¬ (t.mark v ≡ Fresh) → D.acts t b v c → Doing D s a t c
  acts_last {s} {v = v} {t = t} A f n d = record {
    nodes = A.nodes ++ (v ∷ []);
    chain = acts_append A.chain (action t d nothing);
    once = once_append A.once (one_more (λ m. elim m [ ]) none) (λ x m k. before x m (Memᴰ.eq_of_singleton k));
    were_new = λ x m. elim (Memᴰ.append_cases A.nodes m) [ inl p ↦ sym (put_else s.mark v Open x (before x p)) ∙ A.were_new x p | inr p ↦ ap s.mark (Memᴰ.eq_of_singleton p) ∙ f ];
    are_met = λ x m g. elim (Memᴰ.append_cases A.nodes m) [ inl p ↦ A.are_met x p g | inr p ↦ n (sym (ap t.mark (Memᴰ.eq_of_singleton p)) ∙ g) ];
    all = λ x g k. elim (ℕ_discrete x v) [ yes q ↦ Memᴰ.append_right A.nodes (Memᴰ.head q) | no q ↦ Memᴰ.append_left (v ∷ []) (A.all x (put_else s.mark v Open x q ∙ g) k) ];
  }
    where
      before : (x : ℕ) → Memᴰ x A.nodes → ¬ (x ≡ v)
      before x m q = open_not_fresh (put_at s.mark v Open x q) (A.were_new x m)

  -- nodes are finished, and none is new that was not
  closed_after : {s : Search} {a : S} {v : ℕ} {t : Search} {c d : S} → Doing D s a t c → Finishes D t v (down_to v t.stack) c d → ((x : ℕ) → (close t v).mark x ≡ Fresh → t.mark x ≡ Fresh) → ((x : ℕ) → t.mark x ≡ Fresh → (close t v).mark x ≡ Fresh) → Doing D s a (close t v) d
  closed_after A k P Q = record { nodes = A.nodes; chain = acts_finishes A.chain k; once = A.once; were_new = A.were_new; are_met = λ x m g. A.are_met x m (P x g); all = λ x f n. A.all x f (λ g. n (Q x g)) }

module _ {arrows : ℕ → List ℕ} {S F : Type 0} {D : Deeds S F} where
  mutual
    pub doing : {s : Search} {a : S} {v : ℕ} {t : Search} {b : S} → Visits arrows D s a v t b → Ready arrows s v → Doing D s a t b
    doing (passes_open o) R = no_actions
    doing (passes_closed c) R = no_actions
    doing {s} {v = v} (stays f u e d n) R = acts_last (doing_upto u (enters s v f R)) f (open_not_fresh (scanned R f u).is_open) d
    doing {s} {v = v} (pops f u e d r k) R =
        let C = scanned R f u in
        closed_after (acts_last (doing_upto u (enters s v f R)) f (open_not_fresh C.is_open) d) k
        (λ x g. elim (after R C e r x) [ inl p ↦ absurd (closed_not_fresh p.2 g) | inr p ↦ sym p.1 ∙ g ])
        (λ x g. elim (after R C e r x) [ inl p ↦ absurd (open_not_fresh p.1 g) | inr p ↦ p.1 ∙ g ])

    pub doing_upto : {s0 s : Search} {v : ℕ} {a : S} {i : ℕ} {t : Search} {b : S} → Upto arrows D s a v i t b → Scanning arrows s0 v 0 s → Doing D s a t b
    doing_upto start C = no_actions
    doing_upto (further u e V) C =
        let R = readies (upto u C) e in
        let A = joined (doing_upto u C) (doing V R) (upto_preserve StaysMet met_preserved u) (visits_preserve StaysMet met_preserved V) in
        record { nodes = A.nodes; chain = A.chain; once = A.once; were_new = A.were_new; are_met = A.are_met; all = A.all }

  pub acted : {s : Search} {a : S} {v : ℕ} {t : Search} {b : S} → Visits arrows D s a v t b → Ready arrows s v → (nodes : List ℕ) × Acted D s a t b nodes
  acted {s} {t = t} V R =
      let A = doing V R in
      let K = (visits V R).kept in (
        A.nodes,
        record {
          chain = A.chain;
          once = A.once;
          new = λ x. ((λ m. (A.were_new x m, A.are_met x m)), (λ p. A.all x p.0 p.1));
          untouched = λ x m. elim (fresh? (s.mark x)) [
            | yes f ↦ elim (fresh? (t.mark x)) [ yes g ↦ g ∙ sym f | no n ↦ absurd (m (A.all x f n)) ]
            | no n ↦ K.marks x n
          ];
        },
      )

-- the actions before a fault, where a new node that did not act is open
pub record DoingBefore {S F : Type 0} (D : Deeds S F) (s : Search) (a : S) (t : Search) (b : S) (n : ℕ) (e : F) : Type 0 where
  pub nodes : List ℕ
  pub last : S
  pub chain : Acts D a nodes last
  pub cause : Cause D s nodes last n b e
  pub once : Once nodes
  pub were_new : (x : ℕ) → Memᴰ x nodes → s.mark x ≡ Fresh
  pub are_met : (x : ℕ) → Memᴰ x nodes → ¬ (t.mark x ≡ Fresh)
  pub others : (x : ℕ) → s.mark x ≡ Fresh → ¬ (t.mark x ≡ Fresh) → ¬ Memᴰ x nodes → t.mark x ≡ Open

module _ {S F : Type 0} {D : Deeds S F} where
  -- after some have acted, one more visit ends in a fault
  joined_before : {s : Search} {a : S} {t : Search} {b : S} {u : Search} {c : S} {n : ℕ} {e : F} → Doing D s a t b → DoingBefore D t b u c n e → StaysMet s t → WasSpoilt s t → ((x : ℕ) → ¬ (t.mark x ≡ Fresh) → ¬ (u.mark x ≡ Fresh)) → DoingBefore D s a u c n e
  joined_before {s} {t = t} {c = c} {n = n} {e = e} A B K M L = record {
    nodes = A.nodes ++ B.nodes;
    last = B.last;
    chain = acts_append A.chain B.chain;
    cause = cause B.cause;
    once = once_append A.once B.once (λ x m k. A.are_met x m (B.were_new x k));
    were_new = λ x m. elim (Memᴰ.append_cases A.nodes m) [ inl p ↦ A.were_new x p | inr p ↦ was x (B.were_new x p) ];
    are_met = λ x m. elim (Memᴰ.append_cases A.nodes m) [ inl p ↦ L x (A.are_met x p) | inr p ↦ B.are_met x p ];
    others = λ x f k m. elim (fresh? (t.mark x)) [ yes g ↦ B.others x g k (λ p. m (Memᴰ.append_right A.nodes p)) | no h ↦ absurd (m (Memᴰ.append_left B.nodes (A.all x f h))) ];
  }
    where
      was : (x : ℕ) → t.mark x ≡ Fresh → s.mark x ≡ Fresh
      was x f = elim (fresh? (s.mark x)) [ yes g ↦ g | no k ↦ absurd (K x k f) ]

      cause : Cause D t B.nodes B.last n c e → Cause D s (A.nodes ++ B.nodes) B.last n c e
      cause (by_action u h f m) = by_action u h (was n f) (λ x. elim (Memᴰ.append_cases A.nodes x) [ inl p ↦ A.are_met n p f | inr p ↦ m p ])
      cause (handed_on u h f q) = handed_on u h (M n f) q

  -- v has been entered, and does not act; it is open at the end
  entered_before : {s : Search} {a : S} {v : ℕ} {t : Search} {b : S} {n : ℕ} {e : F} → DoingBefore D (enter s v) a t b n e → s.mark v ≡ Fresh → t.mark v ≡ Open → DoingBefore D s a t b n e
  entered_before {s} {v = v} {t = t} {b = b} {n = n} {e = e} A f o = record {
    nodes = A.nodes;
    last = A.last;
    chain = A.chain;
    cause = cause A.cause;
    once = A.once;
    were_new = λ x m. was x (A.were_new x m);
    are_met = A.are_met;
    others = λ x g k m. elim (ℕ_discrete x v) [ yes q ↦ ap t.mark q ∙ o | no q ↦ A.others x (put_else s.mark v Open x q ∙ g) k m ];
  }
    where
      was : (x : ℕ) → (enter s v).mark x ≡ Fresh → s.mark x ≡ Fresh
      was x g = elim (ℕ_discrete x v) [ yes q ↦ ap s.mark q ∙ f | no q ↦ sym (put_else s.mark v Open x q) ∙ g ]

      cause : Cause D (enter s v) A.nodes A.last n b e → Cause D s A.nodes A.last n b e
      cause (by_action u h g m) = by_action u h (was n g) m
      cause (handed_on u h g q) = handed_on u h (spoilt_preserved.entering s v f n g) q

module _ {arrows : ℕ → List ℕ} {S F : Type 0} {D : Deeds S F} where
  doing_before : {s : Search} {a : S} {v : ℕ} {t : Search} {b : S} {n : ℕ} {e : F} → Faults arrows D s a v t b n e → Ready arrows s v → DoingBefore D s a t b n e
  doing_before {s} {a} (hands_on m h) R = record { nodes = []; last = a; chain = nothing; cause = handed_on s h m refl; once = none; were_new = λ x p. elim p [ ]; are_met = λ x p. elim p [ ]; others = λ x f k p. absurd (k f) }
  doing_before {s} {v = v} (here {t = t} {b = b} f u q h) R =
      let A = doing_upto u (enters s v f R) in
      record {
        nodes = A.nodes;
        last = b;
        chain = A.chain;
        cause = by_action t h f (λ m. open_not_fresh (put_here s.mark v Open) (A.were_new v m));
        once = A.once;
        were_new = λ x m. elim (ℕ_discrete x v) [ yes r ↦ ap s.mark r ∙ f | no r ↦ sym (put_else s.mark v Open x r) ∙ A.were_new x m ];
        are_met = A.are_met;
        others = λ x g k m. elim (ℕ_discrete x v) [ yes r ↦ ap t.mark r ∙ (scanned R f u).is_open | no r ↦ absurd (m (A.all x (put_else s.mark v Open x r ∙ g) k)) ];
      }
  doing_before {s} {v = v} (inside f u q h) R =
      let C = scanned R f u in
      let Q = readies C q in
      let K = fault_kept h Q in
      entered_before
      (joined_before (doing_upto u (enters s v f R)) (doing_before h Q) (upto_preserve StaysMet met_preserved u) (upto_preserve WasSpoilt spoilt_preserved u) (λ x k g. k (sym (K x k) ∙ g)))
      f (K v (open_not_fresh C.is_open) ∙ C.is_open)

  pub acted_before : {s : Search} {a : S} {v : ℕ} {t : Search} {b : S} {n : ℕ} {e : F} → Faults arrows D s a v t b n e → Ready arrows s v → (nodes : List ℕ) × ActedBeforeFault D s a t b n e nodes
  acted_before V R =
      let A = doing_before V R in
      (A.nodes, record { last = A.last; chain = A.chain; cause = A.cause; once = A.once; new = λ x m. (A.were_new x m, A.are_met x m); others = A.others; untouched = fault_kept V R })

module _ (arrows : ℕ → List ℕ) {S F : Type 0} (D : Deeds S F) (s : Search) (a : S) (v : ℕ) (t : Search) (b : S) where
  pub actions_once : (r : Result (Unit {0}) F) → Ends arrows D s a v t b r → ActionsAreDoneOnceAtNewNodes arrows D s a v t b r
  actions_once (Ok x) V R = acted V (rest_ready v R)
  actions_once (Err e) V R = λ n h. acted_before h (rest_ready v R)
