-- The steps on a lent stack are the steps of the search that it shows.
use Rattle.std.proofs.Common.{◌≡◌, ℕ, zero, suc, ◌-◌, ◌<◌, min, List, [], ◌∷◌, ◌++◌, Some, length, map, reverse, take, replicate, get_or, set, sym, refl, ap, ◌∙◌, arith, get_or-set_other, get_or-set_same}
use Rattle.std.proofs.lemmas.List.{map-append, reverse-append}
use Rattle.std.proofs.lemmas.Option.{slice_get_within, get_or_from_slice_get}
use Rattle.std.proofs.Math.Seq.{take-length, take-suc}
use Rattle.std.specs.List.{slice_get}
use native.Mathlib.Decide.{ℕ_discrete}
use Rattle.search.specs.declared.mark.Mark.{Mark}
use Rattle.search.specs.declared.mark.Mark.TheVariants.{Fresh, Open, Closed, Spoilt}
use Rattle.search.specs.declared.node.Node.{Node}
use Rattle.search.specs.declared.stack.Stack.{Stack}
use Rattle.search.specs.declared.stack.Visit.{Visit}
use Rattle.search.specs.Search.{Search, begin, put, enter, heed, lower}
use Rattle.search.specs.Stacks.{unvisited, blank, visit_at, downward, shown, pushed, lowered, popped, newest}
use Rattle.search.proofs.Basics.{put_at, put_else}

-- two searches with the same marks, indices, low marks, stack and next index
pub search_path : (s t : Search) → ((x : ℕ) → s.mark x ≡ t.mark x) → ((x : ℕ) → s.index x ≡ t.index x) → ((x : ℕ) → s.low x ≡ t.low x) → s.stack ≡ t.stack → s.next ≡ t.next → s ≡ t
search_path s t p q r k n = λ i. record { mark = λ x. p x i; index = λ x. q x i; low = λ x. r x i; stack = k i; next = n i }

pub shown_marks : (f g : ℕ → Mark) (m : Stack) → ((x : ℕ) → f x ≡ g x) → shown f m ≡ shown g m
shown_marks f g m p = search_path (shown f m) (shown g m) p (λ x. refl) (λ x. refl) refl refl

-- what is put where it stands changes nothing
put_same : {A : Type 0} (f : ℕ → A) (v x : ℕ) → put f v (f v) x ≡ f x
unfolding put
put_same f v x = grind arith

-- what f shows of a list, once an element is set
pub set_put : {A B : Type 0} (f : A → B) (l : List A) (d : A) (v : ℕ) (a : A) → v < length l → (x : ℕ) → f (get_or (set l v a) x d) ≡ put (λ y. f (get_or l y d)) v (f a) x
set_put f l d v a h x = elim (ℕ_discrete x v) [
  | yes e ↦ ap (λ y. f (get_or (set l v a) y d)) e ∙ ap f (get_or-set_same l v a d h) ∙ sym (put_at (λ y. f (get_or l y d)) v (f a) x e)
  | no n ↦ ap f (get_or-set_other l v x a d n) ∙ sym (put_else (λ y. f (get_or l y d)) v (f a) x n)
]

-- the last node of a list is the newest
downward_last : (l : List Node) (v : Node) → downward (l ++ v ∷ []) ≡ v.value ∷ downward l
downward_last l v = ap (λ (k : List ℕ). reverse k) (map-append (λ (x : Node). x.value) l (v ∷ [])) ∙ reverse-append (map (λ (x : Node). x.value) l) (v.value ∷ [])

pub shown_enter : (f g : ℕ → Mark) (m : Stack) (v : Node) → ((x : ℕ) → g x ≡ put f v.value Open x) → length m.visits ≡ 32 → shown g (pushed m v) ≡ enter (shown f m) v.value
shown_enter f g m v M a =
    let visit : Visit = record { index = m.next; low = m.next } in
    search_path (shown g (pushed m v)) (enter (shown f m) v.value)
    M
    (set_put (λ (x : Visit). x.index) m.visits unvisited v.value visit (omega (arith, v.below)))
    (set_put (λ (x : Visit). x.low) m.visits unvisited v.value visit (omega (arith, v.below)))
    (downward_last m.nodes.items v)
    refl

pub shown_lower : (f : ℕ → Mark) (m : Stack) (v w : ℕ) → v < length m.visits → f w ≡ Open → shown f (lowered m v w) ≡ lower (shown f m) v w
unfolding heed
shown_lower f m v w h o =
    let visit : Visit = record { index = (visit_at m v).index; low = min (visit_at m v).low (visit_at m w).low } in
    search_path (shown f (lowered m v w)) (lower (shown f m) v w)
    (λ x. refl)
    (λ x. set_put (λ (z : Visit). z.index) m.visits unvisited v visit h x ∙ put_same (λ y. (visit_at m y).index) v x)
    (rw o (set_put (λ (x : Visit). x.low) m.visits unvisited v visit h))
    refl
    refl

-- an arrow to a node that is not open lowers nothing
pub lower_none : (s : Search) (v w : ℕ) → ¬ (s.mark w ≡ Open) → s ≡ lower s v w
unfolding heed
lower_none s v w n = search_path s (lower s v w) (λ x. refl) (λ x. refl) (λ x. elim (ℕ_discrete x v) [ yes e ↦ ap s.low e ∙ sym (kept (s.mark w) n) ∙ sym (put_at s.low v (heed (s.mark w) (s.low v) (s.low w)) x e) | no k ↦ sym (put_else s.low v (heed (s.mark w) (s.low v) (s.low w)) x k) ]) refl refl
  where
    kept : (k : Mark) → ¬ (k ≡ Open) → heed k (s.low v) (s.low w) ≡ s.low v
    kept Fresh z = refl
    kept Open z = absurd (z refl)
    kept Closed z = refl
    kept Spoilt z = refl

-- all but the last element, and the last
but_last : {A : Type 0} (l : List A) (x : A) → slice_get l (length l - 1) ≡ Some x → l ≡ take (length l - 1) l ++ x ∷ []
but_last l x e =
    let h : length l - 1 < length l = slice_get_within l (length l - 1) x e in
    let s : length l ≡ suc (length l - 1) = omega (arith, h) in
    sym (take-length l) ∙ ap (λ n. take n l) s ∙ take-suc l (length l - 1) x h ∙ ap (λ y. take (length l - 1) l ++ y ∷ []) (get_or_from_slice_get l (length l - 1) x x e)

-- the newest node stands on the others
pub newest_first : (m : Stack) (x : Node) → newest m ≡ Some x → downward m.nodes.items ≡ x.value ∷ downward (popped m).nodes.items
newest_first m x e = ap downward (but_last m.nodes.items x e) ∙ downward_last (popped m).nodes.items x

-- the search with x, which is the newest, finished and popped
abbrev pub off_stack : Search → ℕ → List ℕ → Search
off_stack s x r = record { mark = put s.mark x Closed; index = s.index; low = s.low; stack = r; next = s.next }

pub shown_off : (f g : ℕ → Mark) (m : Stack) (x : ℕ) → ((y : ℕ) → g y ≡ put f x Closed y) → shown g (popped m) ≡ off_stack (shown f m) x (downward (popped m).nodes.items)
shown_off f g m x M = search_path (shown g (popped m)) (off_stack (shown f m) x (downward (popped m).nodes.items)) M (λ y. refl) (λ y. refl) refl refl

-- where each element is the default, each read gives it
pub get_or-replicate_same : {A : Type 0} (a : A) (n x : ℕ) → get_or (replicate n a) x a ≡ a
get_or-replicate_same a zero x = refl
get_or-replicate_same a (suc n) zero = refl
get_or-replicate_same a (suc n) (suc x) = get_or-replicate_same a n x

-- a blank stack shows a search that begins
pub shown_blank : (f : ℕ → Mark) → shown f blank ≡ begin f
shown_blank f = search_path (shown f blank) (begin f) (λ x. refl) (λ x. ap (λ (v : Visit). v.index) (get_or-replicate_same unvisited 32 x)) (λ x. ap (λ (v : Visit). v.low) (get_or-replicate_same unvisited 32 x)) refl refl
