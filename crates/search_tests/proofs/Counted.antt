-- A search that counts at each action has counted once each node that its root reaches.
use Rattle.std.proofs.Common.{◌≡◌, ℕ, ◌+◌, ◌%◌, ◌<◌, List, length, get_or, set, replicate, sym, refl, ap, ◌∙◌, subst, inl, inr, arith, length-set, get_or-set_other, get_or-set_same}
use mathlib.Core.List.Memᴰ
use mathlib.Core.List.{Memᴰ}
use Rattle.search.specs.declared.mark.Mark.TheVariants.{Fresh}
use Rattle.search.specs.Search.{Search, begin}
use Rattle.search.specs.Laws.{Once, one_more, Acts, nothing, action, finish, Acted, AtRest, FinishedWithAllItReaches}
use Rattle.search.proofs.Basics.{closed_not_fresh, open_not_fresh}
use Rattle.search.proofs.Shown.{get_or-replicate_same}
use Rattle.search_tests.specs.declared.counting.Stage.TheVariants.{New}
use Rattle.search_tests.specs.Walks.{cycles, counting, marking, EachReachedNodeIsCountedOnce}

module _ {F : Type 0} where
  counts_other : {a b : List ℕ} {l : List ℕ} → Acts (counting {F = F}) a l b → (x : ℕ) → ¬ Memᴰ x l → get_or b x 0 ≡ get_or a x 0
  counts_other nothing x n = refl
  counts_other (action {a = a} {v = v} s d p) x n = counts_other p x (λ m. n (Memᴰ.tail m)) ∙ ap (λ z. get_or z x 0) d ∙ get_or-set_other a v x ((get_or a v 0 + 1) % 256) 0 (λ e. n (Memᴰ.head e))
  counts_other (finish s d p) x n = counts_other p x n ∙ ap (λ z. get_or z x 0) d

  counts_once : {a b : List ℕ} {l : List ℕ} → Acts (counting {F = F}) a l b → Once l → (x : ℕ) → Memᴰ x l → x < length a → get_or a x 0 ≡ 0 → get_or b x 0 ≡ 1
  counts_once nothing o x m h z = elim m [ ]
  counts_once (action {a = a} {v = v} {l = l} s d p) (one_more n o) x m h z = elim (Memᴰ.cases_cons m) [
    | inl e ↦
        counts_other p x (λ k. n (subst (λ y. Memᴰ y l) e k)) ∙ ap (λ y. get_or y x 0) d ∙ ap (λ y. get_or (set a y ((get_or a y 0 + 1) % 256)) x 0) (sym e)
        ∙ get_or-set_same a x ((get_or a x 0 + 1) % 256) 0 h ∙ ap (λ y. (y + 1) % 256) z
    | inr k ↦ counts_once p o x k (let q = ap length d ∙ length-set a v ((get_or a v 0 + 1) % 256) in omega arith) (ap (λ y. get_or y x 0) d ∙ get_or-set_other a v x ((get_or a v 0 + 1) % 256) 0 (λ e. n (subst (λ y. Memᴰ y l) e k)) ∙ z)
  ]
  counts_once (finish {a = a} s d p) o x m h z = counts_once p o x m (let q = ap length d in omega arith) (ap (λ y. get_or y x 0) d ∙ z)

fresh_at : (x : ℕ) → marking (get_or (replicate 32 New) x New) ≡ Fresh
fresh_at x = ap marking (get_or-replicate_same New 32 x)

-- a search that begins where all nodes are new
abbrev pub beginning : Search
beginning = begin (λ x. marking (get_or (replicate 32 New) x New))

pub begins_at_rest : AtRest cycles beginning
begins_at_rest = record { empty = refl; none_open = λ x o. open_not_fresh o (fresh_at x); finished = λ x y c a. absurd (closed_not_fresh c (fresh_at x)) }

pub all_counted : {F : Type 0} (v : ℕ) (t : Search) (b : List ℕ) → FinishedWithAllItReaches cycles beginning v t → (nodes : List ℕ) × Acted (counting {F = F}) beginning (replicate 32 0) t b nodes → EachReachedNodeIsCountedOnce v b
all_counted v t b R A x h = (
  (λ p. counts_once A.1.chain A.1.once x ((A.1.new x).1 (fresh_at x, closed_not_fresh (R.reached x p))) h (get_or-replicate_same 0 32 x)),
  (λ n. counts_other A.1.chain x (λ m. n (R.only x (fresh_at x) ((A.1.new x).0 m).1)) ∙ get_or-replicate_same 0 32 x),
)
