-- Order, bracketing and repetition do not affect a join.
use Rattle.std.proofs.Common.{Option, map, ◌≡◌, ℕ, Bool, true, false, cond, List, [], ◌∷◌, ◌++◌, Decides, sym, refl, ap, ◌∙◌, arith}
use mathlib.Core.List.{Memᴰ}
use denote.Param.Members.{Mut}
use Rattle.std.specs.Fn.{Called}
use Rattle.std.specs.Iterator.{Drains}
use Rattle.std.specs.List.{FoldsTo}
use Rattle.std.proofs.lemmas.Fn.{fold_over}
use Rattle.std.proofs.lemmas.Iterator.{YieldsList}
use Rattle.std.proofs.lemmas.List.{map-append}
use Rattle.outcome.specs.declared.Outcome.{Outcome}
use Rattle.outcome.specs.declared.Outcome.TheVariants.{Nothing, One, Several}
use Rattle.outcome.specs.Joining.{joined, joined_all, OrderBracketingAndRepetitionDoNotAffectAJoin}

module _ {A : Type 0} (same : A → A → Bool) (D : (x y : A) → Decides (same x y) (x ≡ y)) where
  pick : A → Bool → Outcome A
  pick x t = cond t (One x) Several

  clash : {B : Type 0} (t : Bool) → t ≡ true → t ≡ false → B
  clash t p q = absurd (let z : ◌≡◌ {A = ℕ} 0 1 = cc in omega arith)

  swap : (x y : A) (s t : Bool) → same x y ≡ s → same y x ≡ t → pick x s ≡ pick y t
  unfolding pick
  swap x y true true p q = ap One ((D x y).0 p)
  swap x y true false p q = clash (same y x) ((D y x).1 (sym ((D x y).0 p))) q
  swap x y false true p q = clash (same x y) ((D x y).1 (sym ((D y x).0 q))) p
  swap x y false false p q = refl

  order : (a b : Outcome A) → joined same a b ≡ joined same b a
  unfolding pick
  order Nothing Nothing = refl
  order Nothing (One y) = refl
  order Nothing Several = refl
  order (One x) Nothing = refl
  order (One x) (One y) = swap x y (same x y) (same y x) refl refl
  order (One x) Several = refl
  order Several Nothing = refl
  order Several (One y) = refl
  order Several Several = refl

  group : (x y z : A) (s t : Bool) → same x y ≡ s → same y z ≡ t → joined same (pick x s) (One z) ≡ joined same (One x) (pick y t)
  unfolding pick
  group x y z true true p q = ap (pick x) (ap (λ w. same w z) ((D x y).0 p) ∙ q ∙ sym p)
  group x y z true false p q = ap (pick x) (ap (λ w. same w z) ((D x y).0 p) ∙ q)
  group x y z false true p q = sym (ap (pick x) p)
  group x y z false false p q = refl

  before : (t : Bool) (x : A) → joined same (pick x t) Several ≡ Several
  unfolding pick
  before true x = refl
  before false x = refl

  alone : (t : Bool) (x : A) → joined same (pick x t) Nothing ≡ pick x t
  unfolding pick
  alone true x = refl
  alone false x = refl

  bracketing : (a b c : Outcome A) → joined same (joined same a b) c ≡ joined same a (joined same b c)
  unfolding pick
  bracketing Nothing b c = refl
  bracketing (One x) Nothing c = refl
  bracketing (One x) (One y) Nothing = alone (same x y) x
  bracketing (One x) (One y) (One z) = group x y z (same x y) (same y z) refl refl
  bracketing (One x) (One y) Several = before (same x y) x
  bracketing (One x) Several c = refl
  bracketing Several b c = refl

  repetition : (a : Outcome A) → joined same a a ≡ a
  unfolding pick
  repetition Nothing = refl
  repetition (One x) = ap (pick x) ((D x x).1 refl)
  repetition Several = refl

  lists_bracketing : (os ps : List (Outcome A)) → joined_all same (os ++ ps) ≡ joined same (joined_all same os) (joined_all same ps)
  lists_bracketing [] ps = refl
  lists_bracketing (o ∷ os) ps = ap (joined same o) (lists_bracketing os ps) ∙ sym (bracketing o (joined_all same os) (joined_all same ps))

  -- an outcome that occurs adds nothing
  absorbs : (o : Outcome A) {os : List (Outcome A)} → Memᴰ o os → joined same o (joined_all same os) ≡ joined_all same os
  absorbs o (Memᴰ.head {x} {xs} e) =
      ap (λ q. joined same q (joined same x (joined_all same xs))) e ∙ sym (bracketing x x (joined_all same xs)) ∙ ap (λ q. joined same q (joined_all same xs)) (repetition x)
  absorbs o (Memᴰ.tail {x} {xs} m) =
      sym (bracketing o x (joined_all same xs)) ∙ ap (λ q. joined same q (joined_all same xs)) (order o x) ∙ bracketing x o (joined_all same xs) ∙ ap (joined same x) (absorbs o m)

  -- nor does a list of such
  absorbs_all : (os ps : List (Outcome A)) → ((o : Outcome A) → Memᴰ o os → Memᴰ o ps) → joined same (joined_all same os) (joined_all same ps) ≡ joined_all same ps
  absorbs_all [] ps h = refl
  absorbs_all (o ∷ os) ps h =
      bracketing o (joined_all same os) (joined_all same ps) ∙ ap (joined same o) (absorbs_all os ps (λ q m. h q (Memᴰ.tail m))) ∙ absorbs o (h o (Memᴰ.head refl))

  pub laws : OrderBracketingAndRepetitionDoNotAffectAJoin same
  laws = record {
    order = order;
    bracketing = bracketing;
    repetition = repetition;
    lists_bracketing = lists_bracketing;
    lists_order_and_repetition = λ os ps m. sym (absorbs_all ps os m.back) ∙ order (joined_all same ps) (joined_all same os) ∙ absorbs_all os ps m.there;
  }

module _ {A : Type 0} (same : A → A → Bool) (D : (x y : A) → Decides (same x y) (x ≡ y)) where
  with_nothing : (o : Outcome A) → joined same o Nothing ≡ o
  with_nothing Nothing = refl
  with_nothing (One x) = refl
  with_nothing Several = refl

  -- one more at the end
  pub joined_all_push : (os : List (Outcome A)) (o : Outcome A) → joined_all same (os ++ (o ∷ [])) ≡ joined same (joined_all same os) o
  joined_all_push os o = (laws same D).lists_bracketing os (o ∷ []) ∙ ap (joined same (joined_all same os)) (with_nothing o)

-- what a chain gives, joined one after another: v tells the outcome of what it gives, and w that of what has been joined
pub joined_over : {S A B C F V : Type 0} (same : V → V → Bool) → ((x y : V) → Decides (same x y) (x ≡ y)) → {steps : S → Option A → S → Type 0} {g : Mut F (C × (A × Unit {0})) C} {f : F} {s : S} {a r : C} {u : A → B} (v : B → Outcome V) (w : C → Outcome V) → (xs : List A) × (f' : F) × Drains steps s xs × FoldsTo {P = F × C} (λ p x q. Called g p.0 (p.1, (x, tt)) q.1 q.0) (f, a) xs (f', r) → w a ≡ Nothing → ((b : C) (x : A) (c : C) (h : F) → Called g f (b, (x, tt)) c h → (w c ≡ joined same (w b) (v (u x))) × (h ≡ f)) → (all : List B) → YieldsList steps u s all → w r ≡ joined_all same (map v all)
joined_over same D {steps = steps} {g = g} {f = f} {s = s} {a = a} {r = r} {u = u} v w ran none step all y =
    fold_over steps u g (λ ys b. w b ≡ joined_all same (map v ys)) f
    (λ ys b x c h j k. let q = step b x c h k in (q.0 ∙ ap (λ o. joined same o (v (u x))) j ∙ sym (joined_all_push same D (map v ys) (v (u x))) ∙ ap (joined_all same) (sym (map-append v ys (u x ∷ []))), q.1))
    s all a r y.runs none ran
