-- The room that entries leave, one behind another.
use Rattle.std.proofs.Common.{◌≡◌, ℕ, ◌+◌, ◌-◌, ◌≤◌, Bool, true, false, not, ltb, List, [], ◌∷◌, length, is_some, Some, None, Option, Iter, sym, ap, ◌∙◌, arith, length-append, Bor}
use denote.Param.Members.{Mut}
use Rattle.std.specs.Fn.{Called}
use Rattle.std.specs.Iterator.{Yields, TryFoldTurn, TryFoldsItems}
use Rattle.std.specs.List.{FoldsTo}
use Rattle.std.specs.Option.{MatchOption, SomeIff}
use Rattle.std.specs.ControlFlow.{continue_value}
use Rattle.std.specs.declared.ops.ControlFlow.{ControlFlow}
use Rattle.std.specs.declared.ops.ControlFlow.TheVariants.{Continue, Break}
use Rattle.std.proofs.lemmas.List.{nil_from_length}
use Rattle.std.proofs.lemmas.Bool.{lt-ltb, le-ltb}
use Rattle.entries.specs.Entries.{all_encoded}
use Rattle.bundle.specs.declared.entry.Entry as code
use Rattle.bundle.specs.Format.{encoded, format, plain, plain_all}

-- the bytes of one entry, and of all
abbrev size : code.Entry → ℕ
size e = length (encoded (plain e))

abbrev total : List code.Entry → ℕ
total es = length (all_encoded format (plain_all es))

total_more : (e : code.Entry) (es : List code.Entry) → total (e ∷ es) ≡ size e + total es
total_more e es = length-append (encoded (plain e)) (all_encoded format (plain_all es))

-- what is left of some room
left_is : (o : Option ℕ) (P : Type 0) (w m : ℕ) → SomeIff o P w → o ≡ Some m → P × (m ≡ w)
left_is None P w m h e = cc
left_is (Some x) P w m h e = let same : x ≡ m = cc in (h.0, sym same ∙ h.1)

none_left : (o : Option ℕ) (P : Type 0) (w : ℕ) → SomeIff o P w → o ≡ None → ¬ P
none_left None P w h e = h
none_left (Some x) P w h e = cc

-- what a slice's iterator gives next
abbrev steps : Iter code.Entry → Option (Bor code.Entry) → Iter code.Entry → Type 0
steps s r t = MatchOption r ((length s.rest.now ≡ 0) × (t ≡ s)) (λ x. s.rest.now ≡ x.now ∷ t.rest.now)

-- how an `Option` goes on or breaks off, and what it breaks off with
abbrev branches : {E : Type 0} → Option ℕ → ControlFlow E ℕ → Type 0
branches v b = v ≡ continue_value b

abbrev breaks_off : {E : Type 0} → E → Option ℕ → Type 0
breaks_off e v = v ≡ None

module _ {F E : Type 0} (g : Mut F (ℕ × (Bor code.Entry × Unit {0})) (Option ℕ)) (first last : Iter code.Entry) (fn : F) (r : Option ℕ) (ran : TryFoldsItems steps g (branches {E = E}) breaks_off first fn 65536 r last)
    (tells : (f f' : F) (n : ℕ) (x : Bor code.Entry) (v : Option ℕ) → Called g f (n, (x, tt)) v f' → SomeIff v (size x.now ≤ n) (n - size x.now)) where
  along : (xs : List (Bor code.Entry)) (s t : Iter code.Entry) (f f' : F) (room left : ℕ) → Yields steps s xs t → FoldsTo {P = F × ℕ} (TryFoldTurn g (branches {E = E})) (f, room) xs (f', left) → left + total s.rest.now ≡ room + total t.rest.now
  along [] s t f f' room left y e =
      let same : room ≡ left = ap (λ p. p.1) e in
      let here : total s.rest.now ≡ total t.rest.now = ap (λ z. total z.rest.now) y in
      omega arith
  along (x ∷ xs) s t f f' room left (j, step, more) ((f1, m), (v, called, branch), folds) =
      let one = left_is v (size x.now ≤ room) (room - size x.now) m (tells f f1 room x v called) branch in
      let rest = along xs j t f1 f' m left more folds in
      let all : total s.rest.now ≡ size x.now + total j.rest.now = ap total step ∙ total_more x.now j.rest.now in
      omega arith

  -- whether there is no room for all
  pub no_room : (b : Bool) → is_some r ≡ not b → b ≡ ltb 65536 (total first.rest.now)
  no_room b is =
      let (xs, o, f', a, (t, y, end), folds, h) = ran in
      by t o f' a b (along xs first t fn f' 65536 a y folds) end h is
    where
      by : (t : Iter code.Entry) (o : Option (Bor code.Entry)) (f' : F) (a : ℕ) (b : Bool) → a + total first.rest.now ≡ 65536 + total t.rest.now → steps t o last
          → MatchOption o (branches {E = E} r (Continue a)) (λ x. (v : Option ℕ) × (h : F) × (e : E) × Called g f' (a, (x, tt)) v h × branches v (Break e) × breaks_off e r)
          → is_some r ≡ not b → b ≡ ltb 65536 (total first.rest.now)
      by t None f' a true room end k n = cc
      by t None f' a false room end k n = let none : total t.rest.now ≡ 0 = ap total (nil_from_length t.rest.now end.0) in sym (le-ltb 65536 (total first.rest.now) (omega arith))
      by t (Some x) f' a true room end (v, h, z, called, branch, made) n =
          let large = none_left v (size x.now ≤ a) (a - size x.now) (tells f' h a x v called) branch in
          let all : total t.rest.now ≡ size x.now + total last.rest.now = ap total end ∙ total_more x.now last.rest.now in
          sym (lt-ltb 65536 (total first.rest.now) (omega arith))
      by t (Some x) f' a false room end (v, h, z, called, branch, made) n = cc
