-- Rows joined give one target exactly where they say one and no other.
use Rattle.std.proofs.Common.{◌≡◌, ℕ, Bool, true, false, cond, ◌&&◌, ◌⊎◌, List, [], ◌∷◌, map, Some, sym, refl, ap, ◌∙◌, inl, inr, ⊎_elim, arith}
use mathlib.Core.List.Memᴰ
use mathlib.Core.List.{Memᴰ}
use Rattle.std.specs.Str.{bytes_eq}
use Rattle.std.proofs.lemmas.Slice.Eq.{bytes_eq-Decides}
use Rattle.std.proofs.lemmas.Bool.{and_parts, and_from, cond-true}
use Rattle.std.specs.Option.{option_and_then}
use Rattle.std.proofs.lemmas.Option.{none-some}
use Rattle.names.specs.Names.{Name}
use Rattle.outcome.specs.declared.Outcome.{Outcome}
use Rattle.outcome.specs.declared.Outcome.TheVariants.{Nothing, One, Several}
use Rattle.outcome.specs.Joining.{joined, joined_all}
use Rattle.host.specs.Holding.{place_of, holdable}
use Rattle.host.specs.MappedHosts.{Row, row_of, says, placed, mapped_to, mapped_hosting, OneTargetAt, FollowsRows}
use Rattle.host.proofs.Numbered.{at_its_place, no_key_there}

clash : {B : Type 0} {t : Name} → ◌≡◌ {A = Outcome Name} Nothing (One t) → B
clash {B} {t} e = absurd (let z : ◌≡◌ {A = ℕ} 0 1 = cc in omega arith)

clash_several : {B : Type 0} {o : Outcome Name} → o ≡ Several → ◌≡◌ {A = Outcome Name} o Nothing ⊎ ((t : Name) × (o ≡ One t)) → B
clash_several {B} {o} e (inl f) = absurd (let z : ◌≡◌ {A = ℕ} 0 1 = cc in omega arith)
clash_several {B} {o} e (inr (t, f)) = absurd (let z : ◌≡◌ {A = ℕ} 0 1 = cc in omega arith)

-- what a join to nothing, and to one thing, comes from
joined_nothing : (a b : Outcome Name) → joined bytes_eq a b ≡ Nothing → (a ≡ Nothing) × (b ≡ Nothing)
joined_nothing Nothing b e = (refl, e)
joined_nothing (One x) Nothing e = clash (sym e)
joined_nothing (One x) (One y) e = by (bytes_eq x y) e
  where
    by : (t : Bool) → cond t (One x) Several ≡ Nothing → (One x ≡ Nothing) × (One y ≡ Nothing)
    by true e = clash (sym e)
    by false e = clash_several refl (inl e)
joined_nothing (One x) Several e = clash_several refl (inl e)
joined_nothing Several b e = clash_several refl (inl e)

joined_one : (a b : Outcome Name) (t : Name) → joined bytes_eq a b ≡ One t → ((a ≡ Nothing) × (b ≡ One t)) ⊎ ((a ≡ One t) × ((b ≡ Nothing) ⊎ (b ≡ One t)))
joined_one Nothing b t e = inl (refl, e)
joined_one (One x) Nothing t e = inr (e, inl refl)
joined_one (One x) (One y) t e = by (bytes_eq x y) refl e
  where
    by : (s : Bool) → bytes_eq x y ≡ s → cond s (One x) Several ≡ One t → ((One x ≡ Nothing) × (One y ≡ One t)) ⊎ ((One x ≡ One t) × ((One y ≡ Nothing) ⊎ (One y ≡ One t)))
    by true h e = inr (e, inr (ap One (sym ((bytes_eq-Decides x y).0 h)) ∙ e))
    by false h e = clash_several refl (inr (t, e))
joined_one (One x) Several t e = clash_several refl (inr (t, e))
joined_one Several b t e = clash_several refl (inr (t, e))

module _ (j x : Name) where
  says_its_own : (t : Name) → says j x (row_of j x t) ≡ One t
  says_its_own t = cond-true _ _ _ (and_from _ _ ((bytes_eq-Decides j j).1 refl) ((bytes_eq-Decides x x).1 refl))

  -- a row says nothing, or is one of the referrer and the specifier
  says_cases : (r : Row) → (says j x r ≡ Nothing) ⊎ ((u : Name) × (says j x r ≡ One u) × (row_of j x u ≡ r))
  says_cases r = by (bytes_eq r.referrer j && bytes_eq r.specifier x) refl
    where
      same : (a b : Name) → a ≡ r.referrer → b ≡ r.specifier → row_of a b r.target ≡ r
      same a b p q = ap (λ c. row_of c b r.target) p ∙ ap (λ c. row_of r.referrer c r.target) q

      by : (t : Bool) → (bytes_eq r.referrer j && bytes_eq r.specifier x) ≡ t → (cond t (One r.target) Nothing ≡ Nothing) ⊎ ((u : Name) × (cond t (One r.target) Nothing ≡ One u) × (row_of j x u ≡ r))
      by true h = let p = and_parts (bytes_eq r.referrer j) (bytes_eq r.specifier x) h in inr (r.target, refl, same j x (sym ((bytes_eq-Decides r.referrer j).0 p.0)) (sym ((bytes_eq-Decides r.specifier x).0 p.1)))
      by false h = inl refl

  -- a row of theirs does not say nothing
  not_silent : (r : Row) (t : Name) → says j x r ≡ Nothing → ¬ (row_of j x t ≡ r)
  not_silent r t e h = clash (sym e ∙ ap (says j x) (sym h) ∙ says_its_own t)

  none_said : (rows : List Row) → joined_all bytes_eq (map (says j x) rows) ≡ Nothing → (t : Name) → ¬ Memᴰ (row_of j x t) rows
  none_said [] e t m = Memᴰ.not-nil m
  none_said (r ∷ rows) e t m = by (joined_nothing (says j x r) (joined_all bytes_eq (map (says j x) rows)) e) (λ f. none_said rows f t) (Memᴰ.cases_cons m)
    where
      by : (says j x r ≡ Nothing) × (joined_all bytes_eq (map (says j x) rows) ≡ Nothing) → (joined_all bytes_eq (map (says j x) rows) ≡ Nothing → ¬ Memᴰ (row_of j x t) rows) → (row_of j x t ≡ r) ⊎ Memᴰ (row_of j x t) rows → ⊥
      by p h (inl e) = not_silent r t p.0 e
      by p h (inr m) = h p.1 m

  abbrev pub SaysOnly : List Row → Name → Type 0
  SaysOnly rows t = (u : Name) → Memᴰ (row_of j x u) rows → u ≡ t

  one_said : (rows : List Row) (t : Name) → joined_all bytes_eq (map (says j x) rows) ≡ One t → Memᴰ (row_of j x t) rows × SaysOnly rows t
  one_said [] t e = clash e
  one_said (r ∷ rows) t e = by (joined_one (says j x r) (joined_all bytes_eq (map (says j x) rows)) t e) (λ f. one_said rows t f) (says_cases r)
    where
      first : (u : Name) → says j x r ≡ One t → row_of j x u ≡ r → u ≡ t
      first u f h = let z = sym (says_its_own u) ∙ ap (says j x) h ∙ f in cc

      by : ((says j x r ≡ Nothing) × (joined_all bytes_eq (map (says j x) rows) ≡ One t)) ⊎ ((says j x r ≡ One t) × ((joined_all bytes_eq (map (says j x) rows) ≡ Nothing) ⊎ (joined_all bytes_eq (map (says j x) rows) ≡ One t))) → (joined_all bytes_eq (map (says j x) rows) ≡ One t → Memᴰ (row_of j x t) rows × SaysOnly rows t) → (says j x r ≡ Nothing) ⊎ ((u : Name) × (says j x r ≡ One u) × (row_of j x u ≡ r)) → Memᴰ (row_of j x t) (r ∷ rows) × SaysOnly (r ∷ rows) t
      by (inl (f, g)) h s = let k = h g in (Memᴰ.tail k.0, λ u m. ⊎_elim (λ e. absurd (not_silent r u f e)) (k.1 u) (Memᴰ.cases_cons m))
      by (inr (f, g)) h (inl n) = clash (sym n ∙ f)
      by (inr (f, inl g)) h (inr (v, p, q)) = (Memᴰ.head (ap (row_of j x) (sym (first v f q)) ∙ q), λ u m. ⊎_elim (first u f) (λ k. absurd (none_said rows g u k)) (Memᴰ.cases_cons m))
      by (inr (f, inr g)) h (inr (v, p, q)) = (Memᴰ.head (ap (row_of j x) (sym (first v f q)) ∙ q), λ u m. ⊎_elim (first u f) ((h g).1 u) (Memᴰ.cases_cons m))

  at_most_one : (rows : List Row) (t : Name) → SaysOnly rows t → (joined_all bytes_eq (map (says j x) rows) ≡ Nothing) ⊎ (joined_all bytes_eq (map (says j x) rows) ≡ One t)
  at_most_one [] t o = inl refl
  at_most_one (r ∷ rows) t o = by (says_cases r) (at_most_one rows t (λ u m. o u (Memᴰ.tail m)))
    where
      twice : joined bytes_eq (One t) (One t) ≡ One t
      twice = cond-true _ _ _ ((bytes_eq-Decides t t).1 refl)

      by : (says j x r ≡ Nothing) ⊎ ((u : Name) × (says j x r ≡ One u) × (row_of j x u ≡ r)) → (joined_all bytes_eq (map (says j x) rows) ≡ Nothing) ⊎ (joined_all bytes_eq (map (says j x) rows) ≡ One t) → (joined bytes_eq (says j x r) (joined_all bytes_eq (map (says j x) rows)) ≡ Nothing) ⊎ (joined bytes_eq (says j x r) (joined_all bytes_eq (map (says j x) rows)) ≡ One t)
      by (inl f) (inl g) = inl (ap (λ a. joined bytes_eq a (joined_all bytes_eq (map (says j x) rows))) f ∙ g)
      by (inl f) (inr g) = inr (ap (λ a. joined bytes_eq a (joined_all bytes_eq (map (says j x) rows))) f ∙ g)
      by (inr (u, f, q)) (inl g) = inr (ap (joined bytes_eq (says j x r)) g ∙ ap (λ a. joined bytes_eq a Nothing) (f ∙ ap One (o u (Memᴰ.head q))))
      by (inr (u, f, q)) (inr g) = inr (ap (joined bytes_eq (says j x r)) g ∙ ap (λ a. joined bytes_eq a (One t)) (f ∙ ap One (o u (Memᴰ.head q))) ∙ twice)

  said_one : (rows : List Row) (t : Name) → Memᴰ (row_of j x t) rows → SaysOnly rows t → joined_all bytes_eq (map (says j x) rows) ≡ One t
  said_one rows t m o = ⊎_elim (λ e. absurd (none_said rows e t m)) (λ e. e) (at_most_one rows t o)

placed_one : (ks : List Name) (o : Outcome Name) (n : ℕ) → placed ks o ≡ Some n → (t : Name) × (o ≡ One t) × (place_of ks t ≡ Some n)
placed_one ks Nothing n e = absurd (none-some _ e)
placed_one ks (One t) n e = (t, refl, e)
placed_one ks Several n e = absurd (none-some _ e)

pub follows_rows : (ks : List Name) → holdable ks ≡ true → (rows : List Row) → FollowsRows rows (mapped_hosting ks rows)
follows_rows ks ok rows = record { answers = answers; answered = answered; without_referrer = λ m h x. ap (λ o. option_and_then (λ j. mapped_to ks rows j x) o) (no_key_there ks ok m h) }
  where
    answers : (j : Name) (m : ℕ) → place_of ks j ≡ Some m → (x : Name) (n : ℕ) → (mapped_hosting ks rows).follow m x ≡ Some n → OneTargetAt (mapped_hosting ks rows) rows j x n
    answers j m e x n f =
        let (t, g, h) = placed_one ks (joined_all bytes_eq (map (says j x) rows)) n (sym (ap (λ o. option_and_then (λ k. mapped_to ks rows k x) o) (at_its_place ks j m e)) ∙ f) in
        let s = one_said j x rows t g in
        record { target = t; said = s.0; only = s.1; held = h }

    answered : (j : Name) (m : ℕ) → place_of ks j ≡ Some m → (x : Name) (n : ℕ) → OneTargetAt (mapped_hosting ks rows) rows j x n → (mapped_hosting ks rows).follow m x ≡ Some n
    answered j m e x n o = ap (λ k. option_and_then (λ i. mapped_to ks rows i x) k) (at_its_place ks j m e) ∙ ap (placed ks) (said_one j x rows o.target o.said o.only) ∙ o.held
