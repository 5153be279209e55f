-- Where parts lead, and what going back over them finds.
use Rattle.std.proofs.Common.{◌≡◌, ℕ, ◌+◌, ◌<◌, ◌≤◌, true, false, List, [], ◌∷◌, ◌++◌, length, get_or, Some, None, codes, Option, sym, refl, ap, ◌∙◌, append_assoc, append-nil, arith, length-append}
use Rattle.std.specs.Str.{bytes_eq}
use Rattle.std.proofs.lemmas.Slice.Eq.{bytes_eq-Decides}
use Rattle.std.proofs.lemmas.List.{same_from_push, nil_from_length}
use Rattle.std.proofs.lemmas.Bool.{cond-true, cond-false}
use Rattle.std.specs.Option.{option_and_then}
use Rattle.std.proofs.lemmas.Option.{none-some}
use Rattle.names.specs.Names.{Name}
use Rattle.host.specs.Paths.{without_last, parent, stepped, walked}

-- a name of one byte, and one of two
pub one_byte : (x : Name) (a : ℕ) → 1 ≤ length x → length x < 2 → get_or x 0 0 ≡ a → bytes_eq x (a ∷ []) ≡ true
one_byte [] a l m e = absurd (omega arith)
one_byte (b ∷ []) a l m e = (bytes_eq-Decides (b ∷ []) (a ∷ [])).1 (ap (λ c. c ∷ []) e)
one_byte (b ∷ (c ∷ x)) a l m e = absurd (omega arith)

pub two_bytes : (x : Name) (a b : ℕ) → 2 ≤ length x → length x < 3 → get_or x 0 0 ≡ a → get_or x 1 0 ≡ b → bytes_eq x (a ∷ (b ∷ [])) ≡ true
two_bytes [] a b l m e f = absurd (omega arith)
two_bytes (c ∷ []) a b l m e f = absurd (omega arith)
two_bytes (c ∷ (d ∷ [])) a b l m e f = (bytes_eq-Decides (c ∷ (d ∷ [])) (a ∷ (b ∷ []))).1 (ap (λ i. i ∷ (d ∷ [])) e ∙ ap (λ i. a ∷ (i ∷ [])) f)
two_bytes (c ∷ (d ∷ (i ∷ x))) a b l m e f = absurd (omega arith)

-- an answer that came of another
pub then_some : {A B : Type 0} (o : Option A) (f : A → Option B) (b : B) → option_and_then f o ≡ Some b → (a : A) × (o ≡ Some a) × (f a ≡ Some b)
then_some None f b e = absurd (none-some _ e)
then_some (Some a) f b e = (a, refl, e)

then_same : {A : Type 0} (o : Option A) → option_and_then Some o ≡ o
then_same None = refl
then_same (Some a) = refl

pub walked_append : (p : List Name) (xs ys : List Name) → walked p (xs ++ ys) ≡ option_and_then (λ q. walked q ys) (walked p xs)
walked_append p [] ys = refl
walked_append p (x ∷ xs) ys = by (stepped p x) (λ q. walked_append q xs ys)
  where
    by : (o : Option (List Name)) → ((q : List Name) → walked q (xs ++ ys) ≡ option_and_then (λ r. walked r ys) (walked q xs)) → option_and_then (λ q. walked q (xs ++ ys)) o ≡ option_and_then (λ q. walked q ys) (option_and_then (λ q. walked q xs) o)
    by None h = refl
    by (Some q) h = h q

-- one part alone
pub walked_one : (p : List Name) (x : Name) → walked p (x ∷ []) ≡ stepped p x
walked_one p x = then_same (stepped p x)

pub without_last_push : (xs : List Name) (x : Name) → without_last (xs ++ (x ∷ [])) ≡ xs
without_last_push [] x = refl
without_last_push (y ∷ []) x = refl
without_last_push (y ∷ (z ∷ zs)) x = ap (λ l. y ∷ l) (without_last_push (z ∷ zs) x)

pub parent_push : (xs : List Name) (x : Name) → parent (xs ++ (x ∷ [])) ≡ Some xs
parent_push [] x = refl
parent_push (y ∷ xs) x = ap Some (without_last_push (y ∷ xs) x)

last_of : (x : Name) (xs : List Name) → (y : Name) × (x ∷ xs ≡ without_last (x ∷ xs) ++ (y ∷ []))
last_of x [] = (x, refl)
last_of x (z ∷ zs) = let (y, e) = last_of z zs in (y, ap (λ l. x ∷ l) e)

-- a path that has a parent
pub parent_some : (p q : List Name) → parent p ≡ Some q → (y : Name) × (p ≡ q ++ (y ∷ []))
parent_some [] q e = absurd (none-some _ e)
parent_some (x ∷ xs) q e = let (y, h) = last_of x xs in let same : without_last (x ∷ xs) ≡ q = cc in (y, h ∙ ap (λ l. l ++ (y ∷ [])) same)

-- segments of which there are some have a last one
pub last_one : (xs : List Name) (n : ℕ) → length xs ≡ n + 1 → (ys : List Name) × (y : Name) × (xs ≡ ys ++ (y ∷ [])) × (length ys ≡ n)
last_one [] n e = absurd (omega arith)
last_one (x ∷ xs) n e = let (y, h) = last_of x xs in (without_last (x ∷ xs), y, h, (let k = ap length h in omega (arith, length-append (without_last (x ∷ xs)) (y ∷ []))))

module _ (x : Name) where
  module _ (some : bytes_eq x [] ≡ false) where
    pub stepped_here : bytes_eq x (codes ".") ≡ true → (p : List Name) → stepped p x ≡ Some p
    stepped_here e p = cond-false _ _ _ some ∙ cond-true _ _ _ e

    module _ (apart : bytes_eq x (codes ".") ≡ false) where
      pub stepped_out : bytes_eq x (codes "..") ≡ true → (p : List Name) → stepped p x ≡ parent p
      stepped_out e p = cond-false _ _ _ some ∙ cond-false _ _ _ apart ∙ cond-true _ _ _ e

      pub stepped_in : bytes_eq x (codes "..") ≡ false → (p : List Name) → stepped p x ≡ Some (p ++ (x ∷ []))
      stepped_in e p = cond-false _ _ _ some ∙ cond-false _ _ _ apart ∙ cond-false _ _ _ e

-- a path with some segments, and so many more behind them
abbrev pub Reaches : List Name → ℕ → List Name → Type 0
Reaches s n p = (more : List Name) × (length more ≡ n) × (p ≡ s ++ more)

-- parts lead from a path to such a one
abbrev pub Leads : List Name → List Name → ℕ → List Name → Type 0
Leads xs s n p = (q : List Name) × (walked p xs ≡ Some q) × Reaches s n q

abbrev pub Alike : List Name → List Name → ℕ → List Name → ℕ → Type 0
Alike xs s n t m = (p : List Name) → (Leads xs s n p → Reaches t m p) × (Reaches t m p → Leads xs s n p)

abbrev pub Never : List Name → List Name → ℕ → Type 0
Never xs s n = (p : List Name) → ¬ Leads xs s n p

module _ (s : List Name) (n : ℕ) where
  -- over no parts
  pub back_none : Alike [] s n s n
  back_none p = (λ l. by l.0 l.1 l.2, λ r. (p, refl, r))
    where
      by : (q : List Name) → Some p ≡ Some q → Reaches s n q → Reaches s n p
      by q e (more, k, h) = let same : p ≡ q = cc in (more, k, same ∙ h)

  module _ (ys : List Name) where
    -- over some parts, and then over those before them
    pub back_more : (xs t : List Name) (m : ℕ) (u : List Name) (k : ℕ) → Alike ys s n t m → Alike xs t m u k → Alike (xs ++ ys) s n u k
    back_more xs t m u k a b p = (there, back)
      where
        there : Leads (xs ++ ys) s n p → Reaches u k p
        there (r, e, h) = let (q, f, g) = then_some (walked p xs) (λ q. walked q ys) r (sym (walked_append p xs ys) ∙ e) in (b p).0 (q, f, (a q).0 (r, g, h))

        back : Reaches u k p → Leads (xs ++ ys) s n p
        back h =
            let (q, f, g) = (b p).1 h in
            let (r, e, i) = (a q).1 g in
            (r, walked_append p xs ys ∙ ap (λ o. option_and_then (λ q. walked q ys) o) f ∙ e, i)

    pub back_never : (xs t : List Name) (m : ℕ) → Alike ys s n t m → Never xs t m → Never (xs ++ ys) s n
    back_never xs t m a b p (r, e, h) = let (q, f, g) = then_some (walked p xs) (λ q. walked q ys) r (sym (walked_append p xs ys) ∙ e) in b p (q, f, (a q).0 (r, g, h))

    pub back_ends : (xs : List Name) → Never ys s n → Never (xs ++ ys) s n
    back_ends xs a p (r, e, h) = let (q, f, g) = then_some (walked p xs) (λ q. walked q ys) r (sym (walked_append p xs ys) ∙ e) in a q (r, g, h)

  module _ (x : Name) where
    one : (p q : List Name) → walked p (x ∷ []) ≡ Some q → stepped p x ≡ Some q
    one p q e = sym (walked_one p x) ∙ e

    module _ (some : bytes_eq x [] ≡ false) where
      pub back_here : bytes_eq x (codes ".") ≡ true → Alike (x ∷ []) s n s n
      back_here e p = (there, λ h. (p, walked_one p x ∙ stepped_here x some e p, h))
        where
          there : Leads (x ∷ []) s n p → Reaches s n p
          there (q, f, (more, k, h)) = let z = sym (stepped_here x some e p) ∙ one p q f in let same : p ≡ q = cc in (more, k, same ∙ h)

      module _ (apart : bytes_eq x (codes ".") ≡ false) where
        -- `..` drops one more
        pub back_out : bytes_eq x (codes "..") ≡ true → Alike (x ∷ []) s n s (n + 1)
        back_out e p = (there, back)
          where
            there : Leads (x ∷ []) s n p → Reaches s (n + 1) p
            there (q, f, (more, k, h)) =
                let (y, g) = parent_some p q (sym (stepped_out x some apart e p) ∙ one p q f) in
                (more ++ (y ∷ []), (let l = length-append more (y ∷ []) in omega arith), g ∙ ap (λ l. l ++ (y ∷ [])) h ∙ append_assoc s more (y ∷ []))

            back : Reaches s (n + 1) p → Leads (x ∷ []) s n p
            back (more, k, h) =
                let (ys, y, g, l) = last_one more n k in
                let is : p ≡ (s ++ ys) ++ (y ∷ []) = h ∙ ap (λ l. s ++ l) g ∙ sym (append_assoc s ys (y ∷ [])) in
                (s ++ ys, walked_one p x ∙ stepped_out x some apart e p ∙ ap parent is ∙ parent_push (s ++ ys) y, (ys, l, refl))

        module _ (e : bytes_eq x (codes "..") ≡ false) where
          added : (p q : List Name) → walked p (x ∷ []) ≡ Some q → p ++ (x ∷ []) ≡ q
          added p q f = let z = sym (stepped_in x some apart e p) ∙ one p q f in cc

          -- a name that is dropped again
          pub back_dropped : (m : ℕ) → n ≡ m + 1 → Alike (x ∷ []) s n s m
          back_dropped m is p = (there, back)
            where
              there : Leads (x ∷ []) s n p → Reaches s m p
              there (q, f, (more, k, h)) =
                  let (ys, y, g, l) = last_one more m (k ∙ is) in
                  let z = same_from_push p (s ++ ys) x y (added p q f ∙ h ∙ ap (λ l. s ++ l) g ∙ sym (append_assoc s ys (y ∷ []))) in
                  (ys, l, z.0)

              back : Reaches s m p → Leads (x ∷ []) s n p
              back (more, k, h) =
                  (p ++ (x ∷ []), walked_one p x ∙ stepped_in x some apart e p, (more ++ (x ∷ []), (let l = length-append more (x ∷ []) in omega arith), ap (λ l. l ++ (x ∷ [])) h ∙ append_assoc s more (x ∷ [])))

          none_more : (more : List Name) → length more ≡ 0 → (t : List Name) → t ++ more ≡ t
          none_more more k t = ap (λ l. t ++ l) (nil_from_length more k) ∙ append-nil t

          -- a name that is the last segment
          pub back_kept : (t : List Name) → n ≡ 0 → s ≡ t ++ (x ∷ []) → Alike (x ∷ []) s n t 0
          back_kept t z is p = (there, back)
            where
              there : Leads (x ∷ []) s n p → Reaches t 0 p
              there (q, f, (more, k, h)) =
                  ([], refl, (same_from_push p t x x (added p q f ∙ h ∙ none_more more (k ∙ z) s ∙ is)).0 ∙ sym (append-nil t))

              back : Reaches t 0 p → Leads (x ∷ []) s n p
              back (more, k, h) =
                  (p ++ (x ∷ []), walked_one p x ∙ stepped_in x some apart e p, ([], sym z, ap (λ l. l ++ (x ∷ [])) (h ∙ none_more more k t) ∙ sym is ∙ sym (append-nil s)))

          -- another last segment
          pub back_other : (t : List Name) (y : Name) → n ≡ 0 → s ≡ t ++ (y ∷ []) → ¬ (y ≡ x) → Never (x ∷ []) s n
          back_other t y z is d p (q, f, (more, k, h)) = d (sym (same_from_push p t x y (added p q f ∙ h ∙ none_more more (k ∙ z) s ∙ is)).1)
