-- A byte string means one thing.
use Rattle.std.proofs.Common.{◌≡◌, ℕ, ◌<◌, ◌≤◌, true, false, ◌&&◌, leb, List, [], ◌∷◌, ◌++◌, map, length, Ok, Err, Result, sym, refl, ap, ◌∙◌, subst, append_assoc, append-nil, arith, length-append}
use Rattle.std.proofs.lemmas.List.{map-append}
use Rattle.std.proofs.lemmas.Bool.{and_parts, and_from, leb-true, le-leb, both_ways}
use Rattle.names.specs.Names.{among, distinct, every}
use Rattle.std.proofs.lemmas.List.Folds.{list_all-append}
use Rattle.names.proofs.Distinct.{distinct_push, distinct_split}
use Rattle.entries.specs.declared.stop.Stop.{Stop}
use Rattle.entries.specs.declared.stop.Stop.TheVariants.{Malformed, TooMany, Repeated}
use Rattle.entries.specs.Entries.{Format, LawfulFormat, all_encoded, well_formed, Front, Refused, Stops, Means, MeansOnly}

module _ {E : Type 0} (F : Format E) where
  pub all_encoded_append : (es fs : List E) → all_encoded F (es ++ fs) ≡ all_encoded F es ++ all_encoded F fs
  all_encoded_append [] fs = refl
  all_encoded_append (e ∷ es) fs = ap (λ l. F.encoded e ++ l) (all_encoded_append es fs) ∙ sym (append_assoc (F.encoded e) (all_encoded F es) (all_encoded F fs))

  -- what makes a list well formed
  pub record Parts (es : List E) : Type 0 where
    pub each : every F.good es ≡ true
    pub few : length es ≤ 32
    pub apart : distinct (map F.name es) ≡ true

  pub parts : (es : List E) → well_formed F es ≡ true → Parts es
  parts es w =
      let p = and_parts (every F.good es) (leb (length es) 32 && distinct (map F.name es)) w in
      let q = and_parts (leb (length es) 32) (distinct (map F.name es)) p.1 in
      record { each = p.0; few = leb-true (length es) 32 q.0; apart = q.1 }

  -- one entry more
  pub well_formed_more : (es : List E) (e : E) → well_formed F es ≡ true → F.good e ≡ true → length es < 32 → among (map F.name es) (F.name e) ≡ false → well_formed F (es ++ (e ∷ [])) ≡ true
  well_formed_more es e w g l a =
      let p = parts es w in
      and_from _ _
      (list_all-append F.good es (e ∷ []) ∙ and_from _ _ p.each (and_from _ _ g refl))
      (and_from _ _
      (le-leb _ 32 (let n = length-append es (e ∷ []) in omega arith))
      (ap distinct (map-append F.name es (e ∷ [])) ∙ distinct_push (map F.name es) (F.name e) p.apart a))

  pub front_more : (s : List ℕ) (es : List E) (rest : List ℕ) → Front F s es rest → (e : E) (rest' : List ℕ) → F.encoded e ++ rest' ≡ rest → F.good e ≡ true → length es < 32 → among (map F.name es) (F.name e) ≡ false → Front F s (es ++ (e ∷ [])) rest'
  front_more s es rest f e rest' is g l a = record {
    all = ap (λ l. l ++ rest') (all_encoded_append es (e ∷ []) ∙ ap (λ l. all_encoded F es ++ l) (append-nil (F.encoded e)))
        ∙ append_assoc (all_encoded F es) (F.encoded e) rest' ∙ ap (λ l. all_encoded F es ++ l) is ∙ f.all;
    well = well_formed_more es e f.well g l a;
  }

  -- one of two fronts goes on where the other ends
  data GoesOn (es : List E) (rest : List ℕ) (fs : List E) (rest' : List ℕ) : Type 0 where
    alike : es ≡ fs → rest ≡ rest' → GoesOn es rest fs rest'
    first_longer : (e : E) (more : List E) → es ≡ fs ++ (e ∷ more) → F.encoded e ++ (all_encoded F more ++ rest) ≡ rest' → F.good e ≡ true → GoesOn es rest fs rest'
    second_longer : (e : E) (more : List E) → fs ≡ es ++ (e ∷ more) → F.encoded e ++ (all_encoded F more ++ rest') ≡ rest → F.good e ≡ true → GoesOn es rest fs rest'

  module _ (L : LawfulFormat F) where
    compare_fronts : (es fs : List E) (rest rest' : List ℕ) → every F.good es ≡ true → every F.good fs ≡ true → all_encoded F es ++ rest ≡ all_encoded F fs ++ rest' → GoesOn es rest fs rest'
    compare_fronts [] [] rest rest' g h e = alike refl e
    compare_fronts [] (d ∷ fs) rest rest' g h e = second_longer d fs refl (sym (e ∙ append_assoc (F.encoded d) (all_encoded F fs) rest')) (and_parts _ _ h).0
    compare_fronts (d ∷ es) [] rest rest' g h e = first_longer d es refl (sym (append_assoc (F.encoded d) (all_encoded F es) rest) ∙ e) (and_parts _ _ g).0
    compare_fronts (c ∷ es) (d ∷ fs) rest rest' g h e =
        let p = and_parts (F.good c) (every F.good es) g in
        let q = and_parts (F.good d) (every F.good fs) h in
        let (same, tails) = L.comes_apart c d (all_encoded F es ++ rest) (all_encoded F fs ++ rest') p.0 q.0
        (sym (append_assoc (F.encoded c) (all_encoded F es) rest) ∙ e ∙ append_assoc (F.encoded d) (all_encoded F fs) rest') in
        under same (compare_fronts es fs rest rest' p.1 q.1 tails)
      where
        under : c ≡ d → GoesOn es rest fs rest' → GoesOn (c ∷ es) rest (d ∷ fs) rest'
        under z (alike x y) = alike (cc) y
        under z (first_longer a more x y w) = first_longer a more (cc) y w
        under z (second_longer a more x y w) = second_longer a more (cc) y w

    -- behind entries that go on well there is no refusal
    no_refusal : (es : List E) (e : E) (more : List E) (tail rest : List ℕ) (why : Stop) → well_formed F (es ++ (e ∷ more)) ≡ true → F.encoded e ++ tail ≡ rest → F.good e ≡ true → Refused F es rest why → ⊥
    no_refusal es e more tail rest Malformed w is g r = r.1 (record { entry = e; rest = tail; is = is; well = g })
    no_refusal es e more tail rest TooMany w is g r =
        let l = (parts (es ++ (e ∷ more)) w).few in
        let n = length-append es (e ∷ more) in
        let k = r.0 in
        omega arith
    no_refusal es e more tail rest Repeated w is g r =
        let b = r.1.0 in
        let same = (L.comes_apart b.entry e b.rest tail b.well g (b.is ∙ sym is)).0 in
        let apart = distinct_split (map F.name es) (F.name e) (map F.name more) (sym (ap distinct (map-append F.name es (e ∷ more))) ∙ (parts (es ++ (e ∷ more)) w).apart) in
        both_ways (among (map F.name es) (F.name e)) apart (ap (λ x. among (map F.name es) (F.name x)) (sym same) ∙ r.1.1)

    -- a list that is read whole does not go on
    no_more : (e : E) (tail : List ℕ) → F.encoded e ++ tail ≡ [] → ⊥
    no_more e tail h = L.has_a_byte e (let n = ap length h in omega (arith, length-append (F.encoded e) tail))

    -- a refusal has one cause
    one_cause : (es : List E) (rest : List ℕ) (v w : Stop) → Refused F es rest v → Refused F es rest w → v ≡ w
    one_cause es rest Malformed Malformed p q = refl
    one_cause es rest Malformed TooMany p q = absurd (p.1 q.1)
    one_cause es rest Malformed Repeated p q = absurd (p.1 q.1.0)
    one_cause es rest TooMany Malformed p q = absurd (q.1 p.1)
    one_cause es rest TooMany TooMany p q = refl
    one_cause es rest TooMany Repeated p q = absurd (let a = p.0 in let b = q.0 in omega arith)
    one_cause es rest Repeated Malformed p q = absurd (q.1 p.1.0)
    one_cause es rest Repeated TooMany p q = absurd (let a = p.0 in let b = q.0 in omega arith)
    one_cause es rest Repeated Repeated p q = refl

    fronts : (s : List ℕ) (es fs : List E) (rest rest' : List ℕ) → Front F s es rest → Front F s fs rest' → GoesOn es rest fs rest'
    fronts s es fs rest rest' a b = compare_fronts es fs rest rest' (parts es a.well).each (parts fs b.well).each (a.all ∙ sym b.all)

    both_lists : (s : List ℕ) (es fs : List E) → Front F s es [] → Front F s fs [] → es ≡ fs
    both_lists s es fs a b = by (fronts s es fs [] [] a b)
      where
        by : GoesOn es [] fs [] → es ≡ fs
        by (alike e r) = e
        by (first_longer e more x y g) = absurd (no_more e _ y)
        by (second_longer e more x y g) = absurd (no_more e _ y)

    list_and_stop : (s : List ℕ) (es : List E) (why : Stop) (byte : ℕ) → Front F s es [] → Stops F s why byte → ⊥
    list_and_stop s es why byte a b = by (fronts s es b.before [] b.rest a b.front)
      where
        by : GoesOn es [] b.before b.rest → ⊥
        by (alike e r) = ends why b.refused
          where
            ends : (w : Stop) → Refused F b.before b.rest w → ⊥
            ends Malformed q = q.0 (sym r)
            ends TooMany q = no_more q.1.entry q.1.rest (q.1.is ∙ sym r)
            ends Repeated q = no_more q.1.0.entry q.1.0.rest (q.1.0.is ∙ sym r)
        by (first_longer e more x y g) = no_refusal b.before e more _ b.rest why (sym (ap (well_formed F) x) ∙ a.well) y g b.refused
        by (second_longer e more x y g) = no_more e _ y

    both_stop : (s : List ℕ) (v w : Stop) (m n : ℕ) → Stops F s v m → Stops F s w n → ◌≡◌ {A = Stop × ℕ} (v, m) (w, n)
    both_stop s v w m n a b = by (fronts s a.before b.before a.rest b.rest a.front b.front)
      where
        by : GoesOn a.before a.rest b.before b.rest → ◌≡◌ {A = Stop × ℕ} (v, m) (w, n)
        by (alike e r) =
            let q : Refused F a.before a.rest w = subst (λ x. Refused F x a.rest w) (sym e) (subst (λ x. Refused F b.before x w) (sym r) b.refused) in
            let z : v ≡ w = one_cause a.before a.rest v w a.refused q in
            let k : m ≡ n = sym a.is_byte ∙ ap (λ x. length (all_encoded F x)) e ∙ b.is_byte in
            cc
        by (first_longer e more x y g) = absurd (no_refusal b.before e more _ b.rest w (sym (ap (well_formed F) x) ∙ a.front.well) y g b.refused)
        by (second_longer e more x y g) = absurd (no_refusal a.before e more _ a.rest v (sym (ap (well_formed F) x) ∙ b.front.well) y g a.refused)

    one_meaning : (s : List ℕ) (q r : Result (List E) (Stop × ℕ)) → Means F s q → Means F s r → q ≡ r
    one_meaning s (Ok es) (Ok fs) a b = ap Ok (both_lists s es fs a b)
    one_meaning s (Ok es) (Err x) a b = absurd (list_and_stop s es x.0 x.1 a b)
    one_meaning s (Err x) (Ok fs) a b = absurd (list_and_stop s fs x.0 x.1 b a)
    one_meaning s (Err x) (Err y) a b = ap Err (both_stop s x.0 y.0 x.1 y.1 a b)

    pub means_only : (s : List ℕ) (r : Result (List E) (Stop × ℕ)) → Means F s r → MeansOnly F s r
    means_only s r m = record { means = m; only = λ q n. one_meaning s q r n m }
