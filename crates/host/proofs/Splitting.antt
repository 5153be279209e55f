-- A path that comes apart at its last `/`.
use Rattle.std.proofs.Common.{◌≡◌, ℕ, suc, ◌+◌, ◌-◌, ◌<◌, Bool, true, false, cond, eqb, List, [], ◌∷◌, ◌++◌, length, get_or, take, drop, Some, None, Option, sym, refl, ap, ◌∙◌, add-one, arith, length-drop, length-append}
use Rattle.std.proofs.Math.Seq.{split_at, get_or-append_seam}
use Rattle.std.proofs.lemmas.List.{get_or-drop, get_or-append-add}
use Rattle.std.proofs.lemmas.Bool.{and_from, not_from_false, ne_eqb, eqb-true, false≢true}
use Rattle.std.specs.Bool.{MatchBool}
use Rattle.std.specs.List.{IsAfterLastMatch}
use Rattle.names.specs.Names.{Name, every}
use Rattle.std.specs.List.{onto_first}
use Rattle.names.specs.Keys.{parts, not_slash}
use Rattle.names.proofs.Keys.{parts_last}
use Rattle.host.specs.Paths.{segments}
use Rattle.host.specs.Goals.{SplitsLast}

onto_append : (b : ℕ) (s t : Name) → onto_first b (parts s ++ parts t) ≡ onto_first b (parts s) ++ parts t
onto_append b [] t = refl
onto_append b (c ∷ s) t = by (eqb c 47) (parts s) refl
  where
    by : (u : Bool) (l : List Name) → parts s ≡ l → onto_first b (cond u ([] ∷ l) (onto_first c l) ++ parts t) ≡ onto_first b (cond u ([] ∷ l) (onto_first c l)) ++ parts t
    by true l e = refl
    by false [] e = refl
    by false (x ∷ xs) e = refl

-- the parts before a `/`, and then those behind it
pub parts_append : (s t : Name) → parts (s ++ (47 ∷ t)) ≡ parts s ++ parts t
parts_append [] t = refl
parts_append (b ∷ s) t = by (eqb b 47) (parts_append s t)
  where
    by : (u : Bool) → parts (s ++ (47 ∷ t)) ≡ parts s ++ parts t → cond u ([] ∷ parts (s ++ (47 ∷ t))) (onto_first b (parts (s ++ (47 ∷ t)))) ≡ cond u ([] ∷ parts s) (onto_first b (parts s)) ++ parts t
    by true e = ap (λ l. [] ∷ l) e
    by false e = ap (onto_first b) e ∙ onto_append b s t

no_slash : (p : Name) → ((k : ℕ) → k < length p → ¬ (get_or p k 0 ≡ 47)) → every not_slash p ≡ true
no_slash [] h = refl
no_slash (b ∷ p) h = and_from _ _ (not_from_false _ (ne_eqb b 47 (h 0 (omega arith)))) (no_slash p (λ k l. h (suc k) (omega arith)))

-- the last `/` stands at i
pub splits_at : (p : Name) (i : ℕ) → i < length p → get_or p i 0 ≡ 47 → ((k : ℕ) → i < k → k < length p → ¬ (get_or p k 0 ≡ 47)) → SplitsLast p (Some (take i p)) (drop (i + 1) p)
splits_at p i l e h =
    let here : take i p ++ (47 ∷ drop (i + 1) p) ≡ p = ap (λ b. take i p ++ (b ∷ drop (i + 1) p)) (sym e) ∙ ap (λ k. take i p ++ (get_or p i 0 ∷ drop k p)) (add-one i) ∙ sym (split_at p i 0 l) in
    let last = no_slash (drop (i + 1) p) (λ k m. rw (get_or-drop (i + 1) p k 0) (h (i + 1 + k) (omega arith) (let n = length-drop (i + 1) p in omega arith))) in
    (sym (ap parts here) ∙ parts_append (take i p) (drop (i + 1) p) ∙ ap (λ q. parts (take i p) ++ q) (parts_last (drop (i + 1) p) last), here)

-- there is none
pub splits_never : (p : Name) → ((k : ℕ) → k < length p → ¬ (get_or p k 0 ≡ 47)) → SplitsLast p None p
splits_never p h = (parts_last p (no_slash p h), refl)

-- what an iterator over parts from the last has left: a path, or nothing once it is done
abbrev pub left : Bool → Name → Option Name
left true rest = None
left false rest = Some rest

-- a step of such an iterator
pub splits_step : (done : Bool) (path rest part : Name) → MatchBool done (path ≡ part) ((y : ℕ) × (path ≡ rest ++ (y ∷ part))) → IsAfterLastMatch (λ b. eqb b 47) path (length path - length part) → SplitsLast path (left done rest) part
splits_step true path rest part e (f, h) = (parts_last path (no_slash path (λ k l m. false≢true (sym (f k 0 (let n = ap length e in omega arith) l) ∙ ap (λ b. eqb b 47) m))) ∙ ap (λ p. p ∷ []) e, sym e)
splits_step false path rest part (y, e) (f, h) =
    let n = ap length e ∙ length-append rest (y ∷ part) in
    let i : length path - length part ≡ length rest + 1 = omega arith in
    let at : get_or path (length rest) 0 ≡ y = ap (λ p. get_or p (length rest) 0) e ∙ get_or-append_seam rest y part 0 in
    let here : length rest ≡ length path - length part - 1 = omega arith in
    let is : y ≡ 47 = sym at ∙ ap (λ k. get_or path k 0) here ∙ eqb-true _ 47 (h (omega arith) 0) in
    let last = no_slash part (λ k l m. false≢true (sym (f (length rest + suc k) 0 (omega arith) (omega arith)) ∙ ap (λ b. eqb b 47) (ap (λ p. get_or p (length rest + suc k) 0) e ∙ get_or-append-add rest (y ∷ part) (suc k) 0 ∙ m))) in
    (ap parts e ∙ ap (λ b. parts (rest ++ (b ∷ part))) is ∙ parts_append rest part ∙ ap (λ l. parts rest ++ l) (parts_last part last), ap (λ b. rest ++ (b ∷ part)) (sym is) ∙ sym e)

-- its segments
pub splits_segments : (p : Name) (o : Option Name) (x : Name) → SplitsLast p o x → parts p ≡ segments o ++ (x ∷ [])
splits_segments p None x h = h.0
splits_segments p (Some front) x h = h.0
