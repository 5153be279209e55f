-- Where a specifier leads among the keys held, and the laws of the file host.
use Rattle.std.proofs.Common.{◌≡◌, ℕ, ◌<◌, Bool, true, false, cond, ◌&&◌, leb, List, [], ◌∷◌, ◌++◌, map, length, get_or, Some, None, MatchOption, codes, Decides, Option, sym, refl, ap, ◌∙◌, subst, append_assoc, append-nil, add-one, arith, Bor}
use Rattle.std.specs.List.{slice_get, position, AllWithin, HoldsAt}
use Rattle.std.proofs.lemmas.Option.{get_or_from_slice_get, slice_get_within, none-some}
use Rattle.std.specs.Str.{bytes_eq}
use Rattle.std.proofs.lemmas.Slice.Eq.{bytes_eq-Decides}
use Rattle.std.proofs.lemmas.List.{length-map, get_or-map, nil_from_length}
use Rattle.std.proofs.lemmas.Bool.{and_parts, and_from, cond-true, false≢true, true≢false}
use Rattle.std.specs.Option.{option_and_then}
use Rattle.names.specs.Names.{Name, every, distinct}
use Rattle.names.specs.Keys.{key, parts, path}
use Rattle.std.proofs.lemmas.List.Folds.{list_all-append}
use Rattle.names.proofs.Keys.{path_parts}
use Rattle.host.specs.Paths.{parent, walked, relative}
use Rattle.host.specs.Holding.{place_of, holdable, all_now}
use Rattle.host.specs.FileHosts.{directory, ordinary, led_to, file_hosting, LeadsToPlace, FollowsPaths, plain_part, way, PlainSpecifiersLeadDown, WaysBetweenHeldKeysAreFound}
use Rattle.host.specs.Lawful.{is_held_key, every_at}
use Rattle.host.proofs.Walks.{then_some, walked_append, last_one, parent_push}
use Rattle.host.proofs.Finding.{position_is, position_none, position_map}
use Rattle.host.proofs.Numbered.{at_its_place, no_key_there}
use Rattle.host.proofs.Leading.{slashless, every_weaker, every_without_last, walked_ordinary, key_ordinary, from_directory, parts_slashless, walked_keeps, parts_of_path, relative_more, relative_begins, begins_relative, walks_so, so_walks}

-- whether a key is the path at the end of a walk
abbrev pub led : Option (List Name) → Name → Bool
led None k = false
led (Some p) k = bytes_eq k (path p)

-- what the walk back tells of a key
pub tells : (j x k : Name) (r : Bool) → key j ≡ true → key k ≡ true → Decides r (walked [] (directory j ++ parts x) ≡ Some (parts k)) → r ≡ led (walked (directory j) (parts x)) k
tells j x k r hj hk d = by (walked (directory j) (parts x)) (λ p e. walked_keeps slashless (parts x) (directory j) p (every_without_last slashless (parts j) (parts_slashless j)) (parts_slashless x) e) r (subst (λ o. Decides r (o ≡ Some (parts k))) (from_directory j hj (parts x)) d)
  where
    other : (p : List Name) → every slashless p ≡ true → ((p ≡ parts k) → ⊥) → (t : Bool) → bytes_eq k (path p) ≡ t → t ≡ false
    other [] s n true e = absurd (true≢false (sym hk ∙ ap key ((bytes_eq-Decides k []).0 e)))
    other (y ∷ ys) s n true e = absurd (n (sym (parts_of_path y ys s) ∙ ap parts (sym ((bytes_eq-Decides k (path (y ∷ ys))).0 e))))
    other p s n false e = refl

    by : (o : Option (List Name)) → ((p : List Name) → o ≡ Some p → every slashless p ≡ true) → (r : Bool) → Decides r (o ≡ Some (parts k)) → r ≡ led o k
    by None f true d = absurd (none-some _ (d.0 refl))
    by None f false d = refl
    by (Some p) f true d = let e = d.0 refl in let z : p ≡ parts k = cc in sym (ap (λ q. bytes_eq k (path q)) z ∙ (bytes_eq-Decides k (path (parts k))).1 (sym (path_parts k)))
    by (Some p) f false d = sym (other p (f p refl) (λ e. false≢true (d.1 (ap Some e))) (bytes_eq k (path p)) refl)

-- a key held is a key
pub held_key : (rs : List (Bor (List ℕ))) (i : ℕ) (d : Bor (List ℕ)) → every key (all_now rs) ≡ true → i < length rs → key (get_or rs i d).now ≡ true
held_key rs i d h l = sym (ap key (get_or-map (λ x. x.now) rs i d [] l)) ∙ every_at key (all_now rs) i [] h (let n = length-map rs (λ x. x.now) in omega arith)

-- and so is the one at a place
pub key_at_place : (ks : List Name) (i : ℕ) (x : Name) → every key ks ≡ true → slice_get ks i ≡ Some x → key x ≡ true
key_at_place ks i x h e = sym (ap key (get_or_from_slice_get ks i x [] e)) ∙ every_at key ks i [] h (slice_get_within ks i x e)

-- the first key held that is the path at the end of a walk
pub led_place : (rs : List (Bor (List ℕ))) (o : Option (List Name)) (r : Option ℕ) → every key (all_now rs) ≡ true → MatchOption r (AllWithin (λ k. key k.now ≡ true → led o k.now ≡ false) rs 0 (length rs)) (λ i. (i < length rs) × HoldsAt (λ k. key k.now ≡ true → led o k.now ≡ true) rs i × AllWithin (λ k. key k.now ≡ true → led o k.now ≡ false) rs 0 i) → r ≡ option_and_then (λ p. place_of (all_now rs) (path p)) o
led_place rs o r h m = first r m ∙ position_map (λ k. k.now) (led o) rs ∙ by o
  where
    d : Bor (List ℕ)
    d = record { ref_ptr = (0, 0); now = [] }

    first : (r : Option ℕ) → MatchOption r (AllWithin (λ k. key k.now ≡ true → led o k.now ≡ false) rs 0 (length rs)) (λ i. (i < length rs) × HoldsAt (λ k. key k.now ≡ true → led o k.now ≡ true) rs i × AllWithin (λ k. key k.now ≡ true → led o k.now ≡ false) rs 0 i) → r ≡ position (λ k. led o k.now) rs
    first None m = sym (position_none (λ k. led o k.now) rs d (λ k l. m k d (omega arith) l (held_key rs k d h l)))
    first (Some i) (l, e, f) = sym (position_is (λ k. led o k.now) rs i d l (e d (held_key rs i d h l)) (λ k q. f k d (omega arith) q (held_key rs k d h (omega arith))))

    by : (o : Option (List Name)) → position (led o) (all_now rs) ≡ option_and_then (λ p. place_of (all_now rs) (path p)) o
    by None = position_none (led None) (all_now rs) [] (λ k l. refl)
    by (Some p) = refl

module _ (ks : List Name) (ok : holdable ks ≡ true) where
  pub all_keys : every key ks ≡ true
  all_keys = (and_parts (every key ks) (distinct ks && leb (length ks) 32) ok).0

  -- a specifier of these parts, from a held key
  follows : (j : Name) (m : ℕ) → place_of ks j ≡ Some m → (x : Name) (xs : List Name) → every slashless (x ∷ xs) ≡ true → relative (x ∷ xs) ≡ true → (p : List Name) → walked (directory j) (x ∷ xs) ≡ Some p → (file_hosting ks).follow m (path (x ∷ xs)) ≡ place_of ks (path p)
  follows j m e x xs s r p w =
      ap (λ o. option_and_then (λ j. led_to ks j (path (x ∷ xs))) o) (at_its_place ks j m e)
      ∙ ap (λ l. cond (relative l) (option_and_then (λ p. place_of ks (path p)) (walked (directory j) l)) None) (parts_of_path x xs s)
      ∙ cond-true _ _ _ r ∙ ap (λ o. option_and_then (λ p. place_of ks (path p)) o) w

  plain_slashless : (x : Name) → plain_part x ≡ true → slashless x ≡ true
  plain_slashless x h = (and_parts (ordinary x) (slashless x) h).1

  plain_ordinary : (x : Name) → plain_part x ≡ true → ordinary x ≡ true
  plain_ordinary x h = (and_parts (ordinary x) (slashless x) h).0

  pub plain_specifiers : PlainSpecifiersLeadDown (file_hosting ks)
  plain_specifiers j m e x xs h =
      follows j m e (codes ".") (x ∷ xs) (and_from _ _ refl (every_weaker plain_part slashless plain_slashless (x ∷ xs) h)) refl (directory j ++ (x ∷ xs)) (walked_ordinary (x ∷ xs) (directory j) (every_weaker plain_part ordinary plain_ordinary (x ∷ xs) h))

  -- `..` as often as there are segments
  climbs : (shared us zs : List Name) → length zs ≡ length us → walked (shared ++ zs) (map (λ _. codes "..") us) ≡ Some shared
  climbs shared [] zs n = ap Some (ap (λ l. shared ++ l) (nil_from_length zs n) ∙ append-nil shared)
  climbs shared (u ∷ us) zs n =
      let (ws, w, g, l) = last_one zs (length us) (n ∙ sym (add-one (length us))) in
      ap (λ q. option_and_then (λ r. walked r (map (λ _. codes "..") us)) (parent q)) (ap (λ q. shared ++ q) g ∙ sym (append_assoc shared ws (w ∷ [])))
      ∙ ap (λ o. option_and_then (λ r. walked r (map (λ _. codes "..") us)) o) (parent_push (shared ++ ws) w) ∙ climbs shared us ws l

  outs_slashless : (up : List Name) → every slashless (map (λ _. codes "..") up) ≡ true
  outs_slashless [] = refl
  outs_slashless (u ∷ up) = outs_slashless up

  module _ (j k : Name) (n : ℕ) (f : place_of ks k ≡ Some n) (shared up down : List Name) (from : directory j ≡ shared ++ up) (to : parts k ≡ shared ++ down) where
    down_has : (q : Name → Bool) → every q (parts k) ≡ true → every q down ≡ true
    down_has q h = (and_parts (every q shared) (every q down) (sym (list_all-append q shared down) ∙ sym (ap (every q) to) ∙ h)).1

    way_slashless : every slashless (way up down) ≡ true
    way_slashless = list_all-append slashless (map (λ _. codes "..") up) down ∙ and_from _ _ (outs_slashless up) (down_has slashless (parts_slashless k))

    way_leads : walked (directory j) (way up down) ≡ Some (parts k)
    way_leads =
        ap (λ d. walked d (way up down)) from ∙ walked_append (shared ++ up) (map (λ _. codes "..") up) down
        ∙ ap (λ o. option_and_then (λ q. walked q down) o) (climbs shared up up refl)
        ∙ walked_ordinary down shared (down_has ordinary (key_ordinary k (is_held_key ks ok k n f))) ∙ ap Some (sym to)

    there : place_of ks (path (parts k)) ≡ Some n
    there = ap (place_of ks) (path_parts k) ∙ f

    pub found_behind_here : (m : ℕ) → place_of ks j ≡ Some m → 0 < length (way up down) → (file_hosting ks).follow m (path (codes "." ∷ way up down)) ≡ Some n
    found_behind_here m e l = follows j m e (codes ".") (way up down) (and_from _ _ refl way_slashless) (relative_more (codes ".") (way up down) l) (parts k) way_leads ∙ there

  pub found_upwards : (j k : Name) (m n : ℕ) → place_of ks j ≡ Some m → place_of ks k ≡ Some n → (shared up down : List Name) → directory j ≡ shared ++ up → parts k ≡ shared ++ down → 0 < length up → 1 < length (way up down) → (file_hosting ks).follow m (path (way up down)) ≡ Some n
  found_upwards j k m n e f shared [] down from to u l = absurd (omega arith)
  found_upwards j k m n e f shared (y ∷ ys) down from to u l =
      follows j m e (codes "..") (way ys down) (way_slashless j k n f shared (y ∷ ys) down from to) (relative_more (codes "..") (way ys down) (omega arith)) (parts k) (way_leads j k n f shared (y ∷ ys) down from to) ∙ there j k n f shared (y ∷ ys) down from to

  pub ways : WaysBetweenHeldKeysAreFound (file_hosting ks)
  ways = record {
    behind_here = λ j k m n e f shared up down from to l. found_behind_here j k n f shared up down from to m e l;
    upwards = found_upwards;
  }

  led_somewhere : (j x : Name) (n : ℕ) (t : Bool) → relative (parts x) ≡ t → cond t (option_and_then (λ p. place_of ks (path p)) (walked (directory j) (parts x))) None ≡ Some n → LeadsToPlace (file_hosting ks) j x n
  led_somewhere j x n true r e = let (p, f, g) = then_some (walked (directory j) (parts x)) (λ p. place_of ks (path p)) n e in record { begins = relative_begins x r; end = p; walks = so_walks (parts x) (directory j) p f; held = g }
  led_somewhere j x n false r e = absurd (none-some _ e)

  pub follows_paths : FollowsPaths (file_hosting ks)
  follows_paths = record {
    answers = λ j m e x n f. led_somewhere j x n (relative (parts x)) refl (sym (ap (λ o. option_and_then (λ j. led_to ks j x) o) (at_its_place ks j m e)) ∙ f);
    answered = λ j m e x n l. ap (λ o. option_and_then (λ j. led_to ks j x) o) (at_its_place ks j m e) ∙ cond-true _ _ _ (begins_relative x l.begins) ∙ ap (λ o. option_and_then (λ p. place_of ks (path p)) o) (walks_so (parts x) (directory j) l.end l.walks) ∙ l.held;
    without_referrer = λ m h x. ap (λ o. option_and_then (λ j. led_to ks j x) o) (no_key_there ks ok m h);
  }
