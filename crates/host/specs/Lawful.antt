-- Hosts that hold keys in places are lawful.
use Rattle.std.specs.Prelude.{◌≡◌, ℕ, suc, ◌<◌, ◌≤◌, Bool, true, false, cond, ◌&&◌, List, [], ◌∷◌, map, length, Some, None, Option, nat_le, slice_index_or}
use Rattle.std.proofs.Common.{sym, ◌∙◌, ap, arith}
use Rattle.std.specs.List.{slice_get}
use Rattle.std.specs.Str.{bytes_eq}
use Rattle.std.proofs.lemmas.Slice.Eq.{bytes_eq-Decides}
use Rattle.std.proofs.lemmas.Bool.{and_parts, leb-true}
use Rattle.std.proofs.lemmas.List.Quantifiers.{position-Some}
use Rattle.std.specs.Option.{option_and_then}
use Rattle.std.proofs.lemmas.Option.{none-some}
use Rattle.names.specs.Names.{Name, distinct, every}
use Rattle.names.specs.Keys.{key, parts, path}
use Rattle.names.proofs.Keys.{key_decides}
use Rattle.outcome.specs.declared.Outcome.{Outcome}
use Rattle.outcome.specs.declared.Outcome.TheVariants.{Nothing, One, Several}
use Rattle.outcome.specs.Joining.{joined_all}
use Rattle.record.specs.Meanings.{LawfulHost}
use Rattle.host.specs.Paths.{walked, relative}
use Rattle.host.specs.Holding.{place_of, holdable}
use Rattle.host.specs.FileHosts.{directory, led_to, file_hosting}
use Rattle.host.specs.MappedHosts.{Row, says, placed, mapped_to, mapped_hosting}

-- the place of a key held is within the keys, and the key stands there
pub held_at : (ks : List Name) (x : Name) (m : ℕ) → place_of ks x ≡ Some m → (m < length ks) × (slice_index_or ks m [] ≡ x)
held_at ks x m e = let h = position-Some (λ k. bytes_eq k x) ks m [] e in (h.0, (bytes_eq-Decides (slice_index_or ks m []) x).0 h.1)

pub every_at : {A : Type 0} (p : A → Bool) (xs : List A) (m : ℕ) (d : A) → every p xs ≡ true → m < length xs → p (slice_index_or xs m d) ≡ true
every_at p [] m d h l = absurd (omega arith)
every_at p (x ∷ xs) Prim.Native.Nat.zero d h l = (and_parts (p x) (every p xs) h).0
every_at p (x ∷ xs) (suc m) d h l = every_at p xs m d (and_parts (p x) (every p xs) h).1 (omega arith)

-- what comes of an answer is below a bound, if it is so from each
below_then : {A : Type 0} (o : Option A) (f : A → Option ℕ) (n : ℕ) → ((a : A) → f a ≡ Some n → n < 32) → option_and_then f o ≡ Some n → n < 32
below_then None f n h e = absurd (none-some _ e)
below_then (Some a) f n h e = h a e

module _ (ks : List Name) (ok : holdable ks ≡ true) where
  pub few : length ks ≤ 32
  few = leb-true (length ks) 32 (and_parts (distinct ks) (nat_le (length ks) 32) (and_parts (every key ks) (distinct ks && nat_le (length ks) 32) ok).1).1

  pub is_held_key : (x : Name) (m : ℕ) → place_of ks x ≡ Some m → key x ≡ true
  is_held_key x m e = let h = held_at ks x m e in sym (ap key h.1) ∙ every_at key ks m [] (and_parts (every key ks) (distinct ks && nat_le (length ks) 32) ok).0 h.0

  below : (x : Name) (m : ℕ) → place_of ks x ≡ Some m → m < 32
  below x m e = let h = (held_at ks x m e).0 in omega (arith, few)

  led_below : (j x : Name) (n : ℕ) (t : Bool) → cond t (option_and_then (λ p. place_of ks (path p)) (walked (directory j) (parts x))) None ≡ Some n → n < 32
  led_below j x n true e = below_then (walked (directory j) (parts x)) (λ p. place_of ks (path p)) n (λ p h. below (path p) n h) e
  led_below j x n false e = absurd (none-some _ e)

  -- a host that seeks so, and follows to places below 32
  pub lawful_if : (follow : ℕ → Name → Option ℕ) → ((m : ℕ) (x : Name) (n : ℕ) → follow m x ≡ Some n → n < 32) → LawfulHost (record { seek = place_of ks; follow = follow })
  lawful_if follow h = record {
    keys_are_keys = λ k m e. (key_decides k).0 (is_held_key k m e);
    places_of_keys_are_below_32 = below;
    each_key_has_its_own_place = λ j k m e f. sym (held_at ks j m e).1 ∙ (held_at ks k m f).1;
    followed_places_are_below_32 = h;
  }

  pub file_hosting_lawful : LawfulHost (file_hosting ks)
  file_hosting_lawful = lawful_if _ (λ m x n e. below_then (slice_get ks m) (λ j. led_to ks j x) n (λ j h. led_below j x n (relative (parts x)) h) e)

  pub mapped_hosting_lawful : (rows : List Row) → LawfulHost (mapped_hosting ks rows)
  mapped_hosting_lawful rows = lawful_if _ (λ m x n e. below_then (slice_get ks m) (λ j. mapped_to ks rows j x) n (λ j h. placed_below (joined_all bytes_eq (map (says j x) rows)) n h) e)
    where
      placed_below : (o : Outcome Name) (n : ℕ) → placed ks o ≡ Some n → n < 32
      placed_below Nothing n e = absurd (none-some _ e)
      placed_below (One t) n e = below t n e
      placed_below Several n e = absurd (none-some _ e)
