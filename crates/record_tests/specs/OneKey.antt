-- What the host of one key means.
use Rattle.std.specs.Prelude.{◌≡◌, ℕ, ◌<◌, Bool, cond, ◌&&◌, Some, None, codes, Option, ◌==◌}
use Rattle.std.proofs.Common.{sym, ◌∙◌, ap, arith}
use Rattle.std.specs.Str.{bytes_eq}
use Rattle.std.proofs.lemmas.Option.{cond_some}
use Rattle.std.proofs.lemmas.Slice.Eq.{bytes_eq-Decides}
use Rattle.names.specs.Names.{Name}
use Rattle.names.specs.Keys.{Key}
use Rattle.names.proofs.Keys.{key_decides}
use Rattle.record.specs.Meanings.{Hosting, LawfulHost}

-- place 0 where the test holds
abbrev pub zero_if : Bool → Option ℕ
zero_if t = cond t (Some 0) None

abbrev pub hosting : Hosting
hosting = record { seek = λ k. zero_if (bytes_eq k (codes "a")); follow = λ m x. zero_if (m == 0 && bytes_eq x (codes "./a")) }

below : (t : Bool) (m : ℕ) → zero_if t ≡ Some m → m < 32
below t m e = let z = (cond_some t 0 m e).1 in omega arith

is_a : (k : Name) (m : ℕ) → hosting.seek k ≡ Some m → k ≡ codes "a"
is_a k m e = (bytes_eq-Decides k (codes "a")).0 (cond_some (bytes_eq k (codes "a")) 0 m e).0

pub lawful_hosting : LawfulHost hosting
lawful_hosting = record {
  keys_are_keys = λ k m e. (key_decides k).0 (ap Rattle.names.specs.Keys.key (is_a k m e));
  places_of_keys_are_below_32 = λ k m e. below _ m e;
  each_key_has_its_own_place = λ j k m e f. is_a j m e ∙ sym (is_a k m f);
  followed_places_are_below_32 = λ m x n e. below _ n e;
}
