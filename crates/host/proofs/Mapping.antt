-- Rows: one more that may stand behind others, what they say joined, and that their order does not count.
use Rattle.std.proofs.Common.{◌≡◌, true, false, not, leb, List, [], ◌∷◌, ◌++◌, map, length, Some, None, Option, sym, refl, ap, ◌∙◌, subst, inl, inr, arith, length-append}
use mathlib.Core.List.Memᴰ
use mathlib.Core.List.{Memᴰ}
use Rattle.std.specs.List.{slice_get}
use Rattle.std.specs.Str.{bytes_eq}
use Rattle.std.proofs.lemmas.Slice.Eq.{bytes_eq-Decides}
use Rattle.std.proofs.lemmas.Bool.{and_parts, and_from, or_parts, not-false, le-leb, leb-false}
use Rattle.std.specs.Option.{option_and_then}
use Rattle.names.specs.Names.{Name, every}
use Rattle.std.proofs.lemmas.List.Folds.{list_all-append}
use Rattle.outcome.specs.declared.Outcome.{Outcome}
use Rattle.outcome.specs.Joining.{SameMembers}
use Rattle.outcome.proofs.Joins.{laws}
use Rattle.record.specs.declared.denial.Denial.{Denial}
use Rattle.host.specs.Holding.{RefusesKeys}
use Rattle.host.specs.MappedHosts.{Row, says, placed, good_row, good_rows, bad_row_behind, mapped_to, RefusesToMap, no_memory, bad_key, OrderOfRowsAndRowsWrittenTwiceDoNotAffectAnAnswer}

-- one more row that may stand behind others
pub good_more : (rows : List Row) (r : Row) → good_rows rows ≡ true → bad_row_behind rows r ≡ false → good_rows (rows ++ (r ∷ [])) ≡ true
good_more rows r well m =
    let u = or_parts (leb 64 (length rows)) (not (good_row r)) m in
    let few = leb-false 64 (length rows) u.0 in
    let q = and_parts (every good_row rows) (leb (length rows) 64) well in
    and_from _ _ (list_all-append good_row rows (r ∷ []) ∙ and_from _ _ q.0 (and_from _ _ (not-false (good_row r) u.1) refl)) (le-leb _ 64 (let n = length-append rows (r ∷ []) in omega arith))

-- what is said by the same rows
said_again : (f : Row → Outcome Name) (rows others : List Row) → SameMembers rows others → SameMembers (map f others) (map f rows)
said_again f rows others same = record {
  there = λ o m. let (r, h, e) = Memᴰ.of_map f others m in subst (λ q. Memᴰ q (map f rows)) e (Memᴰ.map f (same.back r h));
  back = λ o m. let (r, h, e) = Memᴰ.of_map f rows m in subst (λ q. Memᴰ q (map f others)) e (Memᴰ.map f (same.there r h));
}

pub order_of_rows : (ks : List Name) (rows : List Row) → OrderOfRowsAndRowsWrittenTwiceDoNotAffectAnAnswer ks rows
order_of_rows ks rows others same m x = by (slice_get ks m)
  where
    by : (o : Option Name) → option_and_then (λ j. mapped_to ks others j x) o ≡ option_and_then (λ j. mapped_to ks rows j x) o
    by None = refl
    by (Some j) = ap (placed ks) ((laws bytes_eq bytes_eq-Decides).lists_order_and_repetition _ _ (said_again (says j x) rows others same))

-- keys that are refused
pub keys_refused : (ks : List Name) (rows : List Row) (d : Denial) → RefusesKeys ks d → RefusesToMap ks rows d
keys_refused ks rows d (inl e) = subst (RefusesToMap ks rows) (sym e) no_memory
keys_refused ks rows d (inr (n, e, f)) = subst (RefusesToMap ks rows) (sym e) (bad_key f)
