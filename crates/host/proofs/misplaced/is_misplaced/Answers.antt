use Rattle.std.proofs.Common.{◌∙◌, sym, arith, rules, tests, bytes_eq}
use Rattle.std.proofs.lemmas.Iterator.{YieldsList-from_slice}
use Rattle.std.proofs.lemmas.Iterator.Search.{any_from_yields_List}
use Rattle.std.proofs.lemmas.Bool.{both_ways, le-leb, not-false}
use Rattle.std.proofs.lemmas.List.{length-map}
use Rattle.host.specs.Holding.{all_now}
use Rattle.host.proofs.Finding.{among_now, misplaced_again}
use Rattle.host.proofs.misplaced.is_misplaced.Goals.{then-before-ge-MAX_KEYS, else-before-ge-MAX_KEYS}
use Rattle.host.proofs.misplaced.is_misplaced.Goals as goal

pub returns-else-not-is_key : goal.returns-else-not-is_key
returns-else-not-is_key c =
    let n = length-map c.args.before.now (λ x. x.now) in
    any_from_yields_List (λ y. bytes_eq y.now c.args.name.now) _ _ c.any.result c.any.ensures.ran (YieldsList-from_slice _ c.iter.ensures.rest) (λ x b q k. search (rules, tests))
    ∙ among_now c.args.before.now c.args.name.now
    ∙ misplaced_again (all_now c.args.before.now) c.args.name.now
    (elim c.if-before-ge-MAX_KEYS.branch [ then-before-ge-MAX_KEYS w ↦ absurd (both_ways _ c.if-not-is_key.false (w.value-is ∙ le-leb _ _ w.if-before-ge-MAX_KEYS.true)) | else-before-ge-MAX_KEYS w ↦ let l = w.if-before-ge-MAX_KEYS.false in omega arith ])
    (elim c.if-before-ge-MAX_KEYS.branch [ then-before-ge-MAX_KEYS w ↦ absurd (both_ways _ c.if-not-is_key.false (w.value-is ∙ le-leb _ _ w.if-before-ge-MAX_KEYS.true)) | else-before-ge-MAX_KEYS w ↦ sym w.is_key.ensures.value ∙ not-false _ (sym w.value-is ∙ c.if-not-is_key.false) ])
