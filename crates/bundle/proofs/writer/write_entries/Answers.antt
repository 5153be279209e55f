use Rattle.std.proofs.Common.{◌≡◌, length, vec_items, sym, ap, ◌∙◌, inl, inr}
use Rattle.std.proofs.lemmas.Result.{err_from_is_err_and}
use Rattle.entries.proofs.Errors.{mapped_err, mapped_ok}
use Rattle.entries.specs.Seen.{seen}
use Rattle.record.specs.Denials.{malformed_at}
use Rattle.bundle.specs.Bundles.{denial}
use Rattle.bundle.proofs.Writing.{unwritable_at, refused_place, well_more, names_more, written_more}
use Rattle.bundle.proofs.writer.write_entries.Goals as goal

pub returns-then-not-is_well_formed : goal.returns-then-not-is_well_formed
returns-then-not-is_well_formed c =
    let inv = c.loop-e.invariant in
    let at = c.malformed.ensures ∙ ap malformed_at (c.len.ensures ∙ c.loop-e.out.ok.0) in
    inr (unwritable_at c.args.entries.now c.loop-e.e-index _ c.loop-e-test.true inv.2 (vec_items c.loop-e.out) c.malformed.result inv.0 at c.requires (inl (sym c.is_well_formed.ensures ∙ c.if-not-is_well_formed.true)))

pub returns-in_err-map_err : goal.returns-in_err-map_err
returns-in_err-map_err c =
    let inv = c.loop-e.invariant in
    let l = c.args.entries.now in
    let i = c.loop-e.e-index in
    let d = c.in_err-map_err.field-0.0 in
    let answer = err_from_is_err_and c.from_residual.result c.from_residual.ensures.1 in
    let (fault, is, made) = mapped_err _ c.check.result c.map_err.result d c.map_err.ensures.cases c.in_err-map_err.was in
    let (why, refused, stopped) = rw is at c.check.ensures in
    let at : d ≡ malformed_at (length (vec_items c.loop-e.out)) = made ∙ ap denial stopped ∙ ap malformed_at (c.len-in-loop-e.ensures ∙ c.loop-e.out.ok.0) in
    rw (answer.1, answer.2) (inr (unwritable_at l i _ c.loop-e-test.true inv.2 (vec_items c.loop-e.out) d inv.0 at c.requires
    (refused_place l i _ c.loop-e-test.true inv.2 (seen c.loop-e.seen) inv.1 why refused)))

pub loop-e-preserved : goal.loop-e-preserved
loop-e-preserved c =
    let inv = c.loop-e.invariant in
    let l = c.args.entries.now in
    let i = c.loop-e.e-index in
    let kept = mapped_ok _ c.check.result c.map_err.result c.in_ok-map_err.field-0 c.map_err.ensures.cases c.in_ok-map_err.was in (
      written_more l i _ c.loop-e-test.true (vec_items c.loop-e.out) (vec_items c.append.new.out) inv.0 c.in_ok-append.ensures,
      names_more l i _ c.loop-e-test.true inv.2 (seen c.loop-e.seen) inv.1 (seen c.add.new.self) c.in_ok-add.ensures,
      well_more l i _ c.loop-e-test.true inv.2 (seen c.loop-e.seen) inv.1 (sym c.is_well_formed.ensures ∙ c.if-not-is_well_formed.false) (rw kept at c.check.ensures),
    )
