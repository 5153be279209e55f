use Rattle.std.proofs.Common.{vec_items, ap, is_ok}
use Rattle.std.proofs.ResultArms.{chosen}
use Rattle.std.proofs.lemmas.Result.{err_from_is_err_and}
use Rattle.entries.specs.Seen.{seen}
use Rattle.entries.proofs.Reading.{refused, one_more_made}
use Rattle.entries.proofs.reader.read_as.Goals as goal

pub returns-in_err-check : goal.returns-in_err-check
returns-in_err-check g c =
    let answer = err_from_is_err_and c.from_residual-in_err-check.result c.from_residual-in_err-check.ensures.1 in
    let taken = rw c.in_ok-entry.ensures.ok_part at c.first.ensures.takes in
    let why = c.in_err-check.ensures in
    let f = c.loop-rest.invariant in
    rw (answer.1, answer.2, why.2) (refused g.E.Encoded.format g.E.Encoded.contents c.args.bytes.now f.xs (seen c.loop-rest.seen) c.loop-rest.rest.now f.so_far _ _ taken _ c.name-name.ensures why.0 why.1)

pub loop-rest-preserved : goal.loop-rest-preserved
loop-rest-preserved g c =
    let taken = rw c.in_ok-entry.ensures.ok_part at c.first.ensures.takes in
    let items = chosen _ _ _ _ c.push.ensures.items (ap is_ok c.in_ok-push.was) in
    one_more_made g.E.Encoded.format g.E.Encoded.contents g.T.From.from_gives c.args.bytes.now (vec_items c.loop-rest.entries) (seen c.loop-rest.seen) c.loop-rest.rest.now c.loop-rest.invariant _ _ taken _ c.name-name.ensures _ c.from.ensures _ _ c.in_ok-check.ensures items c.in_ok-add.ensures
