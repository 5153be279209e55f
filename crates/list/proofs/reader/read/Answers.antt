use Rattle.std.proofs.lemmas.Result.{err_from_is_err_and}
use Rattle.entries.proofs.Errors.{mapped_err, mapped_ok}
use Rattle.list.proofs.Reading.{refuses, whole, one_more}
use Rattle.list.proofs.reader.read.Goals as goal

pub returns-in_err-all : goal.returns-in_err-all
returns-in_err-all c =
    let answer = err_from_is_err_and c.from_residual.result c.from_residual.ensures.1 in
    rw (answer.1, answer.2) (refuses c.args.bytes.now c.read.result c.in_err-all.field-0.0 c.read.ensures (mapped_err _ c.read.result c.map_err.result c.in_err-all.field-0.0 c.map_err.ensures.cases c.in_err-all.was))

pub loop-byte-preserved : goal.loop-byte-preserved
loop-byte-preserved c =
    let kept = mapped_ok _ c.read.result c.map_err.result c.in_ok-all.all c.map_err.ensures.cases c.in_ok-all.was in
    let reads = rw kept at c.read.ensures in
    one_more c.deref-byte-items.result.now c.loop-byte.byte-index _ c.loop-byte.module c.add.new.self (rw c.deref-byte-items.ensures.value reads.1) c.loop-byte-test.true c.loop-byte.invariant c.in_ok-add.ensures.declares c.in_ok-add.ensures.values

pub returns : goal.returns
returns c =
    let kept = mapped_ok _ c.read.result c.map_err.result c.in_ok-all.all c.map_err.ensures.cases c.in_ok-all.was in
    let reads = rw kept at c.read.ensures in
    whole c.args.bytes.now c.in_ok-all.all c.deref-byte-items.result.now c.loop-byte.byte-index c.loop-byte.module reads c.deref-byte-items.ensures.value c.loop-byte-test.false c.loop-byte.invariant
