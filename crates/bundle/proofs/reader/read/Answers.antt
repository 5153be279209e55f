use Rattle.std.proofs.Common.{◌⊎◌, Err, sym, subst, inr}
use Rattle.bundle.specs.Bundles.{IsOutOfMemory, Refused, too_long}
use Rattle.bundle.proofs.Reading.{answers, inverts}
use Rattle.bundle.proofs.reader.read.Goals as goal

pub returns-then-bytes-gt-LONGEST : goal.returns-then-bytes-gt-LONGEST
returns-then-bytes-gt-LONGEST c =
    let s = c.args.bytes.now in
    let h : IsOutOfMemory c.malformed.result ⊎ Refused s c.malformed.result = inr (subst (Refused s) (sym c.malformed.ensures) (too_long c.if-bytes-gt-LONGEST.true)) in
    record { reads = h; inverts = inverts s (Err c.malformed.result) h }

pub returns : goal.returns
returns c =
    let s = c.args.bytes.now in
    let h = answers s c.read_as.result c.map_err.result c.if-bytes-gt-LONGEST.false c.read_as.ensures c.map_err.ensures.cases in
    record { reads = h; inverts = inverts s _ h }
