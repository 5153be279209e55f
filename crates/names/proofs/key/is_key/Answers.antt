use Rattle.std.proofs.Common.{arith}
use Rattle.names.proofs.Keys.{decided}
use Rattle.names.proofs.key.is_key.Goals as goal

pub returns-then-bytes-le-LONGEST_KEY : goal.returns-then-bytes-le-LONGEST_KEY
returns-then-bytes-le-LONGEST_KEY c =
    let d = decided c.args.bytes.now c.are_segments.result (omega arith) c.are_segments.ensures in
    record { value = d.0; exactly = d.1 }
