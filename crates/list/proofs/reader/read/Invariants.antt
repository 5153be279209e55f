use Rattle.std.proofs.Common.{take}
use Rattle.list.proofs.Reading.{MadeOf}
use Rattle.list.proofs.reader.read.Given as goal

abbrev pub invariant-loop-byte : goal.invariant-loop-byte
invariant-loop-byte l = MadeOf (take l.byte-index l.byte-items) l.module
