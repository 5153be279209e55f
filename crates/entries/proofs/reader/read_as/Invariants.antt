use Rattle.std.proofs.Common.{length, vec_items}
use Rattle.entries.specs.Seen.{seen}
use Rattle.entries.proofs.Reading.{MadeSoFar}
use Rattle.entries.proofs.reader.read_as.Given as goal

abbrev pub invariant-loop-rest : goal.invariant-loop-rest
invariant-loop-rest g l = MadeSoFar g.E.Encoded.format g.E.Encoded.contents g.T.From.from_gives l.bytes (vec_items l.entries) (seen l.seen) l.rest

abbrev pub decreases-loop-rest : goal.decreases-loop-rest
decreases-loop-rest g l = length l.rest
