use Rattle.entries.proofs.Reading.{as_they_are}
use Rattle.entries.proofs.reader.read.Goals as goal

pub returns : goal.returns
returns g c = as_they_are g.E.Encoded.format g.E.Encoded.contents c.args.bytes.now c.read_as.result c.read_as.ensures
