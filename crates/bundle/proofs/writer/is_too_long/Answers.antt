use Rattle.bundle.proofs.Fitting.{no_room}
use Rattle.bundle.proofs.writer.is_too_long.Goals as goal

pub returns : goal.returns
returns c = rw (← c.iter.ensures.rest) (no_room _ c.iter.result c.try_fold.new.self _ c.try_fold.result c.try_fold.ensures.ran (λ f f' n x v k. k.met) c.is_none.result c.is_none.ensures)
