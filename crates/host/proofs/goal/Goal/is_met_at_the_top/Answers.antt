use Rattle.std.proofs.lemmas.Bool.{both_ways}
use Rattle.host.proofs.Backwards.{not_met}
use Rattle.host.proofs.goal.Goal.is_met_at_the_top.Goals as goal

pub returns-else-is_none : goal.returns-else-is_none
returns-else-is_none c = (λ t. absurd (both_ways _ c.if-is_none.false t), λ m. absurd (not_met c.args.self.path c.args.self.extra c.if-is_none.ensures m))
