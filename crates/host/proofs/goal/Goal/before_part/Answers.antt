use Rattle.std.proofs.Common.{rules}
use Rattle.host.specs.Goals.{aim}
use Rattle.host.proofs.Walks.{one_byte, two_bytes, back_here, back_out}
use Rattle.host.proofs.goal.Goal.before_part.Goals as goal

pub returns-in-HERE-clause-back : goal.returns-in-HERE-clause-back
returns-in-HERE-clause-back c = back_here (aim c.args.self) c.args.self.extra c.args.part.now (search rules) (search (rules, one_byte))

pub returns-in-UP-clause-back : goal.returns-in-UP-clause-back
returns-in-UP-clause-back c = back_out (aim c.args.self) c.args.self.extra c.args.part.now (search rules) (search rules) (search (rules, two_bytes))
