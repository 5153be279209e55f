-- What is left to show of `fail`.
use Rattle.std.proofs.Common.{get_or, rules}
use Rattle.search.specs.declared.mark.Mark.TheVariants.{Fresh}
use Rattle.search.specs.Stacks.{shown}
use Rattle.search_tests.proofs.fail.Goals as goal

pub returns : goal.returns
returns c = (shown (λ x. get_or c.search.new.walk.marks.now x Fresh) c.search.new.stack, c.search.ensures.does, search rules)
