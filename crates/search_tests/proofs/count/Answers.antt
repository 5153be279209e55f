-- What is left to show of `count`.
use Rattle.std.proofs.Common.{get_or}
use Rattle.search.specs.Stacks.{shown}
use Rattle.search_tests.specs.declared.counting.Stage.TheVariants.{New}
use Rattle.search_tests.specs.Walks.{marking}
use Rattle.search_tests.proofs.Counted.{begins_at_rest, all_counted}
use Rattle.search_tests.proofs.count.Goals as goal

pub returns : goal.returns
returns c =
    let L = c.in-Ok.ensures.laws in
    let w = c.search.new.walk in
    all_counted c.args.root.value (shown (λ x. marking (get_or w.stages x New)) c.search.new.stack) w.counts (L.finishes begins_at_rest) (L.once begins_at_rest)
