-- What is left to show of `heed`.
use Rattle.std.proofs.Common.{sym, ap, ◌∙◌, arith}
use Rattle.search.specs.Stacks.{shown}
use Rattle.search.proofs.Shown.{shown_lower, lower_none}
use Rattle.search.proofs.searching.Searching.heed.Goals as goal

pub returns-in-Open-clause-after : goal.returns-in-Open-clause-after
returns-in-Open-clause-after g c =
    let s = c.args.self.now in
    let f = g.W.Walk.marks s.walk.now in
    ap (shown f) c.lower.ensures.after ∙ shown_lower f s.stack.now c.args.node.value c.args.next.value (omega (arith, c.lower.ensures.visits, c.args.node.below)) (sym c.look.ensures ∙ c.in-Open.is)

pub returns-in_default-clause-after : goal.returns-in_default-clause-after
returns-in_default-clause-after g c =
    let s = c.args.self.now in
    lower_none (shown (g.W.Walk.marks s.walk.now) s.stack.now) c.args.node.value c.args.next.value (λ o. c.in_default.not-Open (c.look.ensures ∙ o))
