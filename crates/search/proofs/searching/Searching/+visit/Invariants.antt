-- What the loop over the arrows of a node keeps, and why `visit` ends.
use Rattle.std.proofs.Common.{◌≡◌, ◌-◌, ◌^◌}
use Rattle.search.specs.Stacks.{shown, count}
use Rattle.search.proofs.Along.{Along}
use Rattle.search.proofs.searching.Searching.+visit.Given as goal

abbrev pub decreases-visit : goal.decreases-visit
decreases-visit g l = count (g.W.Walk.marks l.self.now.walk.now) 32

abbrev pub invariant-loop-next : goal.invariant-loop-next
invariant-loop-next g l =
    let T = g.W.Walk in
    let s0 = l.fn.self in
    record {
      walk : l.self.walk.ghost_name ≡ s0.walk.ghost_name;
      stack : l.self.stack.ghost_name ≡ s0.stack.ghost_name;
      along : Along T.arrows T.deeds (T.fixed s0.walk.now) (shown (T.marks s0.walk.now) s0.stack.now) (T.state s0.walk.now) l.node.value l.i (T.fixed l.self.walk.now) (shown (T.marks l.self.walk.now) l.self.stack.now) (T.state l.self.walk.now);
    }

abbrev pub decreases-loop-next : goal.decreases-loop-next
decreases-loop-next g l = 2 ^ 64 - l.i
