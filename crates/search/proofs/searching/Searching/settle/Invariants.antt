-- What the loop that pops keeps, and why it ends.
use Rattle.std.proofs.Common.{◌≡◌, length}
use Rattle.search.specs.Stacks.{shown}
use Rattle.search.proofs.Popping.{Popping}
use Rattle.search.proofs.searching.Searching.settle.Given as goal

abbrev pub invariant-loop-node : goal.invariant-loop-node
invariant-loop-node g l =
    let T = g.W.Walk in
    let s0 = l.initial.self in
    record {
      walk : l.self.walk.ghost_name ≡ s0.walk.ghost_name;
      stack : l.self.stack.ghost_name ≡ s0.stack.ghost_name;
      popping : Popping (T.deeds (T.fixed s0.walk.now)) l.root.value (shown (T.marks s0.walk.now) s0.stack.now) (T.state s0.walk.now) (shown (T.marks l.self.walk.now) l.self.stack.now) (T.state l.self.walk.now);
      fixed : T.fixed l.self.walk.now ≡ T.fixed s0.walk.now;
    }

abbrev pub decreases-loop-node : goal.decreases-loop-node
decreases-loop-node g l = length l.self.stack.now.nodes.items
