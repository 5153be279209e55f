-- What is left to show of `enter`.
use Rattle.std.proofs.Common.{◌≡◌, ◌+◌, length, ap, ◌∙◌, arith, length-append}
use mathlib.Core.Path.{subst⁻¹}
use Rattle.search.specs.declared.stack.Stack.{Stack}
use Rattle.search.specs.Search.{Search}
use Rattle.search.specs.Stacks.{shown, Stacked}
use Rattle.search.proofs.Counting.{count_opened}
use Rattle.search.proofs.Shown.{shown_enter}
use Rattle.search.proofs.Stacking.{enter_stacked}
use Rattle.search.proofs.searching.Searching.enter.Goals as goal

pub push-requires : goal.push-requires
push-requires g c =
    let T = g.W.Walk in
    let s = c.args.self.now in
    let h = count_opened (T.marks s.walk.now) (T.marks c.open.new.self) c.args.node.value c.args.node.below c.requires (c.open.ensures.marks c.requires) in
    record { room = omega (arith, s.room.tops); index = omega (arith, s.room.nexts) }

pub invariant_of-self : goal.invariant_of-self
invariant_of-self g c =
    let T = g.W.Walk in
    let s = c.args.self.now in
    let f1 = T.marks c.open.new.self in
    let M = c.open.ensures.marks c.requires in
    let h = count_opened (T.marks s.walk.now) f1 c.args.node.value c.args.node.below c.requires M in
    let e = c.push.ensures.after in
    let tops : length c.push.new.self.nodes.items ≡ length s.stack.now.nodes.items + 1 = ap (λ (x : Stack). length x.nodes.items) e ∙ length-append s.stack.now.nodes.items _ in
    let nexts : c.push.new.self.next ≡ s.stack.now.next + 1 = ap (λ (x : Stack). x.next) e in
    let after = ap (shown f1) e ∙ shown_enter (T.marks s.walk.now) f1 s.stack.now c.args.node M c.push.ensures.visits in
    record {
      room = record { tops = omega (arith, s.room.tops); nexts = omega (arith, s.room.nexts) };
      stacked = subst⁻¹ (λ (x : Search). Stacked x) after (enter_stacked s.stacked c.requires);
    }

pub returns-clause-after : goal.returns-clause-after
returns-clause-after g c =
    let T = g.W.Walk in
    let s = c.args.self.now in
    let f1 = T.marks c.open.new.self in
    ap (shown f1) c.push.ensures.after ∙ shown_enter (T.marks s.walk.now) f1 s.stack.now c.args.node (c.open.ensures.marks c.requires) c.push.ensures.visits
