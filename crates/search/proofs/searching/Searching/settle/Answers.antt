-- What is left to show of `settle`.
use Rattle.std.proofs.Common.{sym, ◌∙◌, eqb-true}
use Rattle.std.proofs.lemmas.Bool.{eqb-false}
use Rattle.search.proofs.Popping.{pop_some, pop_open, pop_stacked, pop_room, pop_more, pop_last}
use Rattle.search.proofs.searching.Searching.settle.Goals as goal

pub invariant_of-self : goal.invariant_of-self
invariant_of-self g c =
    let T = g.W.Walk in
    let s = c.loop-node.self in
    let f = T.marks s.walk.now in
    let x = c.in-Some.node in
    let e = sym c.pop.ensures.value ∙ c.in-Some.is in
    let M = c.close.ensures.marks (pop_open f s.stack.now x e s.stacked) in
    record {
      room = pop_room f s.stack.now x e s.stacked c.pop.new.self c.pop.ensures.after (T.marks c.close.new.self) M s.room;
      stacked = pop_stacked f s.stack.now x e s.stacked c.pop.new.self c.pop.ensures.after (T.marks c.close.new.self) M;
    }

pub loop-node-preserved : goal.loop-node-preserved
loop-node-preserved g c =
    let T = g.W.Walk in
    let s = c.loop-node.self in
    let I = c.loop-node.invariant in
    let x = c.in-Some.node in
    let e = sym c.pop.ensures.value ∙ c.in-Some.is in
    let o = pop_open (T.marks s.walk.now) s.stack.now x e s.stacked in
    let n = eqb-false x.value c.args.root.value (sym c.eq.ensures ∙ c.if-eq.false) in
    record {
      walk = I.walk;
      stack = I.stack;
      popping = pop_more (T.marks s.walk.now) s.stack.now x e s.stacked c.pop.new.self c.pop.ensures.after (T.marks c.close.new.self) (c.close.ensures.marks o) T.deeds I.popping I.fixed (c.close.ensures.does o) n;
      fixed = c.close.ensures.fixed o ∙ I.fixed;
    }

pub returns-then-eq : goal.returns-then-eq
returns-then-eq g c =
    let T = g.W.Walk in
    let s = c.loop-node.self in
    let I = c.loop-node.invariant in
    let x = c.in-Some.node in
    let e = sym c.pop.ensures.value ∙ c.in-Some.is in
    let o = pop_open (T.marks s.walk.now) s.stack.now x e s.stacked in
    let n = eqb-true x.value c.args.root.value (sym c.eq.ensures ∙ c.if-eq.true) in
    let E = pop_last (T.marks s.walk.now) s.stack.now x e s.stacked c.pop.new.self c.pop.ensures.after (T.marks c.close.new.self) (c.close.ensures.marks o) T.deeds I.popping I.fixed (c.close.ensures.does o) n in
    record { walk = I.walk; stack = I.stack; fixed = c.close.ensures.fixed o ∙ I.fixed; does = E.0; after = E.1 }

pub returns-in_default : goal.returns-in_default
returns-in_default g c = absurd (pop_some (g.W.Walk.marks c.loop-node.self.walk.now) c.loop-node.self.stack.now c.loop-node.invariant.popping.within (sym c.pop.ensures.value ∙ c.in_default.is))
