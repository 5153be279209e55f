-- What is left to show of `search`.
use Rattle.std.proofs.Common.{ap, ◌∙◌, subst, arith, rules}
use mathlib.Core.Path.{subst⁻¹}
use Rattle.search.specs.declared.stack.Stack.{Stack}
use Rattle.search.specs.Search.{Search, begin, Ends}
use Rattle.search.specs.Laws.{none, Lawful}
use Rattle.search.specs.Running.{RunsComputeIt}
use Rattle.search.specs.Stacks.{shown, Room, Stacked}
use Rattle.search.proofs.Counting.{count_most}
use Rattle.search.proofs.Shown.{shown_blank}
use Rattle.search.proofs.Lawful.{success_finishes, action_follows, popped_cycle, fault_reached}
use Rattle.search.proofs.Actions.{actions_once}
use Rattle.search.proofs.Computing.{ends_run}
use Rattle.search.proofs.search.Goals as goal

pub invariant_of-searching : goal.invariant_of-searching
invariant_of-searching g c =
    let f = g.W.Walk.marks c.args.walk.now in
    let E = c.new.ensures in
    let h = count_most f 32 in
    record {
      room = subst⁻¹ (λ (m : Stack). Room f m) E (record { tops = omega arith; nexts = omega arith });
      stacked = subst⁻¹ (λ (s : Search). Stacked s) (ap (shown f) E ∙ shown_blank f) (record { each_open = λ x m. elim m [ ]; once = none });
    }

pub returns : goal.returns
returns g c =
    let T = g.W.Walk in
    let w = c.args.walk.now in
    let A = T.arrows (T.fixed w) in
    let D = T.deeds (T.fixed w) in
    let s = begin (T.marks w) in
    let v = c.args.root.value in
    let t = shown (T.marks c.visit.new.self.walk.now) c.visit.new.self.stack.now in
    let b = T.state c.visit.new.self.walk.now in
    let r = c.visit.result in
    let V = subst (λ (z : Search). Ends A D z (T.state w) v t b r) (ap (shown (T.marks w)) c.new.ensures ∙ shown_blank (T.marks w)) c.visit.ensures.does in
    let L : Lawful A D s (T.state w) v t b r =
    record {
      finishes = success_finishes A D s (T.state w) v t b r V;
      follows = action_follows A D s (T.state w) v t b r V;
      reached = fault_reached A D s (T.state w) v t b r;
      once = actions_once A D s (T.state w) v t b r V;
      cycles = popped_cycle A D s (T.state w) v t b r V;
    }
    in
    let C : RunsComputeIt A D s (T.state w) v t b r = λ P C. ends_run A P C s (T.state w) v t b r V in
    record { fixed = search rules; does = search (rules, V); laws = search (rules, L); computes = search (rules, C) }
