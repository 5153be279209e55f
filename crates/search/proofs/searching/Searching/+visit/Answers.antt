-- What is left to show of `visit`.
use Rattle.std.proofs.Common.{◌≡◌, ◌<◌, sym, ap, ◌∙◌, arith, eqb-true, MutBor}
use Rattle.std.proofs.lemmas.Bool.{eqb-false}
use Rattle.std.proofs.lemmas.Result.{err_from_is_err_and}
use Rattle.search.specs.Search.{hands_on}
use Rattle.search.specs.Stacks.{visit_at, shown, count}
use Rattle.search.proofs.Along.{along_starts, along_further, along_within, along_fewer, along_inside, along_fails, along_stays, along_pops, passes}
use Rattle.search.proofs.Shown.{shown_marks}
use Rattle.search.proofs.searching.Searching.+visit.Goals as goal
use Rattle.search.proofs.searching.Searching.+visit.Goals.{then-is_lowest, else-is_lowest}

pub returns-in_err-meet-clause-does : goal.returns-in_err-meet-clause-does
returns-in_err-meet-clause-does g t c =
    let s = c.args.self.now in
    let p = err_from_is_err_and c.from_residual.result c.from_residual.ensures.1 in
    let h = c.in_err-meet.ensures in
    rw (p.1, p.2) (c.args.node.value, hands_on h.0 (h.1 (shown (g.W.Walk.marks s.walk.now) s.stack.now)))

pub returns-in_default-clause-does : goal.returns-in_default-clause-does
returns-in_default-clause-does g t c = let h = c.in_ok-meet.ensures in passes c.in_ok-meet.field-0 h.0 c.in_default.not-Fresh h.1

pub loop-next-init : goal.loop-next-init
loop-next-init g t c =
    let E = c.enter.ensures in
    record { walk = E.walk; stack = E.stack; along = along_starts (sym c.in_ok-meet.ensures.0 ∙ c.in-Fresh.is) E.fixed E.state E.after }

pub visit-requires : goal.visit-requires
visit-requires g t c κs within =
    let h : count (g.W.Walk.marks c.args.self.now.walk.now) 32 ≡ t = c.decreases in
    let less : count (g.W.Walk.marks c.loop-next.self.walk.now) 32 < t = omega (arith, along_fewer c.loop-next.invariant.along c.args.node.below) in
    (less, (within.0, within.1))

pub returns-in_err-visit-clause-does : goal.returns-in_err-visit-clause-does
returns-in_err-visit-clause-does g t c =
    let p = err_from_is_err_and c.from_residual-in_err-visit.result c.from_residual-in_err-visit.ensures.1 in
    let h = c.in_err-visit.ensures.does in
    rw (p.1, p.2) (h.0, along_inside c.loop-next.invariant.along (sym c.in-Some.ensures.is) h.1)

pub loop-next-preserved : goal.loop-next-preserved
loop-next-preserved g t c =
    let T = g.W.Walk in
    let I = c.loop-next.invariant in
    let w = ap (λ (x : MutBor g.row.W.Denot). x.now) c.heed.ensures.walk in
    record {
      walk = ap (λ (x : MutBor g.row.W.Denot). x.ghost_name) c.heed.ensures.walk ∙ c.visit.ensures.walk ∙ I.walk;
      stack = c.heed.ensures.stack ∙ c.visit.ensures.stack ∙ I.stack;
      along = along_further I.along (sym c.in-Some.ensures.is) c.in_ok-visit.ensures.does (ap T.fixed w ∙ c.visit.ensures.fixed) c.heed.ensures.after (ap T.state w);
    }

pub returns-in_err-act-clause-does : goal.returns-in_err-act-clause-does
returns-in_err-act-clause-does g t c =
    let T = g.W.Walk in
    let s = c.loop-next.self in
    let f = T.marks s.walk.now in
    let p = err_from_is_err_and c.from_residual-in_err-act.result c.from_residual-in_err-act.ensures.1 in
    let e = shown_marks (T.marks c.act.new.self) f s.stack.now c.act.ensures.marks in
    rw (p.1, p.2) (c.args.node.value, along_fails c.loop-next.invariant.along (sym c.in_default-arrow.ensures.is) e (c.in_err-act.ensures.does (shown f s.stack.now)))

pub settle-requires : goal.settle-requires
settle-requires g t c = along_within c.loop-next.invariant.along c.args.self.now.stacked

pub returns-clause-does : goal.returns-clause-does
returns-clause-does g t c =
    let T = g.W.Walk in
    let s = c.loop-next.self in
    let A = c.loop-next.invariant.along in
    let v = c.args.node.value in
    let e = shown_marks (T.marks c.act.new.self) (T.marks s.walk.now) s.stack.now c.act.ensures.marks in
    let d = c.in_ok-act.ensures.does (shown (T.marks s.walk.now) s.stack.now) in
    let q = sym c.in_default-arrow.ensures.is in
    let m = visit_at s.stack.now v in
    elim c.if-is_lowest.branch [
      | then-is_lowest w ↦ rw w.self-is (along_pops A q e d (eqb-true m.low m.index (sym c.is_lowest.ensures ∙ w.if-is_lowest.true)) c.act.ensures.fixed w.settle.ensures.does w.settle.ensures.after)
      | else-is_lowest w ↦ rw w.self-is (along_stays A q e d (eqb-false m.low m.index (sym c.is_lowest.ensures ∙ w.if-is_lowest.false)))
    ]
