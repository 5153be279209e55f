use Rattle.std.proofs.Common.{◌≡◌, false, eqb, Some, sym, ap, ◌∙◌, subst, rules, of_calls, arith}
use Rattle.std.specs.Slice.Iter.{split_rest, split_done, rsplit_parts}
use Rattle.std.proofs.lemmas.Fn.{always_returns_same}
use Rattle.names.specs.Keys.{parts}
use Rattle.host.specs.Paths.{segments}
use Rattle.host.specs.Goals.{SplitsLast}
use Rattle.host.proofs.Splitting.{left, splits_step}
use Rattle.host.proofs.Backwards.{Gone, gone_none, gone_more, gone_wrong, gone_all, parts_fit}
use Rattle.host.proofs.goal.Goal.before_path.Goals.{In-Some}
use Rattle.host.proofs.goal.Goal.before_path.Goals as goal

pub loop-part-init : goal.loop-part-init
loop-part-init c =
    let it = rsplit_parts c.into_iter-part-iterator.result in
    let d : split_done it ≡ false = search rules in
    let r : split_rest it ≡ c.args.path.now = search rules in
    let e : left (split_done it) (split_rest it) ≡ Some c.args.path.now = ap (λ b. left b (split_rest it)) d ∙ ap Some r in
    record {
      can = search (rules, of_calls);
      finite = search rules;
      gone = subst (λ o. Gone c.args.path.now c.args.self (segments o) c.args.self) (sym e) (gone_none c.args.path.now c.args.self);
      fits = rw e (omega arith);
    }

-- the part that `next` gave is the last of what was left
splits_here : (c : In-Some) → SplitsLast (split_rest (rsplit_parts c.loop-part.part-iterator)) (left (split_done (rsplit_parts c.next.new.self)) (split_rest (rsplit_parts c.next.new.self))) c.in-Some.part.now
splits_here c =
    let step = rw c.in-Some.is at c.next.ensures.steps in
    splits_step _ _ _ _ step.1 (step.2 (λ b. eqb b 47) (always_returns_same _ _ _ (λ a r f k. search rules))).1

-- and before it there were parts left
gone_here : (c : In-Some) → Gone c.args.path.now c.args.self (parts (split_rest (rsplit_parts c.loop-part.part-iterator))) c.loop-part.goal
gone_here c =
    let step = rw c.in-Some.is at c.next.ensures.steps in
    subst (λ b. Gone c.args.path.now c.args.self (segments (left b (split_rest (rsplit_parts c.loop-part.part-iterator)))) c.loop-part.goal) step.0 c.loop-part.invariant.gone

pub loop-part-preserved : goal.loop-part-preserved
loop-part-preserved c =
    let s = rsplit_parts c.loop-part.part-iterator in
    let t = rsplit_parts c.next.new.self in
    let here = (goal.at.loop-part-preserved c).In-Some in
    let step = rw c.in-Some.is at c.next.ensures.steps in
    let n = parts_fit (split_rest s) (left (split_done t) (split_rest t)) c.in-Some.part.now (splits_here here) in
    let l = rw step.0 at c.loop-part.invariant.fits in
    let m = c.in_ok-goal.ensures.size in
    record {
      can = search (rules, of_calls);
      finite = search rules;
      gone = gone_more c.args.path.now (split_rest s) (left (split_done t) (split_rest t)) c.in-Some.part.now c.args.self c.loop-part.goal (splits_here here) (gone_here here) c.in_ok-goal.goal c.in_ok-goal.ensures.back;
      fits = omega arith;
    }

pub returns-in_err-goal-clause-back : goal.returns-in_err-goal-clause-back
returns-in_err-goal-clause-back c =
    let here = (goal.at.returns-in_err-goal-clause-back c).In-Some in
    rw c.from_residual.ensures (gone_wrong c.args.path.now (split_rest (rsplit_parts c.loop-part.part-iterator)) _ c.in-Some.part.now c.args.self c.loop-part.goal (splits_here here) (gone_here here) c.in_err-goal.ensures.back)

pub returns-clause-back : goal.returns-clause-back
returns-clause-back c =
    let step = rw c.in-None.is at c.next.ensures.steps in
    gone_all c.args.path.now c.args.self c.loop-part.goal
    (subst (λ b. Gone c.args.path.now c.args.self (segments (left b (split_rest (rsplit_parts c.loop-part.part-iterator)))) c.loop-part.goal) step.0 c.loop-part.invariant.gone)
