use Rattle.std.proofs.Common.{◌++◌, Some, refl, rules}
use Rattle.names.specs.Keys.{parts}
use Rattle.host.specs.Paths.{without_last}
use Rattle.host.specs.Goals.{GoesBack}
use Rattle.host.specs.declared.goal.Goal.{Goal}
use Rattle.host.proofs.Backwards.{decided_by, back_over}
use Rattle.host.proofs.walk.leads.Goals as goal

pub returns : goal.returns
returns c =
    let xs = without_last (parts c.args.referrer.now) in
    let ys = parts c.args.specifier.now in
    let start : Goal = record { path = Some c.args.target; extra = 0 } in
    let back : GoesBack ys start c.before_path.result = rw c.at.ensures at c.before_path.ensures.back in
    decided_by (xs ++ ys) start refl c.and_then.result c.is_some_and.result
    (back_over xs ys start c.before_path.result c.and_then.result back c.and_then.ensures (λ g q. search rules))
    c.is_some_and.ensures (λ g q. search rules)
