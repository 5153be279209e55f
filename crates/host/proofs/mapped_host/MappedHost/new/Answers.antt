use Rattle.std.proofs.Common.{ap, subst}
use Rattle.std.proofs.lemmas.Result.{err_from_is_err_and}
use Rattle.host.specs.Holding.{all_now}
use Rattle.host.specs.Held.{held}
use Rattle.host.specs.MappedHosts.{plain_all, no_memory, bad_row, FollowsRows, mapped_hosting}
use Rattle.host.proofs.Mapping.{order_of_rows, keys_refused}
use Rattle.host.proofs.Numbered.{numbered_as_given}
use Rattle.host.proofs.Targets.{follows_rows}
use Rattle.host.proofs.mapped_host.MappedHost.new.Goals as goal

pub returns-in_err-keys-clause-makes : goal.returns-in_err-keys-clause-makes
returns-in_err-keys-clause-makes c =
    let p = err_from_is_err_and c.from_residual.result c.from_residual.ensures.1 in
    rw (p.1, p.2) (keys_refused (all_now c.args.keys.now) (plain_all c.args.rows.now) c.in_err-keys.field-0.0 c.in_err-keys.ensures)

pub returns-in_err-check_rows-clause-makes : goal.returns-in_err-check_rows-clause-makes
returns-in_err-check_rows-clause-makes c =
    let p = err_from_is_err_and c.from_residual-in_err-check_rows.result c.from_residual-in_err-check_rows.ensures.1 in
    let (n, e, f) = c.in_err-check_rows.ensures in
    rw (p.1, p.2, e) (bad_row c.in_ok-keys.ensures.1 f)

pub returns-in_err-rows-clause-makes : goal.returns-in_err-rows-clause-makes
returns-in_err-rows-clause-makes c =
    let p = err_from_is_err_and c.from_residual-in_err-rows.result c.from_residual-in_err-rows.ensures.1 in
    rw (p.1, p.2) no_memory

pub returns-clause-places : goal.returns-clause-places
returns-clause-places c = numbered_as_given (held c.in_ok-keys.keys) c.in_ok-keys.keys.ok (all_now c.args.keys.now) c.in_ok-keys.ensures.0

pub returns-clause-follows : goal.returns-clause-follows
returns-clause-follows c =
    let ks = held c.in_ok-keys.keys in
    let rows = plain_all c.in_ok-rows.rows.items in
    subst (λ l. FollowsRows l (mapped_hosting ks rows)) (ap plain_all c.in_ok-rows.ensures.items) (follows_rows ks c.in_ok-keys.keys.ok rows)

pub returns-clause-order : goal.returns-clause-order
returns-clause-order c = order_of_rows (held c.in_ok-keys.keys) (plain_all c.in_ok-rows.rows.items)
