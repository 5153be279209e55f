use Rattle.std.proofs.Common.{refl, Some, None, rules, tests}
use Rattle.std.proofs.lemmas.Iterator.{YieldsList-from_slice}
use Rattle.std.proofs.lemmas.Iterator.Consumers.{YieldsList-from_enumerate}
use Rattle.host.specs.MappedHosts.{plain, good_rows, bad_row_behind}
use Rattle.host.proofs.Finding.{first_bad}
use Rattle.host.proofs.Mapping.{good_more}
use Rattle.host.proofs.rows.check_rows.Goals as goal

pub returns-in-Some : goal.returns-in-Some
returns-in-Some c = (
  c.in-Some.n,
  c.malformed.ensures,
  first_bad plain good_rows bad_row_behind refl good_more _ _ c.args.rows.now (Some c.in-Some.n) c.in-Some.ensures.ran
      (YieldsList-from_enumerate (YieldsList-from_slice _ (cc)) (cc)) (λ x q k. search (rules, tests)) (λ x q k. search (rules, tests)),
)

pub returns-in-None : goal.returns-in-None
returns-in-None c =
    first_bad plain good_rows bad_row_behind refl good_more _ _ c.args.rows.now None c.in-None.ensures.ran
    (YieldsList-from_enumerate (YieldsList-from_slice _ (cc)) (cc)) (λ x q k. search (rules, tests)) (λ x q k. search (rules, tests))
