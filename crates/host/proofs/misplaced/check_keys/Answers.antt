use Rattle.std.proofs.Common.{refl, Some, None, rules, tests}
use Rattle.std.proofs.lemmas.Iterator.{YieldsList-from_slice}
use Rattle.std.proofs.lemmas.Iterator.Consumers.{YieldsList-from_enumerate}
use Rattle.host.specs.Holding.{holdable, misplaced}
use Rattle.host.proofs.Finding.{first_bad, holdable_more}
use Rattle.host.proofs.misplaced.check_keys.Goals as goal

pub returns-in-Some : goal.returns-in-Some
returns-in-Some c = (
  c.in-Some.n,
  c.malformed.ensures,
  first_bad (λ k. k.now) holdable misplaced refl holdable_more _ _ c.args.keys.now (Some c.in-Some.n) c.in-Some.ensures.ran
      (YieldsList-from_enumerate (YieldsList-from_slice _ (cc)) (cc)) (λ x q k. search (rules, tests)) (λ x q k. search (rules, tests)),
)

pub returns-in-None : goal.returns-in-None
returns-in-None c =
    first_bad (λ k. k.now) holdable misplaced refl holdable_more _ _ c.args.keys.now None c.in-None.ensures.ran
    (YieldsList-from_enumerate (YieldsList-from_slice _ (cc)) (cc)) (λ x q k. search (rules, tests)) (λ x q k. search (rules, tests))
