use Rattle.std.proofs.Common.{refl, rules}
use Rattle.std.proofs.lemmas.Iterator.Adapters.{YieldsList-from_vec}
use Rattle.outcome.specs.Joining.{valued}
use Rattle.outcome.proofs.Joins.{laws, joined_over}
use Rattle.outcome.proofs.join_all.Goals as goal

pub returns-clause-values : goal.returns-clause-values
returns-clause-values g c =
    joined_over g.T.Same.same g.T.Same.decides (valued g.T.Same.value) (valued g.T.Same.value) c.fold.ensures.ran refl (λ b x r h k. (search rules, search rules)) c.args.outcomes.items
    (YieldsList-from_vec c.args.outcomes.items c.into_iter.ensures.rest cc)

pub returns-clause-laws : goal.returns-clause-laws
returns-clause-laws g c = laws g.T.Same.same g.T.Same.decides
