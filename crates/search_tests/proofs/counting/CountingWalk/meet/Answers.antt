-- No stage stands for a spoilt node.
use Rattle.std.proofs.Common.{◌≡◌, sym, ◌∙◌, rules}
use Rattle.search.specs.declared.mark.Mark.TheVariants.{Spoilt}
use Rattle.search_tests.specs.declared.counting.Stage.{Stage}
use Rattle.search_tests.specs.declared.counting.Stage.TheVariants.{New, Going, Counted}
use Rattle.search_tests.specs.Walks.{marking}
use Rattle.search_tests.proofs.counting.CountingWalk.meet.Goals as goal

pub returns : goal.returns
returns c = (c.look.ensures New, λ e. not_spoilt _ (sym (c.look.ensures New) ∙ e))
  where
    not_spoilt : (s : Stage) → ¬ (marking s ≡ Spoilt)
    not_spoilt New e = search rules
    not_spoilt Going e = search rules
    not_spoilt Counted e = search rules
