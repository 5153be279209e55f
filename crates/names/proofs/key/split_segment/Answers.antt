use Rattle.std.proofs.Common.{Some, None, sym, ◌∙◌, rules, tests}
use Rattle.std.proofs.lemmas.Iterator.{YieldsList-from_slice}
use Rattle.std.proofs.lemmas.Iterator.Search.{position_from_yields_List}
use Rattle.names.proofs.Keys.{is_slash, splits}
use Rattle.names.proofs.key.split_segment.Goals as goal

pub returns-in-Some : goal.returns-in-Some
returns-in-Some c =
    let first = position_from_yields_List is_slash _ _ c.position.result c.position.ensures.ran (YieldsList-from_slice c.args.path.now cc) (λ x b q k. search (rules, tests)) in
    splits c.args.path.now (Some c.in-Some.i) (sym c.in-Some.is ∙ first)

pub returns-in-None : goal.returns-in-None
returns-in-None c =
    let first = position_from_yields_List is_slash _ _ c.position.result c.position.ensures.ran (YieldsList-from_slice c.args.path.now cc) (λ x b q k. search (rules, tests)) in
    splits c.args.path.now None (sym c.in-None.is ∙ first)
