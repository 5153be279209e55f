use Rattle.std.proofs.Common.{ap, ◌∙◌, rules, tests, bytes_eq, vec_items}
use Rattle.std.specs.List.{list_any}
use Rattle.std.proofs.lemmas.Iterator.{YieldsList-from_slice}
use Rattle.std.proofs.lemmas.Iterator.Search.{any_from_yields_List}
use Rattle.entries.proofs.Seeing.{among_any}
use Rattle.entries.proofs.seen.Seen.has.Goals as goal

pub returns : goal.returns
returns c =
    any_from_yields_List (λ y. bytes_eq y.now c.args.name.now) _ _ c.any.result c.any.ensures.ran (YieldsList-from_slice _ c.iter.ensures.rest) (λ x b q k. search (rules, tests))
    ∙ ap (list_any (λ y. bytes_eq y.now c.args.name.now)) c.deref.ensures.value ∙ among_any (vec_items c.args.self.now.names) c.args.name.now
