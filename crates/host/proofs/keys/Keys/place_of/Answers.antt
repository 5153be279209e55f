use Rattle.std.proofs.Common.{ap, ◌∙◌, rules, tests, bytes_eq}
use Rattle.std.proofs.lemmas.Iterator.{YieldsList-from_slice}
use Rattle.std.proofs.lemmas.Iterator.Search.{position_from_yields_List}
use Rattle.host.specs.Holding.{all_now, place_of}
use Rattle.host.proofs.Finding.{position_map}
use Rattle.host.proofs.keys.Keys.place_of.Goals as goal

pub returns : goal.returns
returns c =
    position_from_yields_List (λ k. bytes_eq k.now c.args.key.now) _ _ c.position.result c.position.ensures.ran (YieldsList-from_slice _ c.iter.ensures.rest) (λ x b q k. search (rules, tests))
    ∙ position_map (λ x. x.now) (λ k. bytes_eq k c.args.key.now) c.deref.result.now ∙ ap (λ rs. place_of (all_now rs) c.args.key.now) c.deref.ensures.value
