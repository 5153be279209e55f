use Rattle.std.proofs.Common.{ℕ, List, sym, refl, ap, ◌∙◌, rules, Bor}
use Rattle.std.specs.Str.{bytes_eq}
use Rattle.std.proofs.lemmas.Iterator.{YieldsList-from_slice, YieldsList-from_map_by}
use Rattle.std.proofs.lemmas.Simd.{map-map}
use Rattle.outcome.specs.Joining.{joined_all, valued}
use Rattle.outcome.proofs.Joins.{joined_over}
use Rattle.std.proofs.lemmas.List.{map-id}
use Rattle.std.proofs.lemmas.Slice.Eq.{bytes_eq-Decides}
use Rattle.host.specs.MappedHosts.{plain, says}
use Rattle.host.proofs.rows.said_by_all.Goals as goal

pub returns : goal.returns
returns c =
    joined_over bytes_eq bytes_eq-Decides (λ o. o) (valued {A = Bor (List ℕ)} (λ x. x.now)) c.fold.ensures.ran refl (λ b x r h k. (search rules, search rules)) _
    (YieldsList-from_map_by _ (valued {A = Bor (List ℕ)} (λ x. x.now)) (λ row. says c.args.referrer.now c.args.specifier.now (plain row)) (YieldsList-from_slice c.args.rows.now cc) c.map.ensures.closure (λ x r q k. search rules))
    ∙ ap (joined_all bytes_eq) (map-id _ ∙ sym (map-map (says c.args.referrer.now c.args.specifier.now) plain c.args.rows.now))
