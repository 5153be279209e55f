use Rattle.std.proofs.Common.{◌≡◌, ◌-◌, [], ◌∷◌, ◌++◌, sym, ap, ◌∙◌, arith}
use Rattle.std.specs.Option.{option_map}
use Rattle.std.proofs.lemmas.Slice.Eq.{bytes_eq-Decides}
use Rattle.std.proofs.lemmas.Bool.{both_ways, not-true, not-false}
use Rattle.host.specs.Paths.{segments}
use Rattle.host.specs.Goals.{aim}
use Rattle.host.proofs.Splitting.{splits_segments}
use Rattle.host.proofs.Walks.{back_dropped, back_kept, back_other}
use Rattle.host.proofs.goal.Goal.before_name.Goals as goal

pub returns-then-self-gt0-clause-back : goal.returns-then-self-gt0-clause-back
returns-then-self-gt0-clause-back c = back_dropped (aim c.args.self) c.args.self.extra c.args.name.now c.requires.not_empty c.requires.not_here c.requires.not_up (c.args.self.extra - 1) (omega arith)

pub returns-then-ne-clause-back : goal.returns-then-ne-clause-back
returns-then-ne-clause-back c =
    let path = ap (λ o. segments (option_map (λ x. x.now) o)) c.in_ok-self.was ∙ splits_segments c.in_ok-self.field-0.now _ _ c.split_last.ensures in
    back_other (aim c.args.self) c.args.self.extra c.args.name.now c.requires.not_empty c.requires.not_here c.requires.not_up (segments (option_map (λ x. x.now) c.split_last.result.0)) c.split_last.result.1.now (omega arith) path
    (λ e. both_ways _ (not-true _ (sym c.if-ne.ensures)) ((bytes_eq-Decides _ _).1 e))

pub returns-clause-back : goal.returns-clause-back
returns-clause-back c =
    let path = ap (λ o. segments (option_map (λ x. x.now) o)) c.in_ok-self.was ∙ splits_segments c.in_ok-self.field-0.now _ _ c.split_last.ensures in
    let same : c.split_last.result.1.now ≡ c.args.name.now = (bytes_eq-Decides _ _).0 (not-false _ (sym c.if-ne.ensures)) in
    let front = segments (option_map (λ x. x.now) c.split_last.result.0) in
    back_kept (aim c.args.self) c.args.self.extra c.args.name.now c.requires.not_empty c.requires.not_here c.requires.not_up front (omega arith) (path ∙ ap (λ x. front ++ (x ∷ [])) same)
