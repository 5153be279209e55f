use Rattle.std.proofs.Common.{Some, sym, ap, ◌∙◌, subst}
use Rattle.std.specs.Option.{option_map}
use Rattle.host.specs.Paths.{segments}
use Rattle.host.specs.Goals.{GoesBack, aim}
use Rattle.host.proofs.Backwards.{directory_is}
use Rattle.host.proofs.Walks.{back_none}
use Rattle.host.proofs.goal.Goal.before_directory.Goals as goal

pub returns-in-Some : goal.returns-in-Some
returns-in-Some c =
    let e = directory_is c.args.path.now _ _ c.split_last.ensures ∙ ap (λ o. segments (option_map (λ x. x.now) o)) c.in-Some.is in
    subst (λ l. GoesBack l c.args.self c.before_path.result) (sym e) c.before_path.ensures.back

pub returns-in-None : goal.returns-in-None
returns-in-None c =
    let e = directory_is c.args.path.now _ _ c.split_last.ensures ∙ ap (λ o. segments (option_map (λ x. x.now) o)) c.in-None.is in
    subst (λ l. GoesBack l c.args.self (Some c.args.self)) (sym e) (back_none (aim c.args.self) c.args.self.extra)
