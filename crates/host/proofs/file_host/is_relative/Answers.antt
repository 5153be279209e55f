use Rattle.std.proofs.Common.{◌||◌, eqb, codes, ap, ◌∙◌, refl, sym}
use Rattle.std.specs.List.{starts_with}
use Rattle.host.proofs.Leading.{relative_starts}
use Rattle.host.proofs.file_host.is_relative.Goals as goal

pub returns-then-starts_with : goal.returns-then-starts_with
returns-then-starts_with c = c.if-starts_with.true ∙ ap (λ t. t || starts_with eqb c.args.specifier.now (codes "../")) (sym c.if-starts_with.true) ∙ relative_starts c.args.specifier.now c.starts_with.result (starts_with eqb c.args.specifier.now (codes "../")) c.starts_with.ensures.value refl

pub returns-else-starts_with : goal.returns-else-starts_with
returns-else-starts_with c = ap (λ t. t || c.starts_with-else-starts_with.result) (sym c.if-starts_with.false) ∙ relative_starts c.args.specifier.now c.starts_with.result c.starts_with-else-starts_with.result c.starts_with.ensures.value c.starts_with-else-starts_with.ensures.value
