use Rattle.std.proofs.Common.{◌⊎◌, length, Err, sym, ◌∙◌, subst, inr}
use Rattle.std.proofs.lemmas.Bool.{ltb-true}
use Rattle.entries.specs.Entries.{all_encoded}
use Rattle.bundle.specs.Format.{format, plain_all, plain_written}
use Rattle.bundle.specs.Bundles.{IsOutOfMemory, Unwritable, too_large}
use Rattle.bundle.proofs.Writing.{refuses_alike}
use Rattle.bundle.proofs.writer.write.Goals as goal

pub returns-then-is_too_long : goal.returns-then-is_too_long
returns-then-is_too_long c =
    let es = plain_all c.args.entries.now in
    let long = ltb-true 65536 (length (all_encoded format es)) (sym c.is_too_long.ensures ∙ c.if-is_too_long.true) in
    let h : IsOutOfMemory c.malformed.result ⊎ Unwritable es c.malformed.result = inr (subst (Unwritable es) (sym c.malformed.ensures) (too_large long)) in
    record { writes = h; refuses = refuses_alike es (Err c.malformed.result) h }

pub returns-clause-refuses : goal.returns-clause-refuses
returns-clause-refuses c = refuses_alike (plain_all c.args.entries.now) (plain_written c.write_entries.result) c.write_entries.ensures
