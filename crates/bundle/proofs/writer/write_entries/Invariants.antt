use Rattle.std.proofs.Common.{◌≡◌, true, map, take, vec_items}
use Rattle.entries.specs.Entries.{all_encoded, well_formed}
use Rattle.entries.specs.Seen.{seen}
use Rattle.bundle.specs.Format.{format, plain_all}
use Rattle.bundle.proofs.writer.write_entries.Given as goal

abbrev pub invariant-loop-e : goal.invariant-loop-e
invariant-loop-e l =
    (vec_items l.out ≡ all_encoded format (plain_all (take l.e-index l.entries)))
    × (seen l.seen ≡ map (λ e. e.key) (plain_all (take l.e-index l.entries)))
    × (well_formed format (plain_all (take l.e-index l.entries)) ≡ true)
