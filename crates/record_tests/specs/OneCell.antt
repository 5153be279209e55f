-- What the kind of one cell means.
use Rattle.std.specs.Prelude.{◌≡◌, true, [], ◌∷◌, Some, None, Ok, codes, slice_set}
use Rattle.std.proofs.lemmas.List.{length-set}
use Rattle.std.proofs.lemmas.Result.{IfOk-at_ok}
use Rattle.record.specs.declared.value.Value.{Value}
use Rattle.record.specs.Modules.{Module, well_formed}
use Rattle.record.specs.Meanings.{Kinding, LawfulKind}

abbrev pub one_cell : Module
one_cell = record { requests = []; imports = []; locals = record { export_name = codes "x"; cell = 0; byte = 0 } ∷ []; indirects = []; stars = []; cells = record { name = codes "x"; byte = 0 } ∷ [] }

abbrev pub storing : Module → Value → Kinding
storing r v = record { reading = λ m. Ok r; body = λ m bs held own. record { fault = None; cells = slice_set own 0 (Some v) }; adds = λ m. 1 }

pub storing_lawful : (r : Module) (v : Value) → well_formed r ≡ true → LawfulKind (storing r v)
storing_lawful r v ok = record {
  records_are_well_formed = λ m s e. IfOk-at_ok (λ x. well_formed x ≡ true) e ok;
  bodies_keep_the_number_of_cells = λ m bs held own. length-set own 0 (Some v);
}
