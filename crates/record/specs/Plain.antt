-- Records by what they hold.
use Rattle.std.specs.Prelude.{map, Ok, Err, vec_items, Result}
use Rattle.std.specs.Borrow.{Bor}
use Rattle.names.specs.Owned.{bytes_of}
use Rattle.record.specs.declared.denial.LoadFault.{LoadFault}
use Rattle.record.specs.declared.module.Request as rust_request
use Rattle.record.specs.declared.module.ImportEntry.{ImportEntry}
use Rattle.record.specs.declared.module.LocalExport.{LocalExport}
use Rattle.record.specs.declared.module.IndirectExport.{IndirectExport}
use Rattle.record.specs.declared.module.StarExport.{StarExport}
use Rattle.record.specs.declared.module.CellEntry.{CellEntry}
use Rattle.record.specs.declared.module.Record.{Record}
use Rattle.record.specs.Modules.{Request, Import, Local, Indirect, Star, Declared, Module}

abbrev pub request : rust_request.Request → Request
request q = record { specifier = bytes_of q.specifier; byte = q.byte }

abbrev pub import_entry : ImportEntry → Import
import_entry e = record { request = e.request; import_name = bytes_of e.import_name; local_name = bytes_of e.local_name; byte = e.byte }

abbrev pub local_export : LocalExport → Local
local_export e = record { export_name = bytes_of e.export_name; cell = e.cell; byte = e.byte }

abbrev pub indirect_export : IndirectExport → Indirect
indirect_export e = record { export_name = bytes_of e.export_name; request = e.request; import_name = bytes_of e.import_name; byte = e.byte }

abbrev pub star_export : StarExport → Star
star_export e = record { request = e.request; byte = e.byte }

abbrev pub cell_entry : CellEntry → Declared
cell_entry e = record { name = bytes_of e.name; byte = e.byte }

-- a record by its contents
abbrev pub plain : Record → Module
plain r = record {
  requests = map request (vec_items r.requests);
  imports = map import_entry (vec_items r.imports);
  locals = map local_export (vec_items r.locals);
  indirects = map indirect_export (vec_items r.indirects);
  stars = map star_export (vec_items r.stars);
  cells = map cell_entry (vec_items r.cells);
}

-- what a read answers, by its contents
abbrev pub read_answer : Result (Bor Record) LoadFault → Result Module LoadFault
read_answer (Ok r) = Ok (plain r.now)
read_answer (Err f) = Err f
