-- The bytes of a name that owns them.
use Rattle.std.specs.Prelude.{vec_items}
use Rattle.names.specs.Names as names
use Rattle.names.specs.declared.name.Name.{Name}

abbrev pub bytes_of : Name → names.Name
bytes_of n = vec_items n.bytes
