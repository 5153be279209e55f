-- What a host's keys show.
use Rattle.std.specs.Prelude.{List, vec_items}
use Rattle.names.specs.Names.{Name}
use Rattle.host.specs.Holding.{all_now}
use Rattle.host.specs.declared.keys.Keys.{Keys}

-- the names held, the first at place 0
abbrev pub held : Keys → List Name
held k = all_now (vec_items k.names)
