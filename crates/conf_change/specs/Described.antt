-- The configuration that a ConfState describes, valid or not.
use Rattle.std.specs.Prelude.{Option, Some, None, if◌then◌else◌}
use Rattle.conf_change.specs.Configuration.{Configuration}
use Rattle.conf_change.specs.ConfState.{ConfStateLists, names_each_once, named_by}

-- the configuration whose sets have the ids of the lists, if no list names an id twice
abbrev pub described : ConfStateLists → Option Configuration
described saved = if names_each_once saved then Some (named_by saved) else None
