-- The target of a list of changes: the current configuration is left first if it is joint, and then all changes are made
-- at once, by entering a joint configuration and leaving it.
use Rattle.std.specs.Prelude.{false, List, Ok, Err, if◌then◌else◌}
use Rattle.conf_change.specs.Configuration.{Configuration, empty_configuration, is_joint}
use Rattle.conf_change.specs.Outcome.{Outcome, after_leave, enter_outcome}
use Rattle.conf_change.specs.declared.change.Change.{Change}

-- the configuration after it is left, if it is joint
abbrev pub when_left : Configuration → Configuration
when_left c = if is_joint c then after_leave c else c

-- the configuration after the joint one is left that was entered; without a voter there is none, and this one is empty
abbrev pub left_or_empty : Outcome → Configuration
left_or_empty (Ok joint) = when_left joint
left_or_empty (Err why) = empty_configuration

-- the configuration after the changes
abbrev pub after_changes : Configuration → List Change → Configuration
after_changes now changes = left_or_empty (enter_outcome (when_left now) false changes)
