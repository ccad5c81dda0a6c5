-- The texts of replies, each a line or more.
use Rattle.std.specs.Prelude.{ℕ, List, ◌++◌, flat_map}
use Rattle.std.specs.FinMap as finite
use Rattle.ascii_text.specs.Lines.{newline}
use Rattle.conf_change.specs.TrackerState.{TrackerState}
use Rattle.conf_change.specs.Text.{config_text, progress_text}
use Rattle.conf_change.specs.declared.progress.Progress.{Progress}

-- a text as a line
abbrev pub line : List ℕ → List ℕ
line text = text ++ newline

-- a member with its progress, as a line
abbrev pub member_line : ℕ × Progress → List ℕ
member_line member = line (progress_text member.0 member.1)

-- a line for each member, in ascending order of the ids
abbrev pub member_lines : TrackerState → List ℕ
member_lines tracker = flat_map member_line (finite.entries tracker.progress)

-- the line of a configuration, and then those of its members
abbrev pub tracker_text : TrackerState → List ℕ
tracker_text tracker = line (config_text tracker.config) ++ member_lines tracker
