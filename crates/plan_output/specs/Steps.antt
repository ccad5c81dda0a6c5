-- The lines of a path, with a note before them if the path stalls with the ids that are down (own).
use Rattle.std.specs.Prelude.{ℕ, List, [], ◌++◌, codes, Option, Some, None, if◌then◌else◌}
use Rattle.ascii_text.specs.Lines.{newline}
use Rattle.quorum_sets.specs.Ids.{Ids, ascending}
use Rattle.quorum_sets.specs.Tolerance.{commits_without}
use Rattle.conf_change.specs.Configuration.{Configuration, voters_of}
use Rattle.conf_change.specs.Text.{spaced_numbers}
use Rattle.conf_change.specs.declared.step.Step.{Step}
use Rattle.conf_plan.specs.PlanText.{plan_text}
use Rattle.plan_output.specs.Stages.{stalls}

-- that a path from this configuration stalls while these ids are down: `stalls with 4 5 down`, or `no quorum with 4 5
-- down: no step can be made` if the voters of the configuration that are not down are not a quorum
abbrev pub stall_text : Configuration → Ids → List ℕ
stall_text now down =
    if commits_without (voters_of now) down then codes "stalls with " ++ spaced_numbers (ascending down) ++ codes " down"
    else codes "no quorum with " ++ spaced_numbers (ascending down) ++ codes " down: no step can be made"

-- the note that a path stalls, if ids are down and it stalls then
abbrev pub stall_note : Option Ids → Configuration → List Step → Option (List ℕ)
stall_note None now steps = None
stall_note (Some down) now steps = if stalls now steps down then Some (stall_text now down) else None

-- a note as a comment line; nothing if there is none
abbrev pub note_line : Option (List ℕ) → List ℕ
note_line None = []
note_line (Some note) = codes "# " ++ note ++ newline

-- the text of a path by its steps; a comment before them reports that the path stalls with the ids that are down
abbrev pub steps_text : Option Ids → Configuration → List Step → List ℕ
steps_text down now steps = note_line (stall_note down now steps) ++ plan_text steps
