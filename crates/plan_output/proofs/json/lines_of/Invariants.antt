use Rattle.std.proofs.Common.{◌≡◌, ◌+◌, ◌++◌, drop, length}
use Rattle.std.specs.Prelude.{option_copied}
use Rattle.plan_output.specs.Stages.{first_stage}
use Rattle.plan_output.proofs.JsonLines.{lines}
use Rattle.plan_output.proofs.json.lines_of.Given as goal

-- the lines so far, before those of the other steps, are the lines of all steps
abbrev pub invariant-loop-index : goal.invariant-loop-index
invariant-loop-index l =
    let down = option_copied l.down in
    l.lines.items ++ lines down l.stalls l.plan (length l.steps) (l.index + 1) l.stage (drop l.index l.steps) ≡ lines down l.stalls l.plan (length l.steps) 1 (first_stage l.now) l.steps
