use Rattle.std.proofs.Common.{◌≡◌, ◌++◌, drop, get_or}
use Rattle.plan_output.specs.Stages.{first_stage, stages}
use Rattle.confscript_c.specs.Stages.{stages_numbers}
use Rattle.confscript_c.proofs.stages.append_stages.Given as goal

-- the stages so far, before those of the other steps, are all stages
abbrev pub invariant-loop-index : goal.invariant-loop-index
invariant-loop-index l =
    l.numbers.items ++ stages_numbers l.down (get_or (stages l.now l.steps) l.index (first_stage l.now)) (drop l.index l.steps)
    ≡ l.initial.numbers.items ++ stages_numbers l.down (first_stage l.now) l.steps
