use Rattle.confscript_c.proofs.StepsResult.{steps_result-taken, steps_result-stopped_or_no_memory}
use Rattle.confscript_c.proofs.applying.take.Goals as goal

pub returns-in-Ok-clause-taken : goal.returns-in-Ok-clause-taken
returns-in-Ok-clause-taken c = steps_result-taken 1 _ _ c.args.path.now c.in-Ok.ensures.taken

pub returns-in-Err-clause-refused : goal.returns-in-Err-clause-refused
returns-in-Err-clause-refused c =
    rw c.refusal.ensures (steps_result-stopped_or_no_memory _ _ c.args.path.now c.in-Err.stop.step c.in-Err.stop.refused c.in-Err.ensures.stopped)
