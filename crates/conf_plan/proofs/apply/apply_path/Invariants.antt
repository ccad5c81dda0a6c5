use Rattle.std.proofs.Common.{take}
use Rattle.conf_plan.specs.Run.{Takes}
use Rattle.conf_plan.proofs.apply.apply_path.Given as goal

abbrev pub invariant-loop-index : goal.invariant-loop-index
invariant-loop-index g l = Takes l.fn.changer (take l.index l.path) l.changer
