use Rattle.std.proofs.Common.{arith}
use Rattle.std.proofs.lemmas.Grind.{common_steps}
use Rattle.std.proofs.lemmas.List.{map_more}
use Rattle.std.proofs.lemmas.Option.{gets}
use Rattle.quorum_sets.proofs.commit.gather.Goals as goal
use Rattle.quorum_sets.proofs.commit.gather.Goals.{in-Some, in_default}

pub loop-position-preserved : goal.loop-position-preserved
loop-position-preserved g c = elim c.match-at.branch [
  | in-Some w ↦ grind (arith, common_steps, gets, map_more)
  | in_default w ↦ grind (arith, gets)
]
