use Rattle.raft_safety.proofs.Waiting.OnDisk.{AreAllowedOnDisk-waiting}
use Rattle.raft_safety.proofs.laws.members_that_wait_need_not_look.Goals as goal

pub returns : goal.returns
returns c = AreAllowedOnDisk-waiting
