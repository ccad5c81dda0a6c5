use Rattle.raft_json.proofs.Proposals.{carried_out-step}
use Rattle.raft_json.proofs.laws.etcd_carries_out_the_step.Goals as goal

pub returns : goal.returns
returns c = carried_out-step
