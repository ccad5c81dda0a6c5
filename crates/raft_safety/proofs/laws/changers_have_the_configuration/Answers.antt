use Rattle.raft_safety.proofs.Library.{config_after_log}
use Rattle.raft_safety.proofs.laws.changers_have_the_configuration.Goals as goal

pub returns : goal.returns
returns c = config_after_log
