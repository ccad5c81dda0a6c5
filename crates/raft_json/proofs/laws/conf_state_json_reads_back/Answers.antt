use Rattle.raft_json.proofs.SavedConfigurations.{conf_state_of_json-conf_state_json}
use Rattle.raft_json.proofs.laws.conf_state_json_reads_back.Goals as goal

pub returns : goal.returns
returns c = conf_state_of_json-conf_state_json
