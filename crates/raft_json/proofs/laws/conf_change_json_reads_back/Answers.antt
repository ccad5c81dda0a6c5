use Rattle.raft_json.proofs.Changes.{conf_change_of_json-conf_change_json}
use Rattle.raft_json.proofs.laws.conf_change_json_reads_back.Goals as goal

pub returns : goal.returns
returns c = conf_change_of_json-conf_change_json
