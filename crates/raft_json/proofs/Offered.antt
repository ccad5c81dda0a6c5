-- The lemmas of this crate that the proofs of the crates above cite. No other module of its proofs is public.

pub use Rattle.raft_json.proofs.Changes.{conf_change_of_json-conf_change_json}
pub use Rattle.raft_json.proofs.NoFloats.{has_float-conf_change_json, has_float-conf_state_json, has_float-ids_json}
pub use Rattle.raft_json.proofs.Proposals.{carried_out-step, enter-proposed}
pub use Rattle.raft_json.proofs.SavedConfigurations.{conf_state_of_json-conf_state_json}
