use Rattle.std.specs.Prelude.{[]}
use Rattle.raft_safety.proofs.Waiting.Theorem.{claims-waiting}
use Rattle.raft_safety.proofs.laws.waiting_is_enough.Goals as goal

pub returns-clause-election_safety : goal.returns-clause-election_safety
returns-clause-election_safety c first actions allowed = (claims-waiting first [] actions allowed).election_safety

pub returns-clause-leader_completeness : goal.returns-clause-leader_completeness
returns-clause-leader_completeness c first actions allowed = (claims-waiting first [] actions allowed).leader_completeness

pub returns-clause-state_machine_safety : goal.returns-clause-state_machine_safety
returns-clause-state_machine_safety c first early late allowed = (claims-waiting first early late allowed).state_machine_safety

pub returns-clause-one_log : goal.returns-clause-one_log
returns-clause-one_log c first early late allowed = (claims-waiting first early late allowed).one_log
