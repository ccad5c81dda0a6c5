use Rattle.std.specs.Prelude.{[]}
use Rattle.raft_safety.proofs.Theorem.{claims-reached}
use Rattle.raft_safety.proofs.laws.no_two_servers_commit_different_entries.Goals as goal

pub returns-clause-election_safety : goal.returns-clause-election_safety
returns-clause-election_safety c first actions allowed = (claims-reached first [] actions allowed).election_safety

pub returns-clause-leader_completeness : goal.returns-clause-leader_completeness
returns-clause-leader_completeness c first actions allowed = (claims-reached first [] actions allowed).leader_completeness

pub returns-clause-log_matching : goal.returns-clause-log_matching
returns-clause-log_matching c first actions allowed = (claims-reached first [] actions allowed).log_matching

pub returns-clause-stored : goal.returns-clause-stored
returns-clause-stored c first actions allowed = (claims-reached first [] actions allowed).stored

pub returns-clause-state_machine_safety : goal.returns-clause-state_machine_safety
returns-clause-state_machine_safety c first early late allowed = (claims-reached first early late allowed).state_machine_safety

pub returns-clause-one_log : goal.returns-clause-one_log
returns-clause-one_log c first early late allowed = (claims-reached first early late allowed).one_log
