use Rattle.std.specs.Prelude.{[]}
use Rattle.raft_safety.proofs.Etcd.Theorem.{claims-reached_etcd, AppliedIsCommitted-reached_etcd, ApplyOneLog-reached_etcd}
use Rattle.raft_safety.proofs.laws.servers_that_keep_etcds_rules_commit_the_same.Goals as goal

pub returns-clause-election_safety : goal.returns-clause-election_safety
returns-clause-election_safety c first looks actions allowed = (claims-reached_etcd first looks [] actions allowed).election_safety

pub returns-clause-leader_completeness : goal.returns-clause-leader_completeness
returns-clause-leader_completeness c first looks actions allowed = (claims-reached_etcd first looks [] actions allowed).leader_completeness

pub returns-clause-log_matching : goal.returns-clause-log_matching
returns-clause-log_matching c first looks actions allowed = (claims-reached_etcd first looks [] actions allowed).log_matching

pub returns-clause-stored : goal.returns-clause-stored
returns-clause-stored c first looks actions allowed = (claims-reached_etcd first looks [] actions allowed).stored

pub returns-clause-state_machine_safety : goal.returns-clause-state_machine_safety
returns-clause-state_machine_safety c first looks early late allowed = (claims-reached_etcd first looks early late allowed).state_machine_safety

pub returns-clause-one_log : goal.returns-clause-one_log
returns-clause-one_log c first looks early late allowed = (claims-reached_etcd first looks early late allowed).one_log

pub returns-clause-applied : goal.returns-clause-applied
returns-clause-applied c = AppliedIsCommitted-reached_etcd

pub returns-clause-one_applied_log : goal.returns-clause-one_applied_log
returns-clause-one_applied_log c = ApplyOneLog-reached_etcd
