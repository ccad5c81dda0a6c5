use Rattle.std.specs.Prelude.{[]}
use Rattle.raft_safety.proofs.Disk.Theorem.{claims-reached_disk, AreGivenOneLog-reached_disk, KnowOneLog-reached_disk}
use Rattle.raft_safety.proofs.laws.servers_that_save_before_they_say_commit_the_same.Goals as goal

pub returns-clause-election_safety : goal.returns-clause-election_safety
returns-clause-election_safety c first looks actions allowed = (claims-reached_disk first looks [] actions allowed).election_safety

pub returns-clause-leader_completeness : goal.returns-clause-leader_completeness
returns-clause-leader_completeness c first looks actions allowed = (claims-reached_disk first looks [] actions allowed).leader_completeness

pub returns-clause-log_matching : goal.returns-clause-log_matching
returns-clause-log_matching c first looks actions allowed = (claims-reached_disk first looks [] actions allowed).log_matching

pub returns-clause-stored : goal.returns-clause-stored
returns-clause-stored c first looks actions allowed = (claims-reached_disk first looks [] actions allowed).stored

pub returns-clause-state_machine_safety : goal.returns-clause-state_machine_safety
returns-clause-state_machine_safety c first looks early late allowed = (claims-reached_disk first looks early late allowed).state_machine_safety

pub returns-clause-one_log : goal.returns-clause-one_log
returns-clause-one_log c first looks early late allowed = (claims-reached_disk first looks early late allowed).one_log

pub returns-clause-one_given_log : goal.returns-clause-one_given_log
returns-clause-one_given_log c = AreGivenOneLog-reached_disk

pub returns-clause-one_known_log : goal.returns-clause-one_known_log
returns-clause-one_known_log c = KnowOneLog-reached_disk
