-- The configuration after a log, and how many entries of a log changed the voters. The configuration is the fold of the
-- log's accepted steps over the first configuration; a refused step leaves it as it is (in etcd, who applies it panics, so
-- this allows more). So no entry names a configuration, and that neighbours overlap is true of every log.
--
-- The first configuration is the one that the founders begin with: what etcd's StartNode makes of its peers, or the
-- ConfState of the snapshot that each founder starts from. What was logged before it is not in the logs here. It may be
-- any, joint or not, valid or not. One without incoming voters has no quorum, since no majority of none is there: then
-- no leader is ever elected, and nothing is committed. (etcd's count takes a vote of no voters for won; none of its members
-- campaigns then.)
use Rattle.std.specs.Prelude.{ℕ, ◌+◌, ◌≤◌, Bool, ◌&&◌, if◌then◌else◌, IsTrue, [], ◌∷◌}
use Rattle.std.specs.Result.{result_unwrap_or}
use Rattle.quorum_sets.specs.Ids.{Ids}
use Rattle.quorum_sets.specs.Voters.{Voters, is_quorum}
use Rattle.quorum_sets.specs.Overlap.{QuorumsMeet}
use Rattle.conf_change.specs.Configuration.{Configuration, voters_of, is_same_set}
use Rattle.conf_change.specs.Outcome.{outcome}
use Rattle.raft_safety.specs.Logs.{Payload, Command, ConfChange, Log}

-- the configuration after an entry
abbrev pub after_payload : Configuration → Payload → Configuration
after_payload before (Command bytes) = before
after_payload before (ConfChange step) = result_unwrap_or (outcome before step) before

-- the configuration after all steps of a log are applied, one by one, to the first configuration
unfoldable pub configuration_after : Configuration → Log → Configuration
configuration_after first [] = first
configuration_after first (entry ∷ log) = after_payload (configuration_after first log) entry.payload

-- the incoming and the outgoing voters after a log
unfoldable pub voters_after : Configuration → Log → Voters
voters_after first log = voters_of (configuration_after first log)

-- whether two pairs have the same incoming and the same outgoing voters
abbrev pub are_same_voters : Voters → Voters → Bool
are_same_voters a b = is_same_set a.incoming b.incoming && is_same_set a.outgoing b.outgoing

-- how many entries of a log changed the incoming or the outgoing voters: a command, a refused step, and a step that
-- changes learners alone do not count
unfoldable pub voter_changes : Configuration → Log → ℕ
voter_changes first [] = 0
voter_changes first (entry ∷ log) =
    (if are_same_voters (voters_after first log) (voters_after first (entry ∷ log)) then 0 else 1) + voter_changes first log

-- the ids are a quorum of the configuration after the log
unfoldable pub IsQuorumAfter : Configuration → Log → Ids → Type 0
IsQuorumAfter first log ids = IsTrue (is_quorum (voters_after first log) ids)

-- at most one change of the voters in the log is beyond the prefix
abbrev pub IsOneChangeBeyond : Configuration → Log → Log → Type 0
IsOneChangeBeyond first log prefix = voter_changes first log ≤ voter_changes first prefix + 1

-- each quorum after the first log shares an id with each quorum after the second
abbrev pub DoQuorumsMeet : Configuration → Log → Log → Type 0
DoQuorumsMeet first one other = QuorumsMeet (voters_after first one) (voters_after first other)
