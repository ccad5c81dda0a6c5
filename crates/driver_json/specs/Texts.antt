-- The keys of a line, and what is said of a line that is refused.
use Rattle.std.specs.Prelude.{ℕ, List, ◌++◌, codes, decimal}
use Rattle.conf_change.specs.declared.violation.Violation.{Violation}
use Rattle.conf_change.specs.declared.violation.Violation.TheVariants.{ListedTwice, ZeroId, NextNotOutgoing, NextAndIncoming, LearnerAndVoter, NotJointButAutoLeave}
use Rattle.conf_driver.specs.declared.answer.NextFault.{NextFault}
use Rattle.conf_driver.specs.declared.answer.NextFault.TheVariants as no_answer
use Rattle.driver_json.specs.declared.line_fault.Expected.{Expected}
use Rattle.driver_json.specs.declared.line_fault.Expected.TheVariants as expects
use Rattle.driver_json.specs.declared.line_fault.LineFault.{LineFault}
use Rattle.driver_json.specs.declared.line_fault.LineFault.TheVariants as fault
use Rattle.driver_json.specs.declared.place.Key.{Key}
use Rattle.driver_json.specs.declared.place.Key.TheVariants.{ConfState, ConfIndex, Lead, Commit, PendingConfIndex, Progress, Running, Retired, MaxLag, Target, Strategy, Down}
use Rattle.driver_json.specs.declared.place.MemberKey.{MemberKey}
use Rattle.driver_json.specs.declared.place.MemberKey.TheVariants.{Id, Match, RecentActive}
use Rattle.driver_json.specs.declared.place.Place.{Place}
use Rattle.driver_json.specs.declared.place.Place.TheVariants.{AtKey, AtMember, InMember}

-- ---- the keys
abbrev pub key_name : Key → List ℕ
key_name ConfState = codes "conf_state"
key_name ConfIndex = codes "conf_index"
key_name Lead = codes "lead"
key_name Commit = codes "commit"
key_name PendingConfIndex = codes "pending_conf_index"
key_name Progress = codes "progress"
key_name Running = codes "running"
key_name Retired = codes "retired"
key_name MaxLag = codes "max_lag"
key_name Target = codes "target"
key_name Strategy = codes "strategy"
key_name Down = codes "down"

-- the keys of a member in `progress`
abbrev pub member_key_name : MemberKey → List ℕ
member_key_name Id = codes "id"
member_key_name Match = codes "match"
member_key_name RecentActive = codes "recent_active"

-- ---- what is wrong
-- a place in a line, as commit, progress[2] or progress[2].match
abbrev pub place_text : Place → List ℕ
place_text (AtKey key) = key_name key
place_text (AtMember index) = codes "progress[" ++ decimal index ++ codes "]"
place_text (InMember index key) = codes "progress[" ++ decimal index ++ codes "]." ++ member_key_name key

-- what is expected at a place
abbrev pub expected_text : Expected → List ℕ
expected_text expects.Number = codes "a number from 0 to 18446744073709551615"
expected_text expects.Id = codes "an id from 1 to 18446744073709551615"
expected_text expects.Ids = codes "a list of ids, as [1,2,3]"
expected_text expects.Flag = codes "true or false"
expected_text expects.Members = codes "a list of members"
expected_text expects.Member = codes "an object, as {\"id\":1,\"match\":60,\"recent_active\":true}"
expected_text expects.ConfState = codes "a ConfState, as {\"voters\":[1,2,3],\"learners\":[4]}, or etcdctl member list -w json"
expected_text expects.Strategy = codes "learners-first or one-at-a-time"

-- what is wrong with a configuration
abbrev pub violation_text : Violation → List ℕ
violation_text (ListedTwice id) = decimal id ++ codes " is listed twice"
violation_text ZeroId = codes "0 is not an id"
violation_text (NextNotOutgoing id) = decimal id ++ codes " is a next learner and not an outgoing voter"
violation_text (NextAndIncoming id) = decimal id ++ codes " is a next learner and an incoming voter"
violation_text (LearnerAndVoter id) = decimal id ++ codes " is a voter and a learner"
violation_text NotJointButAutoLeave = codes "auto-leave without outgoing voters"

-- why there is no answer
abbrev pub no_answer_text : NextFault → List ℕ
no_answer_text no_answer.Shortest = codes "the strategy is shortest: its new voters may stall the cluster"
no_answer_text no_answer.AutoLeaveTarget = codes "the target has auto-leave: raft leaves it by itself"
no_answer_text no_answer.NoConfIndex = codes "there is a leader, and conf_index is 0"
no_answer_text no_answer.NoLeaderProgress = codes "the leader is a member, and progress has no entry of it"
no_answer_text no_answer.NoVoterNow = codes "no plan: the current configuration has no voter"
no_answer_text no_answer.NoVoterTarget = codes "no plan: the target has no voter"
no_answer_text no_answer.JointTarget = codes "no plan: the target is joint"
no_answer_text no_answer.NoMemory = codes "out of memory"

-- why a line is refused
abbrev pub fault_text : LineFault → List ℕ
fault_text fault.NotAnObject = codes "not the JSON of an object"
fault_text (fault.NotExpected place expected) = place_text place ++ codes ": expected " ++ expected_text expected
fault_text (fault.NotValid key violation) = key_name key ++ codes ": not a configuration: " ++ violation_text violation
fault_text (fault.NoAnswer why) = no_answer_text why
fault_text fault.NoMemory = codes "out of memory"
