-- What the library counts and changes, as the rules use it: which quorums its counts stand for, and what becomes of a
-- `Changer` that applies a log.
use Rattle.std.specs.Prelude.{ℕ, [], ◌∷◌, IsTrue}
use Rattle.std.specs.Result.{result_unwrap_or}
use Rattle.quorum_sets.specs.Ids.{Ids, has}
use Rattle.conf_change.specs.Configuration.{Configuration}
use Rattle.conf_change.specs.Changer.{ChangerState, changer_after}
use Rattle.raft_safety.specs.Logs.{Payload, Command, ConfChange, Log}
use Rattle.raft_safety.specs.Configurations.{IsQuorumAfter}

-- each id of some quorum after the log has the property
abbrev pub HasQuorum : Configuration → Log → (ℕ → Type 0) → Type 0
HasQuorum first log P = (ids : Ids) × IsQuorumAfter first log ids × ((id : ℕ) → IsTrue (has ids id) → P id)

-- the changer after an entry: it takes the step, and a refused step leaves it as it is
abbrev pub changer_after_payload : ChangerState → Payload → ChangerState
changer_after_payload before (Command bytes) = before
changer_after_payload before (ConfChange step) = result_unwrap_or (changer_after before step) before

-- the changer after the entries of a log, one by one
abbrev pub changer_after_log : ChangerState → Log → ChangerState
changer_after_log before [] = before
changer_after_log before (entry ∷ log) = changer_after_payload (changer_after_log before log) entry.payload
