-- Entries and logs. A log is the list of its entries, the newest first: to append an entry is to put it in front, and a
-- prefix is what is left when entries are taken from the front. A position in a log is the log up to it.
use Rattle.std.specs.Prelude.{◌≡◌, ℕ, ◌<◌, ◌≤◌, ◌⊎◌, List, [], ◌∷◌, length, nat_eq, nat_lt, Option, Some, None, if◌then◌else◌}
use Rattle.conf_change.specs.declared.step.Step.{Step}

-- what an entry says: a command for the application, or a step of the configuration. An empty entry is a command, and so
-- is a change that the application cancels, if that hangs on the log alone
pub data Payload : Type 0 where
  Command : (bytes : List ℕ) → Payload
  ConfChange : (step : Step) → Payload

-- an entry: the term of the leader that proposed it, and what it says
pub record Entry : Type 0 where
  pub term : ℕ
  pub payload : Payload

-- a log, the newest entry first
abbrev pub Log : Type 0
Log = List Entry

-- the first log is the second one up to some index (it may be all of it, or empty)
abbrev pub IsPrefix : Log → Log → Type 0
IsPrefix first [] = first ≡ []
IsPrefix first (entry ∷ log) = (first ≡ entry ∷ log) ⊎ IsPrefix first log

-- the term of the newest entry; 0 if there is none
abbrev pub last_term : Log → ℕ
last_term [] = 0
last_term (entry ∷ log) = entry.term

-- the entry at an index, counted from 1 at the oldest
abbrev pub entry_at : Log → ℕ → Option Entry
entry_at [] index = None
entry_at (entry ∷ log) index = if nat_eq index (length (entry ∷ log)) then Some entry else entry_at log index

-- the candidate's log is at least as up to date as the voter's (Raft's rule for votes)
abbrev pub IsUpToDate : Log → Log → Type 0
IsUpToDate candidate voter =
    (last_term voter < last_term candidate)
    ⊎ ((last_term candidate ≡ last_term voter) × (length voter ≤ length candidate))

-- the longer of two logs; the first if they have one length
abbrev pub longer : Log → Log → Log
longer one other = if nat_lt (length one) (length other) then other else one
