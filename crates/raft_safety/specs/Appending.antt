-- How a server takes the entries of an append. (Steps.antt lets it take a whole log.)
use Rattle.std.specs.Prelude.{ℕ, ◌+◌, Bool, true, ◌&&◌, List, [], ◌∷◌, length, nat_eq, nat_le, if◌then◌else◌}
use Rattle.raft_safety.specs.Logs.{Entry, Log}

-- the log up to an index
abbrev pub upto : Log → ℕ → Log
upto [] index = []
upto (entry ∷ log) index = if nat_le (length (entry ∷ log)) index then entry ∷ log else upto log index

-- the term of the entry at an index; 0 if there is none
abbrev pub term_at : Log → ℕ → ℕ
term_at [] index = 0
term_at (entry ∷ log) index = if nat_eq index (length (entry ∷ log)) then entry.term else term_at log index

-- an entry for the place after an index: one of its term stays, any other is cut off with all that follows
abbrev pub with_entry : Log → ℕ → Entry → Log
with_entry log index entry = if nat_eq (term_at log (index + 1)) entry.term then log else entry ∷ upto log index

-- entries for the places after an index, the newest first, as they are taken one by one from the oldest
abbrev pub with_entries : Log → ℕ → List Entry → Log
with_entries log index [] = log
with_entries log index (entry ∷ entries) = with_entry (with_entries log index entries) (index + length entries) entry

-- the log has entries of these terms already, at the places after the index: with them it is as it was
abbrev pub has_entries : Log → ℕ → List Entry → Bool
has_entries log index [] = true
has_entries log index (entry ∷ entries) =
    has_entries log index entries && nat_eq (term_at log (index + length entries + 1)) entry.term
