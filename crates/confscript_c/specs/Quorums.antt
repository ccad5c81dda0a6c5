-- Results of votes that are given as bytes, and how many ids may be down of voters that are given as lists.
use Rattle.std.specs.Prelude.{ℕ, Bool, true, false, ◌==◌, ◌&&◌, List, map, nat_le, Option, Some, None, if◌then◌else◌}
use Rattle.std.specs.List.{list_all}
use Rattle.quorum_sets.specs.Ids.{ids_of}
use Rattle.quorum_sets.specs.Voters.{Voters, pair}
use Rattle.quorum_sets.specs.Tolerance.{may_be_down}
use Rattle.quorum_sets.specs.Votes.{joint_vote_of}
use Rattle.quorum_sets.specs.declared.voting.VoteResult.{VoteResult}
use Rattle.quorum_sets.specs.declared.voting.VoteResult.TheVariants.{VotePending, VoteLost, VoteWon}
use Rattle.confscript_c.specs.Answer.{status_answer, done}
use Rattle.confscript_c.specs.declared.answer.Answer.{Answer}
use Rattle.confscript_c.specs.declared.status.Status.TheVariants.{BadVote, NoQuorum}

-- the voters of two lists; an id that a list names twice counts once
abbrev pub voters_of_lists : List ℕ → List ℕ → Voters
voters_of_lists incoming outgoing = pair (ids_of incoming) (ids_of outgoing)

-- the vote that a byte encodes: 0 for no, 1 for yes, and 2 for a voter that has not voted
abbrev pub ballot : ℕ → Option Bool
ballot byte = if byte == 0 then Some false else (if byte == 1 then Some true else None)

-- whether a byte encodes a vote
abbrev pub is_ballot : ℕ → Bool
is_ballot byte = nat_le byte 2

-- the number of the result of a vote
abbrev pub vote_number : VoteResult → ℕ
vote_number VotePending = 0
vote_number VoteLost = 1
vote_number VoteWon = 2

-- the answer of `confscript_vote`: the number of the result
abbrev pub vote_answer : List ℕ → List ℕ → Answer
vote_answer incoming outgoing =
    if list_all is_ballot incoming && list_all is_ballot outgoing
    then done (vote_number (joint_vote_of (map ballot incoming) (map ballot outgoing)))
    else status_answer BadVote 0

-- the answer for a count; without one, the voters are no quorum even with none down
abbrev pub count_answer : Option ℕ → Answer
count_answer (Some count) = done count
count_answer None = status_answer NoQuorum 0

-- the answer of `confscript_may_be_down`: how many ids may be down while those in `down` do not count
abbrev pub may_be_down_answer : List ℕ → List ℕ → List ℕ → Answer
may_be_down_answer incoming outgoing down = count_answer (may_be_down (voters_of_lists incoming outgoing) (ids_of down))
