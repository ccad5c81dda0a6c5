-- The result of a vote (`VoteResult` of etcd's package `quorum`).
use Rattle.std.specs.Prelude.{◌≡◌, ℕ, ◌*◌, Bool, true, false, not, ◌&&◌, ◌||◌, List, length, map, Option, nat_eq, nat_lt, count_by, unwrap_or, if◌then◌else◌}
use Rattle.std.specs.List.Sorted.{IsPermutation}
use Rattle.std.specs.Ordering.{nat_cmp}
use Rattle.std.specs.BTreeMap.{BTreeMap}
use Rattle.std.specs.FinMap as finite
use Rattle.quorum_sets.specs.Ids.{Ids, ascending, majority_passes, is_empty}
use Rattle.quorum_sets.specs.Voters.{Voters, most}
use Rattle.quorum_sets.specs.declared.voting.Tally.{Tally}
use Rattle.quorum_sets.specs.declared.voting.VoteResult.{VoteResult}
use Rattle.quorum_sets.specs.declared.voting.VoteResult.TheVariants.{VotePending, VoteLost, VoteWon}

-- the votes, by id: yes or no; an id that has not voted is not in the map
abbrev pub Votes : Type 0
Votes = finite.FinMap nat_cmp Bool

-- the votes in a map
abbrev pub votes_in : BTreeMap ℕ Bool → Votes
votes_in map = finite.from_entries map.entries

-- the id voted yes
abbrev pub is_yes : Votes → ℕ → Bool
is_yes votes id = unwrap_or (finite.get votes id) false

-- the id voted yes, or has not voted
abbrev pub may_be_yes : Votes → ℕ → Bool
may_be_yes votes id = unwrap_or (finite.get votes id) true

-- the set is empty, or more than half voted yes
abbrev pub is_won : Ids → Votes → Bool
is_won ids votes = is_empty ids || majority_passes (is_yes votes) ids

-- the set is not empty, and at most half voted yes or have not voted
abbrev pub is_lost : Ids → Votes → Bool
is_lost ids votes = not (is_empty ids || majority_passes (may_be_yes votes) ids)

-- the result of the vote of one set
abbrev pub vote_result : Ids → Votes → VoteResult
vote_result ids votes =
    if is_won ids votes then VoteWon else (if is_lost ids votes then VoteLost else VotePending)

-- the result of a joint vote: won if both sets win it, lost if one loses it, else pending
abbrev pub joint_vote_result : Voters → Votes → VoteResult
joint_vote_result voters votes =
    if is_won voters.incoming votes && is_won voters.outgoing votes then VoteWon
    else (if is_lost voters.incoming votes || is_lost voters.outgoing votes then VoteLost else VotePending)

-- the result of two votes that must both be won
abbrev pub both : VoteResult → VoteResult → VoteResult
both VoteWon other = other
both VoteLost other = VoteLost
both VotePending VoteLost = VoteLost
both VotePending VoteWon = VotePending
both VotePending VotePending = VotePending

-- ---- for votes without ids
-- the list has the vote of each id of the set, or None if the id has not voted, in any order
abbrev pub AreVotesOf : List (Option Bool) → Ids → Votes → Type 0
AreVotesOf list ids votes = IsPermutation list (map (finite.get votes) (ascending ids))

-- there are no voters, or more than half voted yes
abbrev pub is_won_by : List (Option Bool) → Bool
is_won_by list = nat_eq (length list) 0 || most (λ vote. unwrap_or vote false) list

-- there are voters, and at most half voted yes or have not voted
abbrev pub is_lost_by : List (Option Bool) → Bool
is_lost_by list = not (nat_eq (length list) 0 || most (λ vote. unwrap_or vote true) list)

-- the result of a vote, given the vote of each voter
abbrev pub vote_of : List (Option Bool) → VoteResult
vote_of list = if is_won_by list then VoteWon else (if is_lost_by list then VoteLost else VotePending)

-- the result of a joint vote, given the vote of each voter
abbrev pub joint_vote_of : List (Option Bool) → List (Option Bool) → VoteResult
joint_vote_of incoming outgoing =
    if is_won_by incoming && is_won_by outgoing then VoteWon
    else (if is_lost_by incoming || is_lost_by outgoing then VoteLost else VotePending)

-- the votes of a list are counted
pub record Counts (tally : Tally) (list : List (Option Bool)) : Type 0 where
  pub voters : tally.voters ≡ length list
  pub yes_votes : tally.yes_votes ≡ count_by (λ vote. unwrap_or vote false) list
  pub possible_yes_votes : tally.possible_yes_votes ≡ count_by (λ vote. unwrap_or vote true) list

-- the result of a vote that is counted: won if there are no voters or more than half voted yes, lost if at most half
-- voted yes or have not voted
abbrev pub tally_result : Tally → VoteResult
tally_result tally =
    if nat_eq tally.voters 0 || nat_lt tally.voters (2 * tally.yes_votes) then VoteWon
    else (if nat_lt tally.voters (2 * tally.possible_yes_votes) then VotePending else VoteLost)
