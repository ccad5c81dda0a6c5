-- The quorum that the arguments of a command name, and the values of its ids.
use Rattle.std.specs.Prelude.{ℕ, Bool, not, ◌==◌, List, [], ◌∷◌, ◌++◌, length, filter, map, Option, Some, None, unwrap_or, codes, decimal, nat_eq, if◌then◌else◌}
use Rattle.std.specs.Ordering.{nat_cmp}
use Rattle.std.specs.FinMap as finite
use Rattle.quorum_sets.specs.Ids.{ascending, union, ids_of}
use Rattle.quorum_sets.specs.Voters.{Voters}
use Rattle.quorum_sets.specs.Committed.{Acks, greatest_index, joint_committed_index}
use Rattle.quorum_sets.specs.Chart.{chart_text}
use Rattle.quorum_sets.specs.Votes.{joint_vote_result}
use Rattle.quorum_sets.specs.declared.voting.VoteResult.{VoteResult}
use Rattle.quorum_sets.specs.declared.voting.VoteResult.TheVariants.{VotePending, VoteLost, VoteWon}
use Rattle.conf_session.specs.Values.{Values}
use Rattle.conf_session.specs.declared.values_by_id.ValuesById.{ValuesById}

-- the incoming and the outgoing voters that the arguments name
abbrev pub voters_named : Values → Voters
voters_named values =
    record { incoming = ids_of values.incoming; outgoing = ids_of values.outgoing }

-- each id once, in the order of first occurrence
abbrev pub each_once : List ℕ → List ℕ
each_once [] = []
each_once (id ∷ ids) = id ∷ filter (λ other. not (other == id)) (each_once ids)

-- the ids to which the values belong: those of the first set, then the further ones of the second
abbrev pub ids_named : Values → List ℕ
ids_named values = each_once (values.incoming ++ values.outgoing)

-- the map with the value of one more id, or without the id if its value is unknown
abbrev pub with_value : {V : Type 0} → finite.FinMap nat_cmp V → ℕ → Option V
    → finite.FinMap nat_cmp V
with_value map id None = finite.remove map id
with_value map id (Some value) = finite.insert map id value

-- the values by id: each id has the value at its index
abbrev pub values_by_id : {V : Type 0} → List ℕ → List (Option V) → finite.FinMap nat_cmp V
values_by_id [] values = finite.empty
values_by_id (id ∷ ids) [] = finite.empty
values_by_id (id ∷ ids) (value ∷ values) = with_value (values_by_id ids values) id value

-- the values of a list of which each id has one
abbrev pub known : {V : Type 0} → List (Option (Option V)) → List (Option V)
known values = map (λ value. unwrap_or value None) values

-- the map that the code's lists denote
abbrev pub map_of : {V : Type 0} → ValuesById V → finite.FinMap nat_cmp V
map_of by_id = values_by_id by_id.ids.items (known by_id.values.items)

-- there are as many values as ids
abbrev pub is_one_each : {V : Type 0} → List ℕ → List (Option V) → Bool
is_one_each ids values = nat_eq (length values) (length ids)

-- a committed index; the greatest, which a quorum without voters commits, is written `∞`
abbrev pub index_text : ℕ → List ℕ
index_text index = if nat_eq index greatest_index then 226 ∷ 136 ∷ 158 ∷ [] else decimal index

-- the chart of all ids of a pair of sets, and the index that it commits
abbrev pub committed_text : Voters → Acks → List ℕ
committed_text voters acks =
    chart_text (ascending (union voters.incoming voters.outgoing)) acks
    ++ index_text (joint_committed_index voters acks)

-- the result of a vote
abbrev pub vote_text : VoteResult → List ℕ
vote_text VotePending = codes "VotePending"
vote_text VoteLost = codes "VoteLost"
vote_text VoteWon = codes "VoteWon"

-- ---- the replies of the commands that name a quorum
-- the error if there is not one value for each id
abbrev pub wrong_number_text : List ℕ
wrong_number_text = codes "wrong number of values"

-- the text if there is one value for each id, else that error
abbrev pub with_one_each : {V : Type 0} → List ℕ → List (Option V) → List ℕ → List ℕ
with_one_each ids values text = if is_one_each ids values then text else wrong_number_text

-- `committed`: the chart and the committed index of the named quorum
abbrev pub committed_reply : Values → List ℕ
committed_reply values =
    with_one_each (ids_named values) values.indexes
    (committed_text (voters_named values) (values_by_id (ids_named values) values.indexes))

-- `vote`: the result of the vote of the named quorum
abbrev pub vote_reply : Values → List ℕ
vote_reply values =
    with_one_each (ids_named values) values.votes
    (vote_text (joint_vote_result (voters_named values)
    (values_by_id (ids_named values) values.votes)))
