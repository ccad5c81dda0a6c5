-- The committed index: how far a majority has acknowledged the log.
use Rattle.std.specs.Prelude.{◌≡◌, ℕ, ◌-◌, ◌^◌, min, Bool, false, List, length, map, filter, fold, max, nat_eq, nat_le, nat_lt, unwrap_or, IsTrue, if◌then◌else◌}
use Rattle.std.specs.List.Sorted.{IsPermutation}
use Rattle.std.specs.Ordering.{nat_cmp}
use Rattle.std.specs.FinMap as finite
use Rattle.quorum_sets.specs.Ids.{Ids, ascending, majority_passes, is_empty}
use Rattle.quorum_sets.specs.Voters.{Voters, most}

-- the acknowledged indexes, by id
abbrev pub Acks : Type 0
Acks = finite.FinMap nat_cmp ℕ

-- the index that the id acknowledged, 0 if it is unknown
abbrev pub acked_index : Acks → ℕ → ℕ
acked_index acks id = unwrap_or (finite.get acks id) 0

-- the acknowledged indexes of the ids of a set, in ascending order of the ids
abbrev pub acked_indexes : Ids → Acks → List ℕ
acked_indexes ids acks = map (acked_index acks) (ascending ids)

-- the greatest index, 2 ^ 64 - 1, which the empty set commits
abbrev pub greatest_index : ℕ
greatest_index = 2 ^ 64 - 1

-- more than half of the ids have acknowledged at least k
abbrev pub is_reached : Ids → Acks → ℕ → Bool
is_reached ids acks k = majority_passes (λ id. nat_le k (acked_index acks id)) ids

-- more than half of the ids have acknowledged more than k
abbrev pub is_passed : Ids → Acks → ℕ → Bool
is_passed ids acks k = majority_passes (λ id. nat_lt k (acked_index acks id)) ids

-- k is the committed index: more than half have acknowledged at least k, and not more than half have acknowledged more
pub record IsCommitted (ids : Ids) (acks : Acks) (k : ℕ) : Type 0 where
  pub of_empty : IsTrue (is_empty ids) → k ≡ greatest_index
  pub reached : is_empty ids ≡ false → IsTrue (is_reached ids acks k)
  pub not_passed : is_empty ids ≡ false → is_passed ids acks k ≡ false

-- the committed index: the greatest acknowledged index that more than half have reached
abbrev pub committed_index : Ids → Acks → ℕ
committed_index ids acks =
    if is_empty ids then greatest_index else fold max 0 (filter (is_reached ids acks) (acked_indexes ids acks))

-- k is the smaller of the committed indexes of the two sets
pub record IsJointCommitted (voters : Voters) (acks : Acks) (k : ℕ) : Type 0 where
  pub of_incoming : ℕ
  pub of_outgoing : ℕ
  pub incoming : IsCommitted voters.incoming acks of_incoming
  pub outgoing : IsCommitted voters.outgoing acks of_outgoing
  pub smaller : k ≡ min of_incoming of_outgoing

-- the smaller of the committed indexes of the two sets
abbrev pub joint_committed_index : Voters → Acks → ℕ
joint_committed_index voters acks = min (committed_index voters.incoming acks) (committed_index voters.outgoing acks)

-- ---- for indexes without ids
-- the list has the acknowledged index of each id of the set, in any order
abbrev pub AreIndexesOf : List ℕ → Ids → Acks → Type 0
AreIndexesOf indexes ids acks = IsPermutation indexes (acked_indexes ids acks)

-- the committed index of voters, given the acknowledged index of each: the greatest one that more than half have reached
abbrev pub committed_of : List ℕ → ℕ
committed_of indexes =
    if nat_eq (length indexes) 0 then greatest_index else fold max 0 (filter (λ k. most (nat_le k) indexes) indexes)

-- the smaller of the committed indexes of two sets of voters
abbrev pub joint_committed_of : List ℕ → List ℕ → ℕ
joint_committed_of incoming outgoing = min (committed_of incoming) (committed_of outgoing)
