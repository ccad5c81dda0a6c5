-- Pairs of voter sets, their quorums, and which pairs are neighbours: one safe change apart (Ongaro's dissertation, 4.1
-- and 4.3).
use Rattle.std.specs.Prelude.{◌≡◌, ℕ, ◌≤◌, ◌+◌, ◌*◌, ◌/◌, Bool, ◌&&◌, ◌||◌, ◌⊎◌, List, length, nat_lt, count_by}
use Rattle.quorum_sets.specs.Ids.{Ids, has, majority_passes, is_empty, no_ids, difference_count}

-- the incoming and the outgoing voters; only a joint configuration has outgoing voters
pub record Voters : Type 0 where
  pub incoming : Ids
  pub outgoing : Ids

-- the pair of two sets
abbrev pub pair : Ids → Ids → Voters
pair incoming outgoing = record { incoming = incoming; outgoing = outgoing }

-- the size of a majority of n voters: 2 of 3, 3 of 4, 3 of 5
abbrev pub majority : ℕ → ℕ
majority n = n / 2 + 1

-- whether more than half of the items of a list pass a test, which is false for the empty list
abbrev pub most : {X : Type 0} → (X → Bool) → List X → Bool
most passes items = nat_lt (length items) (2 * count_by passes items)

-- whether the ids are more than half of the incoming voters and, if there are outgoing voters, more than half of these
abbrev pub is_quorum : Voters → Ids → Bool
is_quorum voters ids =
    majority_passes (has ids) voters.incoming && (is_empty voters.outgoing || majority_passes (has ids) voters.outgoing)

-- a simple change: neither is joint, and at most one voter differs, as in (1 2 3) and (1 2 3 4)
pub record DifferInOneVoter (before after : Voters) : Type 0 where
  pub before_single : before.outgoing ≡ no_ids
  pub after_single : after.outgoing ≡ no_ids
  pub one_at_most : difference_count before.incoming after.incoming ≤ 1

-- entering a joint configuration: the voters of the first, which is not joint, are the outgoing voters of the second
pub record EntersJoint (before after : Voters) : Type 0 where
  pub before_single : before.outgoing ≡ no_ids
  pub outgoing : after.outgoing ≡ before.incoming

-- leaving a joint configuration: the second has the incoming voters of the first, and no outgoing voters
pub record LeavesJoint (before after : Voters) : Type 0 where
  pub after_single : after.outgoing ≡ no_ids
  pub incoming : after.incoming ≡ before.incoming

-- one safe change leads from the first pair to the second
abbrev pub AreNeighbours : Voters → Voters → Type 0
AreNeighbours before after = DifferInOneVoter before after ⊎ EntersJoint before after ⊎ LeavesJoint before after
