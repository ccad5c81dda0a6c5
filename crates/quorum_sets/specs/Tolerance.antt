-- How many ids may be down while a pair of voter sets still has a quorum.
use Rattle.std.specs.Prelude.{ℕ, ◌-◌, ◌≤◌, min, Bool, not, ◌++◌, nat_le, Option, Some, None, IfSome, IfNone, IsTrue, if◌then◌else◌}
use Rattle.quorum_sets.specs.Ids.{Ids, has, ascending, size, union, ids_where, count_of, is_empty}
use Rattle.quorum_sets.specs.Voters.{Voters, majority, is_quorum}

-- ---- over every set of ids
-- the voters of both sets other than these ids
abbrev pub voters_without : Voters → Ids → Ids
voters_without voters uncounted = ids_where (λ id. not (has uncounted id)) (ascending voters.incoming ++ ascending voters.outgoing)

-- whether the voters other than these ids are a quorum
abbrev pub commits_without : Voters → Ids → Bool
commits_without voters uncounted = is_quorum voters (voters_without voters uncounted)

-- whenever at most k ids are down besides the uncounted ones, the other voters are still a quorum
abbrev pub Tolerates : Voters → Ids → ℕ → Type 0
Tolerates voters uncounted k = (down : Ids) → size down ≤ k → IsTrue (commits_without voters (union down uncounted))

-- the result is the greatest number of ids that may be down, or none if the counted voters are not a quorum even when
-- all are up
pub record IsMostDown (voters : Voters) (uncounted : Ids) (answer : Option ℕ) : Type 0 where
  pub tolerated : IfSome answer (Tolerates voters uncounted)
  pub greatest : IfSome answer (λ k. (other : ℕ) → Tolerates voters uncounted other → other ≤ k)
  pub none : IfNone answer (¬ Tolerates voters uncounted 0)

-- ---- by counting
-- by how many the counted ids of a set exceed a majority, or none if they are not a majority
abbrev pub surplus : Ids → Ids → Option ℕ
surplus ids uncounted =
    let counted = count_of (λ id. not (has uncounted id)) ids in
    if nat_le (majority (size ids)) counted then Some (counted - majority (size ids)) else None

-- the smaller of two numbers, or none if one of them is none
abbrev pub least : Option ℕ → Option ℕ → Option ℕ
least (Some a) (Some b) = Some (min a b)
least (Some a) None = None
least None other = None

-- the smallest surplus of the voter sets, or none if one of them has none; an empty set of outgoing voters does not
-- count
abbrev pub may_be_down : Voters → Ids → Option ℕ
may_be_down voters uncounted =
    if is_empty voters.outgoing then surplus voters.incoming uncounted
    else least (surplus voters.incoming uncounted) (surplus voters.outgoing uncounted)

-- the smallest n - (n/2 + 1) over the voter sets: 1 of 3, 1 of 4, 2 of 5; an empty set of outgoing voters does not
-- count
abbrev pub least_minority : Voters → ℕ
least_minority voters =
    let of_incoming = size voters.incoming - majority (size voters.incoming) in
    if is_empty voters.outgoing then of_incoming else min of_incoming (size voters.outgoing - majority (size voters.outgoing))
