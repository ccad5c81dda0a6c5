use Rattle.std.proofs.Common.{◌<◌, ◌≤◌, ◌*◌, ◌-◌, length, nat_le, nat_lt, count_by}
use Rattle.quorum_sets.proofs.commit.committed_of.Given as goal

-- the committed index is between the two bounds
abbrev pub invariant-tries : goal.invariant-tries
invariant-tries l = record {
  order : l.least ≤ l.greatest;
  reached : length l.indexes < 2 * count_by (nat_le l.least) l.indexes;
  not_passed : 2 * count_by (nat_lt l.greatest) l.indexes ≤ length l.indexes;
}

-- the numbers that are left
abbrev pub decreases-tries : goal.decreases-tries
decreases-tries l = l.greatest - l.least
