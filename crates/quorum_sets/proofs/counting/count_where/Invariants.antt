use Rattle.std.proofs.Common.{◌≡◌, ◌≤◌, ℕ, Bool, take}
use Rattle.std.specs.Prelude.{count_by}
use Rattle.quorum_sets.specs.Ids.{ascending}
use Rattle.quorum_sets.specs.Counting.{Computes}
use Rattle.quorum_sets.proofs.counting.count_where.Given as goal

abbrev pub invariant-loop-position : goal.invariant-loop-position
invariant-loop-position g l = record {
  counted : (passes : ℕ → Bool) → Computes (goal.F-post g l.test) passes → l.count ≡ count_by passes (take l.position (ascending (g.S.MemberSet.ids l.set)));
  small : l.count ≤ l.position;
}
