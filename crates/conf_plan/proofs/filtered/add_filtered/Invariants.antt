use Rattle.std.proofs.Common.{◌≡◌, ◌++◌, ℕ, Bool, filter, take}
use Rattle.quorum_sets.specs.Counting.{Computes}
use Rattle.quorum_sets.specs.Ids.{ascending}
use Rattle.conf_plan.proofs.filtered.add_filtered.Given as goal

abbrev pub invariant-loop-index : goal.invariant-loop-index
invariant-loop-index g l =
    (passes : ℕ → Bool) → Computes (goal.F-post g l.test) passes → l.list.items ≡ l.fn.list.items ++ filter passes (take l.index (ascending (g.S.MemberSet.ids l.ids)))
