use Rattle.std.proofs.Common.{◌≡◌, ℕ, Bool, drop}
use Rattle.std.specs.Prelude.{find}
use Rattle.quorum_sets.specs.Counting.{Computes}
use Rattle.quorum_sets.specs.Ids.{ascending}
use Rattle.conf_change.proofs.find_id.find_id.Given as goal

-- no id before the position passes the test
abbrev pub invariant-loop-position : goal.invariant-loop-position
invariant-loop-position g l =
    (passes : ℕ → Bool) → Computes (goal.F-post g l.test) passes → find passes (ascending (g.S.MemberSet.ids l.ids)) ≡ find passes (drop l.position (ascending (g.S.MemberSet.ids l.ids)))
