use Rattle.std.proofs.Common.{ℕ, ◌<◌, get_or, map}
use Rattle.quorum_sets.proofs.merging.count_below.Given as goal

abbrev pub invariant-loop-position : goal.invariant-loop-position
invariant-loop-position g l = (k : ℕ) → k < l.position → get_or (map g.T.Item.key l.items) k 0 < l.id
