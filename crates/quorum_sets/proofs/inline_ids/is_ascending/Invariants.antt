use Rattle.std.proofs.Common.{ℕ, ◌+◌, ◌<◌, get_or}
use Rattle.quorum_sets.proofs.inline_ids.is_ascending.Given as goal

abbrev pub invariant-loop-position : goal.invariant-loop-position
invariant-loop-position l = (k : ℕ) → k + 1 < l.position → get_or l.list k 0 < get_or l.list (k + 1) 0
