use Rattle.std.proofs.Common.{arith}
use Rattle.std.proofs.lemmas.List.Kept.{AllPairs-from_increasing}
use Rattle.quorum_sets.proofs.inline_ids.is_ascending.Goals as goal

pub returns : goal.returns
returns c _ i j lt within = grind (arith, AllPairs-from_increasing, c.loop-position.invariant)
