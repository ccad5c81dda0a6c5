use Rattle.std.proofs.Common.{arith}
use Rattle.dd_file.proofs.Rewriting.KnownBytes.{prefix-more, not-failed}
use Rattle.dd_file.proofs.writing.write_prefix.Goals as goal

pub loop-written-preserved : goal.loop-written-preserved
loop-written-preserved g c = grind (arith, prefix-more, not-failed, c.in-Ok.ensures.bound, c.loop-written.invariant.bound, c.loop-written.invariant.bytes, c.in-Ok.ensures.bytes, c.in-Ok.ensures.failed, c.if-count-eq0.false, c.loop-written.invariant.sound)
