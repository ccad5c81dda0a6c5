use Rattle.std.proofs.Common.{arith}
use Rattle.dd_file.proofs.Rewriting.KnownBytes.{append_known-nothing}
use Rattle.dd_file.proofs.laws.nothing_waits.Goals as goal

pub returns : goal.returns
returns g c blocks nothing = grind (arith, append_known-nothing)
