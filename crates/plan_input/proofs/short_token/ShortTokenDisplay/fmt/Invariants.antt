use Rattle.std.proofs.Common.{map, take}
use Rattle.std.specs.Fmt.{HasWritten, IsPlainFormatter}
use Rattle.plan_input.specs.ShortToken.{visible}
use Rattle.plan_input.proofs.short_token.ShortTokenDisplay.fmt.Given as goal

-- the bytes so far were shown
abbrev pub invariant-loop-byte : goal.invariant-loop-byte
invariant-loop-byte g l = IsPlainFormatter l.fn.f → HasWritten g.W.Write.write_str_gives l.fn.f (map visible (take l.byte-index l.fn.self.bytes)) l.f
