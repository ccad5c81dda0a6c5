use Rattle.std.proofs.Common.{◌<◌, ◌^◌}
use Rattle.ascii_text.proofs.NumberLemmas.{IsRead}
use Rattle.ascii_text.proofs.number.read_number.Given as goal

abbrev pub invariant-loop-digit : goal.invariant-loop-digit
invariant-loop-digit l = record { read : IsRead l.digits l.digit-index l.number; fits : l.number < 2 ^ 64 }
