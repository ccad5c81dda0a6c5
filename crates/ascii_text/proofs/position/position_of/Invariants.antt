use Rattle.std.proofs.Common.{◌≡◌, ◌==◌, ◌<◌, ℕ, false, get_or}
use Rattle.ascii_text.proofs.position.position_of.Given as goal

-- no such byte is before the position
abbrev pub invariant-loop-position : goal.invariant-loop-position
invariant-loop-position l = (k : ℕ) → k < l.position → (get_or l.text k 0 == l.byte) ≡ false
