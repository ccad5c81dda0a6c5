use Rattle.std.proofs.Common.{◌≡◌, ◌-◌, length}
use Rattle.plan_input.specs.Refusal.{first_refusal, refusal_at}
use Rattle.plan_input.proofs.Refusals.{first_from}
use Rattle.plan_input.proofs.refusal.first_refusal.Given as goal

-- no change before the position is refused
abbrev pub invariant-loop-position : goal.invariant-loop-position
invariant-loop-position l = first_refusal l.now l.changes ≡ first_from (refusal_at l.now l.changes) l.position (length l.changes - l.position)
