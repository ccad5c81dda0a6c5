use Rattle.std.proofs.Common.{◌+◌, ◌-◌, length, sym, ◌∙◌, arith}
use Rattle.plan_input.specs.Refusal.{refusal_at}
use Rattle.plan_input.proofs.Refusals.{first_from-here, first_from-later}
use Rattle.plan_input.proofs.refusal.first_refusal.Goals as goal

pub returns-then-is_some : goal.returns-then-is_some
returns-then-is_some c =
    let n = length c.args.changes.now in
    let k = c.loop-position.position in
    sym (c.loop-position.invariant
    ∙ first_from-here (refusal_at c.args.now.now c.args.changes.now) k (n - k) (n - (k + 1)) _ (omega (arith, c.loop-position-test.true)) c.refusal_at-why.ensures (sym c.is_some.ensures ∙ c.if-is_some.true))

pub loop-position-preserved : goal.loop-position-preserved
loop-position-preserved c = grind (arith, first_from-later, c.loop-position.invariant, c.loop-position-test.true, c.refusal_at-why.ensures, c.is_some.ensures, c.if-is_some.false)
