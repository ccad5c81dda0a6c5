use Rattle.std.proofs.Common.{◌≡◌, ◌==◌, true, false, length, get_or, sym, arith}
use Rattle.std.proofs.lemmas.List.Sums.{position_or_len_is}
use Rattle.ascii_text.proofs.position.position_of.Goals as goal

pub returns-then-other-byte-clause-position : goal.returns-then-other-byte-clause-position
returns-then-other-byte-clause-position c = grind (arith, get_or, true, position_or_len_is, c.loop-position.invariant)

pub returns-clause-position : goal.returns-clause-position
returns-clause-position c =
    let text = c.args.text.now in
    let end : c.loop-position.position ≡ length text = omega arith in
    sym (position_or_len_is (λ b. b == c.args.byte) text (length text) 0 (omega arith) (λ k below. c.loop-position.invariant k (omega (arith, below))) (λ past. absurd (omega (arith, past))))

pub loop-position-preserved : goal.loop-position-preserved
loop-position-preserved c = grind (arith, get_or, false, c.loop-position.invariant)
