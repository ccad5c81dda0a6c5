use Rattle.std.proofs.Common.{◌==◌, length, sym, arith}
use Rattle.std.proofs.lemmas.Bool.{false_from_ne_true}
use Rattle.std.proofs.lemmas.List.Sums.{position_or_len_is}
use Rattle.ascii_text.proofs.position.find_far_byte.Goals as goal

pub returns-in-Some-clause-position : goal.returns-in-Some-clause-position
returns-in-Some-clause-position c = grind (arith, position_or_len_is, false_from_ne_true, c.in-Some.ensures)

pub returns-in-None-clause-position : goal.returns-in-None-clause-position
returns-in-None-clause-position c =
    let text = c.args.text.now in
    sym (position_or_len_is (λ b. b == c.args.byte) text (length text) 0 (omega arith) (λ k within. false_from_ne_true _ (c.in-None.ensures k (omega arith) within)) (λ past. absurd (omega (arith, past))))
