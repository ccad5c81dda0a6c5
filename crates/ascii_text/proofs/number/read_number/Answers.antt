use Rattle.std.proofs.Common.{◌≡◌, true, get_or, sym, ◌∙◌, arith}
use Rattle.std.proofs.lemmas.Bool.Decides.{nat_tests}
use Rattle.std.specs.Char.{is_ascii_digit}
use Rattle.ascii_text.proofs.NumberLemmas.{number_in-none_at, number_in-none_more, IsRead-more, IsRead-whole}
use Rattle.ascii_text.proofs.number.read_number.Goals as goal
use Rattle.ascii_text.proofs.number.read_number.Goals.{Else-not-is_ascii_digit}

digit : (c : Else-not-is_ascii_digit) → is_ascii_digit (get_or c.args.digits.now c.loop-digit.digit-index 0) ≡ true
digit c = sym c.is_ascii_digit.ensures.value ∙ c.if-not-is_ascii_digit.false

pub returns-then-not-is_ascii_digit : goal.returns-then-not-is_ascii_digit
returns-then-not-is_ascii_digit c = grind (arith, number_in-none_at, c.is_ascii_digit.ensures.value, c.if-not-is_ascii_digit.true)

pub returns-in_err-checked_mul : goal.returns-in_err-checked_mul
returns-in_err-checked_mul c =
    rw c.from_residual.ensures (number_in-none_more c.args.digits.now c.loop-digit.digit-index c.loop-digit.number c.loop-digit.invariant.read c.loop-digit-test.true
    (digit (goal.at.returns-in_err-checked_mul c).Else-not-is_ascii_digit) (omega (arith, c.in_err-checked_mul.ensures)))

pub returns-in_err-number : goal.returns-in_err-number
returns-in_err-number c =
    rw c.from_residual-in_err-number.ensures (number_in-none_more c.args.digits.now c.loop-digit.digit-index c.loop-digit.number c.loop-digit.invariant.read c.loop-digit-test.true
    (digit (goal.at.returns-in_err-number c).Else-not-is_ascii_digit) (omega (arith, c.in_err-number.ensures, c.in_ok-checked_mul.ensures)))

pub loop-digit-preserved : goal.loop-digit-preserved
loop-digit-preserved c =
    let more = IsRead-more c.args.digits.now c.loop-digit.digit-index c.loop-digit.number c.loop-digit.invariant.read c.loop-digit-test.true (digit (goal.at.loop-digit-preserved c).Else-not-is_ascii_digit) in
    record {
      read = record { all_digits = more.all_digits; value = omega (arith, more.value, c.in_ok-number.ensures, c.in_ok-checked_mul.ensures) };
      fits = omega (arith, c.in_ok-number.ensures);
    }

pub returns : goal.returns
returns c = IsRead-whole c.args.digits.now _ _ c.loop-digit.invariant.read (omega arith) (grind (arith, nat_tests)) (omega arith)
