-- How many digits a number has.
use Rattle.std.proofs.lemmas.Grind.{common_steps}
use Rattle.std.proofs.Common.{◌≡◌, ℕ, zero, suc, ◌+◌, ◌*◌, ◌/◌, ◌^◌, ◌<◌, ◌≤◌, length, arith, length-append}
use Rattle.std.specs.Fmt.{decimal}
use Rattle.std.proofs.Math.Nat.{pow-suc}
use Rattle.std.proofs.lemmas.Fmt.{decimal_step, decimal_nonempty, length-decimal-le}

power_positive : (k : ℕ) → 0 < 10 ^ k
power_positive zero = omega arith
power_positive (suc k) = omega (arith, pow-suc 10 k, power_positive k)

many_digits : (k n : ℕ) → 10 ^ k ≤ n → n < 2 ^ 64 → k < length (decimal n)
many_digits zero n from fits = decimal_nonempty n fits
many_digits (suc k) n from fits = grind (arith, pow-suc, power_positive, length, decimal_step, length-append, many_digits k (n / 10) (omega arith) (omega arith))

-- a number from one power of ten to the next
pub length-between_powers : (k n : ℕ) → 10 ^ k ≤ n → n < 10 * 10 ^ k → n < 2 ^ 64 → length (decimal n) ≡ k + 1
length-between_powers k n from below fits = grind (arith, common_steps, pow-suc, many_digits, length-decimal-le)
