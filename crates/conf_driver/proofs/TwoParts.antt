-- A number of two parts, of which the first counts more than all of the second.
use Rattle.std.proofs.Common.{◌≡◌, ℕ, ◌+◌, ◌*◌, ◌≤◌, ◌<◌, ◌∙◌, arith}
use Rattle.std.proofs.Math.Nat.{mul-add}
use Rattle.std.proofs.lemmas.Nat.{mul-le}

-- the first part is smaller, whatever the second is
pub falls-first : (m n a b x y : ℕ) → n ≤ m → y ≤ 2 * n → b < a → (2 * n + 1) * b + y < (2 * m + 1) * a + x
falls-first m n a b x y few small less =
    let product = mul-le (2 * n + 1) (b + 1) (2 * m + 1) a (omega (arith, few)) (omega (arith, less)) in
    let spread = spread_out n b in
    omega (arith, product, spread, small)
  where
    spread_out : (n b : ℕ) → (2 * n + 1) * (b + 1) ≡ (2 * n + 1) * b + (2 * n + 1)
    spread_out n b = mul-add (2 * n + 1) b 1 ∙ omega arith

-- the second part is smaller, and the first no greater
pub falls-second : (m n a b x y : ℕ) → n ≤ m → b ≤ a → y < x → (2 * n + 1) * b + y < (2 * m + 1) * a + x
falls-second m n a b x y few no_more less = grind (arith, mul-le)
