-- Tests of ids, as a closure computes them.
use Rattle.std.specs.Prelude.{◌≡◌, ℕ, Bool}

-- the closure computes this function of ids: on each id it returns what the function gives
abbrev pub Computes : (ℕ → Bool → Type 0) → (ℕ → Bool) → Type 0
Computes gives passes = (id : ℕ) (answer : Bool) → gives id answer → answer ≡ passes id
