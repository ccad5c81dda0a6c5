-- The ids of a list that pass a test, collected one after another.
use Rattle.std.proofs.Common.{◌≡◌, ℕ, ◌+◌, ◌<◌, Bool, true, false, List, [], ◌∷◌, ◌++◌, length, take, get_or, arith}
use Rattle.std.specs.Prelude.{filter}
use Rattle.std.proofs.lemmas.List.{append-nil}
use Rattle.std.proofs.lemmas.List.Elements.{filter_more}

-- the next id passes
pub kept-passing : (test : ℕ → Bool) (xs ids : List ℕ) (k : ℕ) → k < length xs → test (get_or xs k 0) ≡ true → ids ≡ filter test (take k xs)
    → ids ++ get_or xs k 0 ∷ [] ≡ filter test (take (k + 1) xs)
kept-passing test xs ids k within passes so_far = grind (arith, passes, so_far, filter_more test xs k 0 within)

-- it does not
pub kept-failing : (test : ℕ → Bool) (xs ids : List ℕ) (k : ℕ) → k < length xs → test (get_or xs k 0) ≡ false → ids ≡ filter test (take k xs)
    → ids ≡ filter test (take (k + 1) xs)
kept-failing test xs ids k within fails so_far = grind (arith, fails, so_far, filter_more test xs k 0 within, append-nil (filter test (take k xs)))
