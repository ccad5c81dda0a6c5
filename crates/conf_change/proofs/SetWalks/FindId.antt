-- The first item of a list that passes a test, looked for one by one.
use Rattle.std.proofs.Common.{◌≡◌, ℕ, ◌+◌, Bool, true, false, cond, not, ◌&&◌, List, [], ◌∷◌, refl, arith, drop, ap, ◌∙◌, slice_get}
use Rattle.std.specs.Prelude.{Some, find, is_some}
use Rattle.std.specs.List.{list_all}
use Rattle.std.proofs.lemmas.List.{drop_more}
use Rattle.std.proofs.lemmas.Option.{slice_get_within, get_or_from_slice_get}

at_position : (xs : List ℕ) (k x : ℕ) → slice_get xs k ≡ Some x → drop k xs ≡ x ∷ drop (k + 1) xs
at_position xs k x here = drop_more xs k x (slice_get_within xs k x here) ∙ ap (λ y. y ∷ drop (k + 1) xs) (get_or_from_slice_get xs k x x here)

-- the item at k passes
pub find-here : (test : ℕ → Bool) (xs : List ℕ) (k x : ℕ) → slice_get xs k ≡ Some x → test x ≡ true → find test (drop k xs) ≡ Some x
find-here test xs k x here passes = ap (find test) (at_position xs k x here) ∙ ap (λ b. cond b (Some x) (find test (drop (k + 1) xs))) passes

-- it does not
pub find-later : (test : ℕ → Bool) (xs : List ℕ) (k x : ℕ) → slice_get xs k ≡ Some x → test x ≡ false → find test (drop k xs) ≡ find test (drop (k + 1) xs)
find-later test xs k x here fails = ap (find test) (at_position xs k x here) ∙ ap (λ b. cond b (Some x) (find test (drop (k + 1) xs))) fails

-- each item passes where none is found that does not
pub list_all-find : {X : Type 0} (test fails : X → Bool) (xs : List X) → ((x : X) → test x ≡ not (fails x)) → list_all test xs ≡ not (is_some (find fails xs))
list_all-find test fails [] same = refl
list_all-find test fails (x ∷ xs) same = (λ i. same x i && list_all-find test fails xs same i) ∙ grind arith
