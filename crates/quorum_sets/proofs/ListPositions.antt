-- Places in a list: the item at one, the items before it and those after it.
use Rattle.std.proofs.Common.{◌≡◌, ℕ, ◌+◌, ◌<◌, List, [], ◌∷◌, ◌++◌, take, drop, length, sym, ap, ◌∙◌, arith, slice_get, drop-cons, add-one}
use Rattle.std.specs.Prelude.{Some, None}
use Rattle.std.proofs.lemmas.List.{take_more, take-append-drop}
use Rattle.std.proofs.lemmas.Option.{slice_get_within, slice_get_cases, get_or_from_slice_get}

-- a position below the length has an item
pub slice_get-not_past : {P : Type 0} {X : Type 0} (xs : List X) (k n : ℕ) → None ≡ slice_get xs k → n ≡ length xs → k < n → P
slice_get-not_past xs k n none is lt = grind (arith, slice_get_cases)

-- the items before a position, and the one there
pub take-one_more : {X : Type 0} (xs : List X) (k : ℕ) (x : X) → slice_get xs k ≡ Some x → take (k + 1) xs ≡ take k xs ++ x ∷ []
take-one_more xs k x here =
    take_more xs k x (slice_get_within xs k x here) ∙ ap (λ y. take k xs ++ y ∷ []) (get_or_from_slice_get xs k x x here)

-- the items before a position, the one there, and those after it
pub slice_get-split : {X : Type 0} (xs : List X) (k : ℕ) (x : X) → slice_get xs k ≡ Some x → xs ≡ take k xs ++ x ∷ drop (k + 1) xs
slice_get-split xs k x here =
    let within = slice_get_within xs k x here in
    sym (take-append-drop k xs)
    ∙ ap (λ ys. take k xs ++ ys) (drop-cons xs k x within ∙ (λ i. get_or_from_slice_get xs k x x here i ∷ drop (sym (add-one k) i) xs))
