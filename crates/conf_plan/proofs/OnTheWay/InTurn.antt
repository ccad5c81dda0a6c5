-- The steps of the items of a list, as they are added one after another.
use Rattle.std.proofs.Common.{◌≡◌, ℕ, ◌+◌, ◌<◌, zero, suc, List, [], ◌∷◌, ◌++◌, length, take, get_or, slice_get, refl, sym, ap, subst, ◌∙◌, arith}
use Rattle.std.specs.Prelude.{flat_map}
use Rattle.std.specs.List.{cons_option}
use Rattle.std.proofs.lemmas.Grind.{flat_map-append}
use Rattle.std.proofs.lemmas.List.{append-nil, take_all, take_more}
use Rattle.std.proofs.lemmas.Option.{slice_get_past}
use Rattle.std.proofs.lemmas.List.Concat.{flat_map-cons}
use Rattle.conf_change.specs.declared.step.Step.{Step}
use Rattle.conf_plan.specs.OneAtATime.{in_turn}
use Rattle.conf_plan.specs.AddedSteps.{IsAdded}
use Rattle.conf_plan.proofs.PlannedSteps.Cases.{added-more}

-- the steps of some items, and those of further ones
pub added-further : {X : Type 0} (of : X → List Step) (before now after : List Step) (items more all : List X) → all ≡ items ++ more → IsAdded before (flat_map of items) now
    → IsAdded now (flat_map of more) after → IsAdded before (flat_map of all) after
added-further of before now after items more all is first second =
    subst (λ steps. IsAdded before steps after) (sym (ap (flat_map of) is ∙ flat_map-append of items more)) (added-more before (flat_map of items) now (flat_map of more) after first second)

pub added-item : {X : Type 0} (of : X → List Step) (before now after : List Step) (items : List X) (k : ℕ) (x : X) → k < length items → IsAdded before (flat_map of (take k items)) now
    → IsAdded now (of (get_or items k x)) after → IsAdded before (flat_map of (take (k + 1) items)) after
added-item of before now after items k x within first second =
    let item = get_or items k x in
    added-further of before now after (take k items) (item ∷ []) (take (k + 1) items) (take_more items k x within) first
    (subst (λ steps. IsAdded now steps after) (sym (flat_map-cons of item [] ∙ append-nil (of item))) second)

-- ---- the ids before an index, and the one there, if there is one
take-none : (k : ℕ) → take {A = ℕ} k [] ≡ []
take-none k = take_all k [] (omega arith)

pub take-option : (ids : List ℕ) (k : ℕ) → take (k + 1) ids ≡ take k ids ++ cons_option (slice_get ids k) []
take-option [] k = grind (arith, take-none, slice_get_past {X = ℕ} [] k)
take-option (x ∷ ids) zero = refl
take-option (x ∷ ids) (suc k) = grind (arith, take-option ids k)

pub in_turn-alone : (joins : List ℕ) → in_turn joins [] ≡ joins
in_turn-alone [] = refl
in_turn-alone (id ∷ joins) = refl

-- of two lists in turn, too
pub in_turn-option : (joins retires : List ℕ) (k : ℕ)
    → in_turn (take (k + 1) joins) (take (k + 1) retires) ≡ in_turn (take k joins) (take k retires) ++ (cons_option (slice_get joins k) [] ++ cons_option (slice_get retires k) [])
in_turn-option [] retires k = grind (arith, take-none, slice_get_past {X = ℕ} [] k, take-option retires k)
in_turn-option (x ∷ joins) [] k = grind (arith, take-none, slice_get_past {X = ℕ} [] k, in_turn-alone, take-option (x ∷ joins) k)
in_turn-option (x ∷ joins) (y ∷ retires) zero = refl
in_turn-option (x ∷ joins) (y ∷ retires) (suc k) = grind (arith, in_turn-option joins retires k)
