-- An item of a list in JSON that passes a test.
use Rattle.std.proofs.Common.{◌≡◌, Bool, ◌||◌, List, [], ◌∷◌, refl, ap}
use Rattle.std.specs.List.{list_any}
use Rattle.serde_json.specs.Data.{Data}
use Rattle.serde_json.specs.View.{items_view, view}
use Rattle.serde_json.specs.declared.value.Value.{Value}
use Rattle.plan_input.specs.TextIds.{any_item}

pub any_item-view : (test : Data → Bool) (values : List Value) → list_any (λ v. test (view v)) values ≡ any_item test (items_view values)
any_item-view test [] = refl
any_item-view test (v ∷ values) = ap (λ b. test (view v) || b) (any_item-view test values)
