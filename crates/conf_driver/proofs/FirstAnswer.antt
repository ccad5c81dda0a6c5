-- The first answer of rows in two parts.
use Rattle.std.proofs.Common.{◌≡◌, List, [], ◌∷◌, ◌++◌, refl}
use Rattle.std.specs.Prelude.{None, Option, Some}
use Rattle.conf_driver.specs.Rows.{first_of}
use Rattle.conf_driver.specs.declared.action.Action.{Action}

-- the first part has none
pub first_of-later : (rows more : List (Option Action)) → first_of rows ≡ None → first_of (rows ++ more) ≡ first_of more
first_of-later [] more is = refl
first_of-later (None ∷ rows) more is = first_of-later rows more is
first_of-later (Some answer ∷ rows) more is = cc

-- the first part has one
pub first_of-here : (rows more : List (Option Action)) (answer : Action) → first_of rows ≡ Some answer → first_of (rows ++ more) ≡ Some answer
first_of-here [] more answer is = cc
first_of-here (None ∷ rows) more answer is = first_of-here rows more answer is
first_of-here (Some other ∷ rows) more answer is = is
