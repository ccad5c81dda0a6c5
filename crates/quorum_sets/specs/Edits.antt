-- Edits of sorted lists and of sets, by id.
use Rattle.std.specs.Prelude.{◌≡◌, ℕ, Bool, true, false, ◌==◌, List, Option, Some, None, find, IfSome, if◌then◌else◌, refl}
use Rattle.std.specs.Ordering.{nat_cmp}
use Rattle.std.specs.FinMap as finite

-- the item of an id
abbrev pub item_of : {T : Type 0} → (T → ℕ) → ℕ → List T → Option T
item_of key id items = find (λ item. key item == id) items

-- what the edit of an id makes of what it had; an id without an edit keeps that
abbrev pub edited_by : {E X : Type 0} → (E → X → X) → Option E → X → X
edited_by after None had = had
edited_by after (Some edit) had = after edit had

-- what an id has after the edits
abbrev pub edited : {E X : Type 0} → (E → X → X) → List (ℕ × E) → ℕ → X → X
edited after edits id had = edited_by after (finite.find nat_cmp id edits) had

-- an id that is there or not has itself for its id
pub is_there-has_id : (there : Bool) (id : ℕ) → IfSome (if there then Some id else None) (λ after. after ≡ id)
is_there-has_id true id = refl
is_there-has_id false id = tt
