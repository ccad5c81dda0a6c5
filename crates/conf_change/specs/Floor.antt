-- The floor: the smallest initial next index (own). etcd 3.4 has none: its initial next index is the last index.
use Rattle.std.specs.Prelude.{◌≡◌, ℕ, max, ◌<◌, ◌≤◌, Bool, true, false, refl}
use Rattle.std.specs.Coded.{Coded, coded_bool, code_by}
use Rattle.conf_change.specs.declared.floor.Floor.{Floor}
use Rattle.conf_change.specs.declared.floor.Floor.TheVariants.{Zero, One}
use Rattle.conf_change.specs.declared.progress.Progress.{Progress}

-- the floor as a number
abbrev pub number_of : Floor → ℕ
number_of Zero = 0
number_of One = 1

-- the initial next index of a new member: the last index, or the floor if that is greater
abbrev pub fresh_next : Floor → ℕ → ℕ
fresh_next floor last_index = max last_index (number_of floor)

-- next is ahead of match: match is below next, or with floor 0 at most next
abbrev pub IsAhead : Floor → Progress → Type 0
IsAhead Zero p = p.matched ≤ p.next
IsAhead One p = p.matched < p.next

-- ---- how a floor is stored
-- whether the floor is one
abbrev pub is_one : Floor → Bool
is_one Zero = false
is_one One = true

-- the floor, given whether it is one
abbrev pub floor_of : Bool → Floor
floor_of false = Zero
floor_of true = One

-- a floor is determined by whether it is one
pub floor-again : (floor : Floor) → floor_of (is_one floor) ≡ floor
floor-again Zero = refl
floor-again One = refl

-- a floor as a truth value
abbrev pub floor_code : Coded Floor
floor_code = code_by Bool coded_bool is_one floor_of floor-again
