-- An id that is down and is not a member.
use Rattle.std.specs.Prelude.{ℕ, Bool, not, ◌||◌, Option, find, option_and_then}
use Rattle.quorum_sets.specs.Ids.{Ids, ascending}
use Rattle.conf_change.specs.Configuration.{Configuration, is_member}

-- the id is a member of neither configuration
abbrev pub is_nonmember : Configuration → Configuration → ℕ → Bool
is_nonmember now target id = not (is_member now id || is_member target id)

-- the least id that is down, if ids are given that are, and a member of neither configuration
abbrev pub first_nonmember : Option Ids → Configuration → Configuration → Option ℕ
first_nonmember down now target = option_and_then (λ ids. find (is_nonmember now target) (ascending ids)) down
