-- How many numbers a call writes at most: what macros of the header compute.
use Rattle.std.specs.Prelude.{ℕ, ◌+◌, ◌*◌, ◌-◌}

-- how many ids an array of this length has, after its flag and its five counts
abbrev pub ids_len : ℕ → ℕ
ids_len len = len - 6

-- how many numbers a step writes at most, CONFSCRIPT_STEP_ROOM: each id that the configuration lists, and each change,
-- adds at most two
abbrev pub step_room : ℕ → ℕ → ℕ
step_room configuration_len changes_len = 6 + 2 * (ids_len configuration_len + changes_len)

-- how many numbers are written of a restored configuration at most, CONFSCRIPT_RESTORE_ROOM
abbrev pub restore_room : ℕ → ℕ
restore_room configuration_len = step_room configuration_len 0
