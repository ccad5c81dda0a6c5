-- The parameters of commands: their keys, and what values their arguments may have.
use Rattle.std.specs.Prelude.{ℕ, Bool, true, false, ◌||◌, List, [], ◌∷◌, Option, Some, None, is_some, option_map, option_and_then, nat_lt, if◌then◌else◌, codes, bytes_eq}
use Rattle.std.specs.List.{list_all}
use Rattle.ascii_text.specs.Number.{number_in}
use Rattle.conf_change.specs.declared.transition.Transition.{Transition as HowApplied}
use Rattle.conf_change.specs.declared.transition.Transition.TheVariants.{Auto, Implicit, Explicit}
use Rattle.conf_session.specs.declared.parameter.Parameter.{Parameter}
use Rattle.conf_session.specs.declared.parameter.Parameter.TheVariants.{AutoLeave, Transition, Steps, Id, Index, Incoming, Outgoing, Indexes, Votes}

-- the key of a parameter's argument
abbrev pub key_of : Parameter → List ℕ
key_of AutoLeave = codes "autoleave"
key_of Transition = codes "transition"
key_of Steps = codes "steps"
key_of Id = codes "id"
key_of Index = codes "index"
key_of Incoming = codes "cfg"
key_of Outgoing = codes "cfgj"
key_of Indexes = codes "idx"
key_of Votes = codes "votes"

-- a command with this parameter needs its argument
abbrev pub is_required : Parameter → Bool
is_required Id = true
is_required Index = true
is_required parameter = false

-- ---- an argument of one value
-- the only value is this one
abbrev pub has_only : List ℕ → List (List ℕ) → Bool
has_only value [] = false
has_only value (first ∷ []) = bytes_eq first value
has_only value (first ∷ second ∷ values) = false

-- the flag that the only value denotes
abbrev pub flag_in : List (List ℕ) → Option Bool
flag_in values = if has_only (codes "true") values then Some true
    else (if has_only (codes "false") values then Some false else None)

-- the transition that the only value denotes
abbrev pub transition_in : List (List ℕ) → Option HowApplied
transition_in values =
    if has_only (codes "auto") values then Some Auto
    else (if has_only (codes "implicit") values then Some Implicit
    else (if has_only (codes "explicit") values then Some Explicit else None))

-- the number, if it is at least `least`
abbrev pub at_least : ℕ → ℕ → Option ℕ
at_least least number = if nat_lt number least then None else Some number

-- the number that the only value denotes, if it is at least `least`
abbrev pub number_from : ℕ → List (List ℕ) → Option ℕ
number_from least [] = None
number_from least (first ∷ []) = option_and_then (at_least least) (number_in first)
number_from least (first ∷ second ∷ values) = None

-- ---- a value of a list
-- the id that a value denotes
abbrev pub id_in : List ℕ → Option ℕ
id_in value = option_and_then (at_least 1) (number_in value)

-- the value of an unknown index or vote
abbrev pub is_unknown : List ℕ → Bool
is_unknown value = bytes_eq value (codes "_")

-- the acknowledged index that a value denotes, at least 1, or None inside if it is unknown
abbrev pub index_in : List ℕ → Option (Option ℕ)
index_in value =
    if is_unknown value then Some None else option_map (λ index. Some index) (id_in value)

-- the vote that a value denotes, or None inside if it is unknown
abbrev pub vote_in : List ℕ → Option (Option Bool)
vote_in value =
    if bytes_eq value (codes "y") then Some (Some true)
    else (if bytes_eq value (codes "n") then Some (Some false)
    else (if is_unknown value then Some None else None))

-- each value is valid
abbrev pub all_read : {V : Type 0} → (List ℕ → Option V) → List (List ℕ) → Bool
all_read read values = list_all (λ value. is_some (read value)) values

-- the values are valid for the parameter
abbrev pub allows : Parameter → List (List ℕ) → Bool
allows AutoLeave values = is_some (flag_in values)
allows Transition values = is_some (transition_in values)
allows Steps values = is_some (number_from 1 values)
allows Id values = is_some (number_from 1 values)
allows Index values = is_some (number_from 0 values)
allows Incoming values = all_read id_in values
allows Outgoing values = has_only (codes "zero") values || all_read id_in values
allows Indexes values = all_read index_in values
allows Votes values = all_read vote_in values
