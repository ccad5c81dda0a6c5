-- The values of a directive's arguments.
use Rattle.std.specs.Prelude.{◌≡◌, ℕ, Bool, false, IsSomeAnd, List, [], ◌++◌, filter_map, Option, Some, None, option_map, option_and_then, unwrap_or, Result, Ok, Err, codes}
use Rattle.dd_file.specs.DirectiveLine.{ArgumentText}
use Rattle.conf_change.specs.declared.transition.Transition.{Transition}
use Rattle.conf_change.specs.declared.transition.Transition.TheVariants.{Auto}
use Rattle.conf_session.specs.Arguments.{argument_of, parameter_of, bad_argument, missing_argument}
use Rattle.conf_session.specs.Parameter.{key_of, flag_in, transition_in, number_from, id_in, index_in, vote_in}
use Rattle.conf_session.specs.ReplyTexts.{line}
use Rattle.conf_session.specs.declared.parameter.Parameter.{Parameter}
use Rattle.conf_session.specs.declared.parameter.Parameter.TheVariants.{AutoLeave, Transition as TransitionAsked, Steps, Id, Index, Incoming, Outgoing, Indexes, Votes}

-- the value of each argument
pub record Values : Type 0 where
  pub auto_leave : Bool
  pub transition : Transition
  pub steps : ℕ
  pub id : ℕ
  pub index : ℕ
  pub incoming : List ℕ
  pub outgoing : List ℕ
  pub indexes : List (Option ℕ)
  pub votes : List (Option Bool)

-- what the argument of a parameter denotes, or the default if it is missing
abbrev pub value_or : {V : Type 0} → (List (List ℕ) → Option V) → V → Parameter
    → List ArgumentText → V
value_or read default parameter arguments = unwrap_or (option_and_then
    (λ argument. read argument.values) (argument_of parameter arguments)) default

-- what the values of a parameter's argument denote; none if it is missing
abbrev pub listed : {V : Type 0} → (List ℕ → Option V) → Parameter → List ArgumentText → List V
listed read parameter arguments = unwrap_or (option_map
    (λ argument. filter_map read argument.values) (argument_of parameter arguments)) []

-- the values of arguments of which none is bad
abbrev pub values_in : List ArgumentText → Values
values_in arguments = record {
  auto_leave = value_or flag_in false AutoLeave arguments;
  transition = value_or transition_in Auto TransitionAsked arguments;
  steps = value_or (number_from 1) 1 Steps arguments;
  id = value_or (number_from 1) 0 Id arguments;
  index = value_or (number_from 0) 0 Index arguments;
  incoming = listed id_in Incoming arguments;
  outgoing = listed id_in Outgoing arguments;
  indexes = listed index_in Indexes arguments;
  votes = listed vote_in Votes arguments;
}

-- the values after one more argument
abbrev pub with_more : Values → Parameter → List (List ℕ) → Values
with_more so_far AutoLeave values =
    record so_far { auto_leave = unwrap_or (flag_in values) so_far.auto_leave }
with_more so_far TransitionAsked values =
    record so_far { transition = unwrap_or (transition_in values) so_far.transition }
with_more so_far Steps values =
    record so_far { steps = unwrap_or (number_from 1 values) so_far.steps }
with_more so_far Id values = record so_far { id = unwrap_or (number_from 1 values) so_far.id }
with_more so_far Index values =
    record so_far { index = unwrap_or (number_from 0 values) so_far.index }
with_more so_far Incoming values =
    record so_far { incoming = so_far.incoming ++ filter_map id_in values }
with_more so_far Outgoing values =
    record so_far { outgoing = so_far.outgoing ++ filter_map id_in values }
with_more so_far Indexes values =
    record so_far { indexes = so_far.indexes ++ filter_map index_in values }
with_more so_far Votes values = record so_far { votes = so_far.votes ++ filter_map vote_in values }

-- the argument has one of these parameters, and `after` is `before` with its values
abbrev pub HasMore : Values → List Parameter → ArgumentText → Values → Type 0
HasMore before parameters argument after = IsSomeAnd (parameter_of parameters argument)
    (λ parameter. after ≡ with_more before parameter argument.values)

-- the first bad argument is reported, or else the first missing one
abbrev pub values_read : Option (List ℕ) → Option Parameter → Values → Result Values (List ℕ)
values_read (Some key) missing values = Err (line (codes "bad argument: " ++ key))
values_read None (Some parameter) values =
    Err (line (codes "missing argument: " ++ key_of parameter))
values_read None None values = Ok values

-- the values of a command's arguments, or the line that reports an error; without parameters the arguments are ignored
abbrev pub read_arguments : Option (List Parameter) → List ArgumentText → Result Values (List ℕ)
read_arguments None arguments = Ok (values_in [])
read_arguments (Some parameters) arguments = values_read (bad_argument parameters arguments)
    (missing_argument parameters arguments) (values_in arguments)
