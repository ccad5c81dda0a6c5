-- The arguments of a directive, matched with the parameters of its command.
use Rattle.std.specs.Prelude.{ℕ, Bool, false, not, ◌&&◌, List, [], ◌∷◌, ◌++◌, Option, Some, None, option_map, unwrap_or, if◌then◌else◌, bytes_eq}
use Rattle.std.specs.List.{list_any, find}
use Rattle.dd_file.specs.DirectiveLine.{ArgumentText}
use Rattle.conf_session.specs.Parameter.{key_of, is_required, allows}
use Rattle.conf_session.specs.declared.parameter.Parameter.{Parameter}

-- the parameter with the argument's key
abbrev pub parameter_of : List Parameter → ArgumentText → Option Parameter
parameter_of parameters argument =
    find (λ parameter. bytes_eq argument.key (key_of parameter)) parameters

-- the argument has a parameter, and its values are valid
abbrev pub is_allowed : List Parameter → ArgumentText → Bool
is_allowed parameters argument = unwrap_or (option_map
    (λ parameter. allows parameter argument.values) (parameter_of parameters argument)) false

-- some argument has the key
abbrev pub has_key : List ArgumentText → List ℕ → Bool
has_key arguments key = list_any (λ argument. bytes_eq argument.key key) arguments

-- the argument has a parameter and valid values, and no argument before it has its key
abbrev pub is_good : List Parameter → List ArgumentText → ArgumentText → Bool
is_good parameters before argument =
    is_allowed parameters argument && not (has_key before argument.key)

-- the key of the first of these arguments that is not good, where those of `before` precede them
abbrev pub first_bad : List Parameter → List ArgumentText → List ArgumentText → Option (List ℕ)
first_bad parameters before [] = None
first_bad parameters before (argument ∷ arguments) =
    if is_good parameters before argument
    then first_bad parameters (before ++ argument ∷ []) arguments else Some argument.key

-- the key of the first bad argument
abbrev pub bad_argument : List Parameter → List ArgumentText → Option (List ℕ)
bad_argument parameters arguments = first_bad parameters [] arguments

-- the parameter is required and has no argument
abbrev pub is_missing : List ArgumentText → Parameter → Bool
is_missing arguments parameter = is_required parameter && not (has_key arguments (key_of parameter))

-- the first missing parameter, in the order of the command's row
abbrev pub missing_argument : List Parameter → List ArgumentText → Option Parameter
missing_argument parameters arguments = find (is_missing arguments) parameters

-- the argument of a parameter
abbrev pub argument_of : Parameter → List ArgumentText → Option ArgumentText
argument_of parameter arguments =
    find (λ argument. bytes_eq argument.key (key_of parameter)) arguments
