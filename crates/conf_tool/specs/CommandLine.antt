-- What the arguments of the command line ask for.
use Rattle.std.specs.Prelude.{◌≡◌, ℕ, ◌≤◌, true, ⊤, Option, Some, None, is_some, option_map, option_and_then, List, [], codes, bytes_eq, if◌then◌else◌}
use Rattle.std.specs.Str.Parse.{IsNumeral, digits_value, without_leading_plus}
use Rattle.clap.specs.Words.{App, HasKind, Row, Text, fault_of, first_of, kind_of, subcommand_of, takes}
use Rattle.clap.specs.declared.error.kind.ErrorKind.TheVariants.{OutOfMemory}
use Rattle.quorum_sets.specs.Ids.{Ids, ids_of}
use Rattle.conf_change.specs.declared.floor.Floor.{Floor}
use Rattle.conf_change.specs.declared.floor.Floor.TheVariants.{Zero, One}
use Rattle.conf_plan.specs.declared.strategy.Strategy.{Strategy}
use Rattle.conf_plan.specs.declared.strategy.Strategy.TheVariants.{Shortest, LearnersFirst, OneAtATime}
use Rattle.conf_session.specs.Parameter.{id_in}
use Rattle.plan_input.specs.ShortToken.{short_token}
use Rattle.plan_output.specs.declared.output.Output.TheVariants.{Steps, Table, Json}
use Rattle.conf_tool.specs.IdList.{ids_listed, hexadecimal_listed}
use Rattle.conf_tool.specs.Ranges.{IsInRange}
use Rattle.conf_tool.specs.declared.argument_fault.ArgumentFault.{ArgumentFault}
use Rattle.conf_tool.specs.declared.argument_fault.ArgumentFault.TheVariants.{Clap, BadIds, HexadecimalId, FromAlone, ToAlone, FileBesidePair, IdBesidePair, EmptyFrom, NoMemory}
use Rattle.conf_tool.specs.declared.invocation.Invocation.{Invocation}
use Rattle.conf_tool.specs.declared.mode.Mode.{Mode}
use Rattle.conf_tool.specs.declared.pair_arguments.PairArguments.{PairArguments}
use Rattle.conf_tool.specs.declared.mode.Mode.TheVariants.{Lines, Check, Rewrite, Undo, Plan, Next}
use Rattle.conf_tool.specs.declared.plan_options.PlanOutput.{PlanOutput}
use Rattle.conf_tool.specs.declared.plan_options.PlanOutput.TheVariants.{Script, Text as TextOutput}

-- the mode of a name; `lines` unless another mode has the name
abbrev pub mode_named : Text → Mode
mode_named name =
    if bytes_eq name (codes "check") then Check
    else (if bytes_eq name (codes "rewrite") then Rewrite
    else (if bytes_eq name (codes "undo") then Undo
    else (if bytes_eq name (codes "plan") then Plan
    else (if bytes_eq name (codes "next") then Next
    else Lines))))

-- the mode that a parsed subcommand names; `lines` if there is none
abbrev pub selected_mode : Option (Text × List Row) → Mode
selected_mode None = Lines
selected_mode (Some matches) = mode_named matches.0

-- the value that a parsed subcommand gives an argument, if it does
abbrev pub option_text : Text → Option (Text × List Row) → Option Text
option_text id None = None
option_text id (Some matches) = first_of id matches.1

-- the initial next index that a name denotes: 1 if none is given
abbrev pub floor_named : Option Text → Floor
floor_named None = One
floor_named (Some name) = if bytes_eq name (codes "0") then Zero else One

-- the strategy of a name, if one is given
abbrev pub strategy_named : Option Text → Option Strategy
strategy_named None = None
strategy_named (Some name) =
    Some (if bytes_eq name (codes "learners-first") then LearnersFirst
    else (if bytes_eq name (codes "one-at-a-time") then OneAtATime else Shortest))

-- the form of output that a name denotes: steps if none is given
abbrev pub output_named : Option Text → PlanOutput
output_named None = TextOutput Steps
output_named (Some name) =
    if bytes_eq name (codes "script") then Script
    else TextOutput (if bytes_eq name (codes "table") then Table else (if bytes_eq name (codes "json") then Json else Steps))

-- the ids that are down: Some None if the option is left out, None if its text is not a list of ids
abbrev pub ids_down : Option Text → Option (Option Ids)
ids_down None = Some None
ids_down (Some text) = option_map (λ ids. Some (ids_of ids)) (ids_listed text)

-- the pair of --from and --to, beside FILE: Some None if neither is given, None if one is without the other or beside
-- FILE, or if --from is empty
abbrev pub pair_of : Option Text → Option Text → Option Text → Option (Option (Text × Text))
pair_of file None None = Some None
pair_of None (Some from) (Some to) = if bytes_eq from [] then None else Some (Some (from, to))
pair_of (Some file) (Some from) (Some to) = None
pair_of file (Some from) None = None
pair_of file None (Some to) = None

-- the two texts of a pair
abbrev pub texts_of : PairArguments → Text × Text
texts_of pair = (pair.from.now, pair.to.now)

-- the pair that a parsed subcommand gives
abbrev pub pair_given : Option (Text × List Row) → Option (Option (Text × Text))
pair_given matches = pair_of (option_text (codes "FILE") matches) (option_text (codes "from") matches) (option_text (codes "to") matches)

-- --from and --to are both given
abbrev pub AreGiven : Option Text → Option Text → Type 0
AreGiven from to = (is_some from ≡ true) × (is_some to ≡ true)

-- FILE is an id, and there are ids that are down: it was meant to be one of them
abbrev pub IsOneMoreId : Text → Option Text → Type 0
IsOneMoreId file down = (is_some down ≡ true) × (is_some (id_in file) ≡ true)

-- this is wrong with the values of FILE, --down, --from and --to
abbrev pub IsValueFaultOf : Option Text → Option Text → Option Text → Option Text → ArgumentFault → Type 0
IsValueFaultOf file down from to (Clap error) = ⊥
IsValueFaultOf file down from to BadIds = (ids_down down ≡ None) × (option_and_then hexadecimal_listed down ≡ None)
IsValueFaultOf file down from to (HexadecimalId token) =
    (ids_down down ≡ None) × (option_map short_token (option_and_then hexadecimal_listed down) ≡ Some token)
IsValueFaultOf file down from to FromAlone = (is_some from ≡ true) × (to ≡ None)
IsValueFaultOf file down from to ToAlone = (from ≡ None) × (is_some to ≡ true)
IsValueFaultOf file down from to (FileBesidePair name) =
    (file ≡ Some name.now) × AreGiven from to × (IsOneMoreId name.now down → ⊥)
IsValueFaultOf file down from to (IdBesidePair name ids) =
    (file ≡ Some name.now) × (down ≡ Some ids.now) × AreGiven from to × IsOneMoreId name.now down
IsValueFaultOf file down from to EmptyFrom = (file ≡ None) × (from ≡ Some []) × (is_some to ≡ true)
IsValueFaultOf file down from to NoMemory = ⊤

-- the error of reading the values of a parsed subcommand
abbrev pub IsValueFault : Option (Text × List Row) → ArgumentFault → Type 0
IsValueFault matches fault =
    IsValueFaultOf (option_text (codes "FILE") matches) (option_text (codes "down") matches)
    (option_text (codes "from") matches) (option_text (codes "to") matches) fault

-- The arguments are refused for this reason: that of `clap`, what is wrong with a value, or that memory ran out.
abbrev pub IsRefusal : App → List Text → ArgumentFault → Type 0
IsRefusal app arguments (Clap error) = HasKind (fault_of app arguments) error × (takes app arguments ≡ true → kind_of error ≡ OutOfMemory)
IsRefusal app arguments NoMemory = ⊤
IsRefusal app arguments fault = (fault_of app arguments ≡ []) × IsValueFault (subcommand_of app arguments) fault

-- The number of an option: the default if it is left out, otherwise the one that its text denotes. If that is not from
-- the least to the most, the arguments are refused.
abbrev pub IsOptionValue : ℕ → ℕ → ℕ → Option Text → ℕ → Type 0
IsOptionValue least most default None number = number ≡ default
IsOptionValue least most default (Some text) number =
    let digits = without_leading_plus text in
    IsNumeral 10 digits → least ≤ digits_value 10 digits → digits_value 10 digits ≤ most → number ≡ digits_value 10 digits

-- the invocation is that of the parsed subcommand
pub record IsInvocation (matches : Option (Text × List Row)) (invocation : Invocation) : Type 0 where
  pub mode : invocation.mode ≡ selected_mode matches
  pub pair : pair_given matches ≡ Some (option_map texts_of invocation.pair)
  pub file : option_map (λ name. name.now) invocation.file ≡ option_text (codes "FILE") matches
  pub history : IsOptionValue 0 1000 100 (option_text (codes "history") matches) invocation.options.history
  pub steps : IsOptionValue 1 1000 1 (option_text (codes "steps") matches) invocation.options.steps
  pub floor : invocation.options.floor ≡ floor_named (option_text (codes "next-floor") matches)
  pub strategy : invocation.options.plan.strategy ≡ strategy_named (option_text (codes "strategy") matches)
  pub output : invocation.options.plan.output ≡ output_named (option_text (codes "output") matches)
  pub down : ids_down (option_text (codes "down") matches) ≡ Some invocation.options.plan.down
  pub range : IsInRange invocation.options
