-- The program as `clap` knows it: each mode is a subcommand.
use Rattle.std.specs.Prelude.{◌≡◌, ℕ, true, false, Some, None, Option, List, [], ◌∷◌, ◌++◌, map, codes}
use Rattle.std.specs.Borrow.{Bor}
use Rattle.clap.specs.Words.{App, Rule, Shape, Text, new_app, new_rule}
use Rattle.clap.specs.declared.builder.value_parser.ValueParser.{ValueParser}
use Rattle.clap.specs.declared.builder.value_parser.ValueParser.TheVariants.{Unsigned, Names}
use Rattle.conf_tool.specs.declared.mode.Mode.{Mode}
use Rattle.conf_tool.specs.declared.mode.Mode.TheVariants.{Lines, Check, Rewrite, Undo, Plan, Next}
use Rattle.conf_tool.specs.declared.program.OptionNames.{OptionNames}
use Rattle.conf_tool.specs.declared.program.ModeOption.{ModeOption}

-- an option whose value has to pass the parser, or may be any text
abbrev pub option_rule : Text → Option ValueParser → Rule
option_rule name parser = record (new_rule name) { long = Some name; parser = parser; value_names = 1 }

-- an option whose value is a number from the least to the most
abbrev pub number_rule : Text → ℕ → ℕ → Rule
number_rule name least most = option_rule name (Some (Unsigned least most))

-- an option whose value is one of these names
abbrev pub names_rule : Text → Bor (List (Bor Text)) → Rule
names_rule name names = option_rule name (Some (Names names))

-- an option whose value is any text
abbrev pub text_rule : Text → Rule
text_rule name = option_rule name None

-- a mode with the argument FILE, as all of them have, and these options
abbrev pub command_with : Text → List Rule → Shape
command_with name options = record ((new_app name).top) { rules = new_rule (codes "FILE") ∷ options }

-- the options of a mode that runs a script
abbrev pub script_options : OptionNames → List Rule
script_options names = number_rule (codes "history") 0 1000 ∷ names_rule (codes "next-floor") names.floors ∷ []

-- the options of the mode undo
abbrev pub undo_options : OptionNames → List Rule
undo_options names = script_options names ++ number_rule (codes "steps") 1 1000 ∷ []

-- the options of the mode plan
abbrev pub plan_options : OptionNames → List Rule
plan_options names =
    names_rule (codes "strategy") names.strategies ∷ names_rule (codes "output") names.outputs ∷ text_rule (codes "down") ∷ text_rule (codes "from") ∷ text_rule (codes "to") ∷ []

-- a mode, whose options have these names as values
abbrev pub mode_command : OptionNames → Mode → Shape
mode_command names Lines = command_with (codes "lines") []
mode_command names Check = command_with (codes "check") (script_options names)
mode_command names Rewrite = command_with (codes "rewrite") (script_options names)
mode_command names Undo = command_with (codes "undo") (undo_options names)
mode_command names Plan = command_with (codes "plan") (plan_options names)
mode_command names Next = command_with (codes "next") []

-- the modes, in the order in which the help lists them
abbrev pub modes : List Mode
modes = Plan ∷ Next ∷ Lines ∷ Check ∷ Rewrite ∷ Undo ∷ []

-- the program without its modes, where a mode has to be named, and its version can be asked for
abbrev pub without_modes : App
without_modes = record { top = record ((new_app (codes "confscript")).top) { has_version = true; subcommand_required = true }; subs = [] }

-- the program with its modes, whose options have these names as values
abbrev pub program : OptionNames → App
program names = record { top = record without_modes.top { is_leaf = false }; subs = map (mode_command names) modes }

-- the option that is added to a mode
abbrev pub option_of : ModeOption → Rule
option_of option = option_rule option.help.name.now option.parser

-- an option has these names, in this order
abbrev pub AreNames : Bor (List (Bor Text)) → List Text → Type 0
AreNames names texts = map (λ name. name.now) names.now ≡ texts

-- the names that the options --next-floor, --strategy and --output have
pub record AreOptionNames (names : OptionNames) : Type 0 where
  pub floors : AreNames names.floors (codes "0" ∷ codes "1" ∷ [])
  pub strategies : AreNames names.strategies (codes "shortest" ∷ codes "learners-first" ∷ codes "one-at-a-time" ∷ [])
  pub outputs : AreNames names.outputs (codes "steps" ∷ codes "script" ∷ codes "table" ∷ codes "json" ∷ [])

-- the statement holds of the program whose options have these names
abbrev pub OfProgram : (App → Type 0) → Type 0
OfProgram P = (names : OptionNames) × AreOptionNames names × P (program names)
