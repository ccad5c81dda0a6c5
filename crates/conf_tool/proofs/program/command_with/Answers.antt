use Rattle.std.proofs.Common.{List, ℕ, [], ◌+◌, ◌<◌, ◌≡◌, ◌∙◌, length, get_or, take, map, sym, ap, ap₂, arith}
use Rattle.std.proofs.lemmas.List.{map_more}
use Rattle.clap.specs.Words.{App, Rule, Text, with_rule}
use Rattle.conf_tool.specs.Program.{command_with, option_of}
use Rattle.conf_tool.specs.declared.program.ModeOption.{ModeOption}
use Rattle.conf_tool.proofs.program.command_with.Goals as goal

-- a mode as an app of its own
abbrev app : Text → List Rule → App
app name options = record { top = command_with name options; subs = [] }

with_one_more : (name : Text) (options : List ModeOption) (i : ℕ) (d : ModeOption) → i < length options →
    with_rule (app name (map option_of (take i options))) (option_of (get_or options i d)) ≡ app name (map option_of (take (i + 1) options))
with_one_more name options i d lt = ap (app name) (sym (map_more option_of options i d lt))

pub loop-option-preserved : goal.loop-option-preserved
loop-option-preserved c =
    c.in_ok-command-2.ensures.shape c.option_argument.ensures.local ∙ ap₂ with_rule c.loop-option.invariant c.option_argument.ensures.rule
    ∙ with_one_more c.args.mode.name.now c.args.options.now c.loop-option.option-index _ (omega arith)
