use Rattle.std.proofs.Common.{Bool, ℕ, ◌+◌, ◌<◌, length, get_or, true, false, not, ◌&&◌, ◌≡◌, sym, map, take, ap, ap₂, ◌∙◌, arith}
use Rattle.std.specs.Prelude.{◌==◌}
use Rattle.std.proofs.lemmas.Bool.{and_parts}
use Rattle.std.proofs.lemmas.List.{map_more}
use Rattle.clap.specs.Words.{App, with_subcommand}
use Rattle.conf_tool.specs.Program.{mode_command, modes, program}
use Rattle.conf_tool.specs.declared.mode.Mode.{Mode}
use Rattle.conf_tool.specs.declared.program.OptionNames.{OptionNames}
use Rattle.conf_tool.proofs.program.program.Goals as goal

third : (a b c d : Bool) → (a && (b && (not c && d))) ≡ true → c ≡ false
third a b c d all = grind (arith, and_parts)

-- the program with its first modes
abbrev with_modes : OptionNames → ℕ → App
with_modes names i = record { top = record ((program names).top) { is_leaf = i == 0 }; subs = map (mode_command names) (take i modes) }

one_more : (i : ℕ) → (i + 1 == 0) ≡ false
one_more i = grind arith

with_one_more : (names : OptionNames) (i : ℕ) (d : Mode) → i < length modes → with_subcommand (with_modes names i) (mode_command names (get_or modes i d)) ≡ with_modes names (i + 1)
with_one_more names i d lt =
    ap₂ (λ leaf subs. record { top = record ((program names).top) { is_leaf = leaf }; subs = subs }) (sym (one_more i)) (sym (map_more (mode_command names) modes i d lt))

is_plain : (names : OptionNames) (mode : Mode) → (mode_command names mode).is_plain ≡ true
is_plain names mode = grind arith

-- A mode that is plain has no global argument, which is the third part of being plain.
pub loop-mode-preserved : goal.loop-mode-preserved
loop-mode-preserved c =
    let one_of_them : c.loop-mode.mode-index < length modes = omega arith in
    let mode_is = c.in_ok-mode_command.ensures in
    let local = third _ _ _ _ (ap (λ (a : App). a.top.is_plain) mode_is ∙ is_plain c.args.names _) in
    c.in_ok-program.ensures.shape local ∙ ap₂ (λ (a b : App). with_subcommand a b.top) c.loop-mode.invariant mode_is
    ∙ with_one_more c.args.names c.loop-mode.mode-index _ one_of_them
