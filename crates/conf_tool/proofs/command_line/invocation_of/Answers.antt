use Rattle.std.specs.Prelude.{Option, Some, None, option_map, codes}
use Rattle.std.proofs.Common.{List, ap, refl, subst, ◌≡◌, ◌∙◌, arith}
use Rattle.std.proofs.lemmas.Result.{err_from_is_err_and}
use Rattle.std.specs.Box.{box_value}
use Rattle.clap.specs.Words.{Row, first_of, found_of, rows_of, subcommand_rows_of, Text, subcommand_name_of, subcommand_rows}
use Rattle.clap.specs.declared.parser.matches.ArgMatches.{ArgMatches}
use Rattle.clap.specs.declared.parser.matches.ArgMatches.TheViews.{out-ArgMatches, out-SubCommand}
use Rattle.conf_tool.specs.declared.mode.Mode.{Mode}
use Rattle.conf_tool.specs.declared.mode.Mode.TheVariants.{Lines}
use Rattle.conf_tool.specs.CommandLine.{mode_named, selected_mode, IsValueFault, IsValueFaultOf}
use Rattle.conf_tool.specs.declared.argument_fault.ArgumentFault.{ArgumentFault}
use Rattle.conf_tool.proofs.command_line.invocation_of.Goals as goal

-- a mode by the name alone
abbrev mode-of-name : Option Text → Mode
mode-of-name None = Lines
mode-of-name (Some name) = mode_named name

asked-mode-of-name : (matches : Option (Text × List Row)) → mode-of-name (option_map (λ p. p.0) matches) ≡ selected_mode matches
asked-mode-of-name matches = grind arith

name-in-rows : (m : ArgMatches) → subcommand_name_of m ≡ option_map (λ p. p.0) (subcommand_rows_of m)
name-in-rows m = elim (out-ArgMatches m).subcommand as (λ s. option_map (λ b. (out-SubCommand (box_value b)).name.now) s ≡ option_map (λ p. p.0) (subcommand_rows s)) [ None ↦ refl | Some b ↦ refl ]

-- the mode that the rows name
asked : (m : ArgMatches) (name : Option Text) → name ≡ subcommand_name_of m → mode-of-name name ≡ selected_mode (subcommand_rows_of m)
asked m name is = ap mode-of-name (is ∙ name-in-rows m) ∙ asked-mode-of-name (subcommand_rows_of m)

-- what is wrong with the values of the rows
value-fault : (matches : Option (Text × List Row)) (rows : List Row) (fault : ArgumentFault) → Some rows ≡ option_map (λ p. p.1) matches →
    IsValueFaultOf (first_of (codes "FILE") rows) (first_of (codes "down") rows) (first_of (codes "from") rows) (first_of (codes "to") rows) fault → IsValueFault matches fault
value-fault None rows fault e given = let wrong : ⊥ = cc in absurd wrong
value-fault (Some found) rows fault e given =
    let same : rows ≡ found.1 = cc in
    subst (λ rs. IsValueFaultOf (first_of (codes "FILE") rs) (first_of (codes "down") rs) (first_of (codes "from") rs) (first_of (codes "to") rs) fault) same given

pub returns-in_err-options_of-in-Some-clause-fault : goal.returns-in_err-options_of-in-Some-clause-fault
returns-in_err-options_of-in-Some-clause-fault c =
    let p = err_from_is_err_and c.from_residual.result c.from_residual.ensures.1 in
    rw (p.1, p.2) (value-fault (subcommand_rows_of c.args.matches.now) (rows_of (found_of c.in-Some.matches.now)) _ c.in-Some.ensures.rows (c.in_err-options_of-in-Some.ensures.fault _ _ _))

pub returns-in_err-pair_of-in-Some-clause-fault : goal.returns-in_err-pair_of-in-Some-clause-fault
returns-in_err-pair_of-in-Some-clause-fault c =
    let p = err_from_is_err_and c.from_residual-in_err-pair_of-in-Some.result c.from_residual-in_err-pair_of-in-Some.ensures.1 in
    let given = rw c.text_of-file.ensures at (rw c.text_of.ensures at (rw c.text_of-in-Some.ensures at (rw c.text_of-in-Some-2.ensures at c.in_err-pair_of-in-Some.ensures.fault))) in
    rw (p.1, p.2) (value-fault (subcommand_rows_of c.args.matches.now) (rows_of (found_of c.in-Some.matches.now)) _ c.in-Some.ensures.rows given)
