use Rattle.std.proofs.Common.{List, [], ap, refl, true, map, ◌≡◌, ◌∙◌, sym, subst}
use Rattle.std.specs.Prelude.{Result, Ok, Err, MatchResult, IfErr}
use Rattle.std.proofs.lemmas.Result.{IfOk-weaker, err_from_is_err_and}
use Rattle.clap.specs.Words.{App, Text, is_simple, subcommand_of, is_simple_and_free, fault_of, takes, HasKind}
use Rattle.clap.proofs.OnLiterals.{clap_on_literals}
use Rattle.conf_tool.specs.Program.{program}
use Rattle.conf_tool.specs.CommandLine.{IsInvocation, IsValueFault, IsRefusal}
use Rattle.conf_tool.specs.declared.argument_fault.ArgumentFault.{ArgumentFault}
use Rattle.conf_tool.specs.declared.argument_fault.ArgumentFault.TheVariants.{Clap, BadIds, HexadecimalId, FromAlone, ToAlone, FileBesidePair, IdBesidePair, EmptyFrom, NoMemory}
use Rattle.conf_tool.specs.declared.invocation.Invocation.{Invocation}
use Rattle.conf_tool.specs.declared.program.OptionNames.{OptionNames}
use Rattle.conf_tool.proofs.command_line.read_arguments.Goals as goal

simple : (names : OptionNames) → is_simple (program names) ≡ true
unfolding clap_on_literals
simple names = refl

is_free : (names : OptionNames) → is_simple_and_free (program names) ≡ true
unfolding clap_on_literals
is_free names = refl

-- `clap` accepts the arguments, and a value may still be wrong
refused-by_value : (r : Result Invocation ArgumentFault) (app : App) (texts : List Text) → fault_of app texts ≡ [] → IfErr r (IsValueFault (subcommand_of app texts)) →
    MatchResult r (λ _. fault_of app texts ≡ []) (IsRefusal app texts)
refused-by_value (Ok invocation) app texts none fault = none
refused-by_value (Err (Clap error)) app texts none fault = absurd fault
refused-by_value (Err BadIds) app texts none fault = (none, fault)
refused-by_value (Err (HexadecimalId token)) app texts none fault = (none, fault)
refused-by_value (Err FromAlone) app texts none fault = (none, fault)
refused-by_value (Err ToAlone) app texts none fault = (none, fault)
refused-by_value (Err (FileBesidePair name)) app texts none fault = (none, fault)
refused-by_value (Err (IdBesidePair name ids)) app texts none fault = (none, fault)
refused-by_value (Err EmptyFrom) app texts none fault = (none, fault)
refused-by_value (Err NoMemory) app texts none fault = tt

pub returns-in_err-matches-clause-refused : goal.returns-in_err-matches-clause-refused
returns-in_err-matches-clause-refused g c =
    let p = err_from_is_err_and c.from_residual-in_err-matches.result c.from_residual-in_err-matches.ensures.1 in
    let texts = map g.S.AsStr.text c.args.arguments.now in
    let e = c.in_ok-program.ensures in
    let converted = c.in_err-matches.ensures.kinds (ap is_simple_and_free e ∙ is_free c.args.names) in
    rw (p.1, p.2) (
      subst (λ (a : App). HasKind (fault_of a texts) c.in_err-matches.field-0.0) e converted,
      λ taken. c.in_err-matches.ensures.passes (ap (λ (a : App). takes a texts) e ∙ taken),
    )

pub returns-clause-refused : goal.returns-clause-refused
returns-clause-refused g c =
    let texts = map g.S.AsStr.text c.args.arguments.now in
    let e = c.in_ok-program.ensures in
    let none = ap (λ (a : App). fault_of a texts) (sym e) ∙ c.in_ok-matches.ensures.kinds (ap is_simple_and_free e ∙ is_free c.args.names) in
    let matches_is = (c.in_ok-matches.ensures.matches (ap is_simple e ∙ simple c.args.names)).1 ∙ ap (λ (a : App). subcommand_of a texts) e in
    refused-by_value c.invocation_of.result (program c.args.names) texts none (subst (λ matches. IfErr c.invocation_of.result (IsValueFault matches)) matches_is c.invocation_of.ensures.fault)

pub returns-clause-asked : goal.returns-clause-asked
returns-clause-asked g c =
    let texts = map g.S.AsStr.text c.args.arguments.now in
    let e = c.in_ok-program.ensures in
    let matches_is = (c.in_ok-matches.ensures.matches (ap is_simple e ∙ simple c.args.names)).1 ∙ ap (λ (a : App). subcommand_of a texts) e in
    IfOk-weaker c.invocation_of.result _ _ (λ invocation asked. subst (λ matches. IsInvocation matches invocation) matches_is asked) c.invocation_of.ensures.asked
