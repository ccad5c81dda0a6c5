use Rattle.std.proofs.Common.{◌≡◌, ◌<◌, List, length, sym, subst, ◌∙◌, arith, rules}
use Rattle.std.proofs.lemmas.List.{nil_from_length}
use Rattle.dd_file.specs.DirectiveLine.{ArgumentText}
use Rattle.ascii_text.proofs.Offered.{length-without_leading_space}
use Rattle.dd_file.proofs.DirectiveTokens.ArgumentsSoFar.{IsParsed, parsed-none, parsed-all, parsed-bad, parsed-more}
use Rattle.dd_file.proofs.command.parse_arguments.Goals as goal

pub parse-init : goal.parse-init
parse-init c = subst (λ (arguments : List ArgumentText). IsParsed c.args.text.now arguments c.args.text.now) (sym c.new-arguments.ensures.items) (parsed-none c.args.text.now)

pub returns-then-is_empty : goal.returns-then-is_empty
returns-then-is_empty c =
    let none : length c.without_leading_space-begun.result.now ≡ 0 = search rules in
    parsed-all _ _ _ _ c.parse.invariant c.without_leading_space-begun.ensures (nil_from_length _ none)

pub returns-in_default : goal.returns-in_default
returns-in_default c =
    let some : 0 < length c.without_leading_space-begun.result.now = search (rules, arith) in
    parsed-bad _ _ _ _ c.parse.invariant c.without_leading_space-begun.ensures some (sym c.in_default.is ∙ c.argument_at.ensures.argument)

pub parse-smaller : goal.parse-smaller
parse-smaller c = grind (arith, length-without_leading_space, c.in-Some.ensures.shorter, c.found.view_is, c.without_leading_space-begun.ensures)

pub parse-preserved : goal.parse-preserved
parse-preserved c = grind (arith, IsParsed, parsed-more, c.found.view_is, c.in-Some.is, c.argument_at.ensures.argument, c.in-Some.ensures.shorter, c.in_ok-push.ensures.items, c.in_ok-new.ensures, c.parse.invariant, c.without_leading_space-begun.ensures)
