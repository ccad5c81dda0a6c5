use Rattle.conf_tool.proofs.Modes.Check.{check-item, few-more}
use Rattle.conf_tool.proofs.run.check.CheckingHandlerItem.answer.Goals as goal

pub returns-clause-answered : goal.returns-clause-answered
returns-clause-answered c = λ count few. few-more _ _ count _ few c.in_ok-check_item.ensures.directives

pub returns-clause-text : goal.returns-clause-text
returns-clause-text c = λ rest.
    let after = c.in_ok-check_item.ensures in
    rw (after.text, c.requires.empty) (check-item _ _ _ _ _ _ c.args.item.now after.session after.directives after.mismatches rest)
