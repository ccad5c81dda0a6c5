use Rattle.std.proofs.Common.{ap, sym, ◌∙◌, ◌++◌, arith}
use Rattle.std.proofs.lemmas.Fmt.{decimal_digit}
use Rattle.ascii_text.proofs.append.append_number.Goals as goal

pub returns-clause-ok : goal.returns-clause-ok
returns-clause-ok c = c.in_ok-push.ensures.items ∙ ap (λ digits. c.args.text.now.items ++ digits) (sym (decimal_digit c.args.number (omega arith)))
