use Rattle.std.proofs.Common.{◌<◌, ◌^◌, arith}
use Rattle.std.specs.Prelude.{decimal}
use Rattle.std.proofs.lemmas.Grind.{common_steps}
use Rattle.std.proofs.lemmas.List.Elements.{All-from_get_or}
use Rattle.conf_change.proofs.Texts.ConfStateLine.{ParsesToNumbers-spaced}
use Rattle.ascii_text.proofs.Offered.{Extends-append, join-one_more}
use Rattle.conf_change.proofs.append.append_numbers.Goals as goal

pub returns-in_err-append_number_at-clause-extends : goal.returns-in_err-append_number_at-clause-extends
returns-in_err-append_number_at-clause-extends c = grind (arith, Extends-append, c.loop-position.invariant, c.append_number_at.ensures.extends)

pub loop-position-preserved : goal.loop-position-preserved
loop-position-preserved c = grind (arith, common_steps, join-one_more decimal)

pub returns-clause-parsed : goal.returns-clause-parsed
returns-clause-parsed c =
    ParsesToNumbers-spaced c.args.numbers.now (All-from_get_or (λ n. n < 2 ^ 64) c.args.numbers.now 0 (λ i within. omega (arith, c.type_inv.numbers i)))
