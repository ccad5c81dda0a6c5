use Rattle.std.proofs.Common.{◌≡◌, ◌-◌, true, drop, length, take, is_some, sym, ◌∙◌, rules}
use Rattle.std.specs.Prelude.{None}
use Rattle.std.proofs.lemmas.List.{take_rest}
use Rattle.conf_session.specs.Parameter.{id_in}
use Rattle.conf_tool.proofs.Arguments.IdParts.{hexadecimal-here, hexadecimal-later}
use Rattle.conf_tool.proofs.id_list.hexadecimal_listed.Goals as goal

pub returns-then-is_none : goal.returns-then-is_none
returns-then-is_none c =
    let none : id_in c.split_at_first.result.0.now ≡ None = search rules in
    c.hexadecimal_digits.ensures
    ∙ sym (c.loop-after.invariant ∙ hexadecimal-here c.loop-after.rest.now c.split_at_first.result.0.now c.split_at_first.result.1.now c.split_at_first.ensures.last c.split_at_first.ensures.more none)

pub loop-after-preserved : goal.loop-after-preserved
loop-after-preserved c =
    let after = c.split_at_first.result.1.now in
    let there : is_some (id_in c.split_at_first.result.0.now) ≡ true = search rules in
    c.loop-after.invariant
    ∙ hexadecimal-later c.loop-after.rest.now c.split_at_first.result.0.now after (take (length after - 1) (drop 1 after)) c.split_at_first.ensures.more c.in-len1-up.len_at_least (take_rest after 1) there
