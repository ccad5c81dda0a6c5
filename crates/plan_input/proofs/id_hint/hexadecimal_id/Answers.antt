use Rattle.std.proofs.Common.{rules, tests, not}
use Rattle.std.specs.Char.{is_ascii_hexdigit}
use Rattle.std.proofs.lemmas.Iterator.Search.{find_from_yields_List}
use Rattle.std.proofs.lemmas.Iterator.Splits.{YieldsList-from_slice_split}
use Rattle.plan_input.specs.HexadecimalId.{is_hexadecimal_id}
use Rattle.plan_input.proofs.id_hint.hexadecimal_id.Goals as goal

pub returns : goal.returns
returns c =
    find_from_yields_List is_hexadecimal_id _ _ c.find.result c.find.ensures.ran
    (YieldsList-from_slice_split _ (λ b. not (is_ascii_hexdigit b)) c.args.text.now c.split.ensures.rest c.split.ensures.done c.split.ensures.closure (λ x b q k. search (rules, tests)))
    (λ x b q k. search (rules, tests))
