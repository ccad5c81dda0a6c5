use Rattle.std.proofs.Common.{◌≡◌, rules, tests, ◌∙◌}
use Rattle.std.specs.Prelude.{codes}
use Rattle.std.proofs.lemmas.Iterator.{YieldsList-from_slice}
use Rattle.std.proofs.lemmas.Iterator.Search.{any_from_yields_List}
use Rattle.serde_json.specs.View.{items_view, view}
use Rattle.plan_input.specs.TextIds.{any_at, any_item, has_text_id}
use Rattle.plan_input.proofs.TextItems.{any_item-view}
use Rattle.plan_input.proofs.text_ids.has_text_member.Goals as goal

pub returns-in-Some : goal.returns-in-Some
returns-in-Some c =
    let members = c.in-Some.members.now.items in
    let there : any_item has_text_id (items_view members) ≡ any_at has_text_id (codes "members") (view c.args.value.now) = search rules in
    any_from_yields_List (λ v. has_text_id (view v)) _ _ c.any.result c.any.ensures.ran (YieldsList-from_slice members (cc)) (λ x b q k. search (rules, tests))
    ∙ any_item-view has_text_id members ∙ there
