use Rattle.std.proofs.Common.{◌≡◌, rules, tests, ◌∙◌}
use Rattle.std.proofs.lemmas.Iterator.{YieldsList-from_slice}
use Rattle.std.proofs.lemmas.Iterator.Search.{any_from_yields_List}
use Rattle.serde_json.specs.View.{items_view, view}
use Rattle.plan_input.specs.TextIds.{any_at, any_item, is_text}
use Rattle.plan_input.proofs.TextItems.{any_item-view}
use Rattle.plan_input.proofs.text_ids.has_text_at.Goals as goal

pub returns-in-Some : goal.returns-in-Some
returns-in-Some c =
    let items = c.in-Some.items.now.items in
    let there : any_item is_text (items_view items) ≡ any_at is_text c.args.key.now (view c.args.value.now) = search rules in
    any_from_yields_List (λ v. is_text (view v)) _ _ c.any.result c.any.ensures.ran (YieldsList-from_slice items (cc)) (λ x b q k. search (rules, tests))
    ∙ any_item-view is_text items ∙ there
