use Rattle.std.proofs.Common.{◌∙◌, ◌++◌, ap, map, sym}
use Rattle.std.specs.Prelude.{decimal, flat_map}
use Rattle.std.specs.List.{join_with_byte}
use Rattle.conf_plan.specs.PlanText.{change_text, spaced_change}
use Rattle.conf_plan.proofs.PlanText.PrintedStep.{join-changes}
use Rattle.conf_plan.proofs.text.changes_text.Goals as goal

pub returns : goal.returns
returns c =
    let first = c.in-Some.first.now in
    let rest = c.in-Some.rest.now in
    c.in_ok-append_changes.ensures.ok
    ∙ ap (λ text. text ++ flat_map spaced_change rest) (c.in_ok-append_token.ensures.ok ∙ ap (λ text. text ++ change_text first) c.new-text.ensures.items)
    ∙ sym (ap (λ changes. join_with_byte 32 (map change_text changes)) c.in-Some.ensures.cases.0 ∙ join-changes decimal (change_text first) rest)
