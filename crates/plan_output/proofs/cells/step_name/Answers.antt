use Rattle.std.proofs.Common.{◌∷◌, ◌++◌, sym, ap, ◌∙◌}
use Rattle.std.specs.Prelude.{decimal, codes, flat_map}
use Rattle.std.specs.List.{join_with_byte}
use Rattle.std.proofs.lemmas.List.{append_assoc}
use Rattle.conf_change.specs.Step.{changes_of}
use Rattle.conf_plan.specs.PlanText.{command_tokens}
use Rattle.conf_plan.proofs.Offered.{line-parts}
use Rattle.plan_output.specs.Names.{name_by, named_change}
use Rattle.plan_output.proofs.cells.step_name.Goals as goal

pub returns : goal.returns
returns c =
    let name = name_by c.args.names.now in
    let step = c.args.step.now in
    let number = decimal c.args.number ++ codes " " in
    let named = c.in_ok-append_number.ensures.ok ∙ ap (λ text. text ++ decimal c.args.number) c.new-name.ensures.items in
    let spaced = c.in_ok-append.ensures.ok ∙ ap (λ text. text ++ codes " ") named in
    let prefix = c.in_ok-append-2.ensures.ok ∙ (λ k. spaced k ++ c.command_text.ensures k) in
    c.in_ok-append_changes.ensures
    ∙ (λ k. prefix k ++ flat_map (λ change. 32 ∷ named_change name change) (c.changes.ensures k))
    ∙ append_assoc number (join_with_byte 32 (command_tokens step)) (flat_map (λ change. 32 ∷ named_change name change) (changes_of step))
    ∙ ap (λ line. number ++ line) (sym (line-parts name step))
