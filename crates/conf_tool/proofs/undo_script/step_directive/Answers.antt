use Rattle.std.proofs.Common.{◌≡◌, ◌∷◌, [], List, ℕ, map, vec_items, sym, ap, ◌∙◌, arith}
use Rattle.std.specs.Prelude.{Some, None, option_map}
use Rattle.dd_file.specs.DirectiveLine.{command_of}
use Rattle.dd_file.specs.Script.{directive}
use Rattle.conf_change.specs.Step.{changes_of}
use Rattle.conf_change.specs.declared.step.Step.{Step}
use Rattle.conf_tool.specs.UndoScript.{step_command, step_line, change_lines, step_directive}
use Rattle.conf_tool.proofs.undo_script.step_directive.Goals as goal

-- a step's line states its command
parses-command : (step : Step) → command_of (step_line step) ≡ Some (step_command step)
parses-command step = grind arith

-- such a line and the changes are an item
made : (step : Step) (line : List ℕ) (input : List (List ℕ)) → line ≡ step_line step → input ≡ change_lines (changes_of step) → option_map (λ command. directive 1 command (line ∷ []) input []) (command_of line) ≡ Some (step_directive step)
made step line input is are =
    ap (λ l. option_map (λ command. directive 1 command (l ∷ []) input []) (command_of l)) is ∙ ap (λ i. option_map (λ command. directive 1 command (step_line step ∷ []) i []) (command_of (step_line step))) are
    ∙ ap (option_map (λ command. directive 1 command (step_line step ∷ []) (change_lines (changes_of step)) [])) (parses-command step)

pub returns : goal.returns
returns c =
    let step = c.args.step.now in
    let actual : Some c.in-Some.item ≡ Some (step_directive step) = sym c.in-Some.is ∙ c.in_ok-item.ensures
    ∙ made step _ _ (c.in_ok-line.ensures.items ∙ c.command_text.ensures) (ap (map vec_items) c.as_slice.ensures.value ∙ c.in_ok-input.ensures ∙ ap change_lines c.changes.ensures) in
    cc

pub unreachable-requires : goal.unreachable-requires
unreachable-requires c =
    let step = c.args.step.now in
    let actual : None ≡ Some (step_directive step) = sym c.in-None.is ∙ c.in_ok-item.ensures
    ∙ made step _ _ (c.in_ok-line.ensures.items ∙ c.command_text.ensures) (ap (map vec_items) c.as_slice.ensures.value ∙ c.in_ok-input.ensures ∙ ap change_lines c.changes.ensures) in
    cc
