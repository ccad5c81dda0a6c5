use Rattle.std.proofs.Common.{◌≡◌, ◌∷◌, [], ◌++◌, List, ℕ, map, vec_items, refl, sym, ap, ◌∙◌}
use Rattle.std.specs.Prelude.{Option, Some, option_map, codes}
use Rattle.dd_file.specs.DirectiveLine.{CommandText, command_of}
use Rattle.dd_file.specs.Script.{directive}
use Rattle.dd_file.specs.Items.{Item}
use Rattle.conf_change.specs.ConfState.{lists_of}
use Rattle.conf_change.specs.ConfStateLine.{conf_state_text}
use Rattle.conf_tool.specs.PlanScript.{restore_command, restore_directive}
use Rattle.conf_tool.proofs.run.plan_script.restore_directive.Goals as goal

-- the line parses to the command
restore-command : command_of (codes "restore") ≡ Some restore_command
restore-command = refl

pub returns : goal.returns
unfolding restore_directive
returns c =
    let text = conf_state_text (lists_of c.args.config.now) in
    let line : c.in_ok-command.command.items ≡ codes "restore" = c.in_ok-command.ensures.items in
    let written : c.write_conf_state-2.new.text.items ≡ text =
    c.in_ok-write_conf_state.ensures.ok ∙ ap (λ xs. xs ++ conf_state_text c.in_ok-conf_state.field-0) c.new-line.ensures.items ∙ ap conf_state_text c.in_ok-conf_state.ensures.ascending in
    let input : map vec_items c.push.new.self.items ≡ text ∷ [] =
    ap (map vec_items) (c.in_ok-push.ensures.items ∙ ap (λ xs. xs ++ c.write_conf_state-2.new.text ∷ []) c.new-input.ensures.items) ∙ ap (λ t. t ∷ []) written in
    let D : List ℕ → List (List ℕ) → Option CommandText → Option Item = λ l i k. option_map (λ command. directive 1 command (l ∷ []) i []) k in
    let actual : Some c.in-Some.item ≡ Some (restore_directive c.args.config.now) =
    sym c.in-Some.is ∙ c.in_ok-item.ensures ∙ ap (λ l. D l (map vec_items c.as_slice.result.now) (command_of l)) line
    ∙ ap (λ i. D (codes "restore") i (command_of (codes "restore"))) (ap (map vec_items) c.as_slice.ensures.value ∙ input) ∙ ap (D (codes "restore") (text ∷ [])) restore-command in
    cc
