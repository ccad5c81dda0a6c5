use Rattle.conf_tool.proofs.ModeOutput.AppendedItems.{Appended, directives}
use Rattle.conf_tool.proofs.run.step_items.append_steps.Given as goal

-- the steps so far were run and appended
abbrev pub invariant-loop-step : goal.invariant-loop-step
invariant-loop-step l = Appended l.fn.session l.session l.fn.text.items l.text.items (directives l.steps l.step-index)
