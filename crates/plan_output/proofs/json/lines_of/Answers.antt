use Rattle.std.proofs.Common.{length, arith}
use Rattle.std.proofs.lemmas.List.{append-nil, drop_all}
use Rattle.serde_json.proofs.Views.{view-Object}
use Rattle.plan_output.proofs.JsonLines.{has_float-no_steps_json, lines, lines-all, lines-next}
use Rattle.plan_output.proofs.json.lines_of.Goals as goal

pub add_line-requires : goal.add_line-requires
add_line-requires c = grind (arith, view-Object, has_float-no_steps_json, c.in_ok-members.ensures)

pub loop-index-preserved : goal.loop-index-preserved
loop-index-preserved c = grind (arith, lines-next, length, c.loop-index-test.true, c.index-steps-index.is, c.in_ok-stage-2.ensures.stage, c.in_ok-stage-2.ensures.line, c.loop-index.invariant)

pub returns : goal.returns
returns c = grind (arith, append-nil, lines, length, drop_all, lines-all, c.loop-index-test.false, c.loop-index.invariant, c.as_slice-steps.ensures.steps, c.len.ensures)
