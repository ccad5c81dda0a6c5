use Rattle.dd_file.specs.Position.{longest_input}
use Rattle.dd_file.specs.Grammar.{next_item, next_line}
use Rattle.dd_file.proofs.Offered.{next_item-takes, next_line-takes, script_from-followed}
use Rattle.conf_tool.proofs.run.run.Goals as goal

pub run_by_part-requires-clause-in_turn : goal.run_by_part-requires-clause-in_turn
run_by_part-requires-clause-in_turn g c = script_from-followed (next_line longest_input) (next_line-takes longest_input)

pub returns-in-Lines-clause-output : goal.returns-in-Lines-clause-output
returns-in-Lines-clause-output g c = rw c.in-Lines.is c.run_by_part.ensures.output

pub run_by_part-requires-in-Check-clause-in_turn : goal.run_by_part-requires-in-Check-clause-in_turn
run_by_part-requires-in-Check-clause-in_turn g c = script_from-followed (next_item longest_input) (next_item-takes longest_input)

pub returns-in-Check-clause-output : goal.returns-in-Check-clause-output
returns-in-Check-clause-output g c = rw c.in-Check.is c.run_by_part-in-Check.ensures.output

pub run_by_part-requires-in-Rewrite-clause-in_turn : goal.run_by_part-requires-in-Rewrite-clause-in_turn
run_by_part-requires-in-Rewrite-clause-in_turn g c = script_from-followed (next_item longest_input) (next_item-takes longest_input)

pub returns-in-Rewrite-clause-output : goal.returns-in-Rewrite-clause-output
returns-in-Rewrite-clause-output g c = rw c.in-Rewrite.is c.run_by_part-in-Rewrite.ensures.output

pub run_by_part-requires-in-Undo-clause-in_turn : goal.run_by_part-requires-in-Undo-clause-in_turn
run_by_part-requires-in-Undo-clause-in_turn g c = script_from-followed (next_item longest_input) (next_item-takes longest_input)

pub returns-in-Undo-clause-output : goal.returns-in-Undo-clause-output
returns-in-Undo-clause-output g c = rw c.in-Undo.is c.run_by_part-in-Undo.ensures.output

pub run_by_part-requires-in-Plan-clause-in_turn : goal.run_by_part-requires-in-Plan-clause-in_turn
run_by_part-requires-in-Plan-clause-in_turn g c = script_from-followed (next_line longest_input) (next_line-takes longest_input)

pub returns-in-Plan-clause-output : goal.returns-in-Plan-clause-output
returns-in-Plan-clause-output g c = rw c.in-Plan.is c.run_by_part-in-Plan.ensures.output

pub run_by_part-requires-in-Next-clause-in_turn : goal.run_by_part-requires-in-Next-clause-in_turn
run_by_part-requires-in-Next-clause-in_turn g c = script_from-followed (next_line longest_input) (next_line-takes longest_input)

pub returns-in-Next-clause-output : goal.returns-in-Next-clause-output
returns-in-Next-clause-output g c = rw c.in-Next.is c.run_by_part-in-Next.ensures.output
