use Rattle.conf_tool.proofs.run.run_pair_and_flush.Goals as goal

pub returns-clause-output : goal.returns-clause-output
returns-clause-output g c = c.flush_after.ensures.output _ _ c.answer_texts-outcome.ensures.output
