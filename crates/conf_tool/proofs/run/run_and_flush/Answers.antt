use Rattle.std.proofs.Common.{sym, ◌∙◌, subst}
use Rattle.conf_tool.proofs.run.run_and_flush.Goals as goal

pub returns-clause-output : goal.returns-clause-output
returns-clause-output g c = λ input more agrees. c.flush_after.ensures.output _ _ (c.run-outcome.ensures.output input more agrees)

pub returns-clause-kinds : goal.returns-clause-kinds
returns-clause-kinds g c = c.flush_after.ensures.kinds _ c.run-outcome.ensures.kinds

pub returns-clause-asks : goal.returns-clause-asks
returns-clause-asks g c = λ failed.
    let flushed = c.run-outcome.ensures.asks (sym c.flush_after.ensures.read ∙ failed) in
    subst g.W.Sink.IsFlushed (sym (c.flush_after.ensures.nothing flushed.0)) flushed.1
