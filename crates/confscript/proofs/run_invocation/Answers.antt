use Rattle.confscript.proofs.Ended.{plan-ends, pair-ends}
use Rattle.confscript.proofs.run_invocation.Goals as goal

pub returns-in-Some-clause-ends : goal.returns-in-Some-clause-ends
returns-in-Some-clause-ends g c =
    pair-ends _ _ _ _ c.args.invocation c.in-Some.texts _ c.in-Some.is
    (plan-ends g.W.Sink.contents _ c.args.output.now c.plan_to.new.writer _ c.requires.empty c.plan_to.ensures.output c.plan_to.ensures.given)
