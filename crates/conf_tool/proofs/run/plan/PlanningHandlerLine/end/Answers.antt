use Rattle.conf_tool.proofs.Modes.Plan.{plan_left-fault, plan_left-within, plan_left-no_pair, plan_left-ended}
use Rattle.conf_tool.proofs.run.plan.PlanningHandlerLine.end.Goals as goal

pub returns-in-Some-clause-output : goal.returns-in-Some-clause-output
returns-in-Some-clause-output c = rw (c.in-Some.is, c.requires.empty)
    (plan_left-fault c.args.self.now.options c.args.self.now.session c.args.self.now.lines c.args.self.now.pair c.args.self.now.now c.args.self.now.status c.in-Some.fault)

pub returns-in-Some-now-clause-output : goal.returns-in-Some-now-clause-output
returns-in-Some-now-clause-output c = rw (c.in_default.is, c.requires.empty)
    (plan_left-within c.args.self.now.options c.args.self.now.session c.args.self.now.lines c.args.self.now.pair c.args.self.now.now c.in-Some-now.current c.args.self.now.status c.in-Some-now.is)

pub returns-then-self-le1-clause-output : goal.returns-then-self-le1-clause-output
returns-then-self-le1-clause-output c = rw (c.in_default.is, c.requires.empty)
    (plan_left-no_pair c.args.self.now.options c.args.self.now.session c.args.self.now.lines c.args.self.now.pair c.args.self.now.now c.args.self.now.status c.in_default-now.is c.if-self-le1.true)

pub returns-clause-output : goal.returns-clause-output
returns-clause-output c = rw (c.in_default.is, c.requires.empty)
    (plan_left-ended c.args.self.now.options c.args.self.now.session c.args.self.now.lines c.args.self.now.pair c.args.self.now.now c.args.self.now.status c.in_default-now.is c.if-self-le1.false)
