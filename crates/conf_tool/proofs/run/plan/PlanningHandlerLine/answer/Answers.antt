use Rattle.std.proofs.Common.{sym, refl, ap, ◌∙◌, arith}
use Rattle.std.specs.Prelude.{Ok}
use Rattle.std.proofs.lemmas.Result.{err_from_is_err_and}
use Rattle.conf_tool.specs.Outputs.{worse_of}
use Rattle.conf_tool.specs.Pairs.{pair_between}
use Rattle.conf_tool.proofs.Modes.Plan.{planned-part, plan_left-pair, plan_left-passed, plan_left-first, stop-at_current, stop-at_target}
use Rattle.conf_tool.proofs.run.plan.PlanningHandlerLine.answer.Goals as goal

pub returns-then-is_skipped : goal.returns-then-is_skipped
returns-then-is_skipped c =
    let skipped = rw c.as_slice.ensures at (sym c.is_skipped.ensures ∙ c.if-is_skipped.true) in
    record {
      answered = λ count planned. planned-part _ _ _ _ count _ _ planned refl (omega arith) planned.valid;
      text = λ rest. rw c.requires.empty (plan_left-passed c.args.self.now.options c.args.self.now.session c.args.self.now.lines c.args.self.now.pair c.args.self.now.now c.args.self.now.status c.args.line.now skipped rest);
      stop = tt;
    }

pub returns-in_err-current_of-clause-stop : goal.returns-in_err-current_of-clause-stop
returns-in_err-current_of-clause-stop c =
    let p = err_from_is_err_and c.from_residual.result c.from_residual.ensures.1 in
    let kept = rw c.as_slice.ensures at (sym c.is_skipped.ensures ∙ c.if-is_skipped.false) in
    rw (p.1, p.2, c.in_default.is) (stop-at_current c.args.self.now.options c.args.self.now.session c.args.self.now.lines c.args.self.now.pair c.args.self.now.status c.args.line.now _ kept (rw c.as_slice-written.ensures at c.in_err-current_of.ensures.fault))

pub returns-in_default-clause-text : goal.returns-in_default-clause-text
returns-in_default-clause-text c = λ rest.
    let kept = rw c.as_slice.ensures at (sym c.is_skipped.ensures ∙ c.if-is_skipped.false) in
    rw (c.requires.empty, c.in_default.is) (plan_left-first c.args.self.now.options c.args.self.now.session c.args.self.now.lines c.args.self.now.pair c.args.self.now.status c.args.line.now _ kept (rw c.as_slice-written.ensures at c.in_ok-current_of.ensures.current) rest)

pub returns-in_err-target-clause-stop : goal.returns-in_err-target-clause-stop
returns-in_err-target-clause-stop c =
    let p = err_from_is_err_and c.from_residual-in_err-target.result c.from_residual-in_err-target.ensures.1 in
    let kept = rw c.as_slice.ensures at (sym c.is_skipped.ensures ∙ c.if-is_skipped.false) in
    rw (p.1, p.2, c.in-Some.is) (stop-at_target c.args.self.now.options c.args.self.now.session c.args.self.now.lines c.args.self.now.pair c.in-Some.current c.args.self.now.status c.args.line.now _ kept (rw c.as_slice-written.ensures at c.in_err-target.ensures.fault))

pub returns-clause-text : goal.returns-clause-text
returns-clause-text c = λ rest.
    let kept = rw c.as_slice.ensures at (sym c.is_skipped.ensures ∙ c.if-is_skipped.false) in
    let target = rw c.as_slice-written.ensures at c.in_ok-target.ensures.pair in
    let made = c.in_ok-status.ensures in
    plan_left-pair c.args.self.now.options _ c.args.self.now.session _ c.args.self.now.lines _ c.args.self.now.pair _ c.args.self.now.now _ c.args.self.now.status _ c.args.line.now _ c.in-Some.current (pair_between c.in-Some.current c.in_ok-target.target)
    c.in-Some.is kept target refl made.session refl refl refl (c.worse-self.ensures ∙ ap (λ s. worse_of c.args.self.now.status (Ok s)) made.status) (rw c.requires.empty at made.text) rest
