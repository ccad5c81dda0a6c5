use Rattle.std.proofs.Common.{List, subst}
use Rattle.conf_plan.proofs.PlannedSteps.Cases.{OnOk-weaker}
use Rattle.conf_change.specs.declared.step.Step.{Step}
use Rattle.conf_plan.specs.Run.{Takes}
use Rattle.conf_plan.proofs.BestPlan.Theorem.{Takes-best}
use Rattle.conf_plan.proofs.Runs.KeptProgress.{takes-keep_planned}
use Rattle.conf_plan.proofs.apply.apply_plan.Goals as goal

pub returns-clause-preserving : goal.returns-clause-preserving
returns-clause-preserving g c =
    OnOk-weaker c.apply_path.result
    (λ taken target other id made preserves.
    takes-keep_planned _ _ c.args.plan.now other target id c.tracker-tracker.ensures.sound
    (subst (λ (steps : List Step). Takes c.args.changer.now steps c.apply_path.new.changer) c.deref.ensures.0 taken) made preserves)
    c.apply_path.ensures.taken

pub returns-clause-best : goal.returns-clause-best
returns-clause-best g c =
    OnOk-weaker c.apply_path.result
    (λ taken target made valid_now valid_target.
    Takes-best _ _ c.args.plan.now target
    (subst (λ (steps : List Step). Takes c.args.changer.now steps c.apply_path.new.changer) c.deref.ensures.0 taken) made valid_now valid_target)
    c.apply_path.ensures.taken
