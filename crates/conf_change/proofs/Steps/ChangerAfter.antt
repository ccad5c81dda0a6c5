-- That the changer after a step is the one that the function gives.
use Rattle.std.proofs.Common.{◌≡◌, refl, sym, ap, ◌∙◌, arith}
use Rattle.std.specs.Prelude.{Ok, Err}
use Rattle.conf_change.specs.Outcome.{Outcome, outcome}
use Rattle.conf_change.specs.Changer.{ChangerState, Accepts, moved_to, moved_by, changer_after}
use Rattle.conf_change.specs.declared.refused.Refused.{Refused}
use Rattle.conf_change.specs.declared.step.Step.{Step}

pub changer_after-from_Accepts : (before after : ChangerState) (step : Step) → Accepts before step after → changer_after before step ≡ Ok after
changer_after-from_Accepts before after step accepts = ap (moved_by before step) accepts.configuration ∙ ap Ok (sym accepts.whole)

pub Accepts-from_changer_after : (before after : ChangerState) (step : Step) → changer_after before step ≡ Ok after → Accepts before step after
Accepts-from_changer_after before after step = by (outcome before.tracker.config step) refl
  where
    by : (o : Outcome) → outcome before.tracker.config step ≡ o → moved_by before step o ≡ Ok after → Accepts before step after
    by (Err why) is e = cc
    by (Ok c) is e =
        let moved : moved_to before step c ≡ after = cc in
        let same : c ≡ after.tracker.config = ap (λ s. s.tracker.config) moved in
        record { configuration = is ∙ ap Ok same; whole = sym moved ∙ ap (moved_to before step) same }

pub changer_after-from_refusal : (before : ChangerState) (step : Step) (why : Refused) → outcome before.tracker.config step ≡ Err why → changer_after before step ≡ Err why
changer_after-from_refusal before step why e = ap (moved_by before step) e

pub outcome-from_refusal : (before : ChangerState) (step : Step) (why : Refused) → changer_after before step ≡ Err why → outcome before.tracker.config step ≡ Err why
outcome-from_refusal before step why = by (outcome before.tracker.config step)
  where
    by : (o : Outcome) → moved_by before step o ≡ Err why → o ≡ Err why
    by o e = grind arith
