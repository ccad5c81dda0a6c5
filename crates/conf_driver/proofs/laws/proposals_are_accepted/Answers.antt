use Rattle.std.proofs.Common.{◌≡◌, Bool, List, [], ◌∷◌, length, refl, subst}
use Rattle.std.specs.Prelude.{Ok}
use Rattle.conf_change.specs.Configuration.{Configuration}
use Rattle.conf_change.specs.Outcome.{outcome}
use Rattle.conf_change.specs.declared.change.Change.{Change}
use Rattle.conf_change.specs.declared.step.Step.{Step}
use Rattle.conf_change.specs.declared.step.Step.TheVariants.{Simple, EnterJoint, LeaveJoint}
use Rattle.conf_plan.specs.OneChangeEach.{one_change_each}
use Rattle.conf_plan.specs.PathBy.{path_by}
use Rattle.conf_plan.specs.Run.{Gives, IsRun}
use Rattle.raft_json.specs.Proposal.{proposed_step}
use Rattle.conf_driver.specs.Next.{situation}
use Rattle.conf_driver.proofs.Proposed.{IsProposed-from_answer, first_step, second_fails, zero-from_test}
use Rattle.conf_driver.proofs.RowsPassed.{leaving-passed, pending-passed}
use Rattle.conf_driver.proofs.laws.proposals_are_accepted.Goals as goal

-- a step that is proposed as it is, or enters a joint configuration
abbrev IsOne : Step → Type 0
IsOne (Simple changes) = length changes ≡ 1
IsOne (EnterJoint auto_leave changes) = Unit {0}
IsOne LeaveJoint = Unit {0}

first-is_one : (steps : List Step) (step : Step) (rest : List Step) → one_change_each steps ≡ step ∷ rest → IsOne step
first-is_one [] step rest is = absurd (cc)
first-is_one (Simple [] ∷ steps) step rest is = first-is_one steps step rest is
first-is_one (Simple (change ∷ changes) ∷ steps) step rest is = let same : Simple (change ∷ []) ≡ step = cc in subst IsOne same refl
first-is_one (EnterJoint auto_leave changes ∷ steps) step rest is = let same : EnterJoint auto_leave changes ≡ step = cc in subst IsOne same tt
first-is_one (LeaveJoint ∷ steps) step rest is = let same : LeaveJoint ≡ step = cc in subst IsOne same tt

-- what is said of entering
abbrev EntersAlike : Type 0
EntersAlike = (before after : Configuration) (auto_leave : Bool) (changes : List Change) → outcome before (EnterJoint auto_leave changes) ≡ Ok after
    → outcome before (proposed_step before (EnterJoint auto_leave changes)) ≡ Ok after

outcome-proposed : EntersAlike → (before after : Configuration) (step : Step) → IsOne step → Gives before step after → outcome before (proposed_step before step) ≡ Ok after
outcome-proposed enters before after (Simple []) one gives = absurd (cc)
outcome-proposed enters before after (Simple (change ∷ [])) one gives = gives
outcome-proposed enters before after (Simple (change ∷ other ∷ changes)) one gives = absurd (cc)
outcome-proposed enters before after (EnterJoint auto_leave changes) one gives = enters before after auto_leave changes gives
outcome-proposed enters before after LeaveJoint one gives = gives

pub returns-clause-not_pending : goal.returns-clause-not_pending
returns-clause-not_pending c strategy target down view step is =
    let s = situation strategy target down view in
    let proposed = IsProposed-from_answer s (one_change_each (path_by strategy down view.conf_state target)) step is in
    zero-from_test view.pending_conf_index (pending-passed s proposed.is_pending)

pub returns-clause-first : goal.returns-clause-first
returns-clause-first c strategy target down view step can is =
    let now = view.conf_state in
    let steps = one_change_each (path_by strategy down now target) in
    let proposed = IsProposed-from_answer (situation strategy target down view) steps step is in
    let first = first_step steps step proposed.last in
    let leads = c.one_change_each_leads.ensures strategy down now target can.valid_now can.valid_target can.path in
    let run = subst (λ taken. IsRun now taken target) first.1 leads.run in
    record {
      rest = first.0;
      after = run.0;
      path = first.1;
      promises = c.paths_keep_promises.ensures.promises strategy down now target can.valid_now can.valid_target can.path;
      each = leads;
      not_left = second_fails steps first.0 step now.auto_leave first.1 (leaving-passed (situation strategy target down view) proposed.is_leaving);
      gives = run.1;
      leads = run.2;
      taken = outcome-proposed c.proposed_step_leads_alike.ensures.enter now run.0 step (first-is_one (path_by strategy down now target) step first.0 first.1) run.1;
      carried_out = c.etcd_carries_out_the_step.ensures now run.0 step can.valid_now.valid can.valid_now.voter run.1;
    }
