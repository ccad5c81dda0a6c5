use Rattle.conf_session.proofs.Kept.{PlanLaws, Arrives-planned}
use Rattle.conf_session.proofs.laws.undo_brings_back.Goals as goal

pub returns : goal.returns
returns c =
    let plans : PlanLaws = record {
      earlier = c.kept_lead_to_now.ensures;
      back = c.undo_of_run.ensures.back;
      taken = c.one_changer_after_steps.ensures.taken;
      run = c.one_changer_after_steps.ensures.run;
    } in
    λ session count older is some kept voter. (Arrives-planned plans session count older is some kept voter).there
