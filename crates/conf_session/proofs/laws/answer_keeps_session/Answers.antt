use Rattle.conf_session.proofs.Kept.{ChangeLaws, PlanLaws, answer-keeps}
use Rattle.conf_session.proofs.laws.answer_keeps_session.Goals as goal

pub returns : goal.returns
returns c =
    let changes : ChangeLaws = record {
      step = c.trackers_stay_sound.ensures.step;
      begun = c.trackers_stay_sound.ensures.begun;
      acknowledged = c.trackers_stay_sound.ensures.acknowledged;
      accepted = c.one_changer_after_a_step.ensures.ok;
      described = c.restored_is_described.ensures;
    } in
    let plans : PlanLaws = record {
      earlier = c.kept_lead_to_now.ensures;
      back = c.undo_of_run.ensures.back;
      taken = c.one_changer_after_steps.ensures.taken;
      run = c.one_changer_after_steps.ensures.run;
    } in
    answer-keeps changes plans
