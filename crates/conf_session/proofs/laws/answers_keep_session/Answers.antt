use Rattle.conf_session.proofs.Kept.{answers-keep, new-is_session}
use Rattle.conf_session.proofs.laws.answers_keep_session.Goals as goal

pub returns-clause-kept : goal.returns-clause-kept
returns-clause-kept c = answers-keep c.answer_keeps_session.ensures

pub returns-clause-from_new : goal.returns-clause-from_new
returns-clause-from_new c = λ history floor directives.
    answers-keep c.answer_keeps_session.ensures _ directives (new-is_session c.trackers_stay_sound.ensures.empty history floor)
