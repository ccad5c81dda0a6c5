use Rattle.conf_session.proofs.Kept.{is-earlier}
use Rattle.conf_session.proofs.laws.kept_lead_to_now.Goals as goal

pub returns : goal.returns
returns c = is-earlier c.trackers_stay_sound.ensures.voter
