use Rattle.conf_change.proofs.MemberProgress.Acknowledged.{ack_answer-is_sound}
use Rattle.conf_change.proofs.Steps.EmptyTracker.{empty_tracker-is_sound}
use Rattle.conf_change.proofs.Steps.Soundness.{outcome-has_voter, outcome-is_restorable, moved_to-is_sound, begun_with-is_sound}
use Rattle.conf_change.proofs.laws.trackers_stay_sound.Goals as goal

pub returns-clause-step : goal.returns-clause-step
returns-clause-step c = moved_to-is_sound

pub returns-clause-restorable : goal.returns-clause-restorable
returns-clause-restorable c = outcome-is_restorable

pub returns-clause-voter : goal.returns-clause-voter
returns-clause-voter c = outcome-has_voter

pub returns-clause-begun : goal.returns-clause-begun
returns-clause-begun c = begun_with-is_sound

pub returns-clause-acknowledged : goal.returns-clause-acknowledged
returns-clause-acknowledged c = ack_answer-is_sound

pub returns-clause-empty : goal.returns-clause-empty
returns-clause-empty c = λ floor last_index. empty_tracker-is_sound floor
