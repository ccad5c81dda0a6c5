use Rattle.std.proofs.Common.{sym, subst}
use Rattle.conf_change.specs.Changer.{IsSound, TrackerState}
use Rattle.conf_change.proofs.Steps.EmptyTracker.{empty_tracker-is_sound}
use Rattle.conf_change.proofs.changer.Changer.take_config.Goals as goal

pub invariant_of-self : goal.invariant_of-self
invariant_of-self g c = let P : TrackerState → Type 0 = IsSound in subst P (sym c.take_config.ensures.left) (empty_tracker-is_sound _)

pub returns-clause-sound_after : goal.returns-clause-sound_after
returns-clause-sound_after g c = let P : TrackerState → Type 0 = IsSound in subst P (sym c.take_config.ensures.left) (empty_tracker-is_sound _)
