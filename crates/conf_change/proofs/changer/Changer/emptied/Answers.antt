use Rattle.std.proofs.Common.{sym, subst}
use Rattle.conf_change.specs.Changer.{IsSound, TrackerState}
use Rattle.conf_change.proofs.Steps.EmptyTracker.{empty_tracker-is_sound}
use Rattle.conf_change.proofs.changer.Changer.emptied.Goals as goal

pub begin-requires : goal.begin-requires
begin-requires g c = let P : TrackerState → Type 0 = IsSound in subst P (sym c.emptied.ensures) (empty_tracker-is_sound _)
