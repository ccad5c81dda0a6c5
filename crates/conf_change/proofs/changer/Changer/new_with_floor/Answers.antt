use Rattle.std.proofs.Common.{sym, subst}
use Rattle.conf_change.specs.Changer.{IsSound, TrackerState}
use Rattle.conf_change.proofs.Steps.EmptyTracker.{empty_tracker-is_sound}
use Rattle.conf_change.proofs.changer.Changer.new_with_floor.Goals as goal

pub begin-requires : goal.begin-requires
begin-requires g c = let P : TrackerState → Type 0 = IsSound in subst P (sym c.new.ensures) (empty_tracker-is_sound c.args.floor)
