use Rattle.std.proofs.Common.{refl}
use Rattle.plan_output.specs.Names.{name_by}
use Rattle.plan_output.proofs.laws.short_ids_are_their_digits.Goals as goal

pub returns : goal.returns
unfolding name_by
returns c = record {
  names = λ ids id short. rw short refl;
  lines = λ ids step short. rw short refl;
  nothing = λ ids short. rw short refl;
}
