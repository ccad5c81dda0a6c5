-- That a tracker with an empty configuration is sound.
use Rattle.std.proofs.Common.{◌≡◌, ℕ, true, refl, sym, subst, arith}
use Rattle.std.specs.Prelude.{None, IfSome, Option}
use Rattle.std.specs.Ordering.{nat_cmp}
use Rattle.std.specs.FinMap as finite
use Rattle.quorum_sets.proofs.Offered.{has-no_ids, ascending-no_ids}
use Rattle.conf_change.specs.Configuration.{empty_configuration, is_restorable}
use Rattle.conf_change.specs.Changer.{IsSound, empty_tracker}
use Rattle.conf_change.specs.declared.floor.Floor.{Floor}
use Rattle.conf_change.specs.declared.progress.Progress.{Progress}

empty_is_restorable : is_restorable empty_configuration ≡ true
empty_is_restorable = rw (has-no_ids 0, ascending-no_ids) refl

no_progress : (id : ℕ) → finite.get (finite.empty {K = ℕ} {X = Progress} {R = nat_cmp}) id ≡ None
no_progress id = finite.get-empty nat_cmp id

of_none : (o : Option Progress) (P : Progress → Type 0) → o ≡ None → IfSome o P
of_none o P e = let Q : Option Progress → Type 0 = λ x. IfSome x P in subst Q (sym e) tt

pub empty_tracker-is_sound : (floor : Floor) → IsSound (empty_tracker floor)
empty_tracker-is_sound floor = grind (arith, empty_is_restorable, no_progress, has-no_ids, of_none)
