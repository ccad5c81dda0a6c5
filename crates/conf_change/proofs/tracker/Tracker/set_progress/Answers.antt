use Rattle.std.proofs.Common.{ℕ, List, map, sym, subst, arith}
use Rattle.smallvec.proofs.SmallVecLemmas.{items-with_items}
use Rattle.quorum_sets.specs.AscendingLists.{IsAscending}
use Rattle.conf_change.specs.declared.progress.Progress.{Progress}
use Rattle.conf_change.proofs.MemberProgress.Acknowledged.{progress-set}
use Rattle.conf_change.proofs.tracker.Tracker.set_progress.Goals as goal

abbrev Rises : List (ℕ × Progress) → Type 0
Rises ms = IsAscending (map (λ m. m.0) ms)

pub set_progress_of-requires : goal.set_progress_of-requires
set_progress_of-requires g c = subst Rises (sym c.as_mut_slice.ensures.value) c.self.invariant

pub returns : goal.returns
returns g c = grind (arith, items-with_items, progress-set, c.as_mut_slice.ensures.value, c.self.view_is, c.set_progress_of.ensures.gets, c.requires)

pub invariant_of-self : goal.invariant_of-self
invariant_of-self g c = grind (arith, items-with_items, c.set_progress_of.ensures.keys, c.as_mut_slice.ensures.value, c.self.invariant)
