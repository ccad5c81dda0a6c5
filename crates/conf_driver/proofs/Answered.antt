-- What an answer says, as far as it brings the target nearer.
use Rattle.std.proofs.Common.{◌≡◌, ◌≢◌, ℕ, ◌<◌, true, false, List, ◌∷◌}
use Rattle.quorum_sets.specs.Ids.{Ids, is_empty}
use Rattle.conf_change.specs.Configuration.{member_ids}
use Rattle.conf_change.specs.declared.step.Step.{Step}
use Rattle.conf_change.specs.declared.step.Step.TheVariants.{LeaveJoint}
use Rattle.conf_driver.specs.IdSets.{◌∖◌}
use Rattle.conf_driver.specs.Nearer.{leader_off, needed}
use Rattle.conf_driver.specs.declared.action.Action.{Action}
use Rattle.conf_driver.specs.declared.action.Action.TheVariants.{Start, Stop, Transfer, Propose, Wait, Stuck, Done}
use Rattle.conf_driver.specs.declared.action.WaitReason.TheVariants.{NoLeader, Pending, Heard, Unheard, Behind, Leaving}
use Rattle.conf_driver.specs.Situation.{Situation}
use Rattle.conf_driver.proofs.Sizes.{IsWithin}

-- ids are named, all of them in this set
pub record Names (ids set : Ids) : Type 0 where
  pub some : is_empty ids ≡ false
  pub within : IsWithin ids set

-- leadership moves to this id, and is less off then
pub record MovesNearer (s : Situation) (id : ℕ) : Type 0 where
  pub some : id ≢ 0
  pub nearer : leader_off (record s { lead = id }) < leader_off s

-- the step is the first one, and no change is pending
pub record IsFirst (s : Situation) (steps : List Step) (step : Step) : Type 0 where
  pub not_pending : s.is_pending ≡ false
  pub rest : List Step
  pub is : steps ≡ step ∷ rest

abbrev pub Says : Situation → List Step → Action → Type 0
Says s steps (Start ids) = (s.lead ≢ 0) × Names ids (member_ids s.target ∖ s.running)
Says s steps (Stop ids) = (s.lead ≢ 0) × Names ids (s.running ∖ member_ids s.target)
Says s steps (Transfer id) = MovesNearer s id
Says s steps (Propose step) = (s.lead ≢ 0) × IsFirst s steps step
Says s steps (Wait NoLeader ids) = s.lead ≡ 0
Says s steps (Wait Pending ids) = (s.lead ≢ 0) × (s.is_pending ≡ true)
Says s steps (Wait Heard ids) = IsWithin ids s.down
Says s steps (Wait Unheard ids) = (s.lead ≢ 0) × Names ids (needed s ∖ s.down ∖ s.heard)
Says s steps (Wait Behind ids) = (s.lead ≢ 0) × Names ids (needed s ∖ s.down ∖ s.up)
Says s steps (Wait Leaving ids) = (s.lead ≢ 0) × IsFirst s steps LeaveJoint
Says s steps (Stuck why ids) = Unit {0}
Says s steps Done = Unit {0}
