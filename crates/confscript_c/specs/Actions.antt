-- Actions in numbers: which action it is, why, the ids that it names, and the stage that it proposes (own).
use Rattle.std.specs.Prelude.{ℕ, List, [], ◌∷◌, ◌++◌, length}
use Rattle.quorum_sets.specs.Ids.{Ids, ascending}
use Rattle.conf_change.specs.Configuration.{Configuration}
use Rattle.conf_driver.specs.declared.action.Action.{Action}
use Rattle.conf_driver.specs.declared.action.Action.TheVariants.{Start, Stop, Transfer, Propose, Wait, Stuck, Done}
use Rattle.conf_driver.specs.declared.action.StuckReason.{StuckReason}
use Rattle.conf_driver.specs.declared.action.StuckReason.TheVariants.{QuorumLost, Stalls, Reused}
use Rattle.conf_driver.specs.declared.action.WaitReason.{WaitReason}
use Rattle.conf_driver.specs.declared.action.WaitReason.TheVariants.{NoLeader, Pending, Heard, Unheard, Behind, Leaving}
use Rattle.plan_output.specs.Stages.{first_stage, stage_after}
use Rattle.confscript_c.specs.Stages.{stage_numbers}

-- the number of a reason to wait; 0 is that of none
abbrev pub wait_number : WaitReason → ℕ
wait_number NoLeader = 1
wait_number Pending = 2
wait_number Heard = 3
wait_number Unheard = 4
wait_number Behind = 5
wait_number Leaving = 6

-- the number of a reason why the target is not reached
abbrev pub stuck_number : StuckReason → ℕ
stuck_number QuorumLost = 7
stuck_number Stalls = 8
stuck_number Reused = 9

-- how many ids there are, and the ids in ascending order
abbrev pub counted_ids : Ids → List ℕ
counted_ids ids = length (ascending ids) ∷ ascending ids

-- the array of an action: its number, that of the reason, the ids, and what is proposed in the configuration now, with
-- the configuration after it
abbrev pub action_numbers : Ids → Configuration → Action → List ℕ
action_numbers down now (Start ids) = 0 ∷ 0 ∷ counted_ids ids
action_numbers down now (Stop ids) = 1 ∷ 0 ∷ counted_ids ids
action_numbers down now (Transfer id) = 2 ∷ 0 ∷ 1 ∷ id ∷ []
action_numbers down now (Propose step) =
    3 ∷ 0 ∷ 0 ∷ stage_numbers down (first_stage now) step (stage_after now step)
action_numbers down now (Wait why ids) = 4 ∷ wait_number why ∷ counted_ids ids
action_numbers down now (Stuck why ids) = 5 ∷ stuck_number why ∷ counted_ids ids
action_numbers down now Done = 6 ∷ 0 ∷ 0 ∷ []
