-- Undoing the last changes of a session.
use Rattle.std.specs.Prelude.{◌≡◌, ℕ, ◌-◌, ◌≤◌, true, List, ◌++◌, length, Option, Some, None, unwrap_or, Result, Ok, Err, if◌then◌else◌, slice_get, codes, decimal}
use Rattle.std.specs.List.{All}
use Rattle.conf_change.specs.ChangerState.{ChangerState}
use Rattle.conf_change.specs.Configuration.{Configuration, has_voter, is_restorable}
use Rattle.conf_change.specs.declared.step.Step.{Step}
use Rattle.conf_plan.specs.Planned.{planned}
use Rattle.conf_plan.specs.PlanSteps.{HasU64Ids}
use Rattle.conf_plan.specs.PlanText.{plan_text}
use Rattle.conf_plan.specs.Run.{IsRun, after_steps}
use Rattle.conf_session.specs.SessionState.{SessionState, current, Undone}
use Rattle.conf_session.specs.ReplyTexts.{tracker_text}
use Rattle.conf_session.specs.Reply.{Reply}
use Rattle.conf_session.specs.declared.undo_fault.UndoFault.{UndoFault}
use Rattle.conf_session.specs.declared.undo_fault.UndoFault.TheVariants.{NotKept, NoVoterTarget, NoMemory}

-- the plan to an earlier configuration, if it is kept
abbrev pub plan_back : SessionState → Option Configuration → Result (List Step) UndoFault
plan_back session None = Err (NotKept (length session.kept))
plan_back session (Some older) =
    if has_voter older then Ok (planned (current session) older) else Err NoVoterTarget

-- the plan that undoes the last `count` changes, one at least: to the configuration before them
abbrev pub undo_plan_of : SessionState → ℕ → Result (List Step) UndoFault
undo_plan_of session count = plan_back session (slice_get session.kept (count - 1))

-- the message of an error; `undo_plan_of` never gives `NoMemory`, which is an error of the code alone
abbrev pub undo_fault_text : UndoFault → List ℕ
undo_fault_text (NotKept kept) =
    codes "no plan: " ++ decimal kept ++ codes " earlier configurations are kept"
undo_fault_text NoVoterTarget = codes "no plan: the earlier configuration has no voter"
undo_fault_text NoMemory = codes "out of memory"

-- the changer after the steps of a plan, each of which sees the same last index
abbrev pub undone_changer : SessionState → List Step → ChangerState
undone_changer session steps = unwrap_or (after_steps session.changer steps) session.changer

-- the reply to `undo` with the changer after it: the text of the plan and of that changer; the configurations before
-- the undone changes are no longer kept
abbrev pub undone_by : ChangerState → ℕ → List Step → Reply
undone_by after count steps =
    record { actual = plan_text steps ++ tracker_text after.tracker; update = Undone after count }

-- the reply to `undo` whose plan has these steps
abbrev pub undone : SessionState → ℕ → List Step → Reply
undone session count steps = undone_by (undone_changer session steps) count steps

-- the configuration can be restored, `count` accepted steps lead from it to the current one, and that one has a voter
pub record IsEarlier (session : SessionState) (count : ℕ) (older : Configuration) : Type 0 where
  pub restorable : is_restorable older ≡ true
  pub steps : List Step
  pub run : IsRun older steps (current session)
  pub counted : length steps ≡ count
  pub voter : has_voter (current session) ≡ true

-- the steps lead from the current configuration to the one before the last `count` changes, and their ids are numbers of
-- 64 bits
pub record LeadsBack (session : SessionState) (count : ℕ) (steps : List Step) : Type 0 where
  pub older : Configuration
  pub is_kept : slice_get session.kept (count - 1) ≡ Some older
  pub run : IsRun (current session) steps older
  pub at_most_four : length steps ≤ 4
  pub at_most_three : count ≡ 1 → length steps ≤ 3
  pub u64_ids : All HasU64Ids steps
