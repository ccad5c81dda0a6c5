-- Runs: steps that lead from one configuration to another.
use Rattle.std.specs.Prelude.{◌≡◌, ℕ, ◌-◌, ◌<◌, true, List, [], ◌∷◌, take, Ok, Option, Some, option_and_then, slice_get}
use Rattle.std.specs.Result.{result_ok}
use Rattle.std.specs.FinMap as finite
use Rattle.conf_change.specs.Configuration.{Configuration, is_valid, has_voter}
use Rattle.conf_change.specs.Outcome.{outcome}
use Rattle.conf_change.specs.Changer.{ChangerState, Accepts, Refuses, changer_after}
use Rattle.conf_change.specs.declared.progress.Progress.{Progress}
use Rattle.conf_change.specs.declared.refused.Refused.{Refused}
use Rattle.conf_change.specs.declared.step.Step.{Step}

-- the configuration is valid and has an incoming voter
pub record IsValidWithVoter (c : Configuration) : Type 0 where
  pub valid : is_valid c ≡ true
  pub voter : has_voter c ≡ true

-- the steps lead from one state to the other, and Leads is true of each step and the states before and after it
abbrev pub IsChain : {S : Type 0} → (S → Step → S → Type 0) → S → List Step → S → Type 0
IsChain Leads before [] after = before ≡ after
IsChain {S} Leads before (step ∷ steps) after = (next : S) × Leads before step next × IsChain Leads next steps after

-- the step is accepted in one configuration, and gives the other
abbrev pub Gives : Configuration → Step → Configuration → Type 0
Gives before step after = outcome before step ≡ Ok after

-- the steps lead from one configuration to the other: each is accepted where the previous ones lead
abbrev pub IsRun : Configuration → List Step → Configuration → Type 0
IsRun = IsChain Gives

-- a run, where Holds is true of each step and the configurations before and after it
abbrev pub IsRunWith : (Configuration → Step → Configuration → Type 0) → Configuration → List Step → Configuration → Type 0
IsRunWith Holds = IsChain (λ before step after. Gives before step after × Holds before step after)

-- a changer takes the steps in order
abbrev pub Takes : ChangerState → List Step → ChangerState → Type 0
Takes = IsChain Accepts

-- the changer after the steps in order, if each is accepted
abbrev pub after_steps : ChangerState → List Step → Option ChangerState
after_steps before [] = Some before
after_steps before (step ∷ steps) = option_and_then (λ next. after_steps next steps) (result_ok (changer_after before step))

-- the id has progress before and after, with the same match and next
pub record HasKeptProgress (before after : ChangerState) (id : ℕ) : Type 0 where
  pub had : Progress
  pub kept : Progress
  pub entry_before : finite.get before.tracker.progress id ≡ Some had
  pub entry_after : finite.get after.tracker.progress id ≡ Some kept
  pub same_match : kept.matched ≡ had.matched
  pub same_next : kept.next ≡ had.next

-- the changer takes the steps before the one with this number, counted from 1, and refuses that one for this reason,
-- unless the reason is NoMemory
pub record StopsAt (before : ChangerState) (steps : List Step) (number : ℕ) (why : Refused) (after : ChangerState) : Type 0 where
  pub in_range : 0 < number
  pub taken : Takes before (take (number - 1) steps) after
  pub refused : (step : Step) × (slice_get steps (number - 1) ≡ Some step) × Refuses after step why
