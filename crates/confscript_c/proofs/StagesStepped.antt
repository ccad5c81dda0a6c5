-- What is proposed for a stage, made by one call of `confscript_step`.
use Rattle.std.proofs.Common.{◌≡◌, ℕ, ◌+◌, Bool, true, false, not, ◌&&◌, List, [], ◌∷◌, ◌++◌, map, refl, sym, ap, subst, ◌∙◌, arith}
use Rattle.std.specs.Prelude.{Option, Some, None, Ok, slice_get}
use Rattle.std.specs.List.{All}
use Rattle.std.specs.Result.{result_unwrap_or}
use Rattle.std.proofs.lemmas.List.Elements.{All-cons, All-head, All-nil, All-tail}
use Rattle.quorum_sets.specs.Ids.{Ids, ascending, has, ids_where}
use Rattle.conf_change.specs.Change.{removes}
use Rattle.conf_change.specs.Configuration.{Configuration, is_member, is_restorable, members}
use Rattle.conf_change.specs.Outcome.{Outcome, outcome}
use Rattle.conf_change.specs.Step.{changes_of}
use Rattle.conf_change.specs.Transition.{step_kind_of}
use Rattle.conf_change.specs.declared.change.Change.{Change}
use Rattle.conf_change.specs.declared.change.Kind.{Kind}
use Rattle.conf_change.specs.declared.change.Kind.TheVariants.{Voter, Remove, Update, Learner}
use Rattle.conf_change.specs.declared.step.Step.{Step}
use Rattle.conf_change.specs.declared.step.Step.TheVariants.{Simple, EnterJoint, LeaveJoint}
use Rattle.conf_change.specs.declared.transition.Transition.{Transition}
use Rattle.conf_change.specs.declared.transition.Transition.TheVariants.{Auto, Implicit, Explicit}
use Rattle.conf_plan.specs.OnTheWay.{catching_up}
use Rattle.conf_plan.specs.OneChangeEach.{one_change_each}
use Rattle.conf_plan.specs.Run.{IsRun, IsValidWithVoter}
use Rattle.plan_output.specs.Stages.{StageState, stage_after}
use Rattle.raft_json.specs.Proposal.{or_update, proposed_changes, proposed_step, transition_of, update_of}
use Rattle.confscript_c.specs.Numbers.{configuration_of, numbers_of}
use Rattle.confscript_c.specs.Stages.{AreStepped, IsOneProposal, IsStepped, kind_number, numbered, transition_number}
use Rattle.confscript_c.specs.Stepped.{array_after, change_before, changes_from, kind_of_number, step_kind_at, step_result_of, stepped}

-- ---- the numbers of what is proposed are read as it is
kind_again : (kind : Kind) → kind_of_number (kind_number kind) ≡ Some kind
kind_again Voter = refl
kind_again Remove = refl
kind_again Update = refl
kind_again Learner = refl

changes_again : (position : ℕ) (changes : List Change) → changes_from position (map numbered changes) ≡ Ok changes
changes_again position [] = refl
changes_again position (change ∷ changes) =
    λ k. change_before position change.id (kind_again change.kind k) (changes_again (position + 1) changes k)

step_kind_again : (transition : Transition) (changes : List Change) → step_kind_at (transition_number transition) changes ≡ Ok (step_kind_of transition changes)
step_kind_again Auto changes = refl
step_kind_again Implicit changes = refl
step_kind_again Explicit changes = refl

-- ---- an update removes no id
removes-update_of : (o : Option ℕ) (id : ℕ) → removes (update_of o) id ≡ false
removes-update_of None id = refl
removes-update_of (Some other) id = grind arith

removes-or_update : (before : Configuration) (changes : List Change) (id : ℕ) → removes (or_update before changes) id ≡ removes changes id
removes-or_update before [] id = removes-update_of (slice_get (ascending before.incoming) 0) id
removes-or_update before (change ∷ changes) id = refl

-- the members that catch up go by which ids a step removes
catching_up-by_removals : (before after : Configuration) (step other : Step) → ((id : ℕ) → removes (changes_of other) id ≡ removes (changes_of step) id)
    → catching_up before other after ≡ catching_up before step after
catching_up-by_removals before after step other same =
    λ k. ids_where (λ id. not (is_member before id && is_member after id && not (same id k && not (has after.outgoing id)))) (members after)

catching_up-proposed : (before after : Configuration) (step : Step) → IsOneProposal step → catching_up before (proposed_step before step) after ≡ catching_up before step after
catching_up-proposed before after (Simple []) one = absurd (cc)
catching_up-proposed before after (Simple (change ∷ [])) one = refl
catching_up-proposed before after (Simple (change ∷ other ∷ changes)) one = absurd (cc)
catching_up-proposed before after (EnterJoint true changes) one =
    catching_up-by_removals before after (EnterJoint true changes) (EnterJoint true (or_update before changes)) (removes-or_update before changes)
catching_up-proposed before after (EnterJoint false changes) one =
    catching_up-by_removals before after (EnterJoint false changes) (EnterJoint false (or_update before changes)) (removes-or_update before changes)
catching_up-proposed before after LeaveJoint one = refl

-- ---- one call
-- what the crate below says of entering
abbrev pub EntersAlike : Type 0
EntersAlike = (before after : Configuration) (auto_leave : Bool) (changes : List Change) → outcome before (EnterJoint auto_leave changes) ≡ Ok after
    → outcome before (proposed_step before (EnterJoint auto_leave changes)) ≡ Ok after

outcome-proposed : EntersAlike → (before after : Configuration) (step : Step) → IsOneProposal step → outcome before step ≡ Ok after → outcome before (proposed_step before step) ≡ Ok after
outcome-proposed enters before after (Simple []) one gives = absurd (cc)
outcome-proposed enters before after (Simple (change ∷ [])) one gives = gives
outcome-proposed enters before after (Simple (change ∷ other ∷ changes)) one gives = absurd (cc)
outcome-proposed enters before after (EnterJoint auto_leave changes) one gives = enters before after auto_leave changes gives
outcome-proposed enters before after LeaveJoint one gives = gives

pub IsStepped-by_proposal : EntersAlike → (before after : StageState) (step : Step) → IsOneProposal step → configuration_of (numbers_of before.config before.catching_up) ≡ Ok before.config
    → outcome before.config step ≡ Ok after.config → after.catching_up ≡ catching_up before.config step after.config → IsStepped before step after
IsStepped-by_proposal enters before after step one again gives catching_up =
    (λ k. step_result_of number (again k) (changes_again 1 made k))
    ∙ ap (stepped before.config made) (step_kind_again (transition_of step) made)
    ∙ ap (array_after before.config (proposed_step before.config step)) (outcome-proposed enters before.config after.config step one gives)
    ∙ (λ k. Ok (numbers_of after.config (catching_up-proposed before.config after.config step one k)))
    ∙ (λ k. Ok (numbers_of after.config (sym catching_up k)))
  where
    number : ℕ
    number = transition_number (transition_of step)

    made : List Change
    made = proposed_changes before.config step

-- ---- the steps of one change each
of_changes : (changes : List Change) (steps : List Step) → All IsOneProposal steps → All IsOneProposal (map (λ change. Simple (change ∷ [])) changes ++ steps)
of_changes [] steps rest = rest
of_changes (change ∷ changes) steps rest =
    All-cons IsOneProposal (Simple (change ∷ [])) (map (λ change. Simple (change ∷ [])) changes ++ steps) refl (of_changes changes steps rest)

pub IsOneProposal-one_change_each : (steps : List Step) → All IsOneProposal (one_change_each steps)
IsOneProposal-one_change_each [] = All-nil IsOneProposal
IsOneProposal-one_change_each (Simple changes ∷ steps) = of_changes changes (one_change_each steps) (IsOneProposal-one_change_each steps)
IsOneProposal-one_change_each (EnterJoint auto_leave changes ∷ steps) =
    All-cons IsOneProposal (EnterJoint auto_leave changes) (one_change_each steps) tt (IsOneProposal-one_change_each steps)
IsOneProposal-one_change_each (LeaveJoint ∷ steps) = All-cons IsOneProposal LeaveJoint (one_change_each steps) tt (IsOneProposal-one_change_each steps)

-- ---- a run
-- what the laws of the crates below and of arrays say
pub record IsGiven : Type 0 where
  pub enters : EntersAlike
  pub again : (c : Configuration) (catching_up : Ids) → is_restorable c ≡ true → configuration_of (numbers_of c catching_up) ≡ Ok c
  pub valid : (before after : Configuration) (steps : List Step) → IsValidWithVoter before → IsRun before steps after → IsValidWithVoter after

pub is_restorable-valid : (c : Configuration) → IsValidWithVoter c → is_restorable c ≡ true
is_restorable-valid c is = rw (is.valid, is.voter) refl

pub AreStepped-run : IsGiven → (before : StageState) (steps : List Step) (target : Configuration) → IsValidWithVoter before.config → IsRun before.config steps target → All IsOneProposal steps
    → AreStepped before steps
AreStepped-run given before [] target is run one = tt
AreStepped-run given before (step ∷ steps) target is run one =
    let after = stage_after before.config step in
    let same : run.0 ≡ after.config = sym (ap (λ (o : Outcome). result_unwrap_or o before.config) run.1) in
    let gives = run.1 ∙ ap Ok same in (
      IsStepped-by_proposal given.enters before after step (All-head IsOneProposal step steps one) (given.again before.config before.catching_up (is_restorable-valid before.config is)) gives refl,
      AreStepped-run given after steps target (given.valid before.config after.config (step ∷ []) is (after.config, gives, refl)) (subst (λ (c : Configuration). IsRun c steps target) same run.2)
          (All-tail IsOneProposal step steps one),
    )
