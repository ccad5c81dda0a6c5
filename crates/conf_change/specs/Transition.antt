-- Which step etcd takes for a list of changes (`EnterJoint` and `LeaveJoint` of etcd's `raftpb.ConfChangeV2`).
use Rattle.std.specs.Prelude.{true, false, List, [], ◌∷◌, map}
use Rattle.conf_change.specs.declared.change.Change.{Change}
use Rattle.conf_change.specs.declared.step.Step.{Step}
use Rattle.conf_change.specs.declared.step.Step.TheVariants.{Simple, EnterJoint, LeaveJoint}
use Rattle.conf_change.specs.declared.step.StepKind.{StepKind}
use Rattle.conf_change.specs.declared.step.StepKind.TheVariants as kind
use Rattle.conf_change.specs.declared.transition.Transition.{Transition}
use Rattle.conf_change.specs.declared.transition.Transition.TheVariants.{Auto, Implicit, Explicit}

-- the kind of the step for a list of changes: with Auto, an empty list leaves, one change is simple, and more enter;
-- Implicit and Explicit always enter. Each change counts, effective or not
abbrev pub step_kind_of : Transition → List Change → StepKind
step_kind_of Auto [] = kind.Leave
step_kind_of Auto (_ ∷ []) = kind.Simple
step_kind_of Auto (_ ∷ _ ∷ _) = kind.Enter true
step_kind_of Implicit _ = kind.Enter true
step_kind_of Explicit _ = kind.Enter false

-- the step of this kind, with its list
abbrev pub step_of : StepKind → List Change → Step
step_of kind.Simple changes = Simple changes
step_of (kind.Enter auto_leave) changes = EnterJoint auto_leave changes
step_of kind.Leave changes = LeaveJoint

-- the step for a list of changes
abbrev pub step_for : Transition → List Change → Step
step_for transition changes = step_of (step_kind_of transition changes) changes

-- the steps for lists of changes, in order
abbrev pub steps_for : List (Transition × List Change) → List Step
steps_for lists = map (λ list. step_for list.0 list.1) lists
