-- Paths in which a joint configuration that is left automatically comes last.
use Rattle.std.proofs.Common.{◌≡◌, Bool, true, false, not, ◌&&◌, ◌||◌, List, [], ◌∷◌, ◌++◌, map, refl, arith}
use Rattle.std.specs.Prelude.{if◌then◌else◌}
use Rattle.std.proofs.lemmas.Bool.{and_parts}
use Rattle.conf_change.specs.Configuration.{Configuration, is_joint, is_same}
use Rattle.conf_change.specs.Outcome.{after_leave}
use Rattle.conf_change.specs.declared.change.Change.{Change}
use Rattle.conf_change.specs.declared.step.Step.{Step}
use Rattle.conf_change.specs.declared.step.Step.TheVariants.{Simple, EnterJoint, LeaveJoint}
use Rattle.conf_plan.specs.OnTheWay.{ChangesOneLearnerFirst}
use Rattle.conf_plan.specs.LearnersFirst.{learners_first_from_single}
use Rattle.conf_plan.specs.OneChangeEach.{one_change_each}
use Rattle.conf_plan.specs.Planned.{planned, planned_from_single}
use Rattle.conf_plan.specs.Run.{IsRunWith}

-- whether a step leads to a joint configuration that is left automatically
abbrev pub leaves_by_itself : Step → Bool
leaves_by_itself (EnterJoint auto_leave changes) = auto_leave
leaves_by_itself (Simple changes) = false
leaves_by_itself LeaveJoint = false

abbrev pub is_last : List Step → Bool
is_last [] = true
is_last (step ∷ steps) = false

-- whether no step but the last leads to such a configuration
abbrev pub stays_till_last : List Step → Bool
stays_till_last [] = true
stays_till_last (step ∷ steps) = (not (leaves_by_itself step) || is_last steps) && stays_till_last steps

-- ---- a step and those after it
pub stays_till_last-first : (step other : Step) (steps : List Step) → stays_till_last (step ∷ other ∷ steps) ≡ true → leaves_by_itself step ≡ false
stays_till_last-first step other steps e = grind arith

pub stays_till_last-rest : (step : Step) (steps : List Step) → stays_till_last (step ∷ steps) ≡ true → stays_till_last steps ≡ true
stays_till_last-rest step steps e = (and_parts (not (leaves_by_itself step) || is_last steps) (stays_till_last steps) e).1

-- ---- steps of one change each
of_singles : (changes : List Change) (steps : List Step) → stays_till_last steps ≡ true → stays_till_last (map (λ change. Simple (change ∷ [])) changes ++ steps) ≡ true
of_singles [] steps e = e
of_singles (change ∷ changes) steps e = of_singles changes steps e

of_leaving : (changes : List Change) (steps : List Step) → stays_till_last (EnterJoint true changes ∷ steps) ≡ true
    → stays_till_last (EnterJoint true changes ∷ one_change_each steps) ≡ true
of_leaving changes steps e = grind arith

pub stays_till_last-one_change_each : (steps : List Step) → stays_till_last steps ≡ true → stays_till_last (one_change_each steps) ≡ true
stays_till_last-one_change_each [] e = refl
stays_till_last-one_change_each (Simple changes ∷ steps) e = of_singles changes (one_change_each steps) (stays_till_last-one_change_each steps e)
stays_till_last-one_change_each (EnterJoint true changes ∷ steps) e = of_leaving changes steps e
stays_till_last-one_change_each (EnterJoint false changes ∷ steps) e = stays_till_last-one_change_each steps e
stays_till_last-one_change_each (LeaveJoint ∷ steps) e = stays_till_last-one_change_each steps e

-- ---- plans
of_either : (b : Bool) (xs ys : List Step) → stays_till_last xs ≡ true → stays_till_last ys ≡ true → stays_till_last (if b then xs else ys) ≡ true
of_either true xs ys here there = here
of_either false xs ys here there = there

-- by the tests of a plan from a configuration that is not joint
of_plan : (same joint there few close leaves : Bool) (moved entered changes : List Change)
    → stays_till_last (if same then []
    else (if joint then (if there then [] else (if few then Simple moved ∷ [] else EnterJoint false moved ∷ LeaveJoint ∷ [])) ++ EnterJoint leaves entered ∷ []
    else (if close then Simple changes ∷ [] else EnterJoint false changes ∷ LeaveJoint ∷ []))) ≡ true
of_plan same joint there few close leaves moved entered changes = grind arith

-- a path that leaves a joint configuration first
pub stays_till_last-left_first : (same joint : Bool) (left single : List Step) → stays_till_last left ≡ true → stays_till_last single ≡ true
    → stays_till_last (if same then [] else (if joint then LeaveJoint ∷ left else single)) ≡ true
stays_till_last-left_first same joint left single of_left of_single = grind arith

pub stays_till_last-planned_from_single : (c target : Configuration) → stays_till_last (planned_from_single c target) ≡ true
stays_till_last-planned_from_single c target = grind (arith, of_plan)

stays_till_last-planned : (c target : Configuration) → stays_till_last (planned c target) ≡ true
stays_till_last-planned c target =
    stays_till_last-left_first (is_same c target) (is_joint c) _ _ (stays_till_last-planned_from_single (after_leave c) target) (stays_till_last-planned_from_single c target)

pub stays_till_last-learners_first : (c target : Configuration) → stays_till_last (learners_first_from_single c target) ≡ true
stays_till_last-learners_first c target = grind (arith, of_either, stays_till_last-planned)

-- a path of one change a step
pub stays_till_last-from_one_change : (steps : List Step) (now target : Configuration) → IsRunWith ChangesOneLearnerFirst now steps target → stays_till_last steps ≡ true
stays_till_last-from_one_change [] now target run = refl
stays_till_last-from_one_change (Simple changes ∷ steps) now target run = stays_till_last-from_one_change steps run.0 target run.2
stays_till_last-from_one_change (EnterJoint auto_leave changes ∷ steps) now target run = absurd run.1.1.one
stays_till_last-from_one_change (LeaveJoint ∷ steps) now target run = stays_till_last-from_one_change steps run.0 target run.2
