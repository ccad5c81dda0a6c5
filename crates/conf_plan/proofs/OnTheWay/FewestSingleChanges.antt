-- No run of single changes, on which only learners become voters, is shorter than the path that takes one member at a time.
-- Each id costs the steps by which it gets its role in the target. One change lowers the sum of these costs by one at most, and the path has as many steps as the sum.
use Rattle.std.proofs.Common.{◌≡◌, ℕ, ◌+◌, ◌≤◌, Bool, true, false, cond, ◌==◌, List, [], ◌∷◌, length, sym, ap, ◌∙◌, arith}
use Rattle.std.specs.Prelude.{sum_by, count_by}
use Rattle.std.proofs.lemmas.Bool.{not-false, or_from}
use Rattle.std.proofs.lemmas.List.Concat.{length-flat_map}
use Rattle.std.proofs.lemmas.List.Sums.{sum_by-cons, sum_by-le}
use Rattle.quorum_sets.specs.Ids.{Ids, has, is_empty}
use Rattle.conf_change.specs.Configuration.{Configuration, is_joint}
use Rattle.conf_change.specs.declared.change.Change.{Change}
use Rattle.conf_change.specs.declared.step.Step.{Step}
use Rattle.conf_change.specs.declared.step.Step.TheVariants.{Simple, EnterJoint, LeaveJoint}
use Rattle.conf_change.proofs.Offered.{SimpleTaken-from_outcome, LeaveTaken-from_outcome, has-incoming_after, has-learners_after, has-none_in_empty, last_effective-one}
use Rattle.conf_plan.specs.OnTheWay.{ChangesOneLearnerFirst}
use Rattle.conf_plan.specs.OneAtATime.{steps_of, order, down_in_order, one_at_a_time_from_single}
use Rattle.conf_plan.specs.PathBy.{path_by}
use Rattle.conf_plan.specs.Run.{IsValidWithVoter, Gives, IsRunWith}
use Rattle.conf_plan.specs.declared.strategy.Strategy.TheVariants.{OneAtATime}
use Rattle.conf_plan.proofs.BestPlan.FewestSteps.{path_by-shortest}
use Rattle.conf_plan.proofs.OnTheWay.OneAtATime.{steps_by}
use Rattle.conf_plan.proofs.OnTheWay.OrderOfIds.{AreOnce, AreOnce-order}
use Rattle.conf_plan.proofs.Runs.JointEnds.{is_joint-not_both}

-- ---- what an id costs
-- how many steps an id needs, by its roles in the target (voter, learner) and now
abbrev cost : Bool → Bool → Bool → Bool → ℕ → ℕ
cost will_vote will_learn votes learns id = length (steps_by will_vote will_learn votes learns id)

-- whatever becomes of one id, its cost falls by one at most, if it becomes a voter only after it was a learner
cost-one_less : (wv wl v l voter learner same : Bool) (id : ℕ) → (same ≡ false → (voter ≡ v) × (learner ≡ l)) → (voter ≡ true → v ≡ false → l ≡ true)
    → cost wv wl v l id ≤ cost wv wl voter learner id + cond same 1 0
cost-one_less wv wl v l voter learner same id others first = grind arith

-- what the id costs from a configuration that is not joint to the target
abbrev cost_of : Configuration → Configuration → ℕ → ℕ
cost_of target c id = cost (has target.incoming id) (has target.learners id) (has c.incoming id) (has c.learners id) id

-- what these ids cost together
abbrev total : Configuration → Configuration → List ℕ → ℕ
total target c ids = sum_by (cost_of target c) ids

-- ---- sums over ids
-- where one id has one less, and the others have as much
sum_by-one_less : (f g : ℕ → ℕ) (id : ℕ) (xs : List ℕ) → ((x : ℕ) → f x ≤ g x + cond (id == x) 1 0) → sum_by f xs ≤ sum_by g xs + count_by (λ x. id == x) xs
sum_by-one_less f g id [] less = omega arith
sum_by-one_less f g id (x ∷ xs) less = grind (arith, less x, sum_by-one_less f g id xs less, sum_by-cons f x xs, sum_by-cons g x xs, sum_by-cons (λ y. cond (id == y) 1 0) x xs)

-- ---- along a run
cost_of-one_less : (target c after : Configuration) (x : Change) (q : ℕ) → Gives c (Simple (x ∷ [])) after → ChangesOneLearnerFirst c (Simple (x ∷ [])) after
    → cost_of target c q ≤ cost_of target after q + cond (x.id == q) 1 0
cost_of-one_less target c after x q gives changes =
    let taken = SimpleTaken-from_outcome c after (x ∷ []) gives in
    let none = has-none_in_empty c.outgoing (not-false (is_empty c.outgoing) taken.single) q in
    cost-one_less (has target.incoming q) (has target.learners q) (has c.incoming q) (has c.learners q) (has after.incoming q) (has after.learners q) (x.id == q) q
    -- the change leaves the other ids as they are
    (λ other. (
      grind (arith, taken.made, has-incoming_after c (x ∷ []) q, last_effective-one x q, other),
      grind (arith, taken.made, has-learners_after c (x ∷ []) q, last_effective-one x q, other),
    ))
    (λ votes new. changes.learners q votes (or_from (has c.incoming q) (has c.outgoing q) new none))

-- a run from a configuration that is not joint has as many steps as any ids cost, each counted once
total-within : (target c : Configuration) (steps : List Step) (ids : List ℕ) → AreOnce ids → is_joint c ≡ false → IsRunWith ChangesOneLearnerFirst c steps target → total target c ids ≤ length steps
total-within target c [] ids once single run =
    let none = sum_by-le (cost_of target target) 0 ids (λ k d within. grind arith) in
    let same = ap (λ d. total target d ids) run in
    omega arith
total-within target c (Simple [] ∷ steps) ids once single run = let one = run.1.1.one in absurd (omega arith)
total-within target c (Simple (x ∷ []) ∷ steps) ids once single run =
    let stays : is_joint run.0 ≡ false = sym (ap is_joint (SimpleTaken-from_outcome c run.0 (x ∷ []) run.1.0).made) ∙ single in
    let less = sum_by-one_less (cost_of target c) (cost_of target run.0) x.id ids (λ q. cost_of-one_less target c run.0 x q run.1.0 run.1.1) in
    let one = once x.id in
    let rest = total-within target run.0 steps ids once stays run.2 in
    omega arith
total-within target c (Simple (x ∷ y ∷ changes) ∷ steps) ids once single run = let one = run.1.1.one in absurd (omega arith)
total-within target c (EnterJoint auto_leave changes ∷ steps) ids once single run = absurd run.1.1.one
total-within target c (LeaveJoint ∷ steps) ids once single run = is_joint-not_both c (LeaveTaken-from_outcome c run.0 run.1.0).joint single

-- ---- the path
from_single-least : (down : Ids) (c target : Configuration) (other : List Step) → is_joint c ≡ false → IsRunWith ChangesOneLearnerFirst c other target
    → length (one_at_a_time_from_single down c target) ≤ length other
from_single-least down c target other single run =
    let ids = order (down_in_order down c target) c target in
    let steps = length-flat_map (steps_of c target) ids in
    let needed = total-within target c other ids (AreOnce-order (down_in_order down c target) c target) single run in
    omega arith

pub one_at_a_time-least : (down : Ids) (now target : Configuration) → IsValidWithVoter now → (other : List Step) → IsRunWith ChangesOneLearnerFirst now other target → length (path_by OneAtATime down now target) ≤ length other
one_at_a_time-least down now target valid_with_voter other run =
    let Leads : Configuration → Step → Configuration → Type 0 = λ before step after. Gives before step after × ChangesOneLearnerFirst before step after in
    omega (
      arith,
      path_by-shortest Leads (λ a b step leads. leads.0) OneAtATime down 0 now target other valid_with_voter run
          (λ c steps single run. omega (arith, from_single-least down c target steps single.single run)),
    )
