-- The steps between two configurations that are not joint.
use Rattle.std.proofs.Common.{◌≡◌, ◌≤◌, false, not, List, length, refl, sym, ap, subst, ◌∙◌, arith}
use Rattle.std.specs.Prelude.{Ok, nat_le}
use Rattle.std.proofs.lemmas.Bool.{cond_both, cond-true, leb-true, le-leb, not_from_false}
use Rattle.quorum_sets.specs.Ids.{Ids, has, difference_count}
use Rattle.quorum_sets.proofs.Offered.{has-no_ids}
use Rattle.conf_change.specs.Configuration.{Configuration}
use Rattle.conf_change.specs.Change.{result_of}
use Rattle.conf_change.specs.Outcome.{with_outgoing, after_leave}
use Rattle.conf_change.specs.declared.step.Step.{Step}
use Rattle.conf_change.specs.declared.step.Step.TheVariants.{Simple, EnterJoint, LeaveJoint}
use Rattle.conf_change.proofs.Offered.{outgoing-none, outcome-simple_accepted, outcome-enter_accepted, outcome-leave_accepted, configuration-by_members, has-after_leave, ValidByMember-from_is_valid}
use Rattle.conf_plan.specs.Run.{Gives, IsChain, IsRun}
use Rattle.conf_plan.specs.Planned.{single_with, moves, single_steps}
use Rattle.conf_plan.proofs.FindingMoves.ResultingConfiguration.{IsSingle, AreWanted, HasWanted, moves-has_wanted}

-- ---- the steps
pub simple_moves-accepted : (c : Configuration) (voters learners : Ids) → IsSingle c → AreWanted voters learners → difference_count c.incoming voters ≤ 1
    → Gives c (Simple (moves c voters learners)) (single_with voters learners)
simple_moves-accepted c voters learners single wanted few =
    let valid = ValidByMember-from_is_valid c single.valid_with_voter.valid in
    let moved = moves-has_wanted c c.outgoing voters learners c.auto_leave single wanted valid.learner_outgoing in
    let none = outgoing-none c single.single in
    let made : result_of c (moves c voters learners) ≡ single_with voters learners =
    configuration-by_members (result_of c (moves c voters learners)) (single_with voters learners)
    (λ q. ap (λ s. has s q) moved.incoming) none (λ q. grind (arith, moved.learners q, none, has-no_ids q)) (λ q. grind (arith, moved.next q, none, has-no_ids q))
    (valid.auto_leave single.single) in
    outcome-simple_accepted c (single_with voters learners) (moves c voters learners) single.single made (not_from_false _ wanted.voter) few

-- the joint configuration between the two
abbrev pub entered_by : Configuration → Ids → Ids → Configuration
entered_by c voters learners = result_of (with_outgoing c false) (moves c voters learners)

pub entered_by-has_wanted : (c : Configuration) (voters learners : Ids) → IsSingle c → AreWanted voters learners → HasWanted (entered_by c voters learners) voters learners
entered_by-has_wanted c voters learners single wanted = grind (arith, moves-has_wanted, false, ValidByMember-from_is_valid)

pub enter_moves-accepted : (c : Configuration) (voters learners : Ids) → IsSingle c → AreWanted voters learners
    → Gives c (EnterJoint false (moves c voters learners)) (entered_by c voters learners)
enter_moves-accepted c voters learners single wanted = grind (arith, outcome-enter_accepted, false, not, entered_by-has_wanted, not_from_false)

pub leave_moves-accepted : (c : Configuration) (voters learners : Ids) → IsSingle c → AreWanted voters learners
    → Gives (entered_by c voters learners) LeaveJoint (single_with voters learners)
leave_moves-accepted c voters learners single wanted =
    let moved = entered_by-has_wanted c voters learners single wanted in
    let entered = entered_by c voters learners in
    let left : after_leave entered ≡ single_with voters learners =
    configuration-by_members (after_leave entered) (single_with voters learners) (λ q. ap (λ s. has s q) moved.incoming) refl
    (λ q. grind (arith, has-after_leave entered q, moved.learners q, moved.next q)) (λ q. refl) refl in
    outcome-leave_accepted entered single.valid_with_voter.voter ∙ ap Ok left

pub single_steps-is_chain : (Leads : Configuration → Step → Configuration → Type 0) (c : Configuration) (voters learners : Ids)
    → (difference_count c.incoming voters ≤ 1 → Leads c (Simple (moves c voters learners)) (single_with voters learners))
    → Leads c (EnterJoint false (moves c voters learners)) (entered_by c voters learners)
    → Leads (entered_by c voters learners) LeaveJoint (single_with voters learners)
    → IsChain Leads c (single_steps c voters learners) (single_with voters learners)
single_steps-is_chain Leads c voters learners simple enters leaves =
    let target = single_with voters learners in
    cond_both (nat_le (difference_count c.incoming voters) 1) _ _ (λ steps. IsChain Leads c steps target)
    (λ few. (target, simple (leb-true _ 1 few), refl))
    (λ many. (entered_by c voters learners, enters, (target, leaves, refl)))

pub single_steps-is_run : (c : Configuration) (voters learners : Ids) → IsSingle c → AreWanted voters learners
    → IsRun c (single_steps c voters learners) (single_with voters learners)
single_steps-is_run c voters learners single wanted =
    single_steps-is_chain Gives c voters learners (simple_moves-accepted c voters learners single wanted) (enter_moves-accepted c voters learners single wanted)
    (leave_moves-accepted c voters learners single wanted)

pub single_steps-one : (c : Configuration) (voters learners : Ids) → difference_count c.incoming voters ≤ 1 → length (single_steps c voters learners) ≤ 1
single_steps-one c voters learners few =
    let P : List Step → Type 0 = λ steps. length steps ≤ 1 in
    subst P (sym (cond-true (nat_le (difference_count c.incoming voters) 1) _ _ (le-leb _ 1 few))) (omega arith)

pub single_steps-at_most_two : (c : Configuration) (voters learners : Ids) → length (single_steps c voters learners) ≤ 2
single_steps-at_most_two c voters learners = grind (arith, cond_both, length)
