-- Small cases, worked out by hand.
use Rattle.std.proofs.Common.{◌≡◌, ◌≤◌, ℕ, Bool, true, false, not, List, [], ◌∷◌, ◌++◌, refl, ap, subst, ◌∙◌, map, arith, cond, ◌==◌, ◌||◌}
use Rattle.std.specs.Prelude.{Ok, filter, if◌then◌else◌}
use Rattle.std.proofs.lemmas.Bool.{cond-true, cond-false, both_ways}
use Rattle.std.proofs.lemmas.Bool.Decides.{nat_tests}
use Rattle.quorum_sets.specs.Ids.{Ids, count_of, has, ids_of, ids_where, is_empty, no_ids, size, union}
use Rattle.quorum_sets.specs.Tolerance.{Tolerates, commits_without}
use Rattle.quorum_sets.specs.Voters.{is_quorum}
use Rattle.quorum_sets.proofs.Offered.{Tolerates-from_counts, has-no_ids, written_out}
use Rattle.conf_change.specs.Configuration.{Configuration, has_voter, is_joint, is_member, is_valid, members, is_same_set, is_same, voters_of}
use Rattle.conf_change.specs.declared.change.Change.{Change}
use Rattle.conf_change.specs.declared.change.Kind.{Kind}
use Rattle.conf_change.specs.declared.change.Kind.TheVariants.{Voter, Learner, Remove, Update}
use Rattle.conf_change.specs.Outcome.{after_leave, outcome}
use Rattle.conf_change.proofs.Offered.{is_same-is_equality}
use Rattle.conf_plan.specs.OnTheWay.{EachOnTheWay, HasMembersOf, HasQuorumsOf, IsAsTolerant, KeepsQuorums, KeepsTolerance, MakesVotersOfReady, VotersLearnFirst}
use Rattle.conf_change.specs.declared.step.Step.{Step}
use Rattle.conf_change.specs.declared.step.Step.TheVariants.{Simple, EnterJoint, LeaveJoint}
use Rattle.conf_plan.specs.OneAtATime.{one_change, steps_of, in_turn, order}
use Rattle.conf_plan.specs.OneChangeEach.{one_change_each}
use Rattle.conf_plan.specs.Best.{times_named, is_any_learner, outlasts_leave}
use Rattle.conf_plan.specs.Planned.{is_shared, shared_members, single_with, single_steps, entering_step, planned_from_single, planned}
use Rattle.conf_plan.specs.Run.{IsRun, IsRunWith, IsValidWithVoter}
use Rattle.conf_plan.proofs.FindingMoves.ResultingConfiguration.{IsSingle}
use Rattle.conf_plan.proofs.OnTheWay.OneChange.{kind_for, one_change-leads}
use Rattle.conf_plan.proofs.PlannedSteps.Shapes.{joint_steps-inserted}

abbrev change : Kind → ℕ → Change
change kind id = record { kind = kind; id = id }

abbrev config : List ℕ → List ℕ → List ℕ → List ℕ → Configuration
config incoming outgoing learners next = record { incoming = ids_of incoming; outgoing = ids_of outgoing; learners = ids_of learners; learners_next = ids_of next; auto_leave = false }

-- the items whose tests answer true
abbrev answered : List ℕ → List Bool → List ℕ
answered [] answers = []
answered (x ∷ xs) [] = []
answered (x ∷ xs) (answer ∷ answers) = if answer then x ∷ answered xs answers else answered xs answers

filter-answered : (test : ℕ → Bool) (xs : List ℕ) (answers : List Bool) → map test xs ≡ answers → filter test xs ≡ answered xs answers
filter-answered test [] answers are = refl
filter-answered test (x ∷ xs) answers are =
    ap (λ rest. if test x then x ∷ rest else rest) (filter-answered test xs (map test xs) refl) ∙ ap (answered (x ∷ xs)) are

-- a configuration that is not joint
single : (c : Configuration) → is_valid c ≡ true → has_voter c ≡ true → is_joint c ≡ false → IsSingle c
single c valid voter apart = record { valid_with_voter = record { valid = valid; voter = voter }; single = apart }

-- ---- one step, or none
-- nothing is to be done
back_at_once : planned (config (1 ∷ []) [] [] []) (config (1 ∷ []) [] [] []) ≡ []
back_at_once = simp written_out refl

-- from voters=(1 2) learners=(3) back to voters=(1)
back_in_one : planned (config (1 ∷ 2 ∷ []) [] (3 ∷ []) []) (config (1 ∷ []) [] [] []) ≡ Simple (change Remove 2 ∷ change Remove 3 ∷ []) ∷ []
back_in_one = simp written_out refl

-- ---- through a joint configuration
-- from voters=(3)&&(1) learners=(2) learners_next=(1) back to voters=(1)
back_from_joint : planned (config (3 ∷ []) (1 ∷ []) (2 ∷ []) (1 ∷ [])) (config (1 ∷ []) [] [] [])
    ≡ LeaveJoint ∷ EnterJoint false (change Voter 1 ∷ change Remove 2 ∷ change Remove 3 ∷ []) ∷ LeaveJoint ∷ []
back_from_joint = simp written_out refl

-- ---- back into a joint configuration
-- by the members that are shared, written out
into_joint : (c target : Configuration) (shared : Ids) → IsSingle c → IsValidWithVoter target → is_joint target ≡ true
    → is_same c target ≡ false → is_same_set c.incoming target.outgoing ≡ false → shared_members c target ≡ shared
    → planned_from_single c target ≡ single_steps c target.outgoing shared ++ entering_step (single_with target.outgoing shared) target ∷ []
into_joint c target shared single valid_with_voter joint other differs is =
    cond-false (is_same c target) _ _ other ∙ cond-true (is_joint target) _ _ joint
    ∙ joint_steps-inserted c target single valid_with_voter joint differs
    ∙ ap (λ s. single_steps c target.outgoing s ++ entering_step (single_with target.outgoing s) target ∷ []) is

-- from voters=(3) learners=(1 2) to voters=(3)&&(1) learners=(2) learners_next=(1)
abbrev three : Configuration
three = config (3 ∷ []) [] (1 ∷ 2 ∷ []) []

abbrev three_and_one : Configuration
three_and_one = config (3 ∷ []) (1 ∷ []) (2 ∷ []) (1 ∷ [])

-- 2 and 3 are members of both and do not go out
shared_row : shared_members three three_and_one ≡ ids_of (3 ∷ 2 ∷ [])
shared_row =
    let all : members three ≡ 3 ∷ 1 ∷ 2 ∷ [] = simp written_out refl in
    ap (ids_where (is_shared three_and_one)) all
    ∙ ap ids_of (filter-answered (is_shared three_and_one) (3 ∷ 1 ∷ 2 ∷ []) (true ∷ false ∷ true ∷ []) (simp written_out refl))

three-is_single : IsSingle three
three-is_single = single three (simp written_out refl) (simp written_out refl) (simp written_out refl)

three_and_one-is_valid : IsValidWithVoter three_and_one
three_and_one-is_valid = record { valid = simp written_out refl; voter = simp written_out refl }

-- 3 learns while 1 votes, and they change positions when the joint configuration is entered
abbrev into_row : List Step
into_row = EnterJoint false (change Voter 1 ∷ change Learner 3 ∷ []) ∷ LeaveJoint ∷ EnterJoint false (change Learner 1 ∷ change Voter 3 ∷ []) ∷ []

from_three : planned_from_single three three_and_one ≡ into_row
from_three =
    into_joint three three_and_one (ids_of (3 ∷ 2 ∷ [])) three-is_single three_and_one-is_valid (simp written_out refl)
    (simp written_out refl) (simp written_out refl) shared_row
    ∙ simp written_out refl

back_into_joint : planned three three_and_one ≡ into_row
back_into_joint =
    cond-false (is_same three three_and_one) _ _ (simp written_out refl) ∙ cond-false (is_joint three) _ _ (simp written_out refl)
    ∙ from_three

-- 1 and 3 are named in two changes each, and 2 in none, which stays a learner all the while
named_in_row : (times_named 1 into_row ≡ 2) × (times_named 2 into_row ≡ 0) × (times_named 3 into_row ≡ 2)
named_in_row = (refl, refl, refl)

-- an update names no id, and nothing names the id 0
named_by_none : (times_named 5 (Simple (change Update 5 ∷ change Learner 5 ∷ []) ∷ []) ≡ 1) × (times_named 0 (Simple (change Voter 0 ∷ []) ∷ []) ≡ 0)
named_by_none = (refl, refl)

-- 1, which goes out and waits, is any learner, and 3 is none
any_learner_row : (is_any_learner three_and_one 1 ≡ true) × (is_any_learner three_and_one 3 ≡ false)
any_learner_row = (simp written_out refl, simp written_out refl)

-- four steps, from voters=(3)&&(4) learners=(1 2) to the same
back_from_joint_to_joint : planned (config (3 ∷ []) (4 ∷ []) (1 ∷ 2 ∷ []) []) three_and_one ≡ LeaveJoint ∷ into_row
back_from_joint_to_joint =
    cond-false (is_same (config (3 ∷ []) (4 ∷ []) (1 ∷ 2 ∷ []) []) three_and_one) _ _ (simp written_out refl)
    ∙ cond-true (is_joint (config (3 ∷ []) (4 ∷ []) (1 ∷ 2 ∷ []) [])) _ _ (simp written_out refl)
    ∙ ap (λ c. LeaveJoint ∷ planned_from_single c three_and_one) left ∙ ap (λ steps. LeaveJoint ∷ steps) from_three
  where
    left : after_leave (config (3 ∷ []) (4 ∷ []) (1 ∷ 2 ∷ []) []) ≡ three
    left = simp written_out refl

-- from voters=(1) learners=(2) to voters=(1)&&(1 2) learners_next=(2), by one voter more
abbrev one : Configuration
one = config (1 ∷ []) [] (2 ∷ []) []

abbrev one_and_two : Configuration
one_and_two = config (1 ∷ []) (1 ∷ 2 ∷ []) [] (2 ∷ [])

none_shared : shared_members one one_and_two ≡ ids_of []
none_shared =
    let all : members one ≡ 1 ∷ 2 ∷ [] = simp written_out refl in
    ap (ids_where (is_shared one_and_two)) all
    ∙ ap ids_of (filter-answered (is_shared one_and_two) (1 ∷ 2 ∷ []) (false ∷ false ∷ []) (simp written_out refl))

one-is_single : IsSingle one
one-is_single = single one (simp written_out refl) (simp written_out refl) (simp written_out refl)

one_and_two-is_valid : IsValidWithVoter one_and_two
one_and_two-is_valid = record { valid = simp written_out refl; voter = simp written_out refl }

back_by_one_voter : planned one one_and_two ≡ Simple (change Voter 2 ∷ []) ∷ EnterJoint false (change Learner 2 ∷ []) ∷ []
back_by_one_voter =
    cond-false (is_same one one_and_two) _ _ (simp written_out refl) ∙ cond-false (is_joint one) _ _ (simp written_out refl)
    ∙ into_joint one one_and_two (ids_of []) one-is_single one_and_two-is_valid (simp written_out refl)
    (simp written_out refl) (simp written_out refl) none_shared
    ∙ simp written_out refl

-- the outgoing voter 4 is removed when the joint configuration is left, and 1 is not
outlasts_row : (outlasts_leave (config (3 ∷ []) (4 ∷ []) (1 ∷ 2 ∷ []) []) (LeaveJoint ∷ into_row) 4 ≡ false)
    × (outlasts_leave (config (3 ∷ []) (4 ∷ []) (1 ∷ 2 ∷ []) []) (LeaveJoint ∷ into_row) 1 ≡ true) × (outlasts_leave three into_row 4 ≡ true)
outlasts_row = (simp written_out refl, simp written_out refl, refl)

-- ---- one member at a time
-- two lists in turn, the longer one first or last
turns : (in_turn (4 ∷ 5 ∷ []) (1 ∷ []) ≡ 4 ∷ 1 ∷ 5 ∷ []) × (in_turn (4 ∷ []) (1 ∷ 2 ∷ 3 ∷ []) ≡ 4 ∷ 1 ∷ 2 ∷ 3 ∷ [])
turns = (refl, refl)

-- from (1 2 3) to (3 4 5) while 1 is down, by the order of the ids and the steps of each
abbrev voters_123 : Configuration
voters_123 = config (1 ∷ 2 ∷ 3 ∷ []) [] [] []

abbrev voters_345 : Configuration
voters_345 = config (3 ∷ 4 ∷ 5 ∷ []) [] [] []

order_while_1_is_down : order (ids_of (1 ∷ [])) voters_123 voters_345 ≡ 1 ∷ 4 ∷ 2 ∷ 5 ∷ []
order_while_1_is_down = simp written_out refl

-- 1 retires, and 4 is a learner first
steps_of_two : (steps_of voters_123 voters_345 1 ≡ one_change Remove 1 ∷ []) × (steps_of voters_123 voters_345 4 ≡ one_change Learner 4 ∷ one_change Voter 4 ∷ [])
steps_of_two = (simp written_out refl, simp written_out refl)

-- both commit without 1, and the first does not without 1 and 2
commits_row : (commits_without (voters_of voters_123) (ids_of (1 ∷ [])) ≡ true) × (commits_without (voters_of voters_123) (ids_of (1 ∷ 2 ∷ [])) ≡ false)
commits_row = (simp written_out refl, simp written_out refl)

-- ---- what a run may fail to keep on the way
abbrev voters_124 : Configuration
voters_124 = config (1 ∷ 2 ∷ 4 ∷ []) [] [] []

-- 4 replaces 3: it joins before 3 retires, or after, and is no learner first
abbrev joins_first : List Step
joins_first = one_change Voter 4 ∷ one_change Remove 3 ∷ []

abbrev joins_last : List Step
joins_last = one_change Remove 3 ∷ one_change Voter 4 ∷ []

abbrev voters_1234 : Configuration
voters_1234 = config (4 ∷ 1 ∷ 2 ∷ 3 ∷ []) [] [] []

abbrev voters_12 : Configuration
voters_12 = config (1 ∷ 2 ∷ []) [] [] []

-- an id joins these voters or retires
changed : (voters after : List ℕ) (votes : Bool) (id : ℕ) → (id == 0) ≡ false → is_empty (ids_of after) ≡ false
    → ((q : ℕ) → has (ids_of after) q ≡ cond (q == id) votes (has (ids_of voters) q))
    → outcome (config voters [] [] []) (one_change (kind_for votes false) id) ≡ Ok (config after [] [] [])
changed voters after votes id other some votes_at =
    one_change-leads (ids_of voters) no_ids (ids_of after) no_ids votes false id other (λ e. refl) some votes_at (λ q. grind (arith, has-no_ids q))

joined : outcome voters_123 (one_change Voter 4) ≡ Ok voters_1234
joined = changed (1 ∷ 2 ∷ 3 ∷ []) (4 ∷ 1 ∷ 2 ∷ 3 ∷ []) true 4 refl (simp written_out refl) (λ q. simp written_out (grind (arith, nat_tests)))

joined_later : outcome voters_12 (one_change Voter 4) ≡ Ok (config (4 ∷ 1 ∷ 2 ∷ []) [] [] [])
joined_later = changed (1 ∷ 2 ∷ []) (4 ∷ 1 ∷ 2 ∷ []) true 4 refl (simp written_out refl) (λ q. simp written_out (grind (arith, nat_tests)))

retired : outcome voters_123 (one_change Remove 3) ≡ Ok voters_12
retired = changed (1 ∷ 2 ∷ 3 ∷ []) (1 ∷ 2 ∷ []) false 3 refl (simp written_out refl) (λ q. simp written_out (grind (arith, nat_tests)))

retired_later : outcome voters_1234 (one_change Remove 3) ≡ Ok voters_124
retired_later = changed (4 ∷ 1 ∷ 2 ∷ 3 ∷ []) (1 ∷ 2 ∷ 4 ∷ []) false 3 refl (simp written_out refl) (λ q. simp written_out (grind (arith, nat_tests)))

-- both lead from (1 2 3) to (1 2 4)
both_are_runs : IsRun voters_123 joins_first voters_124 × IsRun voters_123 joins_last voters_124
both_are_runs =
    ((voters_1234, joined, (voters_124, retired_later, refl)), (voters_12, retired, (config (4 ∷ 1 ∷ 2 ∷ []) [] [] [], joined_later, (is_same-is_equality _ _).0 (simp written_out refl))))

-- what holds after the first step of a run, wherever the run says that the step leads
first_step : (Holds : Configuration → Step → Configuration → Type 0) (before after target : Configuration) (step : Step) (steps : List Step) → outcome before step ≡ Ok after
    → IsRunWith Holds before (step ∷ steps) target → Holds before step after
first_step Holds before after target step steps leads run = let same : run.0 ≡ after = cc in subst (Holds before step) same run.1.1

-- 1 and 2 are a quorum of both ends, and not of (1 2 3 4)
quorum_is_lost : ¬ KeepsQuorums voters_123 joins_first voters_124
quorum_is_lost keeps =
    let quorum = first_step (λ before step after. HasQuorumsOf voters_123 voters_124 after) voters_123 voters_1234 voters_124 (one_change Voter 4) (one_change Remove 3 ∷ []) joined keeps (ids_of (1 ∷ 2 ∷ [])) (simp written_out refl) (simp written_out refl) in
    let lost : is_quorum (voters_of voters_1234) (ids_of (1 ∷ 2 ∷ [])) ≡ false = simp written_out refl in
    both_ways _ lost quorum

-- one of three may be down
one_of_three : (c : Configuration) → size c.incoming ≡ 3 → count_of (λ id. not (has no_ids id)) c.incoming ≡ 3 → is_empty c.outgoing ≡ true → Tolerates (voters_of c) no_ids 1
one_of_three c three count single =
    Tolerates-from_counts (voters_of c) no_ids 1 (record { incoming = rw (three, count) (omega arith); outgoing = λ joint. absurd (both_ways _ joint single) })

-- one id may be down at both ends, and none in (1 2)
tolerance_is_lost : ¬ KeepsTolerance no_ids voters_123 joins_last voters_124
tolerance_is_lost keeps =
    let now = one_of_three voters_123 (simp written_out refl) (simp written_out refl) (simp written_out refl) in
    let target = one_of_three voters_124 (simp written_out refl) (simp written_out refl) (simp written_out refl) in
    let tolerant = first_step (λ before step after. IsAsTolerant no_ids voters_123 voters_124 after) voters_123 voters_12 voters_124 (one_change Remove 3) (one_change Voter 4 ∷ []) retired keeps in
    let few : size (ids_of (2 ∷ [])) ≤ 1 = simp written_out (omega arith) in
    let commits : commits_without (voters_of voters_12) (union (ids_of (2 ∷ [])) no_ids) ≡ true = tolerant 1 now target (ids_of (2 ∷ [])) few in
    let stalls : commits_without (voters_of voters_12) (union (ids_of (2 ∷ [])) no_ids) ≡ false = simp written_out refl in
    both_ways _ stalls commits

-- 4 is no learner before it votes
voter_is_no_learner : ¬ VotersLearnFirst voters_123 joins_first voters_124
voter_is_no_learner learn =
    let ready = first_step MakesVotersOfReady voters_123 voters_1234 voters_124 (one_change Voter 4) (one_change Remove 3 ∷ []) joined learn 4 (simp written_out refl) (simp written_out refl) in
    let no_learner : has voters_123.learners 4 ≡ false = simp written_out refl in
    both_ways _ no_learner ready.learner

-- 4, which is a member of neither end, joins and retires
member_of_no_end : ¬ EachOnTheWay (HasMembersOf voters_123 voters_123) voters_123 (one_change Voter 4 ∷ one_change Remove 4 ∷ []) voters_123
member_of_no_end has =
    let joins = first_step (λ before step after. HasMembersOf voters_123 voters_123 after) voters_123 voters_1234 voters_123 (one_change Voter 4) (one_change Remove 4 ∷ []) joined has in
    let member : is_member voters_1234 4 ≡ true = simp written_out refl in
    let none : (is_member voters_123 4 || is_member voters_123 4) ≡ false = simp written_out refl in
    both_ways _ none (joins 4 member)

-- ---- one change each
each_row : one_change_each (Simple (change Learner 4 ∷ change Learner 5 ∷ []) ∷ EnterJoint false (change Remove 1 ∷ change Voter 4 ∷ []) ∷ LeaveJoint ∷ [])
    ≡ Simple (change Learner 4 ∷ []) ∷ Simple (change Learner 5 ∷ []) ∷ EnterJoint false (change Remove 1 ∷ change Voter 4 ∷ []) ∷ LeaveJoint ∷ []
each_row = refl
