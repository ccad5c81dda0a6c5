-- Where etcd ends with what is proposed for a step.
use Rattle.std.proofs.lemmas.Grind.{common_steps}
use Rattle.std.proofs.Common.{◌≡◌, ℕ, ◌<◌, Bool, true, false, ◌||◌, List, [], ◌∷◌, length, get_or, Option, Some, None, refl, sym, ap, ◌∙◌, arith}
use Rattle.std.specs.Prelude.{Ok, slice_get}
use Rattle.std.specs.Result.{result_ok}
use Rattle.std.proofs.lemmas.Option.{slice_get-get_or}
use Rattle.std.proofs.lemmas.Bool.{true≢false, not-true, eqb-false, false_from_ne_true}
use Rattle.quorum_sets.specs.Ids.{has, ascending}
use Rattle.quorum_sets.proofs.Offered.{has-no_ids}
use Rattle.conf_change.specs.Configuration.{Configuration, is_valid, is_joint, has_voter}
use Rattle.conf_change.specs.Change.{result_of, last_effective, is_learner_after, is_next_after}
use Rattle.conf_change.specs.Outcome.{outcome, with_outgoing, after_leave}
use Rattle.conf_change.specs.declared.change.Change.{Change}
use Rattle.conf_change.specs.declared.change.Kind.{Kind}
use Rattle.conf_change.specs.declared.change.Kind.TheVariants.{Update}
use Rattle.conf_change.specs.declared.step.Step.{Step}
use Rattle.conf_change.specs.declared.step.Step.TheVariants.{Simple, EnterJoint, LeaveJoint}
use Rattle.conf_change.proofs.Offered.{ValidByMember-from_is_valid, configuration-by_members, has-learners_after, has-next_after, has-after_leave, result_of-none, result_of-update, SimpleTaken-from_outcome, EnterTaken-from_outcome, LeaveTaken-from_outcome, outcome-enter_accepted, outcome-leave_accepted, outgoing-none}
use Rattle.raft_json.specs.Proposal.{update_of, or_update, proposed_changes, proposed_step, proposal_of, after_auto_leave, final_outcome, is_let_through, carried_out}

-- ---- a list without a change, and the update that is named for it
result_of-update_of : (c : Configuration) (o : Option ℕ) → result_of c (update_of o) ≡ result_of c []
result_of-update_of c None = refl
result_of-update_of c (Some id) = sym (result_of-update c (record { kind = Update; id = id }) refl) ∙ result_of-none c

-- the changes that are proposed make of each configuration what the changes of the step do
pub result_of-or_update : (before c : Configuration) (changes : List Change) → result_of c (or_update before changes) ≡ result_of c changes
result_of-or_update before c [] = result_of-update_of c (slice_get (ascending before.incoming) 0)
result_of-or_update before c (change ∷ changes) = refl

-- a configuration with a voter has a least one
least_voter : (before : Configuration) → has_voter before ≡ true → slice_get (ascending before.incoming) 0 ≡ Some (get_or (ascending before.incoming) 0 0)
least_voter before voter = grind (arith, slice_get-get_or, eqb-false, not-true)

pub or_update-named : (before : Configuration) (changes : List Change) → has_voter before ≡ true → 0 < length (or_update before changes)
or_update-named before [] voter = rw (least_voter before voter) (omega arith)
or_update-named before (change ∷ changes) voter = omega arith

-- ---- the outcome goes by what the changes make
simple_by_result : (c : Configuration) (xs ys : List Change) → result_of c xs ≡ result_of c ys → outcome c (Simple xs) ≡ outcome c (Simple ys)
simple_by_result c xs ys e = grind arith

enter_by_result : (c : Configuration) (auto_leave : Bool) (xs ys : List Change) → result_of (with_outgoing c auto_leave) xs ≡ result_of (with_outgoing c auto_leave) ys
    → outcome c (EnterJoint auto_leave xs) ≡ outcome c (EnterJoint auto_leave ys)
enter_by_result c auto_leave xs ys e = grind arith

pub enter-proposed : (before : Configuration) (auto_leave : Bool) (changes : List Change)
    → outcome before (proposed_step before (EnterJoint auto_leave changes)) ≡ outcome before (EnterJoint auto_leave changes)
enter-proposed before true changes = enter_by_result before true (or_update before changes) changes (result_of-or_update before (with_outgoing before true) changes)
enter-proposed before false changes = enter_by_result before false (or_update before changes) changes (result_of-or_update before (with_outgoing before false) changes)

-- ---- a simple step ends without auto-leave
after_auto_leave-simple : (before after : Configuration) (changes : List Change) → is_valid before ≡ true → outcome before (Simple changes) ≡ Ok after → after_auto_leave (Ok after) ≡ Ok after
after_auto_leave-simple before after changes valid e = grind (arith, SimpleTaken-from_outcome, ValidByMember-from_is_valid)

final_outcome-simple : (before after : Configuration) (changes : List Change) → is_valid before ≡ true → outcome before (Simple changes) ≡ Ok after → final_outcome before (Simple changes) ≡ Ok after
final_outcome-simple before after changes valid e = ap after_auto_leave e ∙ after_auto_leave-simple before after changes valid e

-- ---- through a joint configuration and out of it
joined_learners : (o : Option Kind) (out was next : Bool) → next ≡ false → (is_learner_after o out was || is_next_after o out next) ≡ is_learner_after o false was
joined_learners o out was next e = grind arith

no_next : (o : Option Kind) (next : Bool) → next ≡ false → is_next_after o false next ≡ false
no_next o next e = grind arith

entered_and_left : (before : Configuration) (changes : List Change) → is_valid before ≡ true → is_joint before ≡ false
    → after_leave (result_of (with_outgoing before true) changes) ≡ result_of before changes
entered_and_left before changes valid single =
    let joint = result_of (with_outgoing before true) changes in
    let valid_by = ValidByMember-from_is_valid before valid in
    let none_out : (q : ℕ) → has before.outgoing q ≡ false = λ q. ap (λ ids. has ids q) (outgoing-none before single) ∙ has-no_ids q in
    let none_next : (q : ℕ) → has before.learners_next q ≡ false =
    λ q. false_from_ne_true (has before.learners_next q) (λ here. true≢false (sym (valid_by.next_outgoing q here) ∙ none_out q)) in
    configuration-by_members (after_leave joint) (result_of before changes)
    (λ q. refl)
    (sym (outgoing-none before single))
    (λ q. has-after_leave joint q
    ∙ (λ i. has-learners_after (with_outgoing before true) changes q i || has-next_after (with_outgoing before true) changes q i)
    ∙ joined_learners (last_effective changes q) (has before.incoming q) (has before.learners q) (has before.learners_next q) (none_next q)
    ∙ sym (has-learners_after before changes q ∙ ap (λ out. is_learner_after (last_effective changes q) out (has before.learners q)) (none_out q)))
    (λ q. has-no_ids q
    ∙ sym (has-next_after before changes q ∙ ap (λ out. is_next_after (last_effective changes q) out (has before.learners_next q)) (none_out q)
    ∙ no_next (last_effective changes q) (has before.learners_next q) (none_next q)))
    (sym (valid_by.auto_leave single))

through_joint : (before after : Configuration) (changes : List Change) → is_valid before ≡ true → has_voter before ≡ true
    → outcome before (Simple changes) ≡ Ok after → final_outcome before (EnterJoint true changes) ≡ Ok after
through_joint before after changes valid voter e = grind (arith, SimpleTaken-from_outcome, outcome-enter_accepted, outcome-leave_accepted, entered_and_left)

pub simple-proposed : (before after : Configuration) (changes : List Change) → is_valid before ≡ true → has_voter before ≡ true
    → outcome before (Simple changes) ≡ Ok after → final_outcome before (proposed_step before (Simple changes)) ≡ Ok after
simple-proposed before after [] valid voter e = grind (arith, common_steps, least_voter, simple_by_result, result_of-update_of, final_outcome-simple)
simple-proposed before after (change ∷ []) valid voter e = final_outcome-simple before after (change ∷ []) valid e
simple-proposed before after (change ∷ other ∷ changes) valid voter e = through_joint before after (change ∷ other ∷ changes) valid voter e

pub simple-named : (before after : Configuration) (changes : List Change) → outcome before (Simple changes) ≡ Ok after → 0 < length (or_update before changes)
simple-named before after [] e =
    or_update-named before [] (ap has_voter (result_of-none before) ∙ (SimpleTaken-from_outcome before after [] e).voter)
simple-named before after (change ∷ changes) e = omega arith

pub enter-named : (before after : Configuration) (auto_leave : Bool) (changes : List Change) → outcome before (EnterJoint auto_leave changes) ≡ Ok after
    → 0 < length (or_update before changes)
enter-named before after auto_leave changes e = or_update-named before changes (EnterTaken-from_outcome before after auto_leave changes e).voter_before

-- ---- the leader lets it through
let_through-some : (before : Configuration) (changes : List Change) → 0 < length changes → is_joint before ≡ false → is_let_through before changes ≡ true
let_through-some before changes some single = grind arith

carried_out-let_through : (before : Configuration) (step : Step) → is_let_through before (proposed_changes before step) ≡ true
    → carried_out before (proposal_of before step) ≡ result_ok (final_outcome before (proposed_step before step))
carried_out-let_through before step through = rw through refl

pub carried_out-step : (before after : Configuration) (step : Step) → is_valid before ≡ true → has_voter before ≡ true → outcome before step ≡ Ok after
    → carried_out before (proposal_of before step) ≡ result_ok (after_auto_leave (Ok after))
carried_out-step before after (Simple changes) valid voter e =
    carried_out-let_through before (Simple changes)
    (let_through-some before (or_update before changes) (or_update-named before changes voter) (SimpleTaken-from_outcome before after changes e).single)
    ∙ ap result_ok (simple-proposed before after changes valid voter e ∙ sym (after_auto_leave-simple before after changes valid e))
carried_out-step before after (EnterJoint auto_leave changes) valid voter e = grind (arith, EnterTaken-from_outcome, carried_out-let_through, let_through-some, or_update-named, enter-proposed)
carried_out-step before after LeaveJoint valid voter e = grind (arith, carried_out-let_through, LeaveTaken-from_outcome)
