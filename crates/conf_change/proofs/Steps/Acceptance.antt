-- What a step gives: what an accepted one has passed, and which steps are accepted.
use Rattle.std.proofs.Common.{◌≡◌, ◌≤◌, Bool, true, false, List, refl, ap, ◌∙◌, arith}
use Rattle.std.specs.Prelude.{Ok, nat_lt}
use Rattle.std.proofs.lemmas.Bool.{not-false, le-ltb}
use Rattle.quorum_sets.specs.Ids.{no_ids, difference_count}
use Rattle.conf_change.specs.Configuration.{Configuration, is_joint, has_voter}
use Rattle.conf_change.specs.Change.{result_of}
use Rattle.conf_change.specs.Outcome.{outcome, simple_outcome, enter_outcome, leave_outcome, with_outgoing, after_leave}
use Rattle.conf_change.specs.declared.change.Change.{Change}
use Rattle.conf_change.specs.declared.step.Step.TheVariants.{Simple, EnterJoint, LeaveJoint}
use Rattle.conf_change.proofs.Configurations.Validity.{no_ids-from_is_empty}

-- ---- what an accepted step has passed
pub record SimpleTaken (c after : Configuration) (changes : List Change) : Type 0 where
  pub single : is_joint c ≡ false
  pub voter : has_voter (result_of c changes) ≡ true
  pub one_at_most : nat_lt 1 (difference_count c.incoming (result_of c changes).incoming) ≡ false
  pub made : result_of c changes ≡ after

pub SimpleTaken-from_outcome : (c after : Configuration) (changes : List Change) → simple_outcome c changes ≡ Ok after → SimpleTaken c after changes
SimpleTaken-from_outcome c after changes e = record { single = grind arith; voter = grind arith; one_at_most = grind arith; made = grind arith }

pub record EnterTaken (c after : Configuration) (auto_leave : Bool) (changes : List Change) : Type 0 where
  pub single : is_joint c ≡ false
  pub voter_before : has_voter c ≡ true
  pub voter : has_voter (result_of (with_outgoing c auto_leave) changes) ≡ true
  pub made : result_of (with_outgoing c auto_leave) changes ≡ after

pub EnterTaken-from_outcome : (c after : Configuration) (auto_leave : Bool) (changes : List Change)
    → enter_outcome c auto_leave changes ≡ Ok after → EnterTaken c after auto_leave changes
EnterTaken-from_outcome c after auto_leave changes e = record { single = grind arith; voter_before = grind arith; voter = grind arith; made = grind arith }

pub record LeaveTaken (c after : Configuration) : Type 0 where
  pub joint : is_joint c ≡ true
  pub made : after_leave c ≡ after

pub LeaveTaken-from_outcome : (c after : Configuration) → leave_outcome c ≡ Ok after → LeaveTaken c after
LeaveTaken-from_outcome c after e = record { joint = grind arith; made = grind arith }

pub outgoing-none : (c : Configuration) → is_joint c ≡ false → c.outgoing ≡ no_ids
outgoing-none c single = no_ids-from_is_empty c.outgoing (not-false _ single)

-- ---- a step that passes what is looked for is accepted
pub outcome-simple_accepted : (c after : Configuration) (changes : List Change) → is_joint c ≡ false → result_of c changes ≡ after → has_voter after ≡ true
    → difference_count c.incoming after.incoming ≤ 1 → outcome c (Simple changes) ≡ Ok after
outcome-simple_accepted c after changes single made voter few =
    by_result single (ap has_voter made ∙ voter) (ap (λ d. nat_lt 1 (difference_count c.incoming d.incoming)) made ∙ le-ltb 1 _ few) ∙ ap Ok made
  where
    by_result : is_joint c ≡ false → has_voter (result_of c changes) ≡ true → nat_lt 1 (difference_count c.incoming (result_of c changes).incoming) ≡ false
        → outcome c (Simple changes) ≡ Ok (result_of c changes)
    by_result single voter few = rw (single, voter, few) refl

pub outcome-enter_accepted : (c after : Configuration) (auto_leave : Bool) (changes : List Change) → is_joint c ≡ false → has_voter c ≡ true
    → result_of (with_outgoing c auto_leave) changes ≡ after → has_voter after ≡ true → outcome c (EnterJoint auto_leave changes) ≡ Ok after
outcome-enter_accepted c after auto_leave changes single before made voter = by_result single before (ap has_voter made ∙ voter) ∙ ap Ok made
  where
    by_result : is_joint c ≡ false → has_voter c ≡ true → has_voter (result_of (with_outgoing c auto_leave) changes) ≡ true
        → outcome c (EnterJoint auto_leave changes) ≡ Ok (result_of (with_outgoing c auto_leave) changes)
    by_result single before voter = rw (single, before, voter) refl

pub outcome-leave_accepted : (c : Configuration) → is_joint c ≡ true → outcome c LeaveJoint ≡ Ok (after_leave c)
outcome-leave_accepted c joint = rw joint refl
