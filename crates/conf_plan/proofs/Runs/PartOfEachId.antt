-- What a step makes of an id: an incoming voter, a learner of either kind, or neither.
use Rattle.std.proofs.Common.{◌≡◌, ℕ, ◌+◌, ◌<◌, true, false, ◌||◌, ◌⊎◌, inl, inr, List, [], ◌∷◌, refl, sym, ap, subst, ◌∙◌, arith}
use Rattle.std.specs.Prelude.{Option, None, Ok, count_by}
use Rattle.std.proofs.lemmas.Bool.{true≢false, or_left, or_right}
use Rattle.std.proofs.lemmas.List.Sums.{sum_by-cons}
use Rattle.quorum_sets.specs.Ids.{has}
use Rattle.quorum_sets.proofs.Offered.{has-no_ids}
use Rattle.conf_change.specs.Configuration.{Configuration}
use Rattle.conf_change.specs.Change.{names, last_effective, is_incoming_after, is_learner_after, result_of}
use Rattle.conf_change.specs.Outcome.{outcome, with_outgoing}
use Rattle.conf_change.specs.Step.{changes_of}
use Rattle.conf_change.specs.declared.change.Change.{Change}
use Rattle.conf_change.specs.declared.change.Kind.{Kind}
use Rattle.conf_change.specs.declared.step.Step.{Step}
use Rattle.conf_change.specs.declared.step.Step.TheVariants.{Simple, EnterJoint, LeaveJoint}
use Rattle.conf_change.proofs.Offered.{SimpleTaken-from_outcome, EnterTaken-from_outcome, LeaveTaken-from_outcome, has-incoming_after, has-learners_after, has-next_after, has-after_leave}
use Rattle.conf_plan.specs.Run.{IsRun}
use Rattle.conf_plan.specs.Best.{times_named, is_any_learner, is_in, HasSameRoles}
use Rattle.conf_plan.proofs.FindingMoves.OfEachId.{last_effective-none}

-- ---- a step decides by its last effective change alone, whether the id goes out or not
record PartAfter (before after : Configuration) (token : Option Kind) (id : ℕ) : Type 0 where
  voter : has after.incoming id ≡ is_incoming_after token (has before.incoming id)
  learner : is_any_learner after id ≡ is_learner_after token false (is_any_learner before id)

result_of-part : (c : Configuration) (xs : List Change) (q : ℕ) → PartAfter c (result_of c xs) (last_effective xs q) q
result_of-part c xs q = record { voter = has-incoming_after c xs q; learner = grind (arith, has-learners_after c xs q, has-next_after c xs q) }

outcome-part : (c after : Configuration) (step : Step) (q : ℕ) → outcome c step ≡ Ok after → PartAfter c after (last_effective (changes_of step) q) q
outcome-part c after (Simple changes) q e =
    let P : Configuration → Type 0 = λ d. PartAfter c d (last_effective changes q) q in
    subst P (SimpleTaken-from_outcome c after changes e).made (result_of-part c changes q)
outcome-part c after (EnterJoint auto_leave changes) q e =
    let P : Configuration → Type 0 = λ d. PartAfter c d (last_effective changes q) q in
    let part = result_of-part (with_outgoing c auto_leave) changes q in
    subst P (EnterTaken-from_outcome c after auto_leave changes e).made (record { voter = part.voter; learner = part.learner })
outcome-part c after LeaveJoint q e =
    let P : Configuration → Type 0 = λ d. PartAfter c d None q in
    subst P (LeaveTaken-from_outcome c after e).made (record { voter = refl; learner = grind (arith, has-after_leave c q, has-no_ids q) })

-- ---- an id that is not named
outcome-same_part : (c after : Configuration) (step : Step) (q : ℕ) → outcome c step ≡ Ok after → count_by (names q) (changes_of step) ≡ 0 → HasSameRoles c after q
outcome-same_part c after step q e none =
    let part = outcome-part c after step q e in
    let without_effect = last_effective-none (changes_of step) q none in
    record { voter = rw without_effect at part.voter; learner = rw without_effect at part.learner }

pub run-same_part : (before after : Configuration) (steps : List Step) (q : ℕ) → IsRun before steps after → times_named q steps ≡ 0 → HasSameRoles before after q
run-same_part before after [] q run none = record { voter = ap (λ c. has c.incoming q) (sym run); learner = ap (λ c. is_any_learner c q) (sym run) }
run-same_part before after (step ∷ steps) q run none =
    let both : count_by (names q) (changes_of step) + times_named q steps ≡ 0 =
    sym (sum_by-cons (λ s. count_by (names q) (changes_of s)) step steps) ∙ none in
    let first = outcome-same_part before run.0 step q run.1 (omega arith) in
    let rest = run-same_part run.0 after steps q run.2 (omega arith) in
    record { voter = rest.voter ∙ first.voter; learner = rest.learner ∙ first.learner }

-- ---- an id that comes in
outgoing_from : (c after : Configuration) (step : Step) (q : ℕ) → outcome c step ≡ Ok after → has after.outgoing q ≡ true → (has c.incoming q || has c.outgoing q) ≡ true
outgoing_from c after (Simple changes) q e is = grind (arith, or_right, SimpleTaken-from_outcome)
outgoing_from c after (EnterJoint auto_leave changes) q e is = grind (arith, or_left, EnterTaken-from_outcome)
outgoing_from c after LeaveJoint q e is = grind (arith, true≢false, LeaveTaken-from_outcome, has-no_ids)

outcome-is_in : (c after : Configuration) (step : Step) (q : ℕ) → outcome c step ≡ Ok after → count_by (names q) (changes_of step) ≡ 0 → is_in after q ≡ true → is_in c q ≡ true
outcome-is_in c after step q e none is = grind (arith, outcome-same_part, outgoing_from)

pub run-is_in : (before after : Configuration) (steps : List Step) (q : ℕ) → IsRun before steps after → is_in after q ≡ true → (is_in before q ≡ true) ⊎ (0 < times_named q steps)
run-is_in before after [] q run is = inl (ap (λ c. is_in c q) run ∙ is)
run-is_in before after (step ∷ steps) q run is =
    let counted : times_named q (step ∷ steps) ≡ count_by (names q) (changes_of step) + times_named q steps = sum_by-cons (λ s. count_by (names q) (changes_of s)) step steps in
    elim (run-is_in run.0 after steps q run.2 is) [
      | inr named ↦ inr (omega (arith, named, counted))
      | inl was ↦ elim (zero_or_more (count_by (names q) (changes_of step))) [
        | inl none ↦ inl (outcome-is_in before run.0 step q run.1 none was)
        | inr some ↦ inr (omega (arith, some, counted))
      ]
    ]
  where
    zero_or_more : (n : ℕ) → (n ≡ 0) ⊎ (0 < n)
    zero_or_more n = grind arith
