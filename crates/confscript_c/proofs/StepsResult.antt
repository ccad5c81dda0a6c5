-- The result of steps that a changer took, and of those at which it stopped.
use Rattle.std.proofs.Common.{◌≡◌, ◌≢◌, ℕ, ◌+◌, ◌-◌, ◌<◌, ◌∷◌, ◌++◌, List, [], take, drop, length, refl, ap, ◌∙◌, inl, inr, arith}
use Rattle.std.specs.Prelude.{◌⊎◌, Ok, Err}
use Rattle.std.proofs.lemmas.List.{length-take-le}
use Rattle.std.proofs.lemmas.Option.{slice_get_within}
use Rattle.conf_change.specs.ConfState.{lists_of}
use Rattle.conf_change.specs.ConfStateLine.{conf_state_text}
use Rattle.conf_change.specs.Changer.{ChangerState}
use Rattle.conf_change.specs.Outcome.{outcome}
use Rattle.conf_change.specs.declared.refused.Refused.{Refused}
use Rattle.conf_change.specs.declared.refused.Refused.TheVariants.{AlreadyJoint, ZeroVoterJoint, NotJoint, SimpleInJoint, RemovedAllVoters, MoreThanOneVoter, NoMemory}
use Rattle.conf_change.specs.declared.step.Step.{Step}
use Rattle.conf_plan.specs.Run.{Takes, StopsAt}
use Rattle.quorum_sets.proofs.Offered.{slice_get-split}
use Rattle.confscript_c.specs.Answer.{no_memory}
use Rattle.confscript_c.specs.Applied.{steps_result, then_result, refusal_answer}

-- all are taken
pub steps_result-taken : (number : ℕ) (before after : ChangerState) (steps : List Step) → Takes before steps after
    → steps_result number before.tracker.config steps ≡ Ok (conf_state_text (lists_of after.tracker.config))
steps_result-taken number before after [] taken = ap (λ s. Ok (conf_state_text (lists_of s.tracker.config))) taken
steps_result-taken number before after (step ∷ steps) taken =
    ap (λ o. then_result number o (λ next. steps_result (number + 1) next steps)) taken.1.configuration
    ∙ steps_result-taken (number + 1) taken.0 after steps taken.2

-- the one after those that are taken is refused
stopped_after : (number : ℕ) (before after : ChangerState) (prefix rest : List Step) (step : Step) (why : Refused) → Takes before prefix after
    → outcome after.tracker.config step ≡ Err why
    → steps_result number before.tracker.config (prefix ++ step ∷ rest) ≡ Err (refusal_answer why (number + length prefix))
stopped_after number before after [] rest step why taken refused =
    ap (λ o. then_result number o (λ next. steps_result (number + 1) next rest)) (ap (λ s. outcome s.tracker.config step) taken ∙ refused)
    ∙ ap (λ n. Err (refusal_answer why n)) (omega arith)
stopped_after number before after (first ∷ prefix) rest step why taken refused =
    ap (λ o. then_result number o (λ next. steps_result (number + 1) next (prefix ++ step ∷ rest))) taken.1.configuration
    ∙ stopped_after (number + 1) taken.0 after prefix rest step why taken.2 refused
    ∙ ap (λ n. Err (refusal_answer why n)) (omega arith)

-- where it stopped for another reason than memory, the result is that reason
steps_result-stopped : (before after : ChangerState) (steps : List Step) (number : ℕ) (why : Refused) → why ≢ NoMemory → StopsAt before steps number why after
    → steps_result 1 before.tracker.config steps ≡ Err (refusal_answer why number)
steps_result-stopped before after steps number why other stop =
    let step = stop.refused.0 in
    let here = stop.refused.1 in
    let some = stop.in_range in
    let within : number - 1 < length steps = slice_get_within steps (number - 1) step here in
    let many : length (take (number - 1) steps) ≡ number - 1 = length-take-le (number - 1) steps (omega arith) in
    ap (steps_result 1 before.tracker.config) (slice_get-split steps (number - 1) step here)
    ∙ stopped_after 1 before after (take (number - 1) steps) (drop (number - 1 + 1) steps) step why stop.taken (stop.refused.2 other)
    ∙ ap (λ n. Err (refusal_answer why n)) (omega arith)

pub steps_result-stopped_or_no_memory : (before after : ChangerState) (steps : List Step) (number : ℕ) (why : Refused) → StopsAt before steps number why after
    → (refusal_answer why number ≡ no_memory) ⊎ (steps_result 1 before.tracker.config steps ≡ Err (refusal_answer why number))
steps_result-stopped_or_no_memory before after steps number NoMemory stop = inl refl
steps_result-stopped_or_no_memory before after steps number AlreadyJoint stop = inr (steps_result-stopped before after steps number AlreadyJoint (λ e. cc) stop)
steps_result-stopped_or_no_memory before after steps number ZeroVoterJoint stop = inr (steps_result-stopped before after steps number ZeroVoterJoint (λ e. cc) stop)
steps_result-stopped_or_no_memory before after steps number NotJoint stop = inr (steps_result-stopped before after steps number NotJoint (λ e. cc) stop)
steps_result-stopped_or_no_memory before after steps number SimpleInJoint stop = inr (steps_result-stopped before after steps number SimpleInJoint (λ e. cc) stop)
steps_result-stopped_or_no_memory before after steps number RemovedAllVoters stop = inr (steps_result-stopped before after steps number RemovedAllVoters (λ e. cc) stop)
steps_result-stopped_or_no_memory before after steps number MoreThanOneVoter stop = inr (steps_result-stopped before after steps number MoreThanOneVoter (λ e. cc) stop)
