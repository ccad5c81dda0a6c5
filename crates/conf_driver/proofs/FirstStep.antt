-- The configuration after the first step of a path.
use Rattle.std.proofs.Common.{◌≡◌, ◌≢◌, ℕ, Bool, true, false, ◌||◌, List, [], ◌∷◌, refl, sym, ap, subst, ◌∙◌, arith, inl, inr}
use Rattle.std.specs.Prelude.{Ok}
use Rattle.std.specs.Option.{is_none}
use Rattle.std.specs.Result.{result_unwrap_or}
use Rattle.std.proofs.lemmas.Bool.{both_ways, cases_Bool, or_cases}
use Rattle.quorum_sets.specs.Ids.{Ids, has, union}
use Rattle.quorum_sets.specs.Tolerance.{may_be_down}
use Rattle.quorum_sets.specs.Voters.{AreNeighbours}
use Rattle.quorum_sets.proofs.Offered.{has-no_ids}
use Rattle.conf_change.specs.Configuration.{Configuration, is_member, voters_of}
use Rattle.conf_change.specs.Outcome.{Outcome}
use Rattle.conf_change.specs.declared.step.Step.{Step}
use Rattle.conf_change.proofs.Offered.{outcome-are_neighbours}
use Rattle.conf_plan.specs.OnTheWay.{KeepsQuorums, KeepsTolerance, MakesVotersOfReady, VotersLearnFirst, catching_up}
use Rattle.conf_plan.specs.PathBy.{KeepsPromises}
use Rattle.conf_plan.specs.Run.{Gives, IsRunWith}
use Rattle.conf_plan.specs.declared.strategy.Strategy.{Strategy}
use Rattle.conf_plan.specs.declared.strategy.Strategy.TheVariants.{Shortest, LearnersFirst, OneAtATime}
use Rattle.plan_output.specs.Stages.{configuration_after_step, some_stalls, stages_after, may_be_down_besides}
use Rattle.conf_driver.specs.Situation.{after_first}

-- ---- what a step gives
pub one_outcome : (now a b : Configuration) (step : Step) → Gives now step a → Gives now step b → a ≡ b
one_outcome now a b step gives also = let same : Ok a ≡ Ok b = sym gives ∙ also in cc

pub after_first-is : (now after : Configuration) (steps rest : List Step) (step : Step) → steps ≡ step ∷ rest → Gives now step after → after_first now steps ≡ after
after_first-is now after steps rest step is gives = ap (after_first now) is ∙ ap (λ (o : Outcome). result_unwrap_or o now) gives

-- what is so of each step of a run is so of the first
pub first-holds : (Holds : Configuration → Step → Configuration → Type 0) (now target after : Configuration) (steps rest : List Step) (step : Step) → steps ≡ step ∷ rest → Gives now step after
    → IsRunWith Holds now steps target → Holds now step after
first-holds Holds now target after steps rest step is gives run = grind (arith, one_outcome)

-- ---- what is promised by each strategy that `next` takes
pub voters-learn_first : (strategy : Strategy) (down : Ids) (now target : Configuration) (path : List Step) → strategy ≢ Shortest → KeepsPromises strategy down now path target → VotersLearnFirst now path target
voters-learn_first Shortest down now target path other promises = absurd (other refl)
voters-learn_first LearnersFirst down now target path other promises = promises.voters
voters-learn_first OneAtATime down now target path other promises = promises.voters

pub path-tolerates : (strategy : Strategy) (down : Ids) (now target : Configuration) (path : List Step) → KeepsPromises strategy down now path target → KeepsTolerance down now path target
path-tolerates Shortest down now target path promises = promises.tolerance down
path-tolerates LearnersFirst down now target path promises = promises.tolerance down
path-tolerates OneAtATime down now target path promises = promises.tolerance

pub path-keeps_quorums : (strategy : Strategy) (down : Ids) (now target : Configuration) (path : List Step) → strategy ≢ OneAtATime → KeepsPromises strategy down now path target → KeepsQuorums now path target
path-keeps_quorums Shortest down now target path other promises = promises.quorums
path-keeps_quorums LearnersFirst down now target path other promises = promises.quorums
path-keeps_quorums OneAtATime down now target path other promises = absurd (other refl)

-- ---- the voters after the step
-- an outgoing voter after a step was a voter before it
outgoing-voted : (before after : Configuration) (id : ℕ) → AreNeighbours (voters_of before) (voters_of after) → has after.outgoing id ≡ true → has before.incoming id ≡ true
outgoing-voted before after id (inl simple) here = absurd (both_ways _ (ap (λ s. has s id) simple.after_single ∙ has-no_ids id) here)
outgoing-voted before after id (inr (inl enters)) here = ap (λ s. has s id) (sym enters.outgoing) ∙ here
outgoing-voted before after id (inr (inr leaves)) here = absurd (both_ways _ (ap (λ s. has s id) leaves.after_single ∙ has-no_ids id) here)

-- each voter after a step that makes voters of learners was a member before it
pub voters-were_members : (before after : Configuration) (step : Step) (id : ℕ) → Gives before step after → MakesVotersOfReady before step after
    → (has after.incoming id || has after.outgoing id) ≡ true → is_member before id ≡ true
voters-were_members before after step id gives ready votes = grind (arith, cases_Bool, or_cases, outgoing-voted, outcome-are_neighbours)

-- ---- a path that does not stall
or_right_false : (a b : Bool) → (a || b) ≡ false → b ≡ false
or_right_false true b is = absurd (cc)
or_right_false false b is = is

-- the voters of the target that are not down are a quorum there, whoever has to catch up
pub target-counts : (Holds : Configuration → Step → Configuration → Type 0) (now target : Configuration) (catching down : Ids) (steps : List Step) → IsRunWith Holds now steps target
    → some_stalls (record { config = now; catching_up = catching } ∷ stages_after now steps) down ≡ false → (late : Ids) × (is_none (may_be_down (voters_of target) (union down late)) ≡ false)
target-counts Holds now target catching down [] run counts =
    (catching, let here : is_none (may_be_down (voters_of now) (union down catching)) ≡ false = grind (arith, counts) in ap (λ (c : Configuration). is_none (may_be_down (voters_of c) (union down catching))) (sym run) ∙ here)
target-counts Holds now target catching down (step ∷ steps) run counts =
    let after = configuration_after_step now step in
    let same : run.0 ≡ after = sym (ap (λ (o : Outcome). result_unwrap_or o now) run.1.0) in
    target-counts Holds after target (catching_up now step after) down steps (subst (λ c. IsRunWith Holds c steps target) same run.2)
    (or_right_false (is_none (may_be_down_besides (record { config = now; catching_up = catching }) down)) _ counts)
