-- Which paths stall: those of which an end does.
use Rattle.std.proofs.Common.{◌≡◌, ◌≢◌, true, false, List, [], ◌∷◌, refl, sym, ap, subst, ◌∙◌, is_some, arith, inl, inr}
use Rattle.std.specs.Prelude.{Option, Some, None}
use Rattle.std.specs.Option.{is_none}
use Rattle.std.specs.Result.{result_unwrap_or}
use Rattle.std.proofs.lemmas.Bool.{both_ways, or_cases, or_from, or_left}
use Rattle.quorum_sets.specs.Ids.{Ids, has, no_ids, union}
use Rattle.quorum_sets.specs.Tolerance.{Tolerates, commits_without, may_be_down}
use Rattle.quorum_sets.proofs.Offered.{has-no_ids, has-same_ids, has-union}
use Rattle.conf_change.specs.Configuration.{Configuration, voters_of}
use Rattle.conf_change.specs.Outcome.{Outcome}
use Rattle.conf_change.specs.declared.step.Step.{Step}
use Rattle.conf_plan.specs.OnTheWay.{EachOnTheWay, IsAsTolerant, NoVoterCatchesUp, catching_up}
use Rattle.conf_plan.specs.PathBy.{KeepsPromises}
use Rattle.conf_plan.specs.Run.{IsRunWith}
use Rattle.conf_plan.specs.declared.strategy.Strategy.{Strategy}
use Rattle.conf_plan.specs.declared.strategy.Strategy.TheVariants.{Shortest, LearnersFirst, OneAtATime}
use Rattle.plan_output.specs.Stages.{configuration_after_step, some_stalls, stages_after, stalls}
use Rattle.conf_driver.proofs.Counted.{IsCounted}
use Rattle.conf_driver.proofs.Counting.{Tolerates-from_commits, commits-from_Tolerates}
use Rattle.conf_driver.proofs.FirstStep.{path-tolerates, target-counts}

some-is_not_none : {A : Type 0} (o : Option A) → is_some o ≡ true → is_none o ≡ false
some-is_not_none None some = absurd (cc)
some-is_not_none (Some x) some = refl

not_none-is_some : {A : Type 0} (o : Option A) → is_none o ≡ false → is_some o ≡ true
not_none-is_some None counts = absurd (cc)
not_none-is_some (Some x) counts = refl

-- ---- where both ends commit, so does each configuration on the way
path-catches_up : (strategy : Strategy) (down : Ids) (now target : Configuration) (path : List Step) → strategy ≢ Shortest → KeepsPromises strategy down now path target → IsRunWith NoVoterCatchesUp now path target
path-catches_up Shortest down now target path other promises = absurd (other refl)
path-catches_up LearnersFirst down now target path other promises = promises.caught_up
path-catches_up OneAtATime down now target path other promises = promises.caught_up

none-stalls_after : IsCounted → (now target : Configuration) (down : Ids) (c : Configuration) (steps : List Step) → Tolerates (voters_of now) down 0 → Tolerates (voters_of target) down 0
    → EachOnTheWay (IsAsTolerant down now target) c steps target → IsRunWith NoVoterCatchesUp c steps target → some_stalls (stages_after c steps) down ≡ false
none-stalls_after counted now target down c [] of_now of_target tolerant caught_up = refl
none-stalls_after counted now target down c (step ∷ steps) of_now of_target tolerant caught_up =
    let after = configuration_after_step c step in
    let late = catching_up c step after in
    let same : tolerant.0 ≡ after = sym (ap (λ (o : Outcome). result_unwrap_or o c) tolerant.1.0) in
    let same_again : caught_up.0 ≡ after = sym (ap (λ (o : Outcome). result_unwrap_or o c) caught_up.1.0) in
    let tolerates : Tolerates (voters_of after) down 0 = subst (IsAsTolerant down now target) same tolerant.1.1 0 of_now of_target in
    let votes_not : NoVoterCatchesUp c step after = subst (NoVoterCatchesUp c step) same_again caught_up.1.1 in
    let counts : Tolerates (voters_of after) (union down late) 0 =
    counted.fewer (voters_of after) (union down late) down 0 (λ id voter here. elim (or_cases (has down id) (has late id) (sym (has-union down late id) ∙ here)) [
      | inl is_down ↦ is_down
      | inr is_late ↦ absurd (both_ways _ (votes_not id is_late) voter)
    ]) tolerates in
    or_from _ _
    (some-is_not_none (may_be_down (voters_of after) (union down late)) (sym (counted.commits (voters_of after) (union down late)) ∙ commits-from_Tolerates counted.fits counted.commits (voters_of after) (union down late) counts))
    (none-stalls_after counted now target down after steps of_now of_target (subst (λ d. EachOnTheWay (IsAsTolerant down now target) d steps target) same tolerant.2) (subst (λ d. IsRunWith NoVoterCatchesUp d steps target) same_again caught_up.2))

pub stalls_not-at_its_ends : IsCounted → (strategy : Strategy) (down : Ids) (now target : Configuration) (path : List Step) → strategy ≢ Shortest → KeepsPromises strategy down now path target
    → commits_without (voters_of now) down ≡ true → commits_without (voters_of target) down ≡ true → stalls now path down ≡ false
stalls_not-at_its_ends counted strategy down now target path other promises commits_now commits_there =
    let of_now = Tolerates-from_commits counted.fits counted.commits (voters_of now) down commits_now in
    let of_target = Tolerates-from_commits counted.fits counted.commits (voters_of target) down commits_there in
    let same : union down no_ids ≡ down = has-same_ids _ _ (λ q. grind (arith, has-union down no_ids q, has-no_ids q)) in
    or_from _ _
    (some-is_not_none (may_be_down (voters_of now) (union down no_ids)) (ap (λ ids. is_some (may_be_down (voters_of now) ids)) same ∙ sym (counted.commits (voters_of now) down) ∙ commits_now))
    (none-stalls_after counted now target down now path of_now of_target (path-tolerates strategy down now target path promises) (path-catches_up strategy down now target path other promises))

-- ---- where a path does not stall, its target commits
pub target-commits : IsCounted → (strategy : Strategy) (down : Ids) (now target : Configuration) (path : List Step) → KeepsPromises strategy down now path target
    → stalls now path down ≡ false → commits_without (voters_of target) down ≡ true
target-commits counted strategy down now target path promises stalls_not =
    let counts = target-counts (λ b x d. IsAsTolerant down now target d) now target no_ids down path (path-tolerates strategy down now target path promises) stalls_not in
    let late = union down counts.0 in
    commits-from_Tolerates counted.fits counted.commits (voters_of target) down
    (counted.fewer (voters_of target) down late 0 (λ id voter is_down. has-union down counts.0 id ∙ or_left _ _ is_down)
    (Tolerates-from_commits counted.fits counted.commits (voters_of target) late (counted.commits (voters_of target) late ∙ not_none-is_some _ counts.1)))
