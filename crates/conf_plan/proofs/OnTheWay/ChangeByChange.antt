-- A path leads to the target also if each change of its simple steps is a step of its own, and what it keeps is kept.
use Rattle.std.proofs.Common.{◌≡◌, ℕ, Bool, true, false, not, ◌&&◌, ◌||◌, inl, inr, List, [], ◌∷◌, sym, subst, ◌∙◌, arith}
use Rattle.std.specs.Prelude.{IsTrue}
use Rattle.std.proofs.lemmas.Bool.{both_ways, or_left, or_parts, or_right}
use Rattle.std.proofs.lemmas.List.Concat.{flat_map-cons}
use Rattle.quorum_sets.specs.Ids.{Ids, has}
use Rattle.quorum_sets.specs.Tolerance.{Tolerates}
use Rattle.quorum_sets.specs.Voters.{is_quorum}
use Rattle.quorum_sets.proofs.Offered.{has-ids_where, has-no_ids, has-union}
use Rattle.conf_change.specs.Configuration.{Configuration, is_member, members, voters_of}
use Rattle.conf_change.specs.Outcome.{after_leave}
use Rattle.conf_change.specs.Progress.{keeps_progress}
use Rattle.conf_change.specs.declared.step.Step.{Step}
use Rattle.conf_change.specs.declared.step.Step.TheVariants.{LeaveJoint}
use Rattle.conf_change.proofs.Offered.{ValidByMember-from_is_valid, any-members}
use Rattle.conf_plan.specs.LearnersFirst.{newcomers}
use Rattle.conf_plan.specs.OnTheWay.{HasMembersOf, MakesVotersOfReady, NoVoterCatchesUp, catching_up}
use Rattle.conf_plan.specs.OneChangeEach.{each_change, one_change_each, HasVotersOnTheWay, LeadsChangeByChange}
use Rattle.conf_plan.specs.PathBy.{has_path, path_by}
use Rattle.conf_plan.specs.Planned.{planned_from_single}
use Rattle.conf_plan.specs.Run.{Gives, IsValidWithVoter, IsRunWith}
use Rattle.conf_plan.specs.declared.strategy.Strategy.{Strategy}
use Rattle.conf_plan.specs.declared.strategy.Strategy.TheVariants.{Shortest, LearnersFirst, OneAtATime}
use Rattle.conf_plan.proofs.FindingMoves.ResultingConfiguration.{IsSingle}
use Rattle.conf_plan.proofs.OnTheWay.FirstMove.{Gives-one}
use Rattle.conf_plan.proofs.OnTheWay.LearnersFirst.{from_single-holds}
use Rattle.conf_plan.proofs.OnTheWay.Newcomers.{has-newcomers}
use Rattle.conf_plan.proofs.OnTheWay.OneAtATime.{AddsMembersOf}
use Rattle.conf_plan.proofs.OnTheWay.OneAtATimePath.{one_at_a_time-adds}
use Rattle.conf_plan.proofs.OnTheWay.OneChangeEach.{each-of_voters, path_by-keeps_voters, path_by-of_proposals}
use Rattle.conf_plan.proofs.OnTheWay.PartsOfSteps.{ComesInParts, ComesInParts-of_proposals, IsPart, MovesAsWhole, is_member-alike, votes-alike}
use Rattle.conf_plan.proofs.PlannedSteps.AlongPath.{planned_from_single-holds, path_by-holds}
use Rattle.conf_plan.proofs.PlannedSteps.IntoJoint.{has-shared_members}
use Rattle.conf_plan.proofs.Runs.Chains.{IsChain-append, IsRun-from_IsRunWith, IsRunWith-weaker}

-- ---- from the steps to their parts
-- what follows for each part of a step follows for all parts of all steps
in_parts-hold : (P Q : Configuration → Step → Configuration → Type 0)
    → ((before after c d : Configuration) (whole part : Step) → P before whole after → IsPart before whole after c part d → Q c part d)
    → (now target : Configuration) (steps : List Step) → IsRunWith ComesInParts now steps target → IsRunWith P now steps target → IsRunWith Q now (one_change_each steps) target
in_parts-hold P Q of_part now target [] parts run = run
in_parts-hold P Q of_part now target (step ∷ steps) parts run =
    let next = parts.0 in
    let same : run.0 ≡ next = Gives-one now run.0 next step run.1.0 parts.1.0 in
    let holds = subst (P now step) same run.1.1 in
    let Leads : Configuration → Step → Configuration → Type 0 = λ before taken after. Gives before taken after × Q before taken after in
    let first = IsRunWith-weaker (IsPart now step next) Q (λ c d part is. of_part now next c d step part holds is) now next (each_change step) (parts.1.1 parts.1.0) in
    let rest = in_parts-hold P Q of_part next target steps parts.2 (subst (λ d. IsRunWith P d steps target) same run.2) in
    subst (λ each. IsRunWith Q now each target) (sym (flat_map-cons each_change step steps)) (IsChain-append Leads now next target (each_change step) (one_change_each steps) first rest)

-- ---- progress
kept_as_whole : (before after c d : Configuration) (whole part : Step) (q : ℕ) → MovesAsWhole before whole after c part d q → keeps_progress before whole after q ≡ true
    → keeps_progress c part d q ≡ true
kept_as_whole before after c d whole part q moved kept = grind arith

MakesVotersOfReady-part : (before after c d : Configuration) (whole part : Step) → MakesVotersOfReady before whole after → IsPart before whole after c part d → MakesVotersOfReady c part d
MakesVotersOfReady-part before after c d whole part ready is q votes new = grind (arith, both_ways, or_parts, false, votes-alike, kept_as_whole)

has-catching_up : (before after : Configuration) (step : Step) (q : ℕ) → has (catching_up before step after) q ≡ (not (keeps_progress before step after q) && is_member after q)
has-catching_up before after step q = grind (arith, has-ids_where (λ id. not (keeps_progress before step after id)) (members after) q, any-members after q)

NoVoterCatchesUp-part : (before after c d : Configuration) (whole part : Step) → NoVoterCatchesUp before whole after → IsPart before whole after c part d → NoVoterCatchesUp c part d
NoVoterCatchesUp-part before after c d whole part none is q catches =
    let in_part = sym (has-catching_up c d part q) ∙ catches in
    elim (is.each q) [
      | inl alone ↦ absurd (grind (arith, in_part, alone.alike.incoming, alone.alike.outgoing, alone.alike.learners, alone.unremoved))
      | inr moved ↦
          let kept = kept_as_whole before after c d whole part q moved in
          let in_whole : (not (keeps_progress before whole after q) && is_member after q) ≡ true =
          catches_too (keeps_progress before whole after q) (keeps_progress c part d q) (is_member d q) (is_member after q) kept in_part
          (is_member-alike d after q moved.becomes) in
          votes-alike d after q moved.becomes ∙ none q (has-catching_up before after whole q ∙ in_whole)
    ]
  where
    catches_too : (in_whole in_part d_has after_has : Bool) → (in_whole ≡ true → in_part ≡ true) → (not in_part && d_has) ≡ true → d_has ≡ after_has → (not in_whole && after_has) ≡ true
    catches_too in_whole in_part d_has after_has kept catches same = grind arith

-- ---- members
-- no other members come than those of the target
planned_from_single-adds : (c target : Configuration) → IsSingle c → IsValidWithVoter target → IsRunWith (AddsMembersOf target) c (planned_from_single c target) target
planned_from_single-adds c target single valid_with_voter =
    planned_from_single-holds (AddsMembersOf target) (λ voters learners. (q : ℕ) → (has voters q || has learners q) ≡ true → (is_member c q || is_member target q) ≡ true) c target single
    valid_with_voter (record {
      apart = λ apart q here. grind (arith, here);
      outgoing = λ joint q here. grind (arith, has-shared_members c target q, here);
      simple = λ voters learners known wanted q here. grind (arith, has-no_ids q, known q, here);
      enters = λ voters learners known moved q here. grind (arith, moved.incoming, moved.learners q, known q, here);
      leaves = λ voters learners known moved q here. grind (arith, moved.incoming, moved.learners q, has-no_ids q, here);
      into = λ d single_d has_all q here. or_right _ _ here;
    })

after_leave-adds : (now target : Configuration) → IsValidWithVoter now → AddsMembersOf target now LeaveJoint (after_leave now)
after_leave-adds now target valid_with_voter q here = grind (arith, ValidByMember-from_is_valid, has-union, has-no_ids)

path_by-adds : (strategy : Strategy) (down : Ids) (now target : Configuration) → IsValidWithVoter now → IsValidWithVoter target → has_path strategy now target ≡ true
    → IsRunWith (AddsMembersOf target) now (path_by strategy down now target) target
path_by-adds Shortest down now target now_valid_with_voter valid_with_voter way =
    path_by-holds Shortest down (AddsMembersOf target) now target now_valid_with_voter (after_leave-adds now target now_valid_with_voter)
    (λ differs c single same. planned_from_single-adds c target single valid_with_voter)
path_by-adds LearnersFirst down now target now_valid_with_voter valid_with_voter way =
    path_by-holds LearnersFirst down (AddsMembersOf target) now target now_valid_with_voter (after_leave-adds now target now_valid_with_voter) (λ differs c single same.
    from_single-holds (AddsMembersOf target) c target single valid_with_voter
    (λ q here. grind (arith, has-no_ids q, has-union c.learners (newcomers c target) q, has-newcomers c target q, here))
    (λ d single_d alike known stay. planned_from_single-adds d target single_d valid_with_voter))
path_by-adds OneAtATime down now target now_valid_with_voter valid_with_voter way = one_at_a_time-adds down now target now_valid_with_voter valid_with_voter way

-- the configurations before and after each step have no other members than the ends
members-along : (now target c : Configuration) (steps : List Step) → HasMembersOf now target c → IsRunWith (AddsMembersOf target) c steps target
    → IsRunWith (λ before step after. HasMembersOf now target before × HasMembersOf now target after) c steps target
members-along now target c [] has run = run
members-along now target c (step ∷ steps) has run =
    let after : HasMembersOf now target run.0 = λ q here. grind (arith, run.1.1 q here, has q) in
    (run.0, (run.1.0, (has, after)), members-along now target run.0 steps after run.2)

HasMembersOf-part : (now target before after c d : Configuration) (whole part : Step) → HasMembersOf now target before × HasMembersOf now target after → IsPart before whole after c part d
    → HasMembersOf now target d
HasMembersOf-part now target before after c d whole part both is q here = grind (arith, is_member-alike)

-- ---- all of it
pub one_change_each-leads : (strategy : Strategy) (down : Ids) (now target : Configuration) → IsValidWithVoter now → IsValidWithVoter target → has_path strategy now target ≡ true
    → LeadsChangeByChange now (path_by strategy down now target) target
one_change_each-leads strategy down now target now_valid_with_voter valid_with_voter way =
    let steps = path_by strategy down now target in
    let voters = path_by-keeps_voters strategy down now target now_valid_with_voter valid_with_voter way in
    let parts = path_by-of_proposals ComesInParts strategy down now target now_valid_with_voter valid_with_voter way ComesInParts-of_proposals in
    let adds = path_by-adds strategy down now target now_valid_with_voter valid_with_voter way in
    record {
      run = IsRun-from_IsRunWith (λ before step after. HasVotersOnTheWay now steps after) now target (one_change_each steps) voters;
      voters = voters;
      quorums = λ keeps.
          each-of_voters (λ v. (ids : Ids) → IsTrue (is_quorum (voters_of now) ids) → IsTrue (is_quorum (voters_of target) ids) → IsTrue (is_quorum v ids)) now target steps (one_change_each steps)
          (λ ids of_now of_target. of_now) keeps voters;
      tolerance = λ others keeps.
          each-of_voters (λ v. (k : ℕ) → Tolerates (voters_of now) others k → Tolerates (voters_of target) others k → Tolerates v others k) now target steps (one_change_each steps)
          (λ k by_now by_target. by_now) keeps voters;
      members =
          in_parts-hold (λ before step after. HasMembersOf now target before × HasMembersOf now target after) (λ before step after. HasMembersOf now target after) (HasMembersOf-part now target) now target
          steps parts (members-along now target now steps (λ q here. or_left _ _ here) adds);
      ready = in_parts-hold MakesVotersOfReady MakesVotersOfReady MakesVotersOfReady-part now target steps parts;
      caught_up = in_parts-hold NoVoterCatchesUp NoVoterCatchesUp NoVoterCatchesUp-part now target steps parts;
    }
