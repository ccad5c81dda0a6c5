use Rattle.std.proofs.Common.{◌≡◌, ℕ, true, false, ◌||◌, sym, subst, ◌∙◌}
use Rattle.std.proofs.lemmas.Bool.{or_left}
use Rattle.quorum_sets.specs.Ids.{has, is_empty}
use Rattle.quorum_sets.specs.Tolerance.{Tolerates}
use Rattle.quorum_sets.specs.Voters.{is_quorum}
use Rattle.quorum_sets.proofs.Offered.{has-union}
use Rattle.conf_change.specs.Configuration.{is_joint, member_ids, voters_of}
use Rattle.conf_change.proofs.Offered.{has-all_members}
use Rattle.conf_plan.specs.OneChangeEach.{one_change_each}
use Rattle.conf_plan.specs.OnTheWay.{IsAsTolerant, MakesVotersOfReady}
use Rattle.conf_plan.specs.PathBy.{path_by}
use Rattle.conf_driver.specs.IdSets.{◌∩◌, ◌∖◌}
use Rattle.conf_driver.specs.Next.{situation}
use Rattle.conf_driver.specs.Situation.{is_less, tolerance}
use Rattle.conf_driver.specs.View.{heard_from, up_and_caught_up, voter_ids}
use Rattle.conf_driver.proofs.Counted.{IsCounted}
use Rattle.conf_driver.proofs.Counting.{Tolerates-after_step, Tolerates-from_commits, commits-from_Tolerates, is_quorum-up, votes}
use Rattle.conf_driver.proofs.FirstStep.{after_first-is, first-holds, path-tolerates, voters-learn_first, voters-were_members}
use Rattle.conf_driver.proofs.IdsByMember.{has-common-is, has-without-is, up-unless_down}
use Rattle.conf_driver.proofs.PathStalls.{target-commits}
use Rattle.conf_driver.proofs.Proposed.{IsProposed-from_answer, first_step}
use Rattle.conf_driver.proofs.RowsPassed.{behind-passed, new_voters-passed, quorum_up-passed, silent-passed, stalls-passed}
use Rattle.conf_driver.proofs.WhoIsUp.{up-not_down}
use Rattle.conf_driver.proofs.laws.steps_keep_quorums.Goals as goal

pub returns : goal.returns
returns c strategy target down view step after can is gives =
    let now = view.conf_state in
    let up = up_and_caught_up down view in
    let heard = heard_from view in
    let path = path_by strategy down now target in
    let steps = one_change_each path in
    let s = situation strategy target down view in
    let fits = c.most_down_by_counting.ensures.fits in
    let commits = c.most_down_by_counting.ensures.commits in
    let fewer = c.fewer_uncounted_tolerate_more.ensures in
    let proposed = IsProposed-from_answer s steps step is in
    let first = first_step steps step proposed.last in
    let same = after_first-is now after steps first.0 step first.1 gives in
    let promises = c.paths_keep_promises.ensures.promises strategy down now target can.valid_now can.valid_target can.path in
    let leads = c.one_change_each_leads.ensures strategy down now target can.valid_now can.valid_target can.path in
    let tolerant = path-tolerates strategy down now target path promises in
    let ready : MakesVotersOfReady now step after =
    first-holds MakesVotersOfReady now target after steps first.0 step first.1 gives (leads.ready (voters-learn_first strategy down now target path can.not_shortest promises)) in
    let as_tolerant : IsAsTolerant down now target after =
    first-holds (λ b x d. IsAsTolerant down now target d) now target after steps first.0 step first.1 gives (leads.tolerance down tolerant) in
    let lagging : is_empty (voter_ids after ∩ member_ids now ∖ voter_ids now ∖ down ∖ up) ≡ true =
    subst (λ d. is_empty (voter_ids d ∩ member_ids now ∖ voter_ids now ∖ down ∖ up) ≡ true) same (new_voters-passed s proposed.new_voter_lags) in
    let behind : is_empty (voter_ids after ∩ member_ids now ∩ heard ∖ down ∖ up) ≡ true =
    subst (λ d. is_empty (voter_ids d ∩ member_ids now ∩ heard ∖ down ∖ up) ≡ true) same (behind-passed s proposed.voter_is_behind) in
    let caught_up : (id : ℕ) → votes after id ≡ true → has down id ≡ false → has heard id ≡ true → has up id ≡ true =
    λ id voter not_down is_heard.
    let member = voters-were_members now after step id gives ready voter in
    let known = has-common-is (voter_ids after) (member_ids now) id (has-union after.incoming after.outgoing id ∙ voter) (has-all_members now id ∙ member) in
    up-unless_down (voter_ids after ∩ member_ids now ∩ heard) down up id behind (has-common-is (voter_ids after ∩ member_ids now) heard id known is_heard) not_down in
    let silent : (is_joint after || is_less (tolerance after up) (tolerance now up)) ≡ true → is_empty (voter_ids after ∖ down ∖ heard) ≡ true =
    subst (λ d. (is_joint d || is_less (tolerance d up) (tolerance now up)) ≡ true → is_empty (voter_ids d ∖ down ∖ heard) ≡ true) same
    (silent-passed s proposed.voter_is_silent) in
    let all_heard : (is_joint after || is_less (tolerance after up) (tolerance now up)) ≡ true → (id : ℕ) → votes after id ≡ true → has down id ≡ false → has heard id ≡ true =
    λ worse id voter not_down. up-unless_down (voter_ids after) down heard id (silent worse) (has-union after.incoming after.outgoing id ∙ voter) not_down in
    let kept = Tolerates-after_step fits fewer now after target down heard up (up-not_down down view) caught_up all_heard as_tolerant in
    let before : is_quorum (voters_of now) up ≡ true = quorum_up-passed s proposed.no_quorum_is_up in
    let counted : IsCounted = record { fits = fits; commits = commits; fewer = fewer } in
    let of_target : Tolerates (voters_of target) down 0 =
    Tolerates-from_commits fits commits (voters_of target) down (target-commits counted strategy down now target path promises (stalls-passed s proposed.path_stalls)) in
    record {
      before = before;
      then = is_quorum-up after up ∙ commits-from_Tolerates fits commits (voters_of after) (voter_ids after ∖ up)
          (kept 0 (Tolerates-from_commits fits commits (voters_of now) (voter_ids now ∖ up) (sym (is_quorum-up now up) ∙ before)) of_target);
      tolerance = kept;
      learners = λ id incoming new. (ready id incoming new).learner;
      new_voters = λ id voter new not_down.
          let member = voters-were_members now after step id gives ready voter in
          let known = has-common-is (voter_ids after) (member_ids now) id (has-union after.incoming after.outgoing id ∙ voter) (has-all_members now id ∙ member) in
          up-unless_down (voter_ids after ∩ member_ids now ∖ voter_ids now) down up id lagging (has-without-is (voter_ids after ∩ member_ids now) (voter_ids now) id known (has-union now.incoming now.outgoing id ∙ new)) not_down;
      caught_up = λ id voter is_heard not_down. caught_up id voter not_down is_heard;
      joint = λ joint id voter not_down. caught_up id voter not_down (all_heard (or_left _ _ joint) id voter not_down);
    }
