use Rattle.std.proofs.Common.{◌≡◌, ℕ, ◌<◌, true, false, not, ◌&&◌, ◌||◌, List, [], ◌∷◌, ◌++◌, refl, sym, ap, subst, ◌∙◌, arith, inl, inr, ◌⊎◌}
use Rattle.std.specs.Prelude.{None, nat_eq, nat_le, unwrap_or}
use Rattle.std.proofs.lemmas.Bool.{and_from, and_left, and_parts, and_right, both_ways, cases_Bool, cond-true, lt-leb, ne_eqb, or_from, or_left, or_parts}
use Rattle.quorum_sets.specs.Ids.{Ids, has, is_empty}
use Rattle.quorum_sets.specs.Voters.{is_quorum}
use Rattle.quorum_sets.proofs.Offered.{has-union}
use Rattle.conf_change.specs.Configuration.{Configuration, ValidByMember, is_joint, is_member, is_same, member_ids, voters_of}
use Rattle.conf_change.specs.declared.step.Step.{Step}
use Rattle.conf_change.proofs.Offered.{ValidByMember-from_is_valid, has-all_members, has-none_in_empty, is_same-is_equality}
use Rattle.conf_plan.specs.OneChangeEach.{one_change_each}
use Rattle.conf_plan.specs.PathBy.{path_by}
use Rattle.conf_plan.specs.Run.{IsRun}
use Rattle.conf_plan.specs.declared.strategy.Strategy.{Strategy}
use Rattle.conf_driver.specs.IdSets.{◌∪◌, ◌∩◌, ◌∖◌, just}
use Rattle.conf_driver.specs.MayPropose.{MayPropose}
use Rattle.conf_driver.specs.Next.{next_of, propose_first, situation}
use Rattle.conf_driver.specs.Proposals.{KeepsQuorum}
use Rattle.conf_driver.specs.Rows as row
use Rattle.conf_driver.specs.Rows.{first_of, may_stop, rows_of_path, rows_of_step, rows_of_view, successors, transfer_to_one, wait_for}
use Rattle.conf_driver.specs.Situation.{Situation, has_step, is_less, tolerance}
use Rattle.conf_driver.specs.View.{ViewState, having, heard_from, lacking, match_of, up_and_caught_up, voter_ids}
use Rattle.conf_driver.specs.declared.action.Action.TheVariants.{Propose, Start, Stop, Stuck, Wait}
use Rattle.conf_driver.specs.declared.action.StuckReason.TheVariants.{Reused}
use Rattle.conf_driver.specs.declared.action.WaitReason.TheVariants.{Behind, Heard, Unheard}
use Rattle.conf_driver.proofs.Counted.{IsCounted, quorum-of_more}
use Rattle.conf_driver.proofs.Counting.{is_quorum-not_down}
use Rattle.conf_driver.proofs.FirstStep.{after_first-is}
use Rattle.conf_driver.proofs.IdsByMember.{common-is_empty, has-common-is, has-without-is, in-common, in-second, in-without, not-in_second, up-unless_down, without-is_empty}
use Rattle.conf_driver.proofs.Leaders.{leader-up, member-silent, none-heard, voter-not_zero}
use Rattle.conf_driver.proofs.PathStalls.{stalls_not-at_its_ends, target-commits}
use Rattle.conf_driver.proofs.Proposed.{IsProposed-from_answer, first_step}
use Rattle.conf_driver.proofs.RowsNone.{if-both_none, if-none, if_any-empty, none-answers, unless-none, when-false}
use Rattle.conf_driver.proofs.RowsPassed.{heard-passed, nonvoter-passed, quorum-passed, reused-passed, silent-passed, stalls-passed, started-passed, stopped-passed}
use Rattle.conf_driver.proofs.Sizes.{id-of_some}
use Rattle.conf_driver.proofs.WhoIsUp.{has-having, has-up, less-lacking}
use Rattle.conf_driver.proofs.laws.arrival.steps_are_proposed_in_time.Goals as goal

-- ---- a step is proposed, so nothing holds it up
-- who is up is heard from, so a quorum is
quorum-heard : IsCounted → (down : Ids) (view : ViewState) → is_quorum (voters_of view.conf_state) (up_and_caught_up down view) ≡ true
    → is_quorum (voters_of view.conf_state) (voter_ids view.conf_state ∩ heard_from view ∖ down) ≡ true
quorum-heard counted down view quorum =
    let now = view.conf_state in
    quorum-of_more counted now (up_and_caught_up down view) (voter_ids now ∩ heard_from view ∖ down) (λ q voter is_up.
    let parts = and_parts (nat_le _ (match_of view q)) _ (sym (has-up down view q) ∙ is_up) in
    let tests = and_parts (is_member now q && has (heard_from view) q) _ parts.1 in
    let heard = (and_parts (is_member now q) _ tests.0).1 in
    has-without-is (voter_ids now ∩ heard_from view) down q (has-common-is (voter_ids now) (heard_from view) q voter heard) (grind (arith, tests.1))) quorum

-- no server is to be stopped, or a member does not know the configuration
stopped-or_unknown : (view : ViewState) (target : Configuration) (down : Ids) (s : Situation) → s.running ≡ view.running → s.members ≡ member_ids view.conf_state → s.target ≡ target
    → s.lack_configuration ≡ lacking view view.conf_index (member_ids view.conf_state ∖ down) → is_quorum (voters_of s.before) (s.voters ∩ s.heard ∖ s.down) ≡ true → row.not_stopped s ≡ None
    → ((id : ℕ) → has view.running id ≡ true → (is_member view.conf_state id || is_member target id) ≡ true)
    ⊎ ((id : ℕ) × (is_member view.conf_state id ≡ true) × (has down id ≡ false) × (match_of view id < view.conf_index))
stopped-or_unknown view target down s running members there lack heard passed = elim (cases_Bool (is_empty s.lack_configuration)) [
  | inl known ↦ inl (λ id runs.
      let none = stopped-passed s passed (and_from (is_empty s.lack_configuration) _ known heard) in
      let gone = s.running ∖ s.members in
      elim (cases_Bool (has s.members id)) [
        | inl member ↦ or_left _ _ (sym (has-all_members view.conf_state id) ∙ ap (λ m. has m id) (sym members) ∙ member)
        | inr other ↦
            let in_target = in-second gone (member_ids s.target) id none (has-without-is s.running s.members id (ap (λ r. has r id) running ∙ runs) other) in
            let of_target : is_member target id ≡ true = sym (has-all_members target id) ∙ ap (λ t. has (member_ids t) id) (sym there) ∙ in_target in
            grind (arith, of_target)
      ])
  | inr some ↦
      let one = id-of_some s.lack_configuration some in
      let less = less-lacking view view.conf_index (member_ids view.conf_state ∖ down) one.0 (ap (λ l. has l one.0) (sym lack) ∙ one.1) in
      let parts = in-without (member_ids view.conf_state) down one.0 less.0 in
      inr (one.0, sym (has-all_members view.conf_state one.0) ∙ parts.0, parts.1, less.1)
]

-- ---- nothing holds a step up, so it is proposed
-- a path with a step
record HasFirst (steps : List Step) : Type 0 where
  step : Step
  first : propose_first steps ≡ Propose step
  some : has_step steps ≡ true

HasFirst-from_some : (steps : List Step) → (steps ≡ [] → ⊥) → HasFirst steps
HasFirst-from_some [] some = absurd (some refl)
HasFirst-from_some (step ∷ steps) some = record { step = step; first = refl; some = grind arith }

proposed-in_time : (strategy : Strategy) (target : Configuration) (down : Ids) (view : ViewState) → ValidByMember view.conf_state
    → (situation strategy target down view).stalls ≡ false
    → HasFirst (one_change_each (path_by strategy down view.conf_state target)) → MayPropose target down view (situation strategy target down view).after
    → (step : Step) × (next_of strategy target down view ≡ Propose step)
proposed-in_time strategy target down view valid stalls_not first may =
    let now = view.conf_state in
    let s = situation strategy target down view in
    let steps = one_change_each (path_by strategy down now target) in
    let after = s.after in
    let up = up_and_caught_up down view in
    let heard = heard_from view in
    let votes : has (voter_ids now) view.lead ≡ true = has-union now.incoming now.outgoing view.lead ∙ may.leader in
    let some = voter-not_zero now view.lead valid votes in
    let none_pending : not (nat_eq view.pending_conf_index 0) ≡ false = ap (λ n. not (nat_eq n 0)) may.not_pending in
    let leads_after : has (voter_ids after) view.lead ≡ true = has-union after.incoming after.outgoing view.lead ∙ may.leader_after in
    let voter_after : (q : ℕ) → has (voter_ids after) q ≡ true → (has after.incoming q || has after.outgoing q) ≡ true = λ q here. sym (has-union after.incoming after.outgoing q) ∙ here in
    let votes_not : (q : ℕ) → has (voter_ids now) q ≡ false → (has now.incoming q || has now.outgoing q) ≡ false = λ q not_here. sym (has-union now.incoming now.outgoing q) ∙ not_here in
    let named = none-heard heard (member_ids now) down view.lead (λ q is_down member. may.silent q is_down (sym (has-all_members now q) ∙ member)) may.leader_up in
    let reused : is_empty ((member_ids target ∖ voter_ids now) ∩ view.retired) ≡ true = common-is_empty (member_ids target ∖ voter_ids now) view.retired (λ q here.
    let parts = in-without (member_ids target) (voter_ids now) q here in
    may.not_reused q (sym (has-all_members target q) ∙ parts.0) (votes_not q parts.1)) in
    let wanted = (member_ids after ∪ member_ids now) ∩ member_ids target in
    let started : is_empty (wanted ∖ voter_ids now ∖ down ∖ view.running) ≡ true = without-is_empty (wanted ∖ voter_ids now ∖ down) view.running (λ q here.
    let of_down = in-without (wanted ∖ voter_ids now) down q here in
    let of_voters = in-without wanted (voter_ids now) q of_down.0 in
    let both = in-common (member_ids after ∪ member_ids now) (member_ids target) q of_voters.0 in
    let either : (is_member after q || is_member now q) ≡ true = grind (arith, both.0, has-union (member_ids after) (member_ids now) q, has-all_members after q, has-all_members now q) in
    may.started q either (sym (has-all_members target q) ∙ both.1) (votes_not q of_voters.1) of_down.1) in
    let not_stopped : row.not_stopped s ≡ None = elim may.stopped [
      | inl members ↦ if-both_none (may_stop s) _ (if_any-empty _ Stop (without-is_empty (view.running ∖ member_ids now) (member_ids target) (λ q here.
          let parts = in-without view.running (member_ids now) q here in
          let member = members q parts.0 in
          let not_now : is_member now q ≡ false = sym (has-all_members now q) ∙ parts.1 in
          has-all_members target q ∙ grind (arith, member, not_now))))
      | inr unknown ↦
          let lacks : has (lacking view view.conf_index (member_ids now ∖ down)) unknown.0 ≡ true =
          has-without-is (member_ids now ∖ down) (having view view.conf_index (member_ids now ∖ down)) unknown.0
          (has-without-is (member_ids now) down unknown.0 (has-all_members now unknown.0 ∙ unknown.1) unknown.2)
          (has-having view view.conf_index (member_ids now ∖ down) unknown.0 ∙ and_left _ _ (lt-leb view.conf_index (match_of view unknown.0) unknown.3)) in
          let some_lacks : is_empty (lacking view view.conf_index (member_ids now ∖ down)) ≡ false = elim (cases_Bool (is_empty (lacking view view.conf_index (member_ids now ∖ down)))) [
            | inl none ↦ absurd (both_ways _ (has-none_in_empty (lacking view view.conf_index (member_ids now ∖ down)) none unknown.0) lacks)
            | inr some_left ↦ some_left
          ] in
          if-none (may_stop s) _ (and_left (is_empty (lacking view view.conf_index (member_ids now ∖ down))) _ some_lacks)
    ] in
    let new : is_empty (voter_ids after ∩ member_ids now ∖ voter_ids now ∖ down ∖ up) ≡ true = without-is_empty (voter_ids after ∩ member_ids now ∖ voter_ids now ∖ down) up (λ q here.
    let of_down = in-without (voter_ids after ∩ member_ids now ∖ voter_ids now) down q here in
    let of_voters = in-without (voter_ids after ∩ member_ids now) (voter_ids now) q of_down.0 in
    may.new_voters q (voter_after q (in-common (voter_ids after) (member_ids now) q of_voters.0).0) (votes_not q of_voters.1) of_down.1) in
    let behind : is_empty (voter_ids after ∩ member_ids now ∩ heard ∖ down ∖ up) ≡ true = without-is_empty (voter_ids after ∩ member_ids now ∩ heard ∖ down) up (λ q here.
    let of_down = in-without (voter_ids after ∩ member_ids now ∩ heard) down q here in
    let of_heard = in-common (voter_ids after ∩ member_ids now) heard q of_down.0 in
    may.caught_up q (voter_after q (in-common (voter_ids after) (member_ids now) q of_heard.0).0) of_heard.1 of_down.1) in
    let silent : row.voter_is_silent s ≡ None = elim may.heard [
      | inl all ↦ if-both_none (is_joint after || is_less (tolerance after up) (tolerance now up)) _ (if_any-empty (voter_ids after ∖ down ∖ heard) (Wait Unheard) (without-is_empty (voter_ids after ∖ down) heard (λ q here.
          let parts = in-without (voter_ids after) down q here in
          all q (voter_after q parts.0) parts.1)))
      | inr no_worse ↦ if-none (is_joint after || is_less (tolerance after up) (tolerance now up)) _ (or_from _ _ no_worse.0 no_worse.1)
    ] in
    let none : first_of (rows_of_view s ++ rows_of_path s ++ rows_of_step s) ≡ None = none-answers (rows_of_view s ++ rows_of_path s ++ rows_of_step s) (
      when-false (not (is_quorum (voters_of now) (voter_ids now ∖ down))) _ (ap not (is_quorum-not_down now down ∙ may.quorum)),
      (
        if_any-empty (down ∩ (heard ∩ member_ids now ∪ just view.lead)) (Wait Heard) named,
        (
          when-false (nat_eq view.lead 0) _ (ne_eqb view.lead 0 some),
          (
            unless-none (has (voter_ids now) view.lead) _ votes,
            (
              if-none (not (nat_eq view.pending_conf_index 0)) (transfer_to_one s (successors s)) none_pending,
              (
                when-false (not (nat_eq view.pending_conf_index 0)) _ none_pending,
                (
                  when-false s.stalls _ stalls_not,
                  (
                    if_any-empty ((member_ids target ∖ voter_ids now) ∩ view.retired) (Stuck Reused) reused,
                    (
                      if_any-empty (wanted ∖ voter_ids now ∖ down ∖ view.running) Start started,
                      (
                        not_stopped,
                        (
                          when-false (s.has_step && now.auto_leave) _ (and_right s.has_step _ may.not_left),
                          (
                            unless-none (has (voter_ids after) view.lead) _ leads_after,
                            (
                              unless-none (has (voter_ids after) view.lead) _ leads_after,
                              (
                                when-false (not s.has_step) _ (ap not first.some),
                                (
                                  if_any-empty (voter_ids after ∩ member_ids now ∖ voter_ids now ∖ down ∖ up) (wait_for s) new,
                                  (
                                    if_any-empty (voter_ids after ∩ member_ids now ∩ heard ∖ down ∖ up) (Wait Behind) behind,
                                    (
                                      when-false (not (is_quorum (voters_of now) up)) _ (ap not may.quorum_up),
                                      (silent, tt),
                                    ),
                                  ),
                                ),
                              ),
                            ),
                          ),
                        ),
                      ),
                    ),
                  ),
                ),
              ),
            ),
          ),
        ),
      ),
    ) in
    (first.step, ap (λ found. unwrap_or found (propose_first steps)) none ∙ first.first)

-- ---- both ways
pub returns : goal.returns
returns c strategy target down view can =
    let now = view.conf_state in
    let s = situation strategy target down view in
    let path = path_by strategy down now target in
    let steps = one_change_each path in
    let up = up_and_caught_up down view in
    let counted : IsCounted = record { fits = c.most_down_by_counting.ensures.fits; commits = c.most_down_by_counting.ensures.commits; fewer = c.fewer_uncounted_tolerate_more.ensures } in
    let promises = c.paths_keep_promises.ensures.promises strategy down now target can.valid_now can.valid_target can.path in
    let leads = c.one_change_each_leads.ensures strategy down now target can.valid_now can.valid_target can.path in (
      λ proposal.
          let step = proposal.0 in
          let is = proposal.1 in
          let proposed = IsProposed-from_answer s steps step is in
          let first = first_step steps step proposed.last in
          let run = subst (λ taken. IsRun now taken target) first.1 leads.run in
          let after = s.after in
          let same : after ≡ run.0 = after_first-is now run.0 steps first.0 step first.1 run.1 in
          let kept = subst (KeepsQuorum down (heard_from view) up now target) (sym same) (c.steps_keep_quorums.ensures strategy target down view step run.0 can is run.1) in
          let accepted = c.proposals_are_accepted.ensures.first strategy target down view step can is in
          let leads_after = c.leadership_moves_to_who_may_lead.ensures.proposal strategy target down view step can is in
          let named = heard-passed s proposed.down_is_heard in
          record {
            not_pending = c.proposals_are_accepted.ensures.not_pending strategy target down view step is;
            other = λ same_one.
                let none : steps ≡ [] = ap one_change_each (cond-true (is_same now target) [] _ ((is_same-is_equality now target).1 same_one)) in
                let two : [] ≡ step ∷ first.0 = sym none ∙ first.1 in
                absurd (cc);
            not_left = accepted.not_left;
            leader = sym (has-union now.incoming now.outgoing view.lead) ∙ nonvoter-passed s proposed.nonvoter_leads;
            leader_after = sym (has-union after.incoming after.outgoing view.lead) ∙ leads_after;
            leader_up = leader-up (heard_from view) (member_ids now) down view.lead named;
            quorum = sym (is_quorum-not_down now down) ∙ quorum-passed s proposed.quorum_lost;
            target_quorum = target-commits counted strategy down now target path promises (stalls-passed s proposed.path_stalls);
            silent = λ id is_down member. member-silent (heard_from view) (member_ids now) down view.lead id named is_down (has-all_members now id ∙ member);
            not_reused = λ id member votes_not.
                not-in_second (member_ids target ∖ voter_ids now) view.retired id (reused-passed s proposed.id_is_reused)
                (has-without-is (member_ids target) (voter_ids now) id (has-all_members target id ∙ member) (has-union now.incoming now.outgoing id ∙ votes_not));
            started = λ id either member votes_not not_down.
                let all = member_ids after ∪ member_ids now in
                let in_all : has all id ≡ true = grind (arith, either, has-union (member_ids after) (member_ids now) id, has-all_members after id, has-all_members now id) in
                let wanted = has-common-is all (member_ids target) id in_all (has-all_members target id ∙ member) in
                let of_voters = has-without-is (all ∩ member_ids target) (voter_ids now) id wanted (has-union now.incoming now.outgoing id ∙ votes_not) in
                in-second (all ∩ member_ids target ∖ voter_ids now ∖ down) view.running id (started-passed s proposed.not_started) (has-without-is (all ∩ member_ids target ∖ voter_ids now) down id of_voters not_down);
            stopped = stopped-or_unknown view target down s refl refl refl refl (quorum-heard counted down view kept.before) proposed.not_stopped;
            new_voters = kept.new_voters;
            caught_up = kept.caught_up;
            quorum_up = kept.before;
            heard = elim (cases_Bool (is_joint after || is_less (tolerance after up) (tolerance now up))) [
              | inl worse ↦ inl (λ id voter not_down. up-unless_down (voter_ids after) down (heard_from view) id (silent-passed s proposed.voter_is_silent worse) (has-union after.incoming after.outgoing id ∙ voter) not_down)
              | inr no_worse ↦ inr (or_parts (is_joint after) _ no_worse)
            ];
          },
      λ may.
          let valid = ValidByMember-from_is_valid now can.valid_now.valid in
          let stalls_not = stalls_not-at_its_ends counted strategy down now target path can.not_shortest promises may.quorum may.target_quorum in
          let first = HasFirst-from_some steps (λ none. may.other (subst (λ taken. IsRun now taken target) none leads.run)) in
          proposed-in_time strategy target down view valid stalls_not first may,
    )
