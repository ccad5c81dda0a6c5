use Rattle.std.proofs.Common.{◌≡◌, ℕ, ◌-◌, Bool, true, false, not, ◌||◌, List, [], ◌∷◌, ◌++◌, refl, sym, ap, subst, ◌∙◌, arith, inl, inr, ◌⊎◌, is_some}
use Rattle.std.specs.Prelude.{Option, Some, None, nat_eq, nat_le, unwrap_or, if◌then◌else◌}
use Rattle.std.specs.Option.{is_none}
use Rattle.std.proofs.lemmas.Bool.{and_from, and_parts, both_ways, cases_Bool, cond-true, cond-false, leb-true, le-leb, or_left, or_right, ne_eqb}
use Rattle.quorum_sets.specs.Ids.{Ids, has, is_empty, no_ids, union}
use Rattle.quorum_sets.specs.Tolerance.{commits_without, may_be_down}
use Rattle.quorum_sets.specs.Voters.{is_quorum}
use Rattle.quorum_sets.proofs.Offered.{has-no_ids, has-same_ids, has-union}
use Rattle.conf_change.specs.Configuration.{Configuration, is_member, is_same, is_valid, member_ids, voters_of, ValidByMember}
use Rattle.conf_change.specs.declared.step.Step.{Step}
use Rattle.conf_change.proofs.Offered.{ValidByMember-from_is_valid, has-all_members, is_same-is_equality}
use Rattle.conf_plan.specs.OneChangeEach.{one_change_each}
use Rattle.conf_plan.specs.PathBy.{path_by}
use Rattle.conf_plan.specs.Run.{IsRun}
use Rattle.conf_plan.specs.declared.strategy.Strategy.{Strategy}
use Rattle.plan_output.specs.Stages.{stalls}
use Rattle.conf_driver.specs.AtTarget.{IsDone}
use Rattle.conf_driver.specs.IdSets.{◌∪◌, ◌∩◌, ◌∖◌}
use Rattle.conf_driver.specs.Next.{answer_in, answer_on, next_of, propose_first, situation}
use Rattle.conf_driver.specs.Rows as row
use Rattle.conf_driver.specs.Rows.{done_or_wait, first_of, if_any, may_stop, needed_at_target, rows_of_path, rows_of_step, rows_of_view, successors, transfer_to_one, wait_for}
use Rattle.conf_driver.specs.Situation.{Situation, after_first, has_step, situation_of}
use Rattle.conf_driver.specs.View.{ViewState, caught_up_index, having, heard_from, known_index, lacking, match_of, up_and_caught_up, voter_ids}
use Rattle.conf_driver.specs.declared.action.Action.TheVariants.{Done, Start, Stop, Stuck, Wait}
use Rattle.conf_driver.specs.declared.action.StuckReason.TheVariants.{Reused}
use Rattle.conf_driver.specs.declared.action.WaitReason.TheVariants.{Heard}
use Rattle.conf_driver.proofs.Counting.{is_quorum-not_down}
use Rattle.conf_driver.proofs.FirstRow.{by_rows, kind, kind-wait_for}
use Rattle.conf_driver.proofs.IdsByMember.{has-common, has-common-is, has-without, has-without-is, in-common, in-second, in-without, common-is_empty, without-is_empty, not-in_second, up-unless_down, union-right, union-neither}
use Rattle.conf_driver.proofs.Leaders.{leader-up, member-silent, none-heard, voter-not_zero}
use Rattle.conf_driver.proofs.Proposed.{zero-from_test}
use Rattle.conf_driver.proofs.RowAnswers.{when-none, when-some}
use Rattle.conf_driver.proofs.RowsNone.{if-both_none, if-none, if_any-empty, left_out, unless-none, when-false}
use Rattle.conf_driver.proofs.RowsPassed.{heard-passed, nonvoter-passed, pending-passed, quorum-passed, reused-passed, started-passed, stopped-passed}
use Rattle.conf_driver.proofs.WhoIsUp.{has-having, has-up}
use Rattle.conf_driver.proofs.laws.done_is_done.Goals as goal

-- ---- that all is done, by the rows
record IsReached (s : Situation) (steps : List Step) : Type 0 where
  quorum_lost : row.quorum_lost s ≡ None
  down_is_heard : row.down_is_heard s ≡ None
  nonvoter_leads : row.nonvoter_leads s ≡ None
  is_pending : row.is_pending s ≡ None
  id_is_reused : row.id_is_reused s ≡ None
  not_started : row.not_started s ≡ None
  not_stopped : row.not_stopped s ≡ None
  last : (row.at_target s ≡ Some Done) ⊎ ((row.at_target s ≡ None) × (steps ≡ []))

last_is_done : (steps : List Step) → propose_first steps ≡ Done → steps ≡ []
last_is_done [] is = refl
last_is_done (step ∷ steps) is = absurd (cc)

IsReached-from_answer : (s : Situation) (steps : List Step) → answer_in s steps ≡ Done → IsReached s steps
IsReached-from_answer s steps is = by_rows (IsReached s steps) s steps Done (λ a b c d e f g h i j k l m. (
  λ here. record { quorum_lost = a; down_is_heard = b; nonvoter_leads = d; is_pending = f; id_is_reused = h; not_started = i; not_stopped = j; last = inl here },
  λ n o p q r last. record { quorum_lost = a; down_is_heard = b; nonvoter_leads = d; is_pending = f; id_is_reused = h; not_started = i; not_stopped = j; last = inr (n, last_is_done steps last) },
)) is

some_step : (step : Step) (steps : List Step) → has_step (step ∷ steps) ≡ true
some_step step steps = grind arith

no_step : (steps : List Step) → not (has_step steps) ≡ true → steps ≡ []
no_step [] is = refl
no_step (step ∷ steps) is = absurd (both_ways _ (ap not (some_step step steps)) is)

done-none : (s : Situation) (ids : Ids) → done_or_wait s ids ≡ Done → is_empty ids ≡ true
done-none s ids is = by_test (is_empty ids) is
  where
    by_test : (test : Bool) → (if test then Done else wait_for s ids) ≡ Done → test ≡ true
    by_test true is = refl
    by_test false is = absurd (let same : kind (wait_for s ids) ≡ 6 = ap kind is in omega (arith, same, kind-wait_for s ids))

-- there is no step, and no id that has to have caught up lacks anything
record IsAtEnd (s : Situation) (steps : List Step) : Type 0 where
  steps_none : steps ≡ []
  none_left : is_empty (needed_at_target s ∖ s.down ∖ s.up) ≡ true

at_end : (s : Situation) (steps : List Step) → s.has_step ≡ has_step steps → (row.at_target s ≡ Some Done) ⊎ ((row.at_target s ≡ None) × (steps ≡ [])) → IsAtEnd s steps
at_end s steps same (inl here) =
    let parts = when-some (not s.has_step) (done_or_wait s (needed_at_target s ∖ s.down ∖ s.up)) Done here in
    record { steps_none = no_step steps (ap not (sym same) ∙ parts.0); none_left = done-none s _ parts.1 }
at_end s steps same (inr other) = grind (arith, false, both_ways, when-none, not)

-- ---- who is needed
-- where a voter leads and each member that is not down is up, each of these knows the configuration
none_lacks : (down : Ids) (view : ViewState) → has (voter_ids view.conf_state) view.lead ≡ true
    → is_empty (member_ids view.conf_state ∖ down ∖ up_and_caught_up down view) ≡ true
    → is_empty (lacking view view.conf_index (member_ids view.conf_state ∖ down)) ≡ true
none_lacks down view leads all_up =
    let now = view.conf_state in
    let counted = member_ids now ∖ down in
    let same : known_index view ≡ view.conf_index = cond-true (has (voter_ids now) view.lead) view.conf_index (view.conf_index - 1) leads in
    without-is_empty counted (having view view.conf_index counted) (λ q here.
    let parts = in-without (member_ids now) down q here in
    let is_up = up-unless_down (member_ids now) down (up_and_caught_up down view) q all_up parts.0 parts.1 in
    let late : nat_le (caught_up_index view) (match_of view q) ≡ true = (and_parts (nat_le (caught_up_index view) (match_of view q)) _ (sym (has-up down view q) ∙ is_up)).0 in
    let reaches = leb-true (caught_up_index view) (match_of view q) late in
    has-having view view.conf_index counted q ∙ and_from _ _ (le-leb view.conf_index (match_of view q) (omega (arith, reaches, same))) here)

-- there the voters that are heard from are a quorum, if those that are not down are one
heard-count : (down : Ids) (view : ViewState) → is_empty (member_ids view.conf_state ∖ down ∖ up_and_caught_up down view) ≡ true
    → is_quorum (voters_of view.conf_state) (voter_ids view.conf_state ∖ down) ≡ true
    → is_quorum (voters_of view.conf_state) (voter_ids view.conf_state ∩ heard_from view ∖ down) ≡ true
heard-count down view all_up quorum =
    let now = view.conf_state in
    let heard = heard_from view in
    let same : (voter_ids now ∩ heard ∖ down) ≡ (voter_ids now ∖ down) = has-same_ids _ _ (λ q. elim (cases_Bool (has (voter_ids now ∖ down) q)) [
      | inl here ↦
          let parts = in-without (voter_ids now) down q here in
          let member : is_member now q ≡ true = or_left _ (has now.learners q) (sym (has-union now.incoming now.outgoing q) ∙ parts.0) in
          let is_up = up-unless_down (member_ids now) down (up_and_caught_up down view) q all_up (has-all_members now q ∙ member) parts.1 in
          let is_heard : has heard q ≡ true = grind (arith, is_up, has-up down view q) in
          has-without-is (voter_ids now ∩ heard) down q (has-common-is (voter_ids now) heard q parts.0 is_heard) parts.1 ∙ sym here
      | inr other ↦ grind (arith, other, has-without (voter_ids now) down q, has-without (voter_ids now ∩ heard) down q, has-common (voter_ids now) heard q)
    ]) in
    ap (is_quorum (voters_of now)) same ∙ quorum

-- a learner is no voter
learner-votes_not : (c : Configuration) (id : ℕ) → ValidByMember c → has c.learners id ≡ true → has (voter_ids c) id ≡ false
learner-votes_not c id members learner = union-neither c.incoming c.outgoing id (members.learner_incoming id learner) (members.learner_outgoing id learner)

-- a member that is no voter is a learner
learner-from_member : (c : Configuration) (id : ℕ) → is_member c id ≡ true → has (voter_ids c) id ≡ false → has c.learners id ≡ true
learner-from_member c id member votes_not = grind (arith, member, votes_not, has-union c.incoming c.outgoing id)

-- ---- from the answer
-- only members run: if others do, all members have caught up, so these are stopped first
only-members : (s : Situation) → (is_empty (s.members ∖ s.down ∖ s.up) ≡ true → may_stop s ≡ true) → row.not_stopped s ≡ None → member_ids s.target ≡ s.members
    → is_empty (needed_at_target s ∖ s.down ∖ s.up) ≡ true → is_empty (s.running ∖ s.members) ≡ true
only-members s may not_stopped same none_left = grind (arith, cases_Bool, cond-false, stopped-passed, not_stopped, none_left, true, without-is_empty, in-second, has-without-is)

done-holds : (strategy : Strategy) (target : Configuration) (down : Ids) (view : ViewState) → is_valid view.conf_state ≡ true
    → IsRun view.conf_state (one_change_each (path_by strategy down view.conf_state target)) target → next_of strategy target down view ≡ Done → IsDone target down view
done-holds strategy target down view valid run is =
    let now = view.conf_state in
    let steps = one_change_each (path_by strategy down now target) in
    let s = situation strategy target down view in
    let up = up_and_caught_up down view in
    let heard = heard_from view in
    let rows = IsReached-from_answer s steps is in
    let end = at_end s steps refl rows.last in
    let same : now ≡ target = subst (λ taken. IsRun now taken target) end.steps_none run in
    let after : s.after ≡ now = ap (after_first now) end.steps_none in
    let members = ValidByMember-from_is_valid now valid in
    let quorum = quorum-passed s rows.quorum_lost in
    let named = heard-passed s rows.down_is_heard in
    let leads = nonvoter-passed s rows.nonvoter_leads in
    let only_members = only-members s (λ all_up. and_from _ _ (none_lacks down view leads all_up) (heard-count down view all_up quorum)) rows.not_stopped (ap member_ids (sym same)) end.none_left in
    let needed : needed_at_target s ≡ (now.incoming ∪ now.learners) = cond-true (is_empty (view.running ∖ member_ids now)) (now.incoming ∪ now.learners) (member_ids now) only_members in
    let none_left : is_empty ((now.incoming ∪ now.learners) ∖ down ∖ up) ≡ true = ap (λ ids. is_empty (ids ∖ down ∖ up)) (sym needed) ∙ end.none_left in
    let started = started-passed s rows.not_started in
    let all = member_ids s.after ∪ member_ids now in
    let staying = all ∩ member_ids target in
    let of_target : (id : ℕ) → has now.learners id ≡ true → has (member_ids target) id ≡ true =
    λ id learner. ap (λ c. has (member_ids c) id) (sym same) ∙ has-all_members now id ∙ or_right (has now.incoming id || has now.outgoing id) _ learner in
    subst (λ c. IsDone c down view) same (record {
      reached = refl;
      not_pending = zero-from_test view.pending_conf_index (pending-passed s rows.is_pending);
      leader = leads;
      leader_up = leader-up heard (member_ids now) down view.lead named;
      quorum = sym (is_quorum-not_down now down) ∙ quorum;
      silent = λ id is_down member. member-silent heard (member_ids now) down view.lead id named is_down (has-all_members now id ∙ member);
      caught_up = λ id here not_down. up-unless_down (now.incoming ∪ now.learners) down up id none_left (has-union now.incoming now.learners id ∙ here) not_down;
      learners_run = λ id learner not_down.
          let member = union-right (member_ids s.after) (member_ids now) id (has-all_members now id ∙ or_right (has now.incoming id || has now.outgoing id) _ learner) in
          let stays = has-common-is all (member_ids target) id member (of_target id learner) in
          let other = has-without-is staying (voter_ids now) id stays (learner-votes_not now id members learner) in
          in-second (staying ∖ voter_ids now ∖ down) view.running id started (has-without-is (staying ∖ voter_ids now) down id other not_down);
      not_retired = λ id learner.
          not-in_second (member_ids target ∖ voter_ids now) view.retired id (reused-passed s rows.id_is_reused)
          (has-without-is (member_ids target) (voter_ids now) id (of_target id learner) (learner-votes_not now id members learner));
      others_stopped = λ id runs. sym (has-all_members now id) ∙ in-second view.running (member_ids now) id only_members runs;
    })

-- ---- to the answer
-- a path without a step stalls only if the voters that are not down are no quorum
stalls-not : (now : Configuration) (down : Ids) → is_some (may_be_down (voters_of now) down) ≡ true → stalls now [] down ≡ false
stalls-not now down counts =
    let same : union down no_ids ≡ down = has-same_ids _ _ (λ q. grind (arith, has-union down no_ids q, has-no_ids q)) in
    let other : is_some (may_be_down (voters_of now) (union down no_ids)) ≡ true = ap (λ ids. is_some (may_be_down (voters_of now) ids)) same ∙ counts in
    counted (may_be_down (voters_of now) (union down no_ids)) other
  where
    counted : (most : Option ℕ) → is_some most ≡ true → (is_none most || false) ≡ false
    counted None some = absurd (cc)
    counted (Some k) some = refl

-- at the target, on a path without a step
done-answered : (down : Ids) (view : ViewState) → is_valid view.conf_state ≡ true → is_some (may_be_down (voters_of view.conf_state) down) ≡ true
    → IsDone view.conf_state down view → answer_on view.conf_state down view [] ≡ Done
done-answered down view valid counts is =
    let now = view.conf_state in
    let s : Situation = situation_of now down view [] (stalls now [] down) in
    let up = up_and_caught_up down view in
    let heard = heard_from view in
    let members = ValidByMember-from_is_valid now valid in
    let none_pending : not (nat_eq view.pending_conf_index 0) ≡ false = ap (λ n. not (nat_eq n 0)) is.not_pending in
    let only_members : is_empty (view.running ∖ member_ids now) ≡ true = without-is_empty view.running (member_ids now) (λ q runs. has-all_members now q ∙ is.others_stopped q runs) in
    let named = none-heard heard (member_ids now) down view.lead (λ q is_down member. is.silent q is_down (sym (has-all_members now q) ∙ member)) is.leader_up in
    let reused : is_empty ((member_ids now ∖ voter_ids now) ∩ view.retired) ≡ true =
    common-is_empty (member_ids now ∖ voter_ids now) view.retired (λ q here.
    let parts = in-without (member_ids now) (voter_ids now) q here in
    is.not_retired q (learner-from_member now q (sym (has-all_members now q) ∙ parts.0) parts.1)) in
    let staying = (member_ids now ∪ member_ids now) ∩ member_ids now in
    let started : is_empty (staying ∖ voter_ids now ∖ down ∖ view.running) ≡ true =
    without-is_empty (staying ∖ voter_ids now ∖ down) view.running (λ q here.
    let of_down = in-without (staying ∖ voter_ids now) down q here in
    let of_voters = in-without staying (voter_ids now) q of_down.0 in
    let member : is_member now q ≡ true = sym (has-all_members now q) ∙ (in-common (member_ids now ∪ member_ids now) (member_ids now) q of_voters.0).1 in
    is.learners_run q (learner-from_member now q member of_voters.1) of_down.1) in
    let stopped : is_empty (view.running ∖ member_ids now ∖ member_ids now) ≡ true =
    without-is_empty (view.running ∖ member_ids now) (member_ids now) (λ q here.
    let parts = in-without view.running (member_ids now) q here in
    has-all_members now q ∙ is.others_stopped q parts.0) in
    let none_left : is_empty ((now.incoming ∪ now.learners) ∖ down ∖ up) ≡ true =
    without-is_empty ((now.incoming ∪ now.learners) ∖ down) up (λ q here.
    let parts = in-without (now.incoming ∪ now.learners) down q here in
    is.caught_up q (sym (has-union now.incoming now.learners q) ∙ parts.0) parts.1) in
    let needed : needed_at_target s ≡ (now.incoming ∪ now.learners) = cond-true (is_empty (view.running ∖ member_ids now)) (now.incoming ∪ now.learners) (member_ids now) only_members in
    let done : done_or_wait s (needed_at_target s ∖ down ∖ up) ≡ Done =
    cond-true (is_empty (needed_at_target s ∖ down ∖ up)) Done (wait_for s (needed_at_target s ∖ down ∖ up)) (ap (λ ids. is_empty (ids ∖ down ∖ up)) needed ∙ none_left) in
    let quorum_lost : row.quorum_lost s ≡ None = when-false _ _ (ap not (is_quorum-not_down now down ∙ is.quorum)) in
    let down_is_heard : row.down_is_heard s ≡ None = if_any-empty _ (Wait Heard) named in
    let no_leader : row.no_leader s ≡ None = when-false _ _ (ne_eqb view.lead 0 (voter-not_zero now view.lead members is.leader)) in
    let nonvoter_leads : row.nonvoter_leads s ≡ None = unless-none _ _ is.leader in
    let leader_is_dropped : row.leader_is_dropped s ≡ None = if-none _ (transfer_to_one s (successors s)) none_pending in
    let is_pending : row.is_pending s ≡ None = when-false _ _ none_pending in
    let path_stalls : row.path_stalls s ≡ None = when-false _ _ (stalls-not now down counts) in
    let id_is_reused : row.id_is_reused s ≡ None = if_any-empty _ (Stuck Reused) reused in
    let not_started : row.not_started s ≡ None = if_any-empty _ Start started in
    let not_stopped : row.not_stopped s ≡ None = if-both_none (may_stop s) _ (if_any-empty _ Stop stopped) in
    let is_leaving : row.is_leaving s ≡ None = refl in
    let leader_leaves : row.leader_leaves s ≡ None = unless-none _ (transfer_to_one s (voter_ids now ∩ voter_ids now ∩ up)) is.leader in
    let successor_lags : row.successor_lags s ≡ None = unless-none _ (if_any (voter_ids now ∩ voter_ids now ∖ down) (wait_for s)) is.leader in
    let at_target : row.at_target s ≡ Some Done = ap Some done in
    let before = rows_of_view s ++ rows_of_path s ++ row.leader_leaves s ∷ row.successor_lags s ∷ [] in
    let after = row.new_voter_lags s ∷ row.voter_is_behind s ∷ row.no_quorum_is_up s ∷ row.voter_is_silent s ∷ [] in
    let found : first_of (rows_of_view s ++ rows_of_path s ++ rows_of_step s) ≡ Some Done =
    left_out before (row.at_target s ∷ after)
    (quorum_lost, (down_is_heard, (no_leader, (nonvoter_leads, (leader_is_dropped, (is_pending, (path_stalls, (id_is_reused, (not_started, (not_stopped, (is_leaving, (leader_leaves, (successor_lags, tt)))))))))))))
    ∙ ap (λ r. first_of (r ∷ after)) at_target in
    ap (λ answer. unwrap_or answer Done) found

pub returns : goal.returns
returns c strategy target down view can = (
  done-holds strategy target down view can.valid_now.valid (c.one_change_each_leads.ensures strategy down view.conf_state target can.valid_now can.valid_target can.path).run,
  λ is.
      let now = view.conf_state in
      let own : path_by strategy down now now ≡ [] = cond-true (is_same now now) _ _ ((is_same-is_equality now now).1 refl) in
      let at_now : next_of strategy now down view ≡ Done =
      ap (answer_on now down view) own ∙ done-answered down view can.valid_now.valid (sym (c.most_down_by_counting.ensures.commits (voters_of now) down) ∙ ap (λ (d : Configuration). commits_without (voters_of d) down) is.reached ∙ is.quorum) (subst (λ d. IsDone d down view) (sym is.reached) is) in
      subst (λ d. next_of strategy d down view ≡ Done) is.reached at_now,
)
