-- What each answer says, by its row.
use Rattle.std.proofs.Common.{◌≡◌, ◌≢◌, ℕ, true, false, not, ◌&&◌, List, ◌∷◌, sym, ap, subst, ◌∙◌, arith, inl, inr}
use Rattle.std.specs.Prelude.{Some, None, nat_eq, unwrap_or, if◌then◌else◌}
use Rattle.std.proofs.lemmas.Bool.{and_from, and_left, and_parts, and_right, both_ways, cases_Bool, cond-false, cond-true, eqb-false, eqb-true, not-true, or_left, or_right}
use Rattle.quorum_sets.specs.Ids.{Ids, has, is_empty, no_ids}
use Rattle.quorum_sets.specs.Voters.{is_quorum}
use Rattle.quorum_sets.proofs.Offered.{has-union}
use Rattle.conf_change.specs.Configuration.{ValidByMember, is_joint, member_ids, voters_of}
use Rattle.conf_change.specs.declared.step.Step.{Step}
use Rattle.conf_change.specs.declared.step.Step.TheVariants.{LeaveJoint}
use Rattle.conf_driver.specs.IdSets.{◌∪◌, ◌∩◌, ◌∖◌, just, least_of, or_else, or_second}
use Rattle.conf_driver.specs.Nearer.{leadership_moves, needed}
use Rattle.conf_driver.specs.Next.{answer_in}
use Rattle.conf_driver.specs.Rows as row
use Rattle.conf_driver.specs.Rows.{done_or_wait, needed_at_target, transfer_to_one, wait_for}
use Rattle.conf_driver.specs.Situation.{Situation}
use Rattle.conf_driver.specs.View.{voter_ids}
use Rattle.conf_driver.specs.declared.action.Action.{Action}
use Rattle.conf_driver.specs.declared.action.Action.TheVariants.{Start, Stop, Transfer, Propose, Wait, Stuck, Done}
use Rattle.conf_driver.specs.declared.action.WaitReason.{WaitReason}
use Rattle.conf_driver.specs.declared.action.WaitReason.TheVariants.{Unheard, Behind, Leaving}
use Rattle.conf_driver.proofs.Answered.{Says}
use Rattle.conf_driver.proofs.Counted.{IsCounted, quorum-of_more}
use Rattle.conf_driver.proofs.Counting.{quorum-has_voter}
use Rattle.conf_driver.proofs.FirstRow.{by_rows}
use Rattle.conf_driver.proofs.IdsByMember.{has-without, has-without-is, in-common, in-second, in-without, not-in_second, up-unless_down}
use Rattle.conf_driver.proofs.LeaderOff.{less-from_dropped, less-from_nonvoter, less-from_outgoing}
use Rattle.conf_driver.proofs.Leaders.{voter-not_zero}
use Rattle.conf_driver.proofs.Needed.{IsOfMembers}
use Rattle.conf_driver.proofs.Proposed.{IsProposed-from_answer, first_step}
use Rattle.conf_driver.proofs.RowAnswers.{if_any-some, none-unless, some-if, some-unless, when-none, when-some}
use Rattle.conf_driver.proofs.RowsPassed.{has_step-passed, nonvoter-passed, pending-passed, quorum-passed, successor-passed}
use Rattle.conf_driver.proofs.ServersAnswered.{IsStarted-from_answer, IsStopped-from_answer, to_run}
use Rattle.conf_driver.proofs.Sizes.{IsWithin}
use Rattle.conf_driver.proofs.Transfers.{Moves-from_answer}
use Rattle.conf_driver.proofs.Waiting.{done_or_wait-waits, none-to_lead, same_wait, wait_not_last, waits-unless_moved, some_wait}

-- ---- the leader
leads : (s : Situation) → row.no_leader s ≡ None → s.lead ≢ 0
leads s passed none = eqb-false s.lead 0 (when-none (nat_eq s.lead 0) _ passed) none

-- ---- servers
says-start : (s : Situation) (steps : List Step) (ids : Ids) → answer_in s steps ≡ Start ids → Says s steps (Start ids)
says-start s steps ids is =
    let started = IsStarted-from_answer s steps ids is in
    let all = member_ids s.after ∪ s.members in (
      leads s started.no_leader,
      record {
        some = ap is_empty (sym started.named) ∙ started.some;
        within = λ q named.
            let of_running = in-without (to_run s) s.running q (ap (λ t. has t q) started.named ∙ named) in
            let of_voters = (in-without (all ∩ member_ids s.target ∖ s.voters) s.down q of_running.0).0 in
            let of_target = (in-without (all ∩ member_ids s.target) s.voters q of_voters).0 in
            has-without-is (member_ids s.target) s.running q (in-common all (member_ids s.target) q of_target).1 of_running.1;
      },
    )

says-stop : (s : Situation) (steps : List Step) (ids : Ids) → answer_in s steps ≡ Stop ids → Says s steps (Stop ids)
says-stop s steps ids is =
    let stopped = IsStopped-from_answer s steps ids is in (
      leads s stopped.no_leader,
      record {
        some = ap is_empty (sym stopped.named) ∙ stopped.some;
        within = λ q named.
            let of_target = in-without (s.running ∖ s.members) (member_ids s.target) q (ap (λ t. has t q) stopped.named ∙ named) in
            has-without-is s.running (member_ids s.target) q (in-without s.running s.members q of_target.0).0 of_target.1;
      },
    )

-- ---- leadership
incoming-votes : (s : Situation) (id : ℕ) → IsOfMembers s → has s.before.incoming id ≡ true → has s.voters id ≡ true
incoming-votes s id sets here = ap (λ v. has v id) sets.voters ∙ grind (arith, here, has-union s.before.incoming s.before.outgoing id)

is_some : (s : Situation) (id : ℕ) → IsOfMembers s → ValidByMember s.before → has s.voters id ≡ true → id ≢ 0
is_some s id sets valid votes = voter-not_zero s.before id valid (sym (ap (λ v. has v id) sets.voters) ∙ votes)

says-transfer : (s : Situation) (steps : List Step) (id : ℕ) → IsOfMembers s → ValidByMember s.before → answer_in s steps ≡ Transfer id → Says s steps (Transfer id)
says-transfer s steps id sets valid is = elim (Moves-from_answer s steps id is) [
  | inl moves ↦
      let votes = incoming-votes s id sets moves.incoming in
      let some = is_some s id sets valid votes in
      record { some = some; nearer = less-from_nonvoter s id moves.leader some votes }
  | inr (inl moves) ↦
      let votes = incoming-votes s id sets moves.incoming in
      let some = is_some s id sets valid votes in
      record {
        some = some;
        nearer = elim moves.successor [
          | inl outgoing ↦ less-from_outgoing s id (and_from (s.is_pending && is_joint s.before) _ (and_from s.is_pending _ moves.pending outgoing.0) (ap not outgoing.1)) some votes moves.incoming
          | inr dropped ↦
              let here : (if s.is_pending then voter_ids s.target else s.voters_after) ≡ voter_ids s.target = cond-true s.is_pending (voter_ids s.target) s.voters_after moves.pending in
              less-from_dropped s id (ap (λ v. has v s.lead) here ∙ dropped.0) some votes (and_right (s.is_pending && is_joint s.before) _ (ap not moves.incoming)) (ap (λ v. has v id) here ∙ dropped.1)
        ];
      }
  | inr (inr moves) ↦
      let some = is_some s id sets valid moves.votes in
      let here : (if s.is_pending then voter_ids s.target else s.voters_after) ≡ s.voters_after = cond-false s.is_pending (voter_ids s.target) s.voters_after moves.pending in
      record {
        some = some;
        nearer = less-from_dropped s id (ap (λ v. has v s.lead) here ∙ moves.leader) some moves.votes (and_left (s.is_pending && is_joint s.before) _ (and_left s.is_pending _ moves.pending)) (ap (λ v. has v id) here ∙ moves.may_lead);
      }
]

-- ---- steps
says-propose : (s : Situation) (steps : List Step) (step : Step) → answer_in s steps ≡ Propose step → Says s steps (Propose step)
says-propose s steps step is =
    let proposed = IsProposed-from_answer s steps step is in
    let first = first_step steps step proposed.last in
    (leads s proposed.no_leader, record { not_pending = pending-passed s proposed.is_pending; rest = first.0; is = first.1 })

-- ---- who is needed, by the rows that have been passed
-- the leader votes, and no change is pending
record IsFree (s : Situation) : Type 0 where
  votes : has s.voters s.lead ≡ true
  not_pending : s.is_pending ≡ false

needed-nonvoter : (s : Situation) → has s.voters s.lead ≡ false → needed s ≡ s.before.incoming
needed-nonvoter s votes_not = cond-true (not (has s.voters s.lead)) s.before.incoming _ (ap not votes_not)

-- the needed ids but for the first two cases
abbrev needed_by_leadership : Situation → Ids
needed_by_leadership s =
    if leadership_moves s then s.voters ∩ s.voters_after
    else (if not s.has_step then needed_at_target s
    else s.voters_after ∪ (if is_quorum (voters_of s.before) s.up then no_ids else s.voters))

needed-free : (s : Situation) → IsFree s → needed s ≡ needed_by_leadership s
needed-free s free = grind (arith, cond-false, not, free)

moves-not : (s : Situation) → row.successor_lags s ≡ None → leadership_moves s ≡ false
moves-not s passed = grind (arith, cases_Bool, and_left, not, and_right, successor-passed)

needed-successors : (s : Situation) → IsFree s → leadership_moves s ≡ true → needed s ≡ (s.voters ∩ s.voters_after)
needed-successors s free moves = needed-free s free ∙ cond-true (leadership_moves s) (s.voters ∩ s.voters_after) _ moves

needed-at_end : (s : Situation) → IsFree s → row.successor_lags s ≡ None → not s.has_step ≡ true → needed s ≡ needed_at_target s
needed-at_end s free passed none = grind (arith, needed-free, free, cond-false, moves-not, cond-true, not)

needed-on_the_way : (s : Situation) → IsFree s → row.successor_lags s ≡ None → row.at_target s ≡ None
    → needed s ≡ (s.voters_after ∪ (if is_quorum (voters_of s.before) s.up then no_ids else s.voters))
needed-on_the_way s free passed on_the_way = grind (arith, needed-free, free, cond-false, moves-not, not, has_step-passed)

-- ---- waits for members
-- ids for which a wait may be: some, which are needed, not down and not up
record AreAwaited (s : Situation) (ids : Ids) : Type 0 where
  some : is_empty ids ≡ false
  needed_all : IsWithin ids (needed s)
  not_down : (q : ℕ) → has ids q ≡ true → has s.down q ≡ false
  not_up : (q : ℕ) → has ids q ≡ true → has s.up q ≡ false

says-behind : (s : Situation) (steps : List Step) (set ids : Ids) (why : WaitReason) → s.lead ≢ 0 → AreAwaited s set → Wait Behind set ≡ Wait why ids → Says s steps (Wait why ids)
says-behind s steps set ids why leader awaited is =
    let same = same_wait Behind why set ids is in
    let said : Says s steps (Wait Behind ids) = (
      leader,
      record {
        some = ap is_empty (sym same.1) ∙ awaited.some;
        within = λ q named.
            let here : has set q ≡ true = ap (λ t. has t q) same.1 ∙ named in
            has-without-is (needed s ∖ s.down) s.up q (has-without-is (needed s) s.down q (awaited.needed_all q here) (awaited.not_down q here)) (awaited.not_up q here);
      },
    ) in
    subst (λ w. Says s steps (Wait w ids)) same.0 said

says-unheard : (s : Situation) (steps : List Step) (set ids : Ids) (why : WaitReason) → s.lead ≢ 0 → is_empty (set ∖ s.heard) ≡ false → IsWithin set (needed s) → ((q : ℕ) → has set q ≡ true → has s.down q ≡ false)
    → Wait Unheard (set ∖ s.heard) ≡ Wait why ids → Says s steps (Wait why ids)
says-unheard s steps set ids why leader some within not_down is = grind (arith, same_wait, Says, some, in-without, has-without-is, not_down)

says-wait_for : (s : Situation) (steps : List Step) (set ids : Ids) (why : WaitReason) → s.lead ≢ 0 → AreAwaited s set → wait_for s set ≡ Wait why ids → Says s steps (Wait why ids)
says-wait_for s steps set ids why leader awaited is = grind (arith, cases_Bool, says-behind, cond-true, says-unheard, cond-false)

-- what is left of a set of needed ids without those that are down and up
awaited-rest : (s : Situation) (set : Ids) → IsWithin set (needed s) → is_empty (set ∖ s.down ∖ s.up) ≡ false → AreAwaited s (set ∖ s.down ∖ s.up)
awaited-rest s set within some = record {
  some = some;
  needed_all = λ q here. within q (in-without set s.down q (in-without (set ∖ s.down) s.up q here).0).0;
  not_down = λ q here. (in-without set s.down q (in-without (set ∖ s.down) s.up q here).0).1;
  not_up = λ q here. (in-without (set ∖ s.down) s.up q here).1;
}

-- ids of which none is up, without those that are down
awaited-none_up : (s : Situation) (set : Ids) → IsWithin set (needed s) → is_empty (set ∩ s.up) ≡ true → is_empty (set ∖ s.down) ≡ false → AreAwaited s (set ∖ s.down)
awaited-none_up s set within none_up some = record {
  some = some;
  needed_all = λ q here. within q (in-without set s.down q here).0;
  not_down = λ q here. (in-without set s.down q here).1;
  not_up = λ q here. not-in_second set s.up q none_up (in-without set s.down q here).0;
}

-- ---- each row that waits
says-nonvoter : (s : Situation) (steps : List Step) (ids : Ids) (why : WaitReason) → row.quorum_lost s ≡ None → row.no_leader s ≡ None → row.nonvoter_leads s ≡ Some (Wait why ids) → Says s steps (Wait why ids)
says-nonvoter s steps ids why counts leaderless is =
    let incoming = s.before.incoming in
    let ready = incoming ∩ s.up in
    let counted = incoming ∖ s.down in
    let given = some-unless (has s.voters s.lead) (Some (unwrap_or (transfer_to_one s ready) (wait_for s counted))) (Wait why ids) is in
    let waits = waits-unless_moved (or_second (least_of (ready ∩ s.target.incoming)) (least_of ready)) (wait_for s counted) why ids (some_wait _ why ids given.1) in
    let some : is_empty counted ≡ false = elim (cases_Bool (is_empty counted)) [
      | inl none ↦ absurd (quorum-has_voter s.before (s.voters ∖ s.down) (quorum-passed s counts) (λ x here. grind (arith, in-second incoming s.down x none here, has-without s.voters s.down x)))
      | inr some ↦ some
    ] in
    let needed_all : IsWithin incoming (needed s) = λ q here. ap (λ t. has t q) (needed-nonvoter s given.0) ∙ here in
    says-wait_for s steps counted ids why (leads s leaderless) (awaited-none_up s incoming needed_all (none-to_lead s ready waits.0) some) waits.1

free : (s : Situation) → row.nonvoter_leads s ≡ None → row.is_pending s ≡ None → IsFree s
free s nonvoter pending = record { votes = nonvoter-passed s nonvoter; not_pending = pending-passed s pending }

says-successor : (s : Situation) (steps : List Step) (ids : Ids) (why : WaitReason) → s.lead ≢ 0 → IsFree s → row.leader_leaves s ≡ None → row.successor_lags s ≡ Some (Wait why ids) → Says s steps (Wait why ids)
says-successor s steps ids why leader is_free stays is = grind (arith, some-unless, if_any-some, true, and_from, not, IsWithin, needed-successors, none-to_lead, none-unless, says-wait_for, awaited-none_up)

says-target : (s : Situation) (steps : List Step) (ids : Ids) (why : WaitReason) → s.lead ≢ 0 → IsFree s → row.successor_lags s ≡ None → row.at_target s ≡ Some (Wait why ids) → Says s steps (Wait why ids)
says-target s steps ids why leader is_free successor is =
    let set = needed_at_target s in
    let given = when-some (not s.has_step) (done_or_wait s (set ∖ s.down ∖ s.up)) (Wait why ids) is in
    let waits = done_or_wait-waits s (set ∖ s.down ∖ s.up) ids why given.1 in
    let needed_all : IsWithin set (needed s) = λ q here. ap (λ t. has t q) (needed-at_end s is_free successor given.0) ∙ here in
    says-wait_for s steps (set ∖ s.down ∖ s.up) ids why leader (awaited-rest s set needed_all waits.0) waits.1

-- the voters after the step are needed
after-needed : (s : Situation) → IsFree s → row.successor_lags s ≡ None → row.at_target s ≡ None → IsWithin s.voters_after (needed s)
after-needed s is_free successor on_the_way q here = grind (arith, needed-on_the_way, has-union, or_left)

says-new_voter : (s : Situation) (steps : List Step) (ids : Ids) (why : WaitReason) → s.lead ≢ 0 → IsWithin s.voters_after (needed s) → row.new_voter_lags s ≡ Some (Wait why ids) → Says s steps (Wait why ids)
says-new_voter s steps ids why leader needed_all is = grind (arith, if_any-some, says-wait_for, awaited-rest, needed_all, in-common, in-without)

says-lagging : (s : Situation) (steps : List Step) (ids : Ids) (why : WaitReason) → s.lead ≢ 0 → IsWithin s.voters_after (needed s) → row.voter_is_behind s ≡ Some (Wait why ids) → Says s steps (Wait why ids)
says-lagging s steps ids why leader needed_all is =
    let known = s.voters_after ∩ s.members in
    let given = if_any-some (known ∩ s.heard ∖ s.down ∖ s.up) (Wait Behind) (Wait why ids) is in
    says-behind s steps (known ∩ s.heard ∖ s.down ∖ s.up) ids why leader
    (awaited-rest s (known ∩ s.heard) (λ q here. needed_all q (in-common s.voters_after s.members q (in-common known s.heard q here).0).0) given.0) given.1

says-quorum : (s : Situation) (steps : List Step) (ids : Ids) (why : WaitReason) → IsCounted → IsOfMembers s → s.lead ≢ 0 → IsFree s → row.quorum_lost s ≡ None → row.successor_lags s ≡ None → row.at_target s ≡ None
    → row.no_quorum_is_up s ≡ Some (Wait why ids) → Says s steps (Wait why ids)
says-quorum s steps ids why counted sets leader is_free counts successor on_the_way is =
    let given = when-some (not (is_quorum (voters_of s.before) s.up)) (wait_for s (s.voters ∖ s.down ∖ s.up)) (Wait why ids) is in
    let quorum_not = not-true (is_quorum (voters_of s.before) s.up) given.0 in
    let some : is_empty (s.voters ∖ s.down ∖ s.up) ≡ false = elim (cases_Bool (is_empty (s.voters ∖ s.down ∖ s.up))) [
      | inl none ↦ absurd (both_ways _ quorum_not (quorum-of_more counted s.before (s.voters ∖ s.down) s.up (λ q voter here.
          let parts = in-without s.voters s.down q here in
          up-unless_down s.voters s.down s.up q none parts.0 parts.1) (quorum-passed s counts)))
      | inr some ↦ some
    ] in
    let needed_all : IsWithin s.voters (needed s) = λ q here.
    ap (λ t. has t q) (needed-on_the_way s is_free successor on_the_way) ∙ has-union s.voters_after (if is_quorum (voters_of s.before) s.up then no_ids else s.voters) q
    ∙ or_right (has s.voters_after q) _ (ap (λ t. has t q) (cond-false (is_quorum (voters_of s.before) s.up) no_ids s.voters quorum_not) ∙ here) in
    says-wait_for s steps (s.voters ∖ s.down ∖ s.up) ids why leader (awaited-rest s s.voters needed_all some) given.1

says-silent : (s : Situation) (steps : List Step) (ids : Ids) (why : WaitReason) → s.lead ≢ 0 → IsWithin s.voters_after (needed s) → row.voter_is_silent s ≡ Some (Wait why ids) → Says s steps (Wait why ids)
says-silent s steps ids why leader needed_all is = grind (arith, some-if, if_any-some, says-unheard, needed_all, in-without)

-- the rows whose reason is their own
says-heard : (s : Situation) (steps : List Step) (ids : Ids) (why : WaitReason) → row.down_is_heard s ≡ Some (Wait why ids) → Says s steps (Wait why ids)
says-heard s steps ids why is = grind (arith, if_any-some, same_wait, Says, in-common)

says-no_leader : (s : Situation) (steps : List Step) (ids : Ids) (why : WaitReason) → row.no_leader s ≡ Some (Wait why ids) → Says s steps (Wait why ids)
says-no_leader s steps ids why is = grind (arith, when-some, same_wait, Says, eqb-true)

says-pending : (s : Situation) (steps : List Step) (ids : Ids) (why : WaitReason) → s.lead ≢ 0 → row.is_pending s ≡ Some (Wait why ids) → Says s steps (Wait why ids)
says-pending s steps ids why leader is = grind (arith, when-some, same_wait, Says)

-- raft leaves the configuration by the first step
abbrev pub LeavesFirst : Situation → List Step → Type 0
LeavesFirst s steps = s.has_step ≡ true → s.before.auto_leave ≡ true → (rest : List Step) × (steps ≡ LeaveJoint ∷ rest)

says-leaving : (s : Situation) (steps : List Step) (ids : Ids) (why : WaitReason) → LeavesFirst s steps → s.lead ≢ 0 → IsFree s → row.is_leaving s ≡ Some (Wait why ids) → Says s steps (Wait why ids)
says-leaving s steps ids why leaves leader is_free is =
    let given = when-some (s.has_step && s.before.auto_leave) (Wait Leaving (or_else (s.voters ∖ s.down ∖ s.up) (just s.lead))) (Wait why ids) is in
    let same = same_wait Leaving why _ ids given.1 in
    let tests = and_parts s.has_step _ given.0 in
    let first = leaves tests.0 tests.1 in
    let said : Says s steps (Wait Leaving ids) = (leader, record { not_pending = is_free.not_pending; rest = first.0; is = first.1 }) in
    subst (λ w. Says s steps (Wait w ids)) same.0 said

says-wait : (s : Situation) (steps : List Step) (why : WaitReason) (ids : Ids) → IsCounted → IsOfMembers s → LeavesFirst s steps → answer_in s steps ≡ Wait why ids → Says s steps (Wait why ids)
says-wait s steps why ids counted sets leaves is = by_rows (Says s steps (Wait why ids)) s steps (Wait why ids) (λ a. (
  λ here. says-heard s steps ids why here,
  λ b. (
    λ here. says-no_leader s steps ids why here,
    λ c. (
      λ here. says-nonvoter s steps ids why a c here,
      λ d e. (
        λ here. says-pending s steps ids why (leads s c) here,
        λ f g h i j. (
          λ here. says-leaving s steps ids why leaves (leads s c) (free s d f) here,
          λ k l. (
            λ here. says-successor s steps ids why (leads s c) (free s d f) l here,
            λ m. (
              λ here. says-target s steps ids why (leads s c) (free s d f) m here,
              λ n. (
                λ here. says-new_voter s steps ids why (leads s c) (after-needed s (free s d f) m n) here,
                λ o. (
                  λ here. says-lagging s steps ids why (leads s c) (after-needed s (free s d f) m n) here,
                  λ p. (
                    λ here. says-quorum s steps ids why counted sets (leads s c) (free s d f) a m n here,
                    λ q. (
                      λ here. says-silent s steps ids why (leads s c) (after-needed s (free s d f) m n) here,
                      λ r last. wait_not_last steps why ids last,
                    ),
                  ),
                ),
              ),
            ),
          ),
        ),
      ),
    ),
  ),
)) is

-- ---- all answers
pub says : (s : Situation) (steps : List Step) (answer : Action) → IsCounted → IsOfMembers s → ValidByMember s.before → LeavesFirst s steps → answer_in s steps ≡ answer → Says s steps answer
says s steps (Start ids) counted sets valid leaves is = says-start s steps ids is
says s steps (Stop ids) counted sets valid leaves is = says-stop s steps ids is
says s steps (Transfer id) counted sets valid leaves is = says-transfer s steps id sets valid is
says s steps (Propose step) counted sets valid leaves is = says-propose s steps step is
says s steps (Wait why ids) counted sets valid leaves is = says-wait s steps why ids counted sets leaves is
says s steps (Stuck why ids) counted sets valid leaves is = tt
says s steps Done counted sets valid leaves is = tt
