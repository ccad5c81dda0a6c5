use Rattle.std.proofs.Common.{◌≡◌, ◌≢◌, ℕ, ◌<◌, Bool, true, false, not, ◌&&◌, ◌||◌, List, [], ◌∷◌, refl, sym, ap, subst, ◌∙◌, arith, inl, inr, ◌⊎◌}
use Rattle.std.specs.Prelude.{Some, None, nat_eq}
use Rattle.std.proofs.lemmas.Bool.{and_parts, both_ways, cases_Bool, cases_eq, or_cases, or_left}
use Rattle.quorum_sets.specs.Ids.{Ids, has, is_empty}
use Rattle.quorum_sets.proofs.Offered.{has-ids_of, has-union}
use Rattle.conf_change.specs.Configuration.{Configuration, is_member, member_ids}
use Rattle.conf_change.specs.declared.step.Step.{Step}
use Rattle.conf_change.proofs.Offered.{has-all_members, has-none_in_empty}
use Rattle.conf_plan.specs.OneChangeEach.{one_change_each}
use Rattle.conf_plan.specs.OnTheWay.{MakesVotersOfReady}
use Rattle.conf_plan.specs.PathBy.{path_by}
use Rattle.conf_plan.specs.Run.{IsRun}
use Rattle.conf_plan.specs.declared.strategy.Strategy.{Strategy}
use Rattle.conf_driver.specs.IdSets.{◌∪◌, ◌∩◌, ◌∖◌, just, or_else}
use Rattle.conf_driver.specs.Next.{next_of, situation}
use Rattle.conf_driver.specs.Rows as row
use Rattle.conf_driver.specs.Situation.{Situation, has_step}
use Rattle.conf_driver.specs.View.{ViewState, heard_from, lacking, match_of, up_and_caught_up, voter_ids}
use Rattle.conf_driver.specs.Waits.{HasCome, IsVoterOrLeads, LacksWhatIsNamed}
use Rattle.conf_driver.specs.declared.action.Action.TheVariants.{Wait}
use Rattle.conf_driver.specs.declared.action.WaitReason.{WaitReason}
use Rattle.conf_driver.specs.declared.action.WaitReason.TheVariants.{NoLeader, Pending, Heard, Unheard, Behind, Leaving}
use Rattle.conf_driver.specs.declared.view.MemberView.{MemberView}
use Rattle.conf_driver.proofs.Counted.{IsCounted}
use Rattle.conf_driver.proofs.Counting.{quorum-grows, quorum-has_voter}
use Rattle.conf_driver.proofs.FirstStep.{after_first-is, first-holds, voters-learn_first, voters-were_members}
use Rattle.conf_driver.proofs.IdsByMember.{in-common, in-without, has-just}
use Rattle.conf_driver.proofs.Leaders.{leader-up}
use Rattle.conf_driver.proofs.Needed.{incoming-are_members, learners-are_members, voters-are_members, within-union}
use Rattle.conf_driver.proofs.RowAnswers.{if_any-some, when-none, when-some}
use Rattle.conf_driver.proofs.RowsPassed.{heard-passed, leaving-passed, nonvoter-passed, pending-passed, quorum-passed}
use Rattle.conf_driver.proofs.Waiting.{IsOfOneView, IsPassed, NamesLagging, Waits, ByHeard, ByLeader, ByNonvoter, ByPending, ByLeaving, BySuccessor, ByTarget, ByNewVoter, ByBehind, ByQuorum, BySilent, Waits-from_answer, in-or_else, names-behind, names-new_voter, names-nonvoter, names-quorum, names-silent, names-successor, names-target, or_else-some, same_wait}
use Rattle.conf_driver.proofs.WhoIsUp.{lacks-not_up, less-lacking}
use Rattle.conf_driver.proofs.laws.waits_name_who_lacks_what.Goals as goal

one-view : IsCounted → (strategy : Strategy) (target : Configuration) (down : Ids) (view : ViewState) → IsOfOneView (situation strategy target down view)
one-view counted strategy target down view = grind (arith, voters-are_members, within-union, incoming-are_members, learners-are_members, quorum-grows)

-- ---- what a wait is for
in-just : (lead id : ℕ) → has (just lead) id ≡ true → id ≡ lead
in-just lead id here = elim (cases_eq id lead) [
  | inl same ↦ same
  | inr other ↦ let not_here : has (just lead) id ≡ false = grind (arith, has-ids_of (lead ∷ []) id, other) in absurd (both_ways _ not_here here)
]

just-some : (id : ℕ) → is_empty (just id) ≡ false
just-some id = elim (cases_Bool (is_empty (just id))) [
  | inl none ↦ absurd (both_ways _ (has-none_in_empty (just id) none id) (has-just id))
  | inr some ↦ some
]

-- who leads is not down, where no row says so
leader-not_down : (s : Situation) → row.down_is_heard s ≡ None → has s.down s.lead ≡ false
leader-not_down s passed = leader-up s.heard s.members s.down s.lead (heard-passed s passed)

-- a wait that a row on the view names, or one for who is behind or not heard from, once these have been passed
data Kinds (s : Situation) (why : WaitReason) (ids : Ids) : Type 0 where
  OfHeard : why ≡ Heard → is_empty ids ≡ false → (s.down ∩ (s.heard ∩ s.members ∪ just s.lead)) ≡ ids → Kinds s why ids
  OfLeader : why ≡ NoLeader → row.quorum_lost s ≡ None → nat_eq s.lead 0 ≡ true → or_else (s.voters ∖ s.down ∖ s.heard) (s.voters ∖ s.down) ≡ ids → Kinds s why ids
  OfPending : why ≡ Pending → row.down_is_heard s ≡ None → has s.voters s.lead ≡ true → s.is_pending ≡ true → or_else s.lack_pending (just s.lead) ≡ ids → Kinds s why ids
  OfLeaving : why ≡ Leaving → row.down_is_heard s ≡ None → has s.voters s.lead ≡ true → (s.has_step && s.before.auto_leave) ≡ true → or_else (s.voters ∖ s.down ∖ s.up) (just s.lead) ≡ ids → Kinds s why ids
  OfStep : IsPassed s → NamesLagging s why ids → Kinds s why ids

Kinds-from_row : (s : Situation) (why : WaitReason) (ids : Ids) → IsOfOneView s → Waits s (Some (Wait why ids)) → Kinds s why ids
Kinds-from_row s why ids sets (ByHeard here) = grind (arith, if_any-some, same_wait, OfHeard)
Kinds-from_row s why ids sets (ByLeader counts here) = grind (arith, when-some, same_wait, OfLeader)
Kinds-from_row s why ids sets (ByPending heard votes here) = grind (arith, when-some, same_wait, OfPending, nonvoter-passed)
Kinds-from_row s why ids sets (ByLeaving heard votes here) = grind (arith, when-some, same_wait, OfLeaving, nonvoter-passed)
Kinds-from_row s why ids sets (ByNonvoter passed here) = OfStep passed (names-nonvoter s why ids sets passed.quorum_lost here)
Kinds-from_row s why ids sets (BySuccessor passed stays here) = OfStep passed (names-successor s why ids sets stays here)
Kinds-from_row s why ids sets (ByTarget passed here) = OfStep passed (names-target s why ids sets here)
Kinds-from_row s why ids sets (ByNewVoter passed here) = OfStep passed (names-new_voter s why ids here)
Kinds-from_row s why ids sets (ByBehind passed here) = OfStep passed (names-behind s why ids here)
Kinds-from_row s why ids sets (ByQuorum passed here) = OfStep passed (names-quorum s why ids sets passed.quorum_lost here)
Kinds-from_row s why ids sets (BySilent passed on_the_way here) = OfStep passed (names-silent s why ids on_the_way here)

kinds : IsCounted → (strategy : Strategy) (target : Configuration) (down : Ids) (view : ViewState) (why : WaitReason) (ids : Ids) → next_of strategy target down view ≡ Wait why ids
    → Kinds (situation strategy target down view) why ids
kinds counted strategy target down view why ids is =
    let s = situation strategy target down view in
    Kinds-from_row s why ids (one-view counted strategy target down view) (Waits-from_answer s (one_change_each (path_by strategy down view.conf_state target)) why ids is)

-- ---- an id is named
some-named : (s : Situation) (why : WaitReason) (ids : Ids) → Kinds s why ids → is_empty ids ≡ false
some-named s why ids (OfHeard is some named) = some
some-named s why ids (OfLeader is counts leads named) =
    let counted = s.voters ∖ s.down in
    let some : is_empty counted ≡ false = elim (cases_Bool (is_empty counted)) [
      | inl none ↦ absurd (quorum-has_voter s.before counted (quorum-passed s counts) (λ x here. has-none_in_empty counted none x))
      | inr some ↦ some
    ] in
    ap is_empty (sym named) ∙ or_else-some (counted ∖ s.heard) counted some
some-named s why ids (OfPending is heard voter pending named) = ap is_empty (sym named) ∙ or_else-some s.lack_pending (just s.lead) (just-some s.lead)
some-named s why ids (OfLeaving is heard voter leaving named) = ap is_empty (sym named) ∙ or_else-some (s.voters ∖ s.down ∖ s.up) (just s.lead) (just-some s.lead)
some-named s why ids (OfStep passed (inl behind)) = behind.some
some-named s why ids (OfStep passed (inr unheard)) = unheard.some

-- ---- what is said of each
is_not_zero : (n : ℕ) → not (nat_eq n 0) ≡ true → n ≢ 0
is_not_zero n some = grind (arith, some)

is_zero : (n : ℕ) → nat_eq n 0 ≡ true → n ≡ 0
is_zero n none = grind (arith, none)

abbrev voter : Configuration → ℕ → Bool
voter c id = has c.incoming id || has c.outgoing id

counted-voter : (c : Configuration) (down : Ids) (id : ℕ) → has (voter_ids c ∖ down) id ≡ true → (voter c id ≡ true) × (has down id ≡ false)
counted-voter c down id here = let parts = in-without (voter_ids c) down id here in (sym (has-union c.incoming c.outgoing id) ∙ parts.0, parts.1)

lacks-named : (strategy : Strategy) (target : Configuration) (down : Ids) (view : ViewState) (why : WaitReason) (ids : Ids) (id : ℕ) → Kinds (situation strategy target down view) why ids → has ids id ≡ true
    → LacksWhatIsNamed why down view id
lacks-named strategy target down view why ids id (OfHeard is some named) here =
    let now = view.conf_state in
    let heard = heard_from view in
    let parts = in-common down (heard ∩ member_ids now ∪ just view.lead) id (ap (λ s. has s id) named ∙ here) in
    let either : ((is_member now id ≡ true) × (has heard id ≡ true)) ⊎ (id ≡ view.lead) =
    elim (or_cases (has (heard ∩ member_ids now) id) (has (just view.lead) id) (sym (has-union (heard ∩ member_ids now) (just view.lead) id) ∙ parts.1)) [
      | inl member ↦ let both = in-common heard (member_ids now) id member in inl (sym (has-all_members now id) ∙ both.1, both.0)
      | inr leads ↦ inr (in-just view.lead id leads)
    ] in
    subst (λ w. LacksWhatIsNamed w down view id) (sym is) (parts.0, either)
lacks-named strategy target down view why ids id (OfLeader is counts leads named) here = grind (arith, true, in-or_else, in-without, counted-voter, is_zero)
lacks-named strategy target down view why ids id (OfPending is heard voter pending named) here =
    let counted = voter_ids view.conf_state ∖ down in
    let index = view.pending_conf_index in
    let given : (has down id ≡ false) × IsVoterOrLeads view id (match_of view id < index) = elim (in-or_else (lacking view index counted) (just view.lead) id (ap (λ s. has s id) named ∙ here)) [
      | inl lacks ↦ let parts = less-lacking view index counted id lacks in let votes = counted-voter view.conf_state down id parts.0 in (votes.1, inl (votes.0, parts.1))
      | inr leads ↦ let same = in-just view.lead id leads in (ap (has down) same ∙ leader-not_down (situation strategy target down view) heard, inr same)
    ] in
    subst (λ w. LacksWhatIsNamed w down view id) (sym is) (given.0, is_not_zero index pending, given.1)
lacks-named strategy target down view why ids id (OfLeaving is heard voter leaving named) here =
    let counted = voter_ids view.conf_state ∖ down in
    let up = up_and_caught_up down view in
    let given : (has down id ≡ false) × IsVoterOrLeads view id (has up id ≡ false) = elim (in-or_else (counted ∖ up) (just view.lead) id (ap (λ s. has s id) named ∙ here)) [
      | inl lacks ↦ let parts = in-without counted up id lacks in let votes = counted-voter view.conf_state down id parts.0 in (votes.1, inl (votes.0, parts.1))
      | inr leads ↦ let same = in-just view.lead id leads in (ap (has down) same ∙ leader-not_down (situation strategy target down view) heard, inr same)
    ] in
    subst (λ w. LacksWhatIsNamed w down view id) (sym is) (given.0, (and_parts _ _ leaving).1, given.1)
lacks-named strategy target down view why ids id (OfStep passed (inl behind)) here = grind (arith, has-all_members, lacks-not_up)
lacks-named strategy target down view why ids id (OfStep passed (inr unheard)) here = grind arith

-- ---- each is a member, or leads
-- what is said of an id but for who is not heard from names a voter, a member or the leader
voter-or_leads : {Holds : Type 0} (view : ViewState) (id : ℕ) → IsVoterOrLeads view id Holds → (is_member view.conf_state id ≡ true) ⊎ (id ≡ view.lead)
voter-or_leads view id (inl votes) = inl (or_left _ _ votes.0)
voter-or_leads view id (inr leads) = inr leads

member-named : (strategy : Strategy) (target : Configuration) (down : Ids) (view : ViewState) (why : WaitReason) (ids : Ids) (id : ℕ)
    → ((situation strategy target down view).has_step ≡ true → has (situation strategy target down view).voters_after id ≡ true → is_member view.conf_state id ≡ true)
    → Kinds (situation strategy target down view) why ids → has ids id ≡ true → (is_member view.conf_state id ≡ true) ⊎ (id ≡ view.lead)
member-named strategy target down view why ids id after (OfHeard is some named) here =
    elim (subst (λ w. LacksWhatIsNamed w down view id) is (lacks-named strategy target down view why ids id (OfHeard is some named) here)).1 [
      | inl member ↦ inl member.0
      | inr leads ↦ inr leads
    ]
member-named strategy target down view why ids id after (OfLeader is counts leads named) here =
    inl (or_left _ _ (subst (λ w. LacksWhatIsNamed w down view id) is (lacks-named strategy target down view why ids id (OfLeader is counts leads named) here)).2)
member-named strategy target down view why ids id after (OfPending is heard voter pending named) here =
    voter-or_leads view id (subst (λ w. LacksWhatIsNamed w down view id) is (lacks-named strategy target down view why ids id (OfPending is heard voter pending named) here)).2
member-named strategy target down view why ids id after (OfLeaving is heard voter leaving named) here =
    voter-or_leads view id (subst (λ w. LacksWhatIsNamed w down view id) is (lacks-named strategy target down view why ids id (OfLeaving is heard voter leaving named) here)).2
member-named strategy target down view why ids id after (OfStep passed (inl behind)) here = inl (sym (has-all_members view.conf_state id) ∙ (behind.lagging id here).member)
member-named strategy target down view why ids id after (OfStep passed (inr unheard)) here = grind (arith, has-all_members)

-- ---- a wait is over
record IsClear (s : Situation) (id : ℕ) : Type 0 where
  passed : IsPassed s
  not_down : has s.down id ≡ false

clear-from_lagging : (s : Situation) (why : WaitReason) (ids : Ids) (id : ℕ) → Kinds s why ids → (why ≡ Unheard) ⊎ (why ≡ Behind) → has ids id ≡ true → IsClear s id
clear-from_lagging s why ids id (OfHeard is some named) (inl other) here = absurd (cc)
clear-from_lagging s why ids id (OfHeard is some named) (inr other) here = absurd (cc)
clear-from_lagging s why ids id (OfLeader is counts leads named) (inl other) here = absurd (cc)
clear-from_lagging s why ids id (OfLeader is counts leads named) (inr other) here = absurd (cc)
clear-from_lagging s why ids id (OfPending is heard voter pending named) (inl other) here = absurd (cc)
clear-from_lagging s why ids id (OfPending is heard voter pending named) (inr other) here = absurd (cc)
clear-from_lagging s why ids id (OfLeaving is heard voter leaving named) (inl other) here = absurd (cc)
clear-from_lagging s why ids id (OfLeaving is heard voter leaving named) (inr other) here = absurd (cc)
clear-from_lagging s why ids id (OfStep passed (inl behind)) lags here = record { passed = passed; not_down = (behind.lagging id here).not_down }
clear-from_lagging s why ids id (OfStep passed (inr unheard)) lags here = record { passed = passed; not_down = unheard.not_down id here }

-- whom a later wait names has not come
named-not_come : (strategy : Strategy) (target : Configuration) (down : Ids) (view : ViewState) (progress : List MemberView) (why : WaitReason) (ids : Ids) (id : ℕ) → IsClear (situation strategy target down view) id
    → HasCome (record view { progress = progress }) id → Kinds (situation strategy target down (record view { progress = progress })) why ids → has ids id ≡ true → ⊥
named-not_come strategy target down view progress why ids id clear come (OfHeard is some named) here = grind (arith, both_ways, in-common)
named-not_come strategy target down view progress why ids id clear come (OfLeader is counts leads named) here = both_ways _ (when-none (nat_eq view.lead 0) _ clear.passed.no_leader) leads
named-not_come strategy target down view progress why ids id clear come (OfPending is heard voter pending named) here = grind (arith, both_ways, pending-passed)
named-not_come strategy target down view progress why ids id clear come (OfLeaving is heard voter leaving named) here = grind (arith, both_ways, leaving-passed)
named-not_come strategy target down view progress why ids id clear come (OfStep passed (inl behind)) here =
    let lags = behind.lagging id here in
    let less = lacks-not_up down (record view { progress = progress }) id (sym (has-all_members view.conf_state id) ∙ lags.member) (behind.heard id here) lags.not_down lags.not_up in
    omega (arith, less, come.caught_up)
named-not_come strategy target down view progress why ids id clear come (OfStep passed (inr unheard)) here = both_ways _ (unheard.heard_not id here) come.heard

-- ---- the law
pub returns-clause-not_empty : goal.returns-clause-not_empty
returns-clause-not_empty c strategy target down view why ids is =
    let counted : IsCounted = record { fits = c.most_down_by_counting.ensures.fits; commits = c.most_down_by_counting.ensures.commits; fewer = c.fewer_uncounted_tolerate_more.ensures } in
    some-named (situation strategy target down view) why ids (kinds counted strategy target down view why ids is)

pub returns-clause-named : goal.returns-clause-named
returns-clause-named c strategy target down view why ids id is here =
    let counted : IsCounted = record { fits = c.most_down_by_counting.ensures.fits; commits = c.most_down_by_counting.ensures.commits; fewer = c.fewer_uncounted_tolerate_more.ensures } in
    lacks-named strategy target down view why ids id (kinds counted strategy target down view why ids is) here

first-of_steps : (steps : List Step) → has_step steps ≡ true → (step : Step) × ((rest : List Step) × (steps ≡ step ∷ rest))
first-of_steps [] some = absurd (both_ways _ refl some)
first-of_steps (step ∷ rest) some = (step, (rest, refl))

pub returns-clause-members : goal.returns-clause-members
returns-clause-members c strategy target down view why ids id can is here =
    let counted : IsCounted = record { fits = c.most_down_by_counting.ensures.fits; commits = c.most_down_by_counting.ensures.commits; fewer = c.fewer_uncounted_tolerate_more.ensures } in
    let now = view.conf_state in
    let path = path_by strategy down now target in
    let steps = one_change_each path in
    let promises = c.paths_keep_promises.ensures.promises strategy down now target can.valid_now can.valid_target can.path in
    let leads = c.one_change_each_leads.ensures strategy down now target can.valid_now can.valid_target can.path in
    member-named strategy target down view why ids id (λ some votes.
    let first = first-of_steps steps some in
    let run = subst (λ taken. IsRun now taken target) first.1.1 leads.run in
    let after : (situation strategy target down view).after ≡ run.0 = after_first-is now run.0 steps first.1.0 first.0 first.1.1 run.1 in
    let ready = first-holds MakesVotersOfReady now target run.0 steps first.1.0 first.0 first.1.1 run.1 (leads.ready (voters-learn_first strategy down now target path can.not_shortest promises)) in
    let votes_then : has (voter_ids run.0) id ≡ true = ap (λ d. has (voter_ids d) id) (sym after) ∙ votes in
    voters-were_members now run.0 first.0 id run.1 ready (sym (has-union run.0.incoming run.0.outgoing id) ∙ votes_then))
    (kinds counted strategy target down view why ids is) here

pub returns-clause-over : goal.returns-clause-over
returns-clause-over c strategy target down view why why_then ids ids_then id progress lags is here come again =
    let counted : IsCounted = record { fits = c.most_down_by_counting.ensures.fits; commits = c.most_down_by_counting.ensures.commits; fewer = c.fewer_uncounted_tolerate_more.ensures } in
    let clear = clear-from_lagging (situation strategy target down view) why ids id (kinds counted strategy target down view why ids is) lags here in
    elim (cases_Bool (has ids_then id)) [
      | inl there ↦ absurd (named-not_come strategy target down view progress why_then ids_then id clear come (kinds counted strategy target down (record view { progress = progress }) why_then ids_then again) there)
      | inr not_there ↦ not_there
    ]
