use Rattle.std.proofs.Common.{◌≡◌, true, false, not, ◌∷◌, ◌++◌, sym, ap, ◌∙◌, inl, inr}
use Rattle.std.specs.Prelude.{Some, None, unwrap_or}
use Rattle.std.proofs.lemmas.Bool.{and_from, both_ways, cases_Bool, cond-true}
use Rattle.quorum_sets.specs.Ids.{Ids, has, is_empty}
use Rattle.quorum_sets.specs.Tolerance.{commits_without}
use Rattle.quorum_sets.specs.Voters.{is_quorum}
use Rattle.conf_change.specs.Configuration.{Configuration, member_ids, voters_of}
use Rattle.conf_change.proofs.Offered.{has-all_members}
use Rattle.conf_plan.specs.PathBy.{path_by}
use Rattle.conf_plan.specs.declared.strategy.Strategy.{Strategy}
use Rattle.conf_driver.specs.IdSets.{◌∩◌, ◌∖◌}
use Rattle.conf_driver.specs.Next.{next_of, propose_first, situation}
use Rattle.conf_driver.specs.Rows as row
use Rattle.conf_driver.specs.Rows.{first_of, rows_of_path, rows_of_step}
use Rattle.conf_driver.specs.View.{ViewState, voter_ids}
use Rattle.conf_driver.specs.declared.action.Action.TheVariants.{Stuck}
use Rattle.conf_driver.specs.declared.action.StuckReason.TheVariants.{QuorumLost, Stalls, Reused}
use Rattle.conf_driver.specs.Situation.{Situation}
use Rattle.conf_driver.proofs.Counted.{IsCounted}
use Rattle.conf_driver.proofs.Counting.{is_quorum-not_down}
use Rattle.conf_driver.proofs.IdsByMember.{in-common, in-without}
use Rattle.conf_driver.proofs.PathStalls.{stalls_not-at_its_ends}
use Rattle.conf_driver.proofs.StuckBy.{IsStuckBy, ByQuorum, ByStall, ByReuse, IsStuckBy-from_answer}
use Rattle.conf_driver.proofs.Ways.{steps_to}
use Rattle.conf_driver.proofs.laws.arrival.stuck_is_true.Goals as goal

-- ---- the voters that are not down are no quorum
lost : (s : Situation) (ids : Ids) → IsStuckBy s QuorumLost ids → (is_quorum (voters_of s.before) (s.voters ∖ s.down) ≡ false) × (ids ≡ (s.voters ∩ s.down))
lost s ids (ByQuorum is fails named) = (fails, sym named)
lost s ids (ByStall is quorum stalls) = absurd (cc)
lost s ids (ByReuse is some named) = absurd (cc)

-- the first row answers
lost_first : (strategy : Strategy) (target : Configuration) (down : Ids) (view : ViewState) (ids : Ids) → commits_without (voters_of view.conf_state) down ≡ false → ids ≡ (voter_ids view.conf_state ∩ down)
    → next_of strategy target down view ≡ Stuck QuorumLost ids
lost_first strategy target down view ids fails named =
    let s = situation strategy target down view in
    let now = view.conf_state in
    let here : row.quorum_lost s ≡ Some (Stuck QuorumLost ids) =
    cond-true (not (is_quorum (voters_of now) (voter_ids now ∖ down))) (Some (Stuck QuorumLost (voter_ids now ∩ down))) None (ap not (is_quorum-not_down now down ∙ fails))
    ∙ ap (λ t. Some (Stuck QuorumLost t)) (sym named) in
    let others = row.down_is_heard s ∷ row.no_leader s ∷ row.nonvoter_leads s ∷ row.leader_is_dropped s ∷ row.is_pending s ∷ rows_of_path s ++ rows_of_step s in
    ap (λ given. unwrap_or (first_of (given ∷ others)) (propose_first (steps_to strategy target down now))) here

pub returns-clause-quorum_lost : goal.returns-clause-quorum_lost
returns-clause-quorum_lost c strategy target down view ids can = (
  λ is.
      let s = situation strategy target down view in
      let found = lost s ids (IsStuckBy-from_answer s (steps_to strategy target down view.conf_state) QuorumLost ids is) in
      (sym (is_quorum-not_down view.conf_state down) ∙ found.0, found.1),
  λ given. lost_first strategy target down view ids given.0 given.1,
)

-- ---- an end commits nothing
stalled : (s : Situation) (ids : Ids) → IsStuckBy s Stalls ids → (is_quorum (voters_of s.before) (s.voters ∖ s.down) ≡ true) × (s.stalls ≡ true)
stalled s ids (ByQuorum is fails named) = absurd (cc)
stalled s ids (ByStall is quorum stalls) = (quorum, stalls)
stalled s ids (ByReuse is some named) = absurd (cc)

pub returns-clause-stalls : goal.returns-clause-stalls
returns-clause-stalls c strategy target down view ids can is =
    let now = view.conf_state in
    let s = situation strategy target down view in
    let counted : IsCounted = record { fits = c.most_down_by_counting.ensures.fits; commits = c.most_down_by_counting.ensures.commits; fewer = c.fewer_uncounted_tolerate_more.ensures } in
    let found = stalled s ids (IsStuckBy-from_answer s (steps_to strategy target down now) Stalls ids is) in
    let commits : commits_without (voters_of now) down ≡ true = sym (is_quorum-not_down now down) ∙ found.0 in
    let promises = c.paths_keep_promises.ensures.promises strategy down now target can.valid_now can.valid_target can.path in (
      commits,
      elim (cases_Bool (commits_without (voters_of target) down)) [
        | inl there ↦ absurd (both_ways _ (stalls_not-at_its_ends counted strategy down now target (path_by strategy down now target) can.not_shortest promises commits there) found.1)
        | inr fails ↦ fails
      ],
    )

-- ---- ids that were stopped for good
reused : (s : Situation) (ids : Ids) → IsStuckBy s Reused ids → (is_empty ids ≡ false) × (((member_ids s.target ∖ s.voters) ∩ s.retired) ≡ ids)
reused s ids (ByQuorum is fails named) = absurd (cc)
reused s ids (ByStall is quorum stalls) = absurd (cc)
reused s ids (ByReuse is some named) = (some, named)

pub returns-clause-some_reused : goal.returns-clause-some_reused
returns-clause-some_reused c strategy target down view ids is =
    let s = situation strategy target down view in
    (reused s ids (IsStuckBy-from_answer s (steps_to strategy target down view.conf_state) Reused ids is)).0

pub returns-clause-reused : goal.returns-clause-reused
returns-clause-reused c strategy target down view ids id is here =
    let s = situation strategy target down view in
    let found = reused s ids (IsStuckBy-from_answer s (steps_to strategy target down view.conf_state) Reused ids is) in
    let parts = in-common (member_ids target ∖ s.voters) view.retired id (ap (λ t. has t id) found.1 ∙ here) in
    let member = in-without (member_ids target) s.voters id parts.0 in
    and_from _ _ (and_from _ _ (sym (has-all_members target id) ∙ member.0) (ap not member.1)) parts.1
