use Rattle.std.proofs.Common.{◌≡◌, ◌≢◌, ℕ, true, not, sym, ap, subst, ◌∙◌, arith, inl, inr}
use Rattle.std.specs.Prelude.{nat_eq}
use Rattle.std.proofs.lemmas.Bool.{both_ways, cases_Bool, or_left}
use Rattle.quorum_sets.specs.Ids.{Ids, has, is_empty}
use Rattle.quorum_sets.specs.Voters.{is_quorum}
use Rattle.quorum_sets.proofs.Offered.{QuorumsMeet-from_neighbours, has-union}
use Rattle.conf_change.specs.Configuration.{Configuration, voters_of}
use Rattle.conf_change.specs.declared.step.Step.{Step}
use Rattle.conf_change.proofs.Offered.{outcome-are_neighbours}
use Rattle.conf_plan.specs.OneChangeEach.{one_change_each}
use Rattle.conf_plan.specs.PathBy.{path_by}
use Rattle.conf_plan.specs.Run.{Gives, IsRun}
use Rattle.conf_driver.specs.IdSets.{◌∩◌, ◌∖◌}
use Rattle.conf_driver.specs.Leadership.{after_first_step}
use Rattle.conf_driver.specs.Next.{situation}
use Rattle.conf_driver.specs.View.{up_and_caught_up, voter_ids}
use Rattle.conf_driver.proofs.Counting.{is_quorum-of_voters}
use Rattle.conf_driver.proofs.FirstStep.{after_first-is}
use Rattle.conf_driver.proofs.IdsByMember.{has-common-is, in-common, in-second}
use Rattle.conf_driver.proofs.Proposed.{IsProposed-from_answer, first_step, zero-from_test}
use Rattle.conf_driver.proofs.RowsPassed.{successor-passed}
use Rattle.conf_driver.proofs.Transfers.{Moves-from_answer}
use Rattle.conf_driver.proofs.WhoIsUp.{up-not_down}
use Rattle.conf_driver.proofs.laws.leadership_moves_to_who_may_lead.Goals as goal

zero-is_not : (n : ℕ) → not (nat_eq n 0) ≡ true → n ≢ 0
zero-is_not n some = grind (arith, some)

-- an incoming voter votes
incoming-votes : (c : Configuration) (id : ℕ) → has c.incoming id ≡ true → has (voter_ids c) id ≡ true
incoming-votes c id here = has-union c.incoming c.outgoing id ∙ or_left _ _ here

pub returns-clause-transfer : goal.returns-clause-transfer
returns-clause-transfer c strategy target down view id is =
    let s = situation strategy target down view in
    let now = view.conf_state in
    let after = after_first_step strategy target down view in
    elim (Moves-from_answer s (one_change_each (path_by strategy down now target)) id is) [
      | inl moves ↦ record {
        up = moves.up;
        votes = or_left _ (has now.outgoing id) moves.incoming;
        other = λ same. both_ways _ moves.leader (ap (has (voter_ids now)) (sym same) ∙ incoming-votes now id moves.incoming);
        pending = λ why. moves.incoming;
        may_lead = λ none leads. absurd (both_ways _ moves.leader leads);
        had_to = inl moves.leader;
      }
      | inr (inl moves) ↦ record {
        up = moves.up;
        votes = or_left _ (has now.outgoing id) moves.incoming;
        other = λ same. elim moves.successor [
          | inl outgoing ↦ both_ways _ outgoing.1 (ap (has now.incoming) (sym same) ∙ moves.incoming)
          | inr dropped ↦ both_ways _ dropped.0 (ap (has (voter_ids target)) (sym same) ∙ dropped.1)
        ];
        pending = λ why. moves.incoming;
        may_lead = λ none leads. absurd (zero-is_not view.pending_conf_index moves.pending none);
        had_to = let some = zero-is_not view.pending_conf_index moves.pending in inr (elim moves.successor [
          | inl outgoing ↦ inl (some, outgoing.0, outgoing.1)
          | inr dropped ↦ inr (inl (some, dropped.0))
        ]);
      }
      | inr (inr moves) ↦ let none = zero-from_test view.pending_conf_index moves.pending in record {
        up = moves.up;
        votes = sym (has-union now.incoming now.outgoing id) ∙ moves.votes;
        other = λ same. both_ways _ moves.leader (ap (has s.voters_after) (sym same) ∙ moves.may_lead);
        pending = λ why. elim why [
          | inl some ↦ absurd (some none)
          | inr leads_not ↦ absurd (both_ways _ leads_not moves.leads)
        ];
        may_lead = λ none_pending leads. moves.may_lead;
        had_to = inr (inr (inr (none, moves.leader)));
      }
    ]

-- who is up is a quorum before and after a step, so some voter of both is up
pub up_in_both : (now after : Configuration) (step : Step) (up : Ids) → Gives now step after → is_quorum (voters_of now) up ≡ true → is_quorum (voters_of after) up ≡ true
    → (id : ℕ) × ((has (voter_ids now ∩ up) id ≡ true) × (has (voter_ids after ∩ up) id ≡ true))
up_in_both now after step up gives before later =
    let met = QuorumsMeet-from_neighbours (voters_of now) (voters_of after) (outcome-are_neighbours now after step gives) (voter_ids now ∩ up) (voter_ids after ∩ up)
    (record { quorum_before = is_quorum-of_voters now up ∙ before; quorum_after = is_quorum-of_voters after up ∙ later }) in
    (met.0, (met.1.in_first, met.1.in_second))

pub returns-clause-proposal : goal.returns-clause-proposal
returns-clause-proposal c strategy target down view step can is =
    let s = situation strategy target down view in
    let now = view.conf_state in
    let up = up_and_caught_up down view in
    let steps = one_change_each (path_by strategy down now target) in
    let proposed = IsProposed-from_answer s steps step is in
    let first = first_step steps step proposed.last in
    let run = subst (λ taken. IsRun now taken target) first.1 (c.one_change_each_leads.ensures strategy down now target can.valid_now can.valid_target can.path).run in
    let after = run.0 in
    let same : s.after ≡ after = after_first-is now after steps first.0 step first.1 run.1 in
    let kept = c.steps_keep_quorums.ensures strategy target down view step after can is run.1 in
    elim (cases_Bool (has s.voters_after view.lead)) [
      | inl leads ↦ leads
      | inr leads_not ↦
          let none = subst (λ d. is_empty (voter_ids now ∩ voter_ids d ∖ down) ≡ true) same (successor-passed s proposed.successor_lags leads_not) in
          let both = up_in_both now after step up run.1 kept.before kept.then in
          let of_now = in-common (voter_ids now) up both.0 both.1.0 in
          let of_after = in-common (voter_ids after) up both.0 both.1.1 in
          absurd (both_ways _ (up-not_down down view both.0 of_now.1) (in-second (voter_ids now ∩ voter_ids after) down both.0 none (has-common-is (voter_ids now) (voter_ids after) both.0 of_now.0 of_after.0)))
    ]
