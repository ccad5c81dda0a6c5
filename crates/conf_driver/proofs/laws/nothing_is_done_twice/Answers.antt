use Rattle.std.proofs.Common.{◌≡◌, ℕ, true, not, sym, ap, ◌∙◌, inl, inr}
use Rattle.std.specs.Prelude.{nat_eq}
use Rattle.std.proofs.lemmas.Bool.{both_ways, or_left}
use Rattle.quorum_sets.specs.Ids.{Ids, has, is_empty}
use Rattle.quorum_sets.proofs.Offered.{has-union}
use Rattle.conf_change.specs.Configuration.{Configuration, member_ids}
use Rattle.conf_plan.specs.OneChangeEach.{one_change_each}
use Rattle.conf_plan.specs.PathBy.{path_by}
use Rattle.conf_plan.specs.declared.strategy.Strategy.{Strategy}
use Rattle.conf_driver.specs.IdSets.{◌∪◌, ◌∖◌}
use Rattle.conf_driver.specs.Next.{next_of, situation}
use Rattle.conf_driver.specs.View.{ViewState, voter_ids}
use Rattle.conf_driver.specs.declared.action.Action.TheVariants.{Transfer}
use Rattle.conf_driver.proofs.ServersAnswered.{IsStarted-from_answer, IsStopped-from_answer, none_to_start, none_to_stop, to_run}
use Rattle.conf_driver.proofs.Transfers.{IsSuccessor, MovesBeforeStep, MovesWhilePending, Moves, Moves-from_answer}
use Rattle.conf_driver.proofs.laws.nothing_is_done_twice.Goals as goal

pub returns-clause-start : goal.returns-clause-start
returns-clause-start c strategy target down view ids others is again =
    let s = situation strategy target down view in
    let steps = one_change_each (path_by strategy down view.conf_state target) in
    let first = IsStarted-from_answer s steps ids is in
    let second = IsStarted-from_answer (situation strategy target down (record view { running = view.running ∪ ids })) steps others again in
    both_ways _ second.some (ap (λ started. is_empty (to_run s ∖ (view.running ∪ started))) (sym first.named) ∙ none_to_start (to_run s) view.running)

pub returns-clause-stop : goal.returns-clause-stop
returns-clause-stop c strategy target down view ids others is again =
    let s = situation strategy target down view in
    let steps = one_change_each (path_by strategy down view.conf_state target) in
    let first = IsStopped-from_answer s steps ids is in
    let second = IsStopped-from_answer (situation strategy target down (record view { running = view.running ∖ ids })) steps others again in
    both_ways _ second.some (ap (λ stopped. is_empty (view.running ∖ stopped ∖ s.members ∖ member_ids target)) (sym first.named) ∙ none_to_stop view.running s.members (member_ids target))

-- ---- leadership
-- the view with another leader
abbrev led_by : ViewState → ℕ → ViewState
led_by view id = record view { lead = id }

moves : (strategy : Strategy) (target : Configuration) (down : Ids) (view : ViewState) (lead id : ℕ) → next_of strategy target down (led_by view lead) ≡ Transfer id
    → Moves (situation strategy target down (led_by view lead)) id
moves strategy target down view lead id is = Moves-from_answer (situation strategy target down (led_by view lead)) (one_change_each (path_by strategy down view.conf_state target)) id is

-- who has taken over votes
votes-then : (strategy : Strategy) (target : Configuration) (down : Ids) (view : ViewState) (lead id : ℕ) → Moves (situation strategy target down (led_by view lead)) id → has (voter_ids view.conf_state) id ≡ true
votes-then strategy target down view lead id (inl moved) = has-union view.conf_state.incoming view.conf_state.outgoing id ∙ or_left _ _ moved.incoming
votes-then strategy target down view lead id (inr (inl moved)) = has-union view.conf_state.incoming view.conf_state.outgoing id ∙ or_left _ _ moved.incoming
votes-then strategy target down view lead id (inr (inr moved)) = moved.votes

-- if a voter led and no change is pending, leadership does not move again
stays-before_step : (strategy : Strategy) (target : Configuration) (down : Ids) (view : ViewState) (lead id other : ℕ) → MovesBeforeStep (situation strategy target down (led_by view lead)) id
    → Moves (situation strategy target down (led_by view id)) other → ⊥
stays-before_step strategy target down view lead id other first (inl second) = both_ways _ second.leader first.votes
stays-before_step strategy target down view lead id other first (inr (inl second)) = both_ways _ first.pending second.pending
stays-before_step strategy target down view lead id other first (inr (inr second)) = both_ways _ second.leader first.may_lead

pub returns-clause-transfer : goal.returns-clause-transfer
returns-clause-transfer c strategy target down view id other leads none is again =
    elim (moves strategy target down view view.lead id is) [
      | inl first ↦ both_ways _ first.leader leads
      | inr (inl first) ↦ both_ways _ (ap (λ n. not (nat_eq n 0)) none) first.pending
      | inr (inr first) ↦ stays-before_step strategy target down view view.lead id other first (moves strategy target down view id other again)
    ]

-- if an incoming voter led while a change was pending, the one after it stays
stays-while_pending : (strategy : Strategy) (target : Configuration) (down : Ids) (view : ViewState) (lead id other : ℕ) → has view.conf_state.incoming lead ≡ true
    → MovesWhilePending (situation strategy target down (led_by view lead)) id → Moves (situation strategy target down (led_by view id)) other → ⊥
stays-while_pending strategy target down view lead id other incoming first (inl second) = both_ways _ second.leader (has-union view.conf_state.incoming view.conf_state.outgoing id ∙ or_left _ _ first.incoming)
stays-while_pending strategy target down view lead id other incoming first (inr (inr second)) = both_ways _ second.pending first.pending
stays-while_pending strategy target down view lead id other incoming first (inr (inl second)) = by_reason first.successor second.successor
  where
    by_reason : IsSuccessor (situation strategy target down (led_by view lead)) id → IsSuccessor (situation strategy target down (led_by view id)) other → ⊥
    by_reason (inl outgoing) again = both_ways _ outgoing.1 incoming
    by_reason (inr dropped) (inl outgoing) = both_ways _ outgoing.1 first.incoming
    by_reason (inr dropped) (inr again) = both_ways _ again.0 dropped.1

-- whoever led, leadership moves twice at most
stays-after_two : (strategy : Strategy) (target : Configuration) (down : Ids) (view : ViewState) (lead id other third : ℕ) → Moves (situation strategy target down (led_by view lead)) id
    → Moves (situation strategy target down (led_by view id)) other → Moves (situation strategy target down (led_by view other)) third → ⊥
stays-after_two strategy target down view lead id other third first (inl second) last = both_ways _ second.leader (votes-then strategy target down view lead id first)
stays-after_two strategy target down view lead id other third first (inr (inr second)) last = stays-before_step strategy target down view id other third second last
stays-after_two strategy target down view lead id other third (inl first) (inr (inl second)) last = stays-while_pending strategy target down view id other third first.incoming second last
stays-after_two strategy target down view lead id other third (inr (inl first)) (inr (inl second)) last = stays-while_pending strategy target down view id other third first.incoming second last
stays-after_two strategy target down view lead id other third (inr (inr first)) (inr (inl second)) last = both_ways _ first.pending second.pending

pub returns-clause-twice : goal.returns-clause-twice
returns-clause-twice c strategy target down view id other third is again last =
    stays-after_two strategy target down view view.lead id other third (moves strategy target down view view.lead id is) (moves strategy target down view id other again) (moves strategy target down view other third last)
