-- Each answer can be carried out, but those that lead to nothing.
use Rattle.std.proofs.Common.{◌≡◌, ◌≢◌, ℕ, true, false, not, ◌&&◌, ◌||◌, ◌==◌, ◌∷◌, refl, sym, ap, subst, ◌∙◌, arith, eq-eqb, inl}
use Rattle.std.specs.Prelude.{flat_map, nat_le}
use Rattle.std.proofs.lemmas.Bool.{and_from, and_parts, cases_Bool, cond-false, cond-true, le-leb, or_left, or_right}
use Rattle.quorum_sets.specs.Ids.{Ids, has}
use Rattle.quorum_sets.proofs.Offered.{has-ids_of}
use Rattle.conf_change.specs.Configuration.{Configuration, is_member}
use Rattle.conf_change.specs.declared.step.Step.{Step}
use Rattle.conf_change.specs.declared.step.Step.TheVariants.{LeaveJoint}
use Rattle.conf_change.proofs.Offered.{has-all_members}
use Rattle.conf_plan.specs.Run.{Gives, IsRun}
use Rattle.conf_plan.specs.declared.strategy.Strategy.{Strategy}
use Rattle.conf_driver.specs.CarriedOut.{CarriedOut, IsSamePlace, IsTaken}
use Rattle.conf_driver.specs.IdSets.{◌∪◌, ◌∖◌}
use Rattle.conf_driver.specs.Moment.{IsMoment, Moment}
use Rattle.conf_driver.specs.Nearer.{needed}
use Rattle.conf_driver.specs.Next.{situation}
use Rattle.conf_driver.specs.View.{ViewState, caught_up_index, heard, heard_from, match_of, up_and_caught_up}
use Rattle.conf_driver.specs.declared.action.Action.{Action}
use Rattle.conf_driver.specs.declared.action.Action.TheVariants.{Start, Stop, Transfer, Propose, Wait, Stuck, Done}
use Rattle.conf_driver.specs.declared.action.StuckReason.{StuckReason}
use Rattle.conf_driver.specs.declared.action.WaitReason.TheVariants.{NoLeader, Pending, Heard, Unheard, Behind, Leaving}
use Rattle.conf_driver.specs.declared.view.MemberView.{MemberView}
use Rattle.conf_driver.proofs.Answered.{IsFirst, Says}
use Rattle.conf_driver.proofs.IdsByMember.{in-without}
use Rattle.conf_driver.proofs.Moments.{AreKept, IsOfMembers-from_view}
use Rattle.conf_driver.proofs.Needed.{needed-are_members}
use Rattle.conf_driver.proofs.Sizes.{id-of_some}
use Rattle.conf_driver.proofs.Ways.{steps_to}
use Rattle.conf_driver.proofs.WhoIsUp.{has-up}

-- ---- an id that comes: it is heard from, and has caught up
abbrev comer : ViewState → ℕ → MemberView
comer view id = record { id = id; matched = caught_up_index view; recent_active = true }

abbrev with_comer : ViewState → ℕ → ViewState
with_comer view id = record view { progress = comer view id ∷ view.progress }

heard-with_comer : (view : ViewState) (id q : ℕ) → has (heard_from (with_comer view id)) q ≡ (q == id || has (heard_from view) q)
heard-with_comer view id q = has-ids_of (id ∷ flat_map heard view.progress) q ∙ ap (λ b. q == id || b) (sym (has-ids_of (flat_map heard view.progress) q))

match-of_comer : (view : ViewState) (id q : ℕ) → (id == q) ≡ true → match_of (with_comer view id) q ≡ caught_up_index view
match-of_comer view id q same = grind (arith, cond-true)

match-of_other : (view : ViewState) (id q : ℕ) → (id == q) ≡ false → match_of (with_comer view id) q ≡ match_of view q
match-of_other view id q other = grind (arith, cond-false)

-- who had caught up still has
reaches : (view : ViewState) (id q : ℕ) → nat_le (caught_up_index view) (match_of view q) ≡ true → nat_le (caught_up_index view) (match_of (with_comer view id) q) ≡ true
reaches view id q had = grind (arith, cases_Bool, match-of_comer, le-leb, match-of_other)

up-with_comer : (down : Ids) (view : ViewState) (id q : ℕ) → has (up_and_caught_up down view) q ≡ true → has (up_and_caught_up down (with_comer view id)) q ≡ true
up-with_comer down view id q is_up =
    let parts = and_parts (nat_le (caught_up_index view) (match_of view q)) _ (sym (has-up down view q) ∙ is_up) in
    let tests = and_parts (is_member view.conf_state q && has (heard_from view) q) _ parts.1 in
    let both = and_parts (is_member view.conf_state q) _ tests.0 in
    has-up down (with_comer view id) q
    ∙ and_from _ _ (reaches view id q parts.0) (and_from _ _ (and_from _ _ both.0 (heard-with_comer view id q ∙ or_right (q == id) _ both.1)) tests.1)

comer-is_up : (down : Ids) (view : ViewState) (id : ℕ) → is_member view.conf_state id ≡ true → has down id ≡ false → has (up_and_caught_up down (with_comer view id)) id ≡ true
comer-is_up down view id member not_down =
    let same = eq-eqb id id refl in
    has-up down (with_comer view id) id
    ∙ and_from _ _ (ap (nat_le (caught_up_index view)) (match-of_comer view id id same) ∙ le-leb (caught_up_index view) (caught_up_index view) (omega arith))
    (and_from _ _ (and_from _ _ member (heard-with_comer view id id ∙ or_left _ _ same)) (ap not not_down))

-- ---- the next moment
same-place : (now next : Moment) → next.view.conf_state ≡ now.view.conf_state → next.becomes ≡ now.becomes → next.view.pending_conf_index ≡ now.view.pending_conf_index → IsSamePlace now next
same-place now next conf_state becomes pending = record { conf_state = conf_state; becomes = becomes; pending = (λ none. sym pending ∙ none, λ none. pending ∙ none) }

-- what a step gives
gives-first : AreKept → (strategy : Strategy) (target : Configuration) (down : Ids) (now : Moment) (step : Step) → IsMoment strategy target now
    → IsFirst (situation strategy target down now.view) (steps_to strategy target down now.view.conf_state) step → (after : Configuration) × Gives now.view.conf_state step after
gives-first kept strategy target down now step moment first =
    let can = moment.can in
    let leads = kept.leads strategy down now.view.conf_state target can.valid_now can.valid_target can.path in
    let run = subst (λ taken. IsRun now.view.conf_state taken target) first.is leads.run in
    (run.0, run.1)

taken : AreKept → (strategy : Strategy) (target : Configuration) (down : Ids) (now : Moment) (step : Step) → IsMoment strategy target now
    → IsFirst (situation strategy target down now.view) (steps_to strategy target down now.view.conf_state) step
    → (after : Configuration) × IsTaken step now (record { view = record (now.view) { conf_state = after; pending_conf_index = 0 }; becomes = after })
taken kept strategy target down now step moment first =
    let gives = gives-first kept strategy target down now step moment first in
    (gives.0, (gives.0, gives.1, inl (record { conf_state = refl; becomes = refl; not_pending = refl })))

pub possible : AreKept → (strategy : Strategy) (target : Configuration) (down : Ids) (now : Moment) (answer : Action) → IsMoment strategy target now
    → Says (situation strategy target down now.view) (steps_to strategy target down now.view.conf_state) answer
    → answer ≢ Done → ((why : StuckReason) (ids : Ids) → answer ≢ Stuck why ids) → ((ids : Ids) → answer ≢ Wait Heard ids) → (next : Moment) × CarriedOut down now answer next
possible kept strategy target down now (Start ids) moment says not_done not_stuck not_heard = (
  record { view = record (now.view) { running = now.view.running ∪ ids }; becomes = now.becomes },
  record { leader = says.0; running = refl; retired = refl; max_lag = refl; leads = (same-place now _ refl refl refl, refl) },
)
possible kept strategy target down now (Stop ids) moment says not_done not_stuck not_heard = (
  record { view = record (now.view) { running = now.view.running ∖ ids; retired = now.view.retired ∪ ids }; becomes = now.becomes },
  record { leader = says.0; running = refl; retired = refl; max_lag = refl; leads = (same-place now _ refl refl refl, refl) },
)
possible kept strategy target down now (Transfer id) moment says not_done not_stuck not_heard = (
  record { view = record (now.view) { lead = id }; becomes = now.becomes },
  record { leader = says.some; running = refl; retired = refl; max_lag = refl; leads = (refl, inl (same-place now _ refl refl refl)) },
)
possible kept strategy target down now (Propose step) moment says not_done not_stuck not_heard =
    let to = taken kept strategy target down now step moment says.1 in
    (record { view = record (now.view) { conf_state = to.0; pending_conf_index = 0 }; becomes = to.0 }, record { leader = says.0; running = refl; retired = refl; max_lag = refl; leads = to.1 })
possible kept strategy target down now (Wait NoLeader ids) moment says not_done not_stuck not_heard = (
  record { view = record (now.view) { lead = 1 }; becomes = now.becomes },
  record { leader = λ none. absurd (omega (arith, none)); running = refl; retired = refl; max_lag = refl; leads = same-place now _ refl refl refl },
)
possible kept strategy target down now (Wait Pending ids) moment says not_done not_stuck not_heard = (
  record { view = record (now.view) { conf_state = now.becomes; pending_conf_index = 0 }; becomes = now.becomes },
  record { leader = says.0; running = refl; retired = refl; max_lag = refl; leads = record { conf_state = refl; becomes = refl; not_pending = refl } },
)
possible kept strategy target down now (Wait Heard ids) moment says not_done not_stuck not_heard = absurd (not_heard ids refl)
possible kept strategy target down now (Wait Unheard ids) moment says not_done not_stuck not_heard =
    let view = now.view in
    let one = id-of_some ids says.1.some in (
      record { view = with_comer view one.0; becomes = now.becomes },
      record {
        leader = says.0;
        running = refl;
        retired = refl;
        max_lag = refl;
        leads = (
          same-place now _ refl refl refl,
          refl,
          record {
            heard = λ q member here. heard-with_comer view one.0 q ∙ or_right (q == one.0) _ here;
            up = up-with_comer down view one.0;
            one = (one.0, one.1, heard-with_comer view one.0 one.0 ∙ or_left _ _ (eq-eqb one.0 one.0 refl));
          },
        );
      },
    )
possible kept strategy target down now (Wait Behind ids) moment says not_done not_stuck not_heard =
    let view = now.view in
    let s = situation strategy target down view in
    let one = id-of_some ids says.1.some in
    let of_down = in-without (needed s) down one.0 (in-without (needed s ∖ down) s.up one.0 (says.1.within one.0 one.1)).0 in
    let member : is_member view.conf_state one.0 ≡ true = sym (has-all_members view.conf_state one.0) ∙ needed-are_members s (IsOfMembers-from_view kept strategy target down view moment.can) one.0 of_down.0 in (
      record { view = with_comer view one.0; becomes = now.becomes },
      record {
        leader = says.0;
        running = refl;
        retired = refl;
        max_lag = refl;
        leads = (
          same-place now _ refl refl refl,
          refl,
          record {
            heard = λ q member here. heard-with_comer view one.0 q ∙ or_right (q == one.0) _ here;
            up = up-with_comer down view one.0;
            one = (one.0, one.1, comer-is_up down view one.0 member of_down.1);
          },
        );
      },
    )
possible kept strategy target down now (Wait Leaving ids) moment says not_done not_stuck not_heard =
    let to = taken kept strategy target down now LeaveJoint moment says.1 in
    (record { view = record (now.view) { conf_state = to.0; pending_conf_index = 0 }; becomes = to.0 }, record { leader = says.0; running = refl; retired = refl; max_lag = refl; leads = to.1 })
possible kept strategy target down now (Stuck why ids) moment says not_done not_stuck not_heard = absurd (not_stuck why ids refl)
possible kept strategy target down now Done moment says not_done not_stuck not_heard = absurd (not_done refl)
