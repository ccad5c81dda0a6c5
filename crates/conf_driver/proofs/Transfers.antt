-- To whom leadership moves.
use Rattle.std.proofs.Common.{◌≡◌, ℕ, true, false, not, ◌&&◌, ◌==◌, List, [], ◌∷◌, sym, ap, ◌∙◌, arith, inl, inr, ◌⊎◌}
use Rattle.std.specs.Prelude.{Option, Some, None, option_map, slice_get, unwrap_or}
use Rattle.std.specs.List.{list_any}
use Rattle.std.proofs.lemmas.Bool.{and_parts, both_ways, cases_Bool, cond-false, cond-true, not-true}
use Rattle.quorum_sets.specs.Ids.{Ids, ascending, has, no_ids}
use Rattle.quorum_sets.proofs.Offered.{has-ascending, has-no_ids}
use Rattle.conf_change.specs.Configuration.{is_joint}
use Rattle.conf_change.specs.declared.step.Step.{Step}
use Rattle.conf_driver.specs.IdSets.{◌∩◌, ◌∖◌, least_of, or_second}
use Rattle.conf_driver.specs.Next.{answer_in, propose_first}
use Rattle.conf_driver.specs.Rows as row
use Rattle.conf_driver.specs.Rows.{successors, transfer_to_one, wait_for}
use Rattle.conf_driver.specs.View.{voter_ids}
use Rattle.conf_driver.specs.declared.action.Action.{Action}
use Rattle.conf_driver.specs.declared.action.Action.TheVariants.{Transfer}
use Rattle.conf_driver.specs.Situation.{Situation}
use Rattle.conf_driver.proofs.FirstRow.{by_rows, kind, kind-wait_for}
use Rattle.conf_driver.proofs.IdsByMember.{has-common, in-common}
use Rattle.conf_driver.proofs.RowAnswers.{some-if, some-unless}
use Rattle.conf_driver.proofs.RowsPassed.{nonvoter-passed, pending-passed}

-- ---- the least of some ids
first_item : (xs : List ℕ) (id : ℕ) → slice_get xs 0 ≡ Some id → list_any (λ x. id == x) xs ≡ true
first_item [] id is = grind arith
first_item (x ∷ xs) id is = grind arith

has-least_of : (ids : Ids) (id : ℕ) → least_of ids ≡ Some id → has ids id ≡ true
has-least_of ids id is = has-ascending ids id ∙ first_item (ascending ids) id is

transferred : (to : Option ℕ) (id : ℕ) → option_map Transfer to ≡ Some (Transfer id) → to ≡ Some id
transferred None id is = cc
transferred (Some other) id is = cc

one_of_two : (a b : Option ℕ) (id : ℕ) → or_second a b ≡ Some id → (a ≡ Some id) ⊎ (b ≡ Some id)
one_of_two None b id is = inr is
one_of_two (Some other) b id is = inl is

-- leadership moves to one of the ids
pub has-transfer_to_one : (s : Situation) (ids : Ids) (id : ℕ) → transfer_to_one s ids ≡ Some (Transfer id) → has ids id ≡ true
has-transfer_to_one s ids id is = elim (one_of_two (least_of (ids ∩ s.target.incoming)) (least_of ids) id (transferred _ id is)) [
  | inl first ↦ (and_parts _ _ (sym (has-common ids s.target.incoming id) ∙ has-least_of (ids ∩ s.target.incoming) id first)).0
  | inr second ↦ has-least_of ids id second
]

-- ---- the rows that move it
-- the leader does not vote, and leadership moves to an incoming voter
pub record MovesFromNonvoter (s : Situation) (id : ℕ) : Type 0 where
  pub leader : has s.voters s.lead ≡ false
  pub incoming : has s.before.incoming id ≡ true
  pub up : has s.up id ≡ true

-- where the other answer waits, leadership moves by the first
moved_first : (to : Option ℕ) (other : Action) (id : ℕ) → kind other ≡ 4 → unwrap_or (option_map Transfer to) other ≡ Transfer id → option_map Transfer to ≡ Some (Transfer id)
moved_first None other id waits is = absurd (let same : kind other ≡ 2 = ap kind is in omega (arith, same, waits))
moved_first (Some first) other id waits is = ap Some is

some_transfer : (a : Action) (id : ℕ) → Some a ≡ Some (Transfer id) → a ≡ Transfer id
some_transfer a id is = cc

MovesFromNonvoter-from_row : (s : Situation) (id : ℕ) → row.nonvoter_leads s ≡ Some (Transfer id) → MovesFromNonvoter s id
MovesFromNonvoter-from_row s id is =
    let ready = s.before.incoming ∩ s.up in
    let waits = wait_for s (s.before.incoming ∖ s.down) in
    let given = some-unless (has s.voters s.lead) (Some (unwrap_or (transfer_to_one s ready) waits)) (Transfer id) is in
    let moved = moved_first (or_second (least_of (ready ∩ s.target.incoming)) (least_of ready)) waits id (kind-wait_for s (s.before.incoming ∖ s.down)) (some_transfer _ id given.1) in
    let one = in-common s.before.incoming s.up id (has-transfer_to_one s ready id moved) in
    record { leader = given.0; incoming = one.0; up = one.1 }

-- whom leadership may move to while a change is pending: in a joint configuration from one that is not an incoming voter,
-- or from one that the target drops to one that stays
abbrev pub IsSuccessor : Situation → ℕ → Type 0
IsSuccessor s id =
    ((is_joint s.before ≡ true) × (has s.before.incoming s.lead ≡ false))
    ⊎ ((has (voter_ids s.target) s.lead ≡ false) × (has (voter_ids s.target) id ≡ true))

-- a change is pending, and leadership moves from a voter that is soon to lose its vote to an incoming voter
pub record MovesWhilePending (s : Situation) (id : ℕ) : Type 0 where
  pub pending : s.is_pending ≡ true
  pub leads : has s.voters s.lead ≡ true
  pub successor : IsSuccessor s id
  pub incoming : has s.before.incoming id ≡ true
  pub up : has s.up id ≡ true

in-successors : (s : Situation) (id : ℕ) → has (successors s) id ≡ true → IsSuccessor s id × ((has s.before.incoming id ≡ true) × (has s.up id ≡ true))
in-successors s id here =
    let outgoing = is_joint s.before && not (has s.before.incoming s.lead) in
    let ready = s.before.incoming ∩ s.up in
    let staying = s.before.incoming ∩ voter_ids s.target in
    elim (cases_Bool outgoing) [
      | inl leads ↦
          let tests = and_parts (is_joint s.before) _ leads in
          (inl (tests.0, not-true _ tests.1), in-common s.before.incoming s.up id (ap (λ ids. has ids id) (sym (cond-true outgoing ready _ leads)) ∙ here))
      | inr incoming ↦ elim (cases_Bool (has (voter_ids s.target) s.lead)) [
        | inl stays ↦ absurd (both_ways _ (has-no_ids id) (ap (λ ids. has ids id) (sym (cond-false outgoing ready _ incoming ∙ cond-true (has (voter_ids s.target) s.lead) no_ids (staying ∩ s.up) stays)) ∙ here))
        | inr dropped ↦
            let one = in-common staying s.up id (ap (λ ids. has ids id) (sym (cond-false outgoing ready _ incoming ∙ cond-false (has (voter_ids s.target) s.lead) no_ids (staying ∩ s.up) dropped)) ∙ here) in
            let both = in-common s.before.incoming (voter_ids s.target) id one.0 in
            (inr (dropped, both.1), (both.0, one.1))
      ]
    ]

MovesWhilePending-from_row : (s : Situation) (id : ℕ) → row.nonvoter_leads s ≡ None → row.leader_is_dropped s ≡ Some (Transfer id) → MovesWhilePending s id
MovesWhilePending-from_row s id votes is =
    let given = some-if s.is_pending (transfer_to_one s (successors s)) (Transfer id) is in
    let one = in-successors s id (has-transfer_to_one s (successors s) id given.1) in
    record { pending = given.0; leads = nonvoter-passed s votes; successor = one.0; incoming = one.1.0; up = one.1.1 }

-- no change is pending, and leadership moves from a voter that does not vote after the step to one that does
pub record MovesBeforeStep (s : Situation) (id : ℕ) : Type 0 where
  pub pending : s.is_pending ≡ false
  pub leads : has s.voters s.lead ≡ true
  pub leader : has s.voters_after s.lead ≡ false
  pub votes : has s.voters id ≡ true
  pub may_lead : has s.voters_after id ≡ true
  pub up : has s.up id ≡ true

MovesBeforeStep-from_row : (s : Situation) (id : ℕ) → row.nonvoter_leads s ≡ None → row.is_pending s ≡ None → row.leader_leaves s ≡ Some (Transfer id) → MovesBeforeStep s id
MovesBeforeStep-from_row s id votes pending is =
    let could = s.voters ∩ s.voters_after in
    let given = some-unless (has s.voters_after s.lead) (transfer_to_one s (could ∩ s.up)) (Transfer id) is in
    let one = in-common could s.up id (has-transfer_to_one s (could ∩ s.up) id given.1) in
    let both = in-common s.voters s.voters_after id one.0 in
    record { pending = pending-passed s pending; leads = nonvoter-passed s votes; leader = given.0; votes = both.0; may_lead = both.1; up = one.1 }

not_last : {P : Type 0} (steps : List Step) (id : ℕ) → propose_first steps ≡ Transfer id → P
not_last [] id is = absurd (cc)
not_last (step ∷ steps) id is = absurd (cc)

-- the ways in which leadership moves
abbrev pub Moves : Situation → ℕ → Type 0
Moves s id = MovesFromNonvoter s id ⊎ MovesWhilePending s id ⊎ MovesBeforeStep s id

pub Moves-from_answer : (s : Situation) (steps : List Step) (id : ℕ) → answer_in s steps ≡ Transfer id → Moves s id
Moves-from_answer s steps id is =
    by_rows (Moves s id) s steps (Transfer id) (λ lost heard leaderless. (
      λ here. inl (MovesFromNonvoter-from_row s id here),
      λ votes. (
        λ here. inr (inl (MovesWhilePending-from_row s id votes here)),
        λ dropped pending stalls reused started stopped leaving. (
          λ here. inr (inr (MovesBeforeStep-from_row s id votes pending here)),
          λ leaves lags target new behind quorum silent last. not_last steps id last,
        ),
      ),
    )) is
