-- Which row answers.
use Rattle.std.proofs.Common.{◌≡◌, ℕ, Bool, true, false, ◌||◌, List, [], ◌∷◌, map, refl, ap, arith}
use Rattle.std.specs.Prelude.{Option, Some, None, IfSome, nat_eq, option_map, unwrap_or, if◌then◌else◌}
use Rattle.quorum_sets.specs.Ids.{Ids, is_empty}
use Rattle.conf_change.specs.Configuration.{member_ids}
use Rattle.conf_change.specs.declared.step.Step.{Step}
use Rattle.conf_driver.specs.IdSets.{◌∪◌, ◌∩◌, ◌∖◌}
use Rattle.conf_driver.specs.Next.{answer_in, propose_first}
use Rattle.conf_driver.specs.Rows as row
use Rattle.conf_driver.specs.Rows.{done_or_wait, first_of, if_any, wait_for}
use Rattle.conf_driver.specs.declared.action.Action.{Action}
use Rattle.conf_driver.specs.declared.action.Action.TheVariants.{Start, Stop, Transfer, Propose, Wait, Stuck, Done}
use Rattle.conf_driver.specs.Situation.{Situation}

-- ---- kinds of actions
abbrev pub kind : Action → ℕ
kind (Start _) = 0
kind (Stop _) = 1
kind (Transfer _) = 2
kind (Propose _) = 3
kind (Wait _ _) = 4
kind (Stuck _ _) = 5
kind Done = 6

-- a row answers only by actions of these kinds
abbrev AnswersBy : (ℕ → Bool) → Option Action → Type 0
AnswersBy may given = IfSome given (λ a. may (kind a) ≡ true)

by-if : (may : ℕ → Bool) (holds : Bool) (one other : Option Action) → AnswersBy may one → AnswersBy may other → AnswersBy may (if holds then one else other)
by-if may true one other of_one of_other = of_one
by-if may false one other of_one of_other = of_other

by-if_any : (may : ℕ → Bool) (ids : Ids) (answer : Ids → Action) → may (kind (answer ids)) ≡ true → AnswersBy may (if_any ids answer)
by-if_any may ids answer is = by-if may (is_empty ids) None (Some (answer ids)) tt is

by-transfer : (id : Option ℕ) → AnswersBy (nat_eq 2) (option_map Transfer id)
by-transfer None = tt
by-transfer (Some id) = refl

by-transfer_or_wait : (to : Option ℕ) (other : Action) → kind other ≡ 4 → AnswersBy (λ k. nat_eq 2 k || nat_eq 4 k) (Some (unwrap_or (option_map Transfer to) other))
by-transfer_or_wait None other waits = ap (λ k. nat_eq 2 k || nat_eq 4 k) waits
by-transfer_or_wait (Some id) other waits = refl

pub kind-wait_for : (s : Situation) (ids : Ids) → kind (wait_for s ids) ≡ 4
kind-wait_for s ids = grind arith

kind-done_or_wait : (s : Situation) (ids : Ids) → (nat_eq 4 (kind (done_or_wait s ids)) || nat_eq 6 (kind (done_or_wait s ids))) ≡ true
kind-done_or_wait s ids = grind (arith, kind-wait_for s ids)

-- ---- the rows with the kinds of their answers
abbrev Row : Type 0
Row = Option Action × (ℕ → Bool)

abbrev rows : Situation → List Row
rows s =
    (row.quorum_lost s, nat_eq 5) ∷ (row.down_is_heard s, nat_eq 4) ∷ (row.no_leader s, nat_eq 4)
    ∷ (row.nonvoter_leads s, λ k. nat_eq 2 k || nat_eq 4 k) ∷ (row.leader_is_dropped s, nat_eq 2) ∷ (row.is_pending s, nat_eq 4)
    ∷ (row.path_stalls s, nat_eq 5) ∷ (row.id_is_reused s, nat_eq 5) ∷ (row.not_started s, nat_eq 0) ∷ (row.not_stopped s, nat_eq 1) ∷ (row.is_leaving s, nat_eq 4)
    ∷ (row.leader_leaves s, nat_eq 2) ∷ (row.successor_lags s, nat_eq 4) ∷ (row.at_target s, λ k. nat_eq 4 k || nat_eq 6 k) ∷ (row.new_voter_lags s, nat_eq 4)
    ∷ (row.voter_is_behind s, nat_eq 4) ∷ (row.no_quorum_is_up s, nat_eq 4) ∷ (row.voter_is_silent s, nat_eq 4) ∷ []

abbrev HaveKinds : List Row → Type 0
HaveKinds [] = Unit {0}
HaveKinds (row ∷ more) = AnswersBy row.1 row.0 × HaveKinds more

kind-quorum_lost : (s : Situation) → AnswersBy (nat_eq 5) (row.quorum_lost s)
kind-quorum_lost s = grind (arith, kind-wait_for s, kind-done_or_wait s, by-transfer)

kind-down_is_heard : (s : Situation) → AnswersBy (nat_eq 4) (row.down_is_heard s)
kind-down_is_heard s = grind (arith, kind-wait_for s, kind-done_or_wait s, by-transfer)

kind-no_leader : (s : Situation) → AnswersBy (nat_eq 4) (row.no_leader s)
kind-no_leader s = grind (arith, kind-wait_for s, kind-done_or_wait s, by-transfer)

kind-nonvoter_leads : (s : Situation) → AnswersBy (λ k. nat_eq 2 k || nat_eq 4 k) (row.nonvoter_leads s)
kind-nonvoter_leads s = grind (arith, by-if, by-transfer_or_wait, kind-wait_for)

kind-leader_is_dropped : (s : Situation) → AnswersBy (nat_eq 2) (row.leader_is_dropped s)
kind-leader_is_dropped s = grind (arith, kind-wait_for s, kind-done_or_wait s, by-transfer)

kind-is_pending : (s : Situation) → AnswersBy (nat_eq 4) (row.is_pending s)
kind-is_pending s = grind (arith, kind-wait_for s, kind-done_or_wait s, by-transfer)

kind-path_stalls : (s : Situation) → AnswersBy (nat_eq 5) (row.path_stalls s)
kind-path_stalls s = grind (arith, kind-wait_for s, kind-done_or_wait s, by-transfer)

kind-id_is_reused : (s : Situation) → AnswersBy (nat_eq 5) (row.id_is_reused s)
kind-id_is_reused s = grind (arith, kind-wait_for s, kind-done_or_wait s, by-transfer)

kind-not_started : (s : Situation) → AnswersBy (nat_eq 0) (row.not_started s)
kind-not_started s = by-if_any (nat_eq 0) ((member_ids s.after ∪ s.members) ∩ member_ids s.target ∖ s.voters ∖ s.down ∖ s.running) Start refl

kind-not_stopped : (s : Situation) → AnswersBy (nat_eq 1) (row.not_stopped s)
kind-not_stopped s = grind (arith, kind-wait_for s, kind-done_or_wait s, by-transfer)

kind-is_leaving : (s : Situation) → AnswersBy (nat_eq 4) (row.is_leaving s)
kind-is_leaving s = grind (arith, kind-wait_for s, kind-done_or_wait s, by-transfer)

kind-leader_leaves : (s : Situation) → AnswersBy (nat_eq 2) (row.leader_leaves s)
kind-leader_leaves s = grind (arith, kind-wait_for s, kind-done_or_wait s, by-transfer)

kind-successor_lags : (s : Situation) → AnswersBy (nat_eq 4) (row.successor_lags s)
kind-successor_lags s = grind (arith, kind-wait_for s, kind-done_or_wait s, by-transfer)

kind-at_target : (s : Situation) → AnswersBy (λ k. nat_eq 4 k || nat_eq 6 k) (row.at_target s)
kind-at_target s = grind (arith, kind-wait_for s, kind-done_or_wait s, by-transfer)

kind-new_voter_lags : (s : Situation) → AnswersBy (nat_eq 4) (row.new_voter_lags s)
kind-new_voter_lags s = grind (arith, kind-wait_for s, kind-done_or_wait s, by-transfer)

kind-voter_is_behind : (s : Situation) → AnswersBy (nat_eq 4) (row.voter_is_behind s)
kind-voter_is_behind s = grind (arith, kind-wait_for s, kind-done_or_wait s, by-transfer)

kind-no_quorum_is_up : (s : Situation) → AnswersBy (nat_eq 4) (row.no_quorum_is_up s)
kind-no_quorum_is_up s = grind (arith, kind-wait_for s, kind-done_or_wait s, by-transfer)

kind-voter_is_silent : (s : Situation) → AnswersBy (nat_eq 4) (row.voter_is_silent s)
kind-voter_is_silent s = grind (arith, kind-wait_for s, kind-done_or_wait s, by-transfer)

rows-have_kinds : (s : Situation) → HaveKinds (rows s)
rows-have_kinds s = (kind-quorum_lost s, (kind-down_is_heard s, (kind-no_leader s, (kind-nonvoter_leads s, (kind-leader_is_dropped s, (kind-is_pending s, (kind-path_stalls s, (kind-id_is_reused s, (kind-not_started s, (kind-not_stopped s, (kind-is_leaving s, (kind-leader_leaves s, (kind-successor_lags s, (kind-at_target s, (kind-new_voter_lags s, (kind-voter_is_behind s, (kind-no_quorum_is_up s, (kind-voter_is_silent s, tt))))))))))))))))))

-- ---- the first row that answers
-- what an answer leads to: from a row of its kind, if none before it answers, or from the last one
abbrev Case : Bool → Type 0 → Type 0 → Type 0
Case true here later = here × later
Case false here later = later

abbrev pub Cases : Type 0 → Action → List Row → Action → Type 0
Cases Goal a [] last = last ≡ a → Goal
Cases Goal a (row ∷ more) last = Case (row.1 (kind a)) (row.0 ≡ Some a → Goal) (row.0 ≡ None → Cases Goal a more last)

case-later : (b : Bool) (here later : Type 0) → Case b here later → later
case-later true here later given = given.1
case-later false here later given = given

case-here : (b : Bool) (here later : Type 0) → b ≡ true → Case b here later → here
case-here true here later is given = given.0
case-here false here later is given = absurd (cc)

by_cases : (Goal : Type 0) (a : Action) (table : List Row) (last : Action) → HaveKinds table → Cases Goal a table last → unwrap_or (first_of (map (λ r. r.0) table)) last ≡ a → Goal
by_cases Goal a [] last kinds cases is = cases is
by_cases Goal a ((None, may) ∷ more) last kinds cases is = by_cases Goal a more last kinds.1 (case-later (may (kind a)) _ _ cases refl) is
by_cases Goal a ((Some b, may) ∷ more) last kinds cases is = grind (arith, case-here)

pub by_rows : (Goal : Type 0) (s : Situation) (steps : List Step) (a : Action) → Cases Goal a (rows s) (propose_first steps) → answer_in s steps ≡ a → Goal
by_rows Goal s steps a cases is = by_cases Goal a (rows s) (propose_first steps) (rows-have_kinds s) cases is
