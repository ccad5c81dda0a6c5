-- Who leads is not 0, and who is down neither leads nor is heard from.
use Rattle.std.proofs.Common.{◌≡◌, ◌≢◌, ℕ, true, false, sym, ap, ◌∙◌, arith, inl, inr}
use Rattle.std.proofs.lemmas.Bool.{both_ways, cases_Bool}
use Rattle.quorum_sets.specs.Ids.{Ids, has, is_empty}
use Rattle.quorum_sets.proofs.Offered.{has-union}
use Rattle.conf_change.specs.Configuration.{Configuration, ValidByMember}
use Rattle.conf_driver.specs.IdSets.{◌∪◌, ◌∩◌, just}
use Rattle.conf_driver.specs.View.{voter_ids}
use Rattle.conf_driver.proofs.IdsByMember.{common-is_empty, has-common-is, has-just, has-just_other, in-common, not-in_second, union-left, union-neither, union-right}

-- a voter is not 0, which means that there is no leader
pub voter-not_zero : (c : Configuration) (id : ℕ) → ValidByMember c → has (voter_ids c) id ≡ true → id ≢ 0
voter-not_zero c id members votes none = grind (arith, both_ways, has-union)

-- ---- who is down, and is a member that is heard from or leads
pub none-heard : (heard members down : Ids) (lead : ℕ) → ((q : ℕ) → has down q ≡ true → has members q ≡ true → has heard q ≡ false) → has down lead ≡ false
    → is_empty (down ∩ (heard ∩ members ∪ just lead)) ≡ true
none-heard heard members down lead silent leader_up = common-is_empty down (heard ∩ members ∪ just lead) (λ q is_down. union-neither (heard ∩ members) (just lead) q
    (elim (cases_Bool (has (heard ∩ members) q)) [
      | inl here ↦ let parts = in-common heard members q here in absurd (both_ways _ (silent q is_down parts.1) parts.0)
      | inr other ↦ other
    ])
    (has-just_other lead q (λ same. both_ways _ leader_up (ap (has down) (sym same) ∙ is_down))))

pub leader-up : (heard members down : Ids) (lead : ℕ) → is_empty (down ∩ (heard ∩ members ∪ just lead)) ≡ true → has down lead ≡ false
leader-up heard members down lead none = elim (cases_Bool (has down lead)) [
  | inl is_down ↦ absurd (both_ways _ (not-in_second down (heard ∩ members ∪ just lead) lead none is_down) (union-right (heard ∩ members) (just lead) lead (has-just lead)))
  | inr not_down ↦ not_down
]

pub member-silent : (heard members down : Ids) (lead q : ℕ) → is_empty (down ∩ (heard ∩ members ∪ just lead)) ≡ true → has down q ≡ true → has members q ≡ true → has heard q ≡ false
member-silent heard members down lead q none is_down member = elim (cases_Bool (has heard q)) [
  | inl is_heard ↦ absurd (both_ways _ (not-in_second down (heard ∩ members ∪ just lead) q none is_down) (union-left (heard ∩ members) (just lead) q (has-common-is heard members q is_heard member)))
  | inr not_heard ↦ not_heard
]
