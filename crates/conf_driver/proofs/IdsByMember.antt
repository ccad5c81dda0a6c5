-- The sets of the table by their members.
use Rattle.std.proofs.Common.{◌≡◌, ℕ, true, false, not, ◌&&◌, [], ◌∷◌, sym, ap, ◌∙◌, arith}
use Rattle.std.proofs.lemmas.Bool.{and_parts, cases_Bool, not-true, or_left, or_right}
use Rattle.quorum_sets.specs.Ids.{Ids, ascending, has, is_empty, no_ids}
use Rattle.quorum_sets.proofs.Offered.{has-ascending, has-ids_of, has-ids_where, has-no_ids, has-same_ids, has-union}
use Rattle.conf_change.proofs.Offered.{has-none_in_empty, is_empty-no_ids}
use Rattle.conf_driver.specs.IdSets.{◌∪◌, ◌∩◌, ◌∖◌, just}

pub has-common : (a b : Ids) (q : ℕ) → has (a ∩ b) q ≡ (has a q && has b q)
has-common a b q = grind (arith, has-ids_where (has b) (ascending a) q, has-ascending a q)

pub has-without : (a b : Ids) (q : ℕ) → has (a ∖ b) q ≡ (has a q && not (has b q))
has-without a b q = grind (arith, has-ids_where (λ id. not (has b id)) (ascending a) q, has-ascending a q)

pub in-without : (a b : Ids) (q : ℕ) → has (a ∖ b) q ≡ true → (has a q ≡ true) × (has b q ≡ false)
in-without a b q here = let parts = and_parts _ _ (sym (has-without a b q) ∙ here) in (parts.0, not-true _ parts.1)

pub in-common : (a b : Ids) (q : ℕ) → has (a ∩ b) q ≡ true → (has a q ≡ true) × (has b q ≡ true)
in-common a b q here = and_parts _ _ (sym (has-common a b q) ∙ here)

-- each id of the first set is in the second
pub in-second : (a b : Ids) (q : ℕ) → is_empty (a ∖ b) ≡ true → has a q ≡ true → has b q ≡ true
in-second a b q none here = grind (arith, has-none_in_empty (a ∖ b) none q, here, has-without a b q)

-- no id is in both sets
pub not-in_second : (a b : Ids) (q : ℕ) → is_empty (a ∩ b) ≡ true → has a q ≡ true → has b q ≡ false
not-in_second a b q none here = grind (arith, has-none_in_empty (a ∩ b) none q, here, has-common a b q)

pub has-without-is : (a b : Ids) (q : ℕ) → has a q ≡ true → has b q ≡ false → has (a ∖ b) q ≡ true
has-without-is a b q here other = grind (arith, here, other, has-without a b q)

pub has-common-is : (a b : Ids) (q : ℕ) → has a q ≡ true → has b q ≡ true → has (a ∩ b) q ≡ true
has-common-is a b q here other = grind (arith, here, other, has-common a b q)

-- an id of a set of which each is down or up
pub up-unless_down : (ids down up : Ids) (id : ℕ) → is_empty (ids ∖ down ∖ up) ≡ true → has ids id ≡ true → has down id ≡ false → has up id ≡ true
up-unless_down ids down up id none here not_down = in-second (ids ∖ down) up id none (has-without-is ids down id here not_down)

-- ---- sets without members
pub is_empty-from_none : (ids : Ids) → ((q : ℕ) → has ids q ≡ false) → is_empty ids ≡ true
is_empty-from_none ids none_left = ap is_empty (has-same_ids ids no_ids (λ q. none_left q ∙ sym (has-no_ids q))) ∙ is_empty-no_ids

pub without-is_empty : (a b : Ids) → ((q : ℕ) → has a q ≡ true → has b q ≡ true) → is_empty (a ∖ b) ≡ true
without-is_empty a b within = grind (arith, is_empty-from_none, cases_Bool, has-without)

pub common-is_empty : (a b : Ids) → ((q : ℕ) → has a q ≡ true → has b q ≡ false) → is_empty (a ∩ b) ≡ true
common-is_empty a b apart = grind (arith, is_empty-from_none, cases_Bool, has-common)

-- ---- unions, and the set of one id
pub union-left : (a b : Ids) (q : ℕ) → has a q ≡ true → has (a ∪ b) q ≡ true
union-left a b q here = has-union a b q ∙ or_left _ (has b q) here

pub union-right : (a b : Ids) (q : ℕ) → has b q ≡ true → has (a ∪ b) q ≡ true
union-right a b q here = has-union a b q ∙ or_right (has a q) _ here

pub union-neither : (a b : Ids) (q : ℕ) → has a q ≡ false → has b q ≡ false → has (a ∪ b) q ≡ false
union-neither a b q not_first not_second = grind (arith, not_first, not_second, has-union a b q)

pub has-just : (id : ℕ) → has (just id) id ≡ true
has-just id = grind (arith, has-ids_of (id ∷ []) id)

pub has-just_other : (id q : ℕ) → (q ≡ id → ⊥) → has (just id) q ≡ false
has-just_other id q other = grind (arith, has-ids_of (id ∷ []) q, other)
