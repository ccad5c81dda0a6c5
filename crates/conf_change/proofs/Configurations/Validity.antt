-- A valid configuration, member by member.
use Rattle.std.proofs.Common.{◌≡◌, ℕ, Bool, true, false, not, ◌||◌, ◌==◌, List, [], ◌∷◌, refl, sym, ap, ◌∙◌, arith, length, eqb-true, eq-eqb}
use Rattle.std.specs.List.{list_any, list_all}
use Rattle.std.proofs.lemmas.Bool.{or_from, or_left, or_right, and_from, not-true, not_from_false, true≢false, false_from_ne_true}
use Rattle.std.proofs.lemmas.Bool.Decides.{nat_tests}
use Rattle.quorum_sets.specs.Ids.{Ids, no_ids, has, ascending, size, is_empty}
use Rattle.quorum_sets.proofs.Offered.{has-ascending, has-no_ids, ascending-no_ids, has-same_ids}
use Rattle.conf_change.specs.Configuration.{Configuration, is_joint, is_within, is_apart, is_valid}
pub use Rattle.conf_change.specs.Configuration.{ValidByMember}

-- ---- tests of all ids of a set
all-passed : (test : ℕ → Bool) (xs : List ℕ) → list_all test xs ≡ true → (q : ℕ) → list_any (λ x. q == x) xs ≡ true → test q ≡ true
all-passed test [] all q e = cc
all-passed test (x ∷ xs) all q e = grind (arith, nat_tests, all-passed test xs, eqb-true q x)

all_from_each : (test : ℕ → Bool) (xs : List ℕ) → ((q : ℕ) → list_any (λ x. q == x) xs ≡ true → test q ≡ true) → list_all test xs ≡ true
all_from_each test [] each = refl
all_from_each test (x ∷ xs) each =
    and_from (test x) (list_all test xs) (each x (or_left (x == x) _ (eq-eqb x x refl)))
    (all_from_each test xs (λ q e. each q (or_right (q == x) _ e)))

member_passes : (test : ℕ → Bool) (s : Ids) → list_all test (ascending s) ≡ true → (q : ℕ) → has s q ≡ true → test q ≡ true
member_passes test s all q e = all-passed test (ascending s) all q (sym (has-ascending s q) ∙ e)

all_from_members : (test : ℕ → Bool) (s : Ids) → ((q : ℕ) → has s q ≡ true → test q ≡ true) → list_all test (ascending s) ≡ true
all_from_members test s each = all_from_each test (ascending s) (λ q e. each q (has-ascending s q ∙ e))

-- ---- the set without ids
pub no_ids-from_is_empty : (s : Ids) → is_empty s ≡ true → s ≡ no_ids
no_ids-from_is_empty s e =
    has-same_ids s no_ids (λ q. has-ascending s q ∙ ap (list_any (λ x. q == x)) (nothing (ascending s) (eqb-true (size s) 0 e)) ∙ sym (has-no_ids q))
  where
    nothing : (xs : List ℕ) → length xs ≡ 0 → xs ≡ []
    nothing [] h = refl
    nothing (x ∷ xs) h = absurd (omega arith)

pub is_empty-no_ids : is_empty no_ids ≡ true
is_empty-no_ids = rw ascending-no_ids refl

pub is_empty-from_none : (s : Ids) → ((q : ℕ) → has s q ≡ false) → is_empty s ≡ true
is_empty-from_none s none = ap is_empty (has-same_ids s no_ids (λ q. none q ∙ sym (has-no_ids q))) ∙ is_empty-no_ids

pub has-none_in_empty : (s : Ids) → is_empty s ≡ true → (q : ℕ) → has s q ≡ false
has-none_in_empty s e q = ap (λ t. has t q) (no_ids-from_is_empty s e) ∙ has-no_ids q

-- ---- what validity states of each id
within_members : (a b : Ids) → is_within a b ≡ true → (q : ℕ) → has a q ≡ true → has b q ≡ true
within_members a b e = member_passes (has b) a e

apart_members : (a b : Ids) → is_apart a b ≡ true → (q : ℕ) → has a q ≡ true → has b q ≡ false
apart_members a b e q here = not-true (has b q) (member_passes (λ id. not (has b id)) a e q here)

apart_from_members : (a b : Ids) → ((q : ℕ) → has a q ≡ true → has b q ≡ false) → is_apart a b ≡ true
apart_from_members a b each = all_from_members (λ id. not (has b id)) a (λ q here. not_from_false (has b q) (each q here))

keeps_from_flag : (joint flag : Bool) → (joint ≡ false → flag ≡ false) → (joint || not flag) ≡ true
keeps_from_flag joint flag f = grind arith

next_from_joint : (c : Configuration) → ((q : ℕ) → has c.learners_next q ≡ true → has c.outgoing q ≡ true) → (empty : Bool) → is_empty c.outgoing ≡ empty
    → (not empty || is_empty c.learners_next) ≡ true
next_from_joint c within false e = refl
next_from_joint c within true e = grind (arith, is_empty-from_none, false_from_ne_true, true≢false, has-none_in_empty)

pub next_is_joint : (c : Configuration) → is_within c.learners_next c.outgoing ≡ true → (is_joint c || is_empty c.learners_next) ≡ true
next_is_joint c within = next_from_joint c (within_members c.learners_next c.outgoing within) (is_empty c.outgoing) refl

pub ValidByMember-from_is_valid : (c : Configuration) → is_valid c ≡ true → ValidByMember c
ValidByMember-from_is_valid c e = grind (arith, within_members, apart_members)

pub is_valid-from_members : (c : Configuration) → ValidByMember c → is_valid c ≡ true
is_valid-from_members c m =
    and_from _ _
    (not_from_false _ (or_from _ (has c.learners_next 0)
    (or_from _ (has c.learners 0) (or_from (has c.incoming 0) (has c.outgoing 0) m.zero_incoming m.zero_outgoing) m.zero_learners) m.zero_next))
    (and_from _ _ (all_from_members (has c.outgoing) c.learners_next m.next_outgoing)
    (and_from _ _ (apart_from_members c.learners_next c.incoming m.next_incoming)
    (and_from _ _
    (and_from _ _ (apart_from_members c.learners c.incoming m.learner_incoming) (apart_from_members c.learners c.outgoing m.learner_outgoing))
    (and_from _ _ (next_from_joint c m.next_outgoing (is_empty c.outgoing) refl)
    (and_from _ _ (keeps_from_flag (is_joint c) c.auto_leave m.auto_leave) refl)))))
