-- The committed index by counting, and as the greatest reached one.
use Rattle.std.proofs.Common.{◌≡◌, ℕ, zero, suc, add-zero, ◌+◌, ◌*◌, ◌<◌, ◌≤◌, Bool, true, false, cond, not, ◌==◌, List, [], ◌∷◌, length, max, fold, refl, sym, ap, subst, ◌∙◌, arith, inl, inr}
use Rattle.std.specs.Prelude.{nat_eq, nat_lt, nat_le, count_by, filter}
use Rattle.std.specs.List.Sorted.{IsPermutation}
use Rattle.std.specs.List.{list_any}
use Rattle.std.proofs.lemmas.Bool.{cases_lt, cases_order, cond_both, lt-ltb, ltb-true, le-leb, le-ltb, ltb-false, eq-eqb, ne_eqb, eqb-true, eqb-false, false_from_ne_true}
use Rattle.std.proofs.lemmas.Bool.Decides.{nat_tests}
use Rattle.std.proofs.lemmas.List.{length-map}
use Rattle.std.proofs.lemmas.List.Sorted.{length_permutation}
use Rattle.quorum_sets.specs.Ids.{Ids, ascending, size}
use Rattle.quorum_sets.specs.Committed.{Acks, acked_index, acked_indexes, greatest_index, is_reached, is_passed, IsCommitted, committed_index, committed_of}
use Rattle.quorum_sets.specs.Voters.{most}
use Rattle.quorum_sets.proofs.Quorums.Counts.{count_by-both, count_by-mono, count_by-none, count_by-permuted, most-mono, majority_passes-values}

-- ---- the greatest item that passes
record IsGreatest (p : ℕ → Bool) (least : ℕ) (xs : List ℕ) (m : ℕ) : Type 0 where
  passes : p m ≡ true
  above : least ≤ m
  bound : (x : ℕ) → list_any (λ y. x == y) xs ≡ true → p x ≡ true → x ≤ m

greatest-is : (p : ℕ → Bool) (a : ℕ) (xs : List ℕ) → p a ≡ true → IsGreatest p a xs (fold max a (filter p xs))
greatest-is p a [] here = record { passes = here; above = omega arith; bound = λ x among is. cc }
greatest-is p a (y ∷ ys) here = cond_both (p y) (y ∷ filter p ys) (filter p ys) (λ zs. IsGreatest p a (y ∷ ys) (fold max a zs))
    (λ passes.
    let rest = greatest-is p (max a y) ys (elim (cases_lt a y) [
      | inl less ↦ let e : max a y ≡ y = omega arith in ap p e ∙ passes
      | inr more ↦ let e : max a y ≡ a = omega arith in ap p e ∙ here
    ]) in
    record { passes = rest.passes; above = omega (arith, rest.above); bound = λ x among is. grind (arith, among, is, eqb-true x y, rest.bound x, rest.above) })
    (λ fails. let rest = greatest-is p a ys here in record { passes = rest.passes; above = rest.above; bound = λ x among is. grind (arith, among, is, fails, eqb-true x y, rest.bound x) })

-- ---- the committed index of a list
-- k is the committed index of the list, by counting
pub record IsCommittedOf (xs : List ℕ) (k : ℕ) : Type 0 where
  pub of_none : length xs ≡ 0 → k ≡ greatest_index
  pub reached : 0 < length xs → length xs < 2 * count_by (nat_le k) xs
  pub not_passed : 0 < length xs → 2 * count_by (nat_lt k) xs ≤ length xs

-- where no index of the list is above m and reached, and more than half were above m, they would be above every number
climb : (m d : ℕ) (xs : List ℕ) → ((x : ℕ) → list_any (λ y. x == y) xs ≡ true → most (nat_le x) xs ≡ true → x ≤ m) → most (nat_lt m) xs ≡ true → most (nat_lt (m + d)) xs ≡ true
climb m zero xs bound start = rw add-zero start
climb m (suc d) xs bound start =
    let before = climb m d xs bound start in
    let reached = most-mono (nat_lt (m + d)) (nat_le (m + d + 1)) xs (λ x here above. grind (arith, nat_tests, above)) before in
    most-mono (nat_lt (m + d)) (nat_lt (m + suc d)) xs (λ x here above. elim (cases_order x (m + d + 1)) [
      | inl same ↦ absurd (let low = bound x here (ap (λ k. most (nat_le k) xs) same ∙ reached) in omega arith)
      | inr other ↦ grind (arith, nat_tests, above, other)
    ]) before

not_above : (m : ℕ) (xs : List ℕ) → ((x : ℕ) → list_any (λ y. x == y) xs ≡ true → most (nat_le x) xs ≡ true → x ≤ m) → most (nat_lt m) xs ≡ false
not_above m xs bound = false_from_ne_true _ (λ start.
    let all = greatest-is (λ _. true) 0 xs refl in
    let end : ℕ = fold max 0 (filter (λ _. true) xs) in
    let none = count_by-none (nat_lt (m + end)) xs (λ x here. le-ltb _ _ (omega (arith, all.bound x here refl))) in
    absurd (omega (arith, ltb-true _ _ (climb m end xs bound start))))

-- all have reached 0
pub reached-0 : (xs : List ℕ) → 0 < length xs → length xs < 2 * count_by (nat_le 0) xs
reached-0 xs some =
    let none = count_by-none (λ x. not (nat_le 0 x)) xs (λ x here. ap not (le-leb 0 x (omega arith))) in
    omega (arith, some, none, count_by-both (nat_le 0) xs)

pub IsCommittedOf-committed_of : (xs : List ℕ) → IsCommittedOf xs (committed_of xs)
IsCommittedOf-committed_of xs = cond_both (nat_eq (length xs) 0) greatest_index (fold max 0 (filter (λ k. most (nat_le k) xs) xs)) (IsCommittedOf xs)
    (λ no_voter. let none = eqb-true (length xs) 0 no_voter in record { of_none = λ _. refl; reached = λ some. absurd (omega arith); not_passed = λ some. absurd (omega arith) })
    (λ some_voter.
    let is = greatest-is (λ k. most (nat_le k) xs) 0 xs (lt-ltb _ _ (reached-0 xs (omega (arith, eqb-false (length xs) 0 some_voter)))) in
    record {
      of_none = λ none. absurd (eqb-false (length xs) 0 some_voter none);
      reached = λ _. ltb-true _ _ is.passes;
      not_passed = λ _. ltb-false _ _ (not_above _ xs is.bound);
    })

-- at most one index is reached and not passed
not_reached : (xs : List ℕ) (j k : ℕ) → j < k → count_by (nat_le k) xs ≤ count_by (nat_lt j) xs
not_reached xs j k below = count_by-mono (nat_le k) (nat_lt j) xs (λ x here enough. grind (arith, nat_tests, enough, below))

pub IsCommittedOf-alone : (xs : List ℕ) (j k : ℕ) → IsCommittedOf xs j → IsCommittedOf xs k → j ≡ k
IsCommittedOf-alone xs j k first second = elim (cases_lt 0 (length xs)) [
  | inl some ↦ grind (arith, not_reached xs j k, not_reached xs k j, first.reached some, first.not_passed some, second.reached some, second.not_passed some)
  | inr none ↦ first.of_none (omega arith) ∙ sym (second.of_none (omega arith))
]

-- the order of the list does not matter
pub committed_of-permuted : (xs ys : List ℕ) → IsPermutation xs ys → committed_of xs ≡ committed_of ys
committed_of-permuted xs ys moved =
    let k = committed_of xs in
    let is = IsCommittedOf-committed_of xs in
    let same = length_permutation xs ys moved in
    IsCommittedOf-alone ys k (committed_of ys) (record {
      of_none = λ none. is.of_none (omega arith);
      reached = λ some. omega (arith, is.reached (omega arith), count_by-permuted (nat_le k) xs ys moved);
      not_passed = λ some. omega (arith, is.not_passed (omega arith), count_by-permuted (nat_lt k) xs ys moved);
    }) (IsCommittedOf-committed_of ys)

-- ---- the committed index of a set
is_reached-acked : (ids : Ids) (acks : Acks) (k : ℕ) → is_reached ids acks k ≡ most (nat_le k) (acked_indexes ids acks)
is_reached-acked ids acks k = majority_passes-values (nat_le k) (acked_index acks) ids

is_passed-acked : (ids : Ids) (acks : Acks) (k : ℕ) → is_passed ids acks k ≡ most (nat_lt k) (acked_indexes ids acks)
is_passed-acked ids acks k = majority_passes-values (nat_lt k) (acked_index acks) ids

length-acked : (ids : Ids) (acks : Acks) → length (acked_indexes ids acks) ≡ size ids
length-acked ids acks = length-map (ascending ids) (acked_index acks)

-- it is that of the list of its acknowledged indexes
pub committed_index-acked : (ids : Ids) (acks : Acks) → committed_index ids acks ≡ committed_of (acked_indexes ids acks)
committed_index-acked ids acks =
    λ i. cond (nat_eq (sym (length-acked ids acks) i) 0) greatest_index (fold max 0 (filter (λ k. is_reached-acked ids acks k i) (acked_indexes ids acks)))

pub IsCommitted-committed_index : (ids : Ids) (acks : Acks) → IsCommitted ids acks (committed_index ids acks)
IsCommitted-committed_index ids acks =
    let k = committed_of (acked_indexes ids acks) in
    let is = IsCommittedOf-committed_of (acked_indexes ids acks) in
    let len = length-acked ids acks in
    subst (IsCommitted ids acks) (sym (committed_index-acked ids acks)) (record {
      of_empty = λ no_voter. is.of_none (len ∙ eqb-true (size ids) 0 no_voter);
      reached = λ some_voter. is_reached-acked ids acks k ∙ lt-ltb _ _ (is.reached (omega (arith, len, eqb-false (size ids) 0 some_voter)));
      not_passed = λ some_voter. is_passed-acked ids acks k ∙ le-ltb _ _ (is.not_passed (omega (arith, len, eqb-false (size ids) 0 some_voter)));
    })

by_list : (ids : Ids) (acks : Acks) (k : ℕ) → IsCommitted ids acks k → IsCommittedOf (acked_indexes ids acks) k
by_list ids acks k is =
    let len = length-acked ids acks in
    record {
      of_none = λ none. is.of_empty (eq-eqb (size ids) 0 (omega arith));
      reached = λ some. ltb-true _ _ (sym (is_reached-acked ids acks k) ∙ is.reached (ne_eqb (size ids) 0 (λ none. omega arith)));
      not_passed = λ some. ltb-false _ _ (sym (is_passed-acked ids acks k) ∙ is.not_passed (ne_eqb (size ids) 0 (λ none. omega arith)));
    }

pub IsCommitted-alone : (ids : Ids) (acks : Acks) (j k : ℕ) → IsCommitted ids acks j → IsCommitted ids acks k → j ≡ k
IsCommitted-alone ids acks j k first second = IsCommittedOf-alone _ j k (by_list ids acks j first) (by_list ids acks k second)
