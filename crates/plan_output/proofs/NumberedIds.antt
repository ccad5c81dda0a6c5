-- The numbers of ids in an ascending list.
use Rattle.std.proofs.Common.{◌≡◌, ℕ, zero, suc, ◌+◌, ◌<◌, ◌≤◌, ◌^◌, min, Bool, true, false, ◌==◌, List, [], ◌++◌, length, take, drop, get_or, refl, sym, ap, ◌∙◌, inl, inr, arith}
use Rattle.std.specs.Prelude.{Option, Some, None, Result, MatchResult, codes, count_by, decimal, nat_le, if◌then◌else◌}
use Rattle.std.specs.List.{list_any}
use Rattle.std.specs.List.Sorted.{IsBinarySearchResult}
use Rattle.std.specs.Ordering.{nat_cmp}
use Rattle.std.proofs.lemmas.Bool.{cases_lt, eq-eqb, ne_eqb}
use Rattle.std.proofs.lemmas.Fmt.{decimal_digit, decimal_injective, first_decimal}
use Rattle.std.proofs.lemmas.List.{get_or_default, take_all}
use Rattle.std.proofs.lemmas.List.Folds.{list_any_at, list_any_none}
use Rattle.std.proofs.lemmas.List.Sums.{count_by_more_no, count_by_more_yes}
use Rattle.std.proofs.lemmas.List.Sorted.{searched}
use Rattle.std.proofs.lemmas.Map.Keys.{non_decreasing_from_sorted}
use Rattle.std.proofs.lemmas.Map.Views.{Contains-from_any, exact_unsigned_eq}
use Rattle.std.proofs.lemmas.Result.{MatchResult-weaker}
use Rattle.quorum_sets.specs.AscendingLists.{IsAscending, IsAtPosition, IsInsertionPoint}
use Rattle.quorum_sets.proofs.Offered.{ascends-sorted}
use Rattle.plan_output.specs.Names.{is_long, name_as, name_by, number_in, numbered_of}

-- ---- how many ids are at most the one at a position
-- among the first k of them
count-first : (xs : List ℕ) (id i : ℕ) → IsAscending xs → IsAtPosition xs id i → (k : ℕ) → k ≤ length xs
    → count_by (λ other. nat_le other id) (take k xs) ≡ min k (i + 1)
count-first xs id i up at zero within = let none : 0 ≡ min 0 (i + 1) = omega arith in none
count-first xs id i up at (suc k) within =
    let next : suc k ≡ k + 1 = omega arith in
    ap (λ n. count_by (λ other. nat_le other id) (take n xs)) next
    ∙ elim (cases_lt k (i + 1)) [
      | inl low ↦
          count_by_more_yes (λ other. nat_le other id) xs k 0 (omega arith) (grind (arith, up k i, at.there, at.within))
          ∙ ap (λ n. n + 1) (count-first xs id i up at k (omega arith)) ∙ omega (arith, low)
      | inr high ↦
          count_by_more_no (λ other. nat_le other id) xs k 0 (omega arith) (grind (arith, up i k, at.there, at.within))
          ∙ count-first xs id i up at k (omega arith) ∙ omega (arith, high)
    ]

pub count-at : (xs : List ℕ) (id i : ℕ) → IsAscending xs → IsAtPosition xs id i → count_by (λ other. nat_le other id) xs ≡ i + 1
count-at xs id i up at =
    ap (count_by (λ other. nat_le other id)) (sym (take_all (length xs) xs (omega arith)))
    ∙ count-first xs id i up at (length xs) (omega arith) ∙ omega (arith, at.within)

-- ---- what a search finds
pub number_in-there : (xs : List ℕ) (id i : ℕ) → IsAscending xs → IsAtPosition xs id i → Some (i + 1) ≡ number_in xs id
number_in-there xs id i up at = grind (arith, list_any_at, eq-eqb, count-at)

pub number_in-absent : (xs : List ℕ) (id i : ℕ) → IsInsertionPoint xs id i → None ≡ number_in xs id
number_in-absent xs id i goes =
    sym (ap (λ found. if found then Some (count_by (λ other. nat_le other id) xs) else None) (list_any_none (λ other. id == other) xs (λ k d within.
    ne_eqb id _ (λ same. grind (arith, same, get_or_default xs k d 0 within, goes.below k, goes.above k)))))

pub number_in-searched : (xs : List ℕ) (id : ℕ) (r : Result ℕ ℕ) → IsBinarySearchResult (λ y. nat_cmp y id) xs r → IsAscending xs
    → MatchResult r (λ i. Some (i + 1) ≡ number_in xs id) (λ i. None ≡ number_in xs id)
number_in-searched xs id r found up =
    MatchResult-weaker r (searched xs id r found (λ i j. non_decreasing_from_sorted xs (ascends-sorted xs up) i j 0))
    (λ i there. number_in-there xs id i up (record { within = there.0; there = there.1 }))
    (λ i there. number_in-absent xs id i (record { within = there.0; below = there.1; above = there.2 }))

-- ---- no two ids have the same name
-- an id with a number is at a position
position-numbered : (xs : List ℕ) (id n : ℕ) (found : Bool) → IsAscending xs → list_any (λ other. id == other) xs ≡ found
    → (if found then Some (count_by (λ other. nat_le other id) xs) else None) ≡ Some n → (i : ℕ) × IsAtPosition xs id i × (n ≡ i + 1)
position-numbered xs id n true up found is =
    let place = Contains-from_any exact_unsigned_eq id xs found in
    let here = get_or_default xs place.0 0 id place.1 ∙ place.2 in
    let at : IsAtPosition xs id place.0 = record { within = place.1; there = here } in
    (place.0, at, grind (arith, is, count-at xs id place.0 up at))
position-numbered xs id n false up found is = absurd cc

-- # begins no number
number-no_digits : (number id : ℕ) → id < 2 ^ 64 → codes "#" ++ decimal number ≡ decimal id → ⊥
number-no_digits number zero small same = absurd (omega (arith, ap (λ text. get_or text 0 0) (same ∙ decimal_digit 0 (omega arith))))
number-no_digits number (suc id) small same =
    absurd (omega (arith, ap (λ text. get_or text 0 0) same, first_decimal (suc id) (omega arith) small))

-- the names of two ids with these numbers, if they have any
names-apart : (xs : List ℕ) (a b : ℕ) (of_a of_b : Option ℕ) → IsAscending xs → length xs < 2 ^ 64 → a < 2 ^ 64 → b < 2 ^ 64
    → number_in xs a ≡ of_a → number_in xs b ≡ of_b → name_as a of_a ≡ name_as b of_b → a ≡ b
names-apart xs a b (Some m) (Some n) up few a_small b_small is_a is_b same =
    let p = position-numbered xs a m (list_any (λ other. a == other) xs) up refl is_a in
    let q = position-numbered xs b n (list_any (λ other. b == other) xs) up refl is_b in
    let numbers : m ≡ n =
    decimal_injective m n (omega (arith, few, p.1.within, p.2)) (omega (arith, few, q.1.within, q.2)) (ap (λ text. drop 1 text) same) in
    let positions : p.0 ≡ q.0 = omega (arith, numbers, p.2, q.2) in
    sym p.1.there ∙ ap (λ i. get_or xs i 0) positions ∙ q.1.there
names-apart xs a b (Some m) None up few a_small b_small is_a is_b same = absurd (number-no_digits m b b_small same)
names-apart xs a b None (Some n) up few a_small b_small is_a is_b same = absurd (number-no_digits n a a_small (sym same))
names-apart xs a b None None up few a_small b_small is_a is_b same = decimal_injective a b a_small b_small same

either-apart : (xs : List ℕ) (a b : ℕ) (long : Bool) → IsAscending xs → length xs < 2 ^ 64 → a < 2 ^ 64 → b < 2 ^ 64
    → name_by (if long then xs else []) a ≡ name_by (if long then xs else []) b → a ≡ b
unfolding name_by
either-apart xs a b true up few a_small b_small same = names-apart xs a b (number_in xs a) (number_in xs b) up few a_small b_small refl refl same
either-apart xs a b false up few a_small b_small same = decimal_injective a b a_small b_small same

pub names-differ : (xs : List ℕ) (a b : ℕ) → IsAscending xs → length xs < 2 ^ 64 → a < 2 ^ 64 → b < 2 ^ 64
    → name_by (numbered_of xs) a ≡ name_by (numbered_of xs) b → a ≡ b
names-differ xs a b up few a_small b_small same = either-apart xs a b (list_any is_long xs) up few a_small b_small same
