-- What edits of an ascending list do to its ids, and that it still ascends.
use Rattle.std.proofs.Common.{◌≡◌, ℕ, ◌+◌, ◌-◌, ◌<◌, true, false, List, ◌∷◌, length, slice_get, sym, ap, ◌∙◌, ◌==◌, arith}
use Rattle.std.specs.Prelude.{Result, Ok, Err, MatchResult, is_ok}
use Rattle.std.specs.List.{insert, remove}
use Rattle.std.specs.List.Sorted.{IsStrictlySortedBy, IsBinarySearchResult}
use Rattle.std.specs.Ordering.{nat_cmp, eq_by_cmp}
use Rattle.std.specs.Cmp.{nat_cmp_total, eq_by_cmp_equiv}
use Rattle.std.proofs.lemmas.Bool.{eq-eqb, ne_eqb, eqb-true}
use Rattle.std.proofs.lemmas.List.{get_or_default}
use Rattle.std.proofs.lemmas.List.Edits.{length-insert, get_or-insert_below, get_or-insert_at, get_or-insert_above}
use Rattle.std.proofs.lemmas.List.Elements.{All-from_recursion}
use Rattle.std.proofs.lemmas.List.Folds.{list_any_none, list_any_at}
use Rattle.std.proofs.lemmas.List.Kept.{AllPairs-from_increasing}
use Rattle.std.proofs.lemmas.List.Quantifiers.{all_pairs_remove}
use Rattle.std.proofs.lemmas.List.Sorted.{searched, IsPermutation-insert, IsPermutation-remove}
use Rattle.std.proofs.lemmas.Map.Keys.{sorted_from_strictly_increasing, below_from_sorted, non_decreasing_from_sorted, IsDistinct-from_sorted, IsDistinct-IsPermutation, IsDistinct-head}
use Rattle.std.proofs.lemmas.Result.{MatchResult-weaker}
use Rattle.quorum_sets.specs.Ids.{Ids, has, with_id, without_id, ascending, size, ids_of}
use Rattle.quorum_sets.specs.AscendingLists.{IsAscending, IsAtPosition, IsInsertionPoint}
use Rattle.quorum_sets.proofs.IdSets.Members.{has-ids_of, has_by_cmp-ids_of, has-with_id, has-without_id, has-same_ids, ids_of-permuted, ascending-ids_of, ascending-is_sorted}

-- ---- an ascending list is the list of its set
pub ascends-sorted : (xs : List ℕ) → IsAscending xs → IsStrictlySortedBy nat_cmp xs
ascends-sorted xs up = sorted_from_strictly_increasing xs (λ k within. up k (k + 1) (omega arith) within)

pub sorted-ascends : (xs : List ℕ) → IsStrictlySortedBy nat_cmp xs → IsAscending xs
sorted-ascends xs up i j lt within = below_from_sorted xs i j 0 up lt within

pub ascending-is_ascending : (s : Ids) → IsAscending (ascending s)
ascending-is_ascending s = sorted-ascends (ascending s) (ascending-is_sorted s)

pub ascending-ascends : (xs : List ℕ) → IsAscending xs → ascending (ids_of xs) ≡ xs
ascending-ascends xs up = ascending-ids_of xs (ascends-sorted xs up)

-- ---- what a search finds
pub search-in_ascending : (xs : List ℕ) (x : ℕ) (r : Result ℕ ℕ) → IsBinarySearchResult (λ y. nat_cmp y x) xs r → IsAscending xs → MatchResult r (IsAtPosition xs x) (IsInsertionPoint xs x)
search-in_ascending xs x r search_result up =
    MatchResult-weaker r (searched xs x r search_result (λ i j. non_decreasing_from_sorted xs (ascends-sorted xs up) i j 0))
    (λ i there. record { within = there.0; there = there.1 })
    (λ i there. record { within = there.0; below = there.1; above = there.2 })

pub has-holds : (xs : List ℕ) (x i : ℕ) → IsAtPosition xs x i → has (ids_of xs) x ≡ true
has-holds xs x i at = has-ids_of xs x ∙ list_any_at (λ y. x == y) xs i 0 at.within (eq-eqb x _ (sym at.there))

pub has-goes : (xs : List ℕ) (x i : ℕ) → IsInsertionPoint xs x i → has (ids_of xs) x ≡ false
has-goes xs x i goes = has-ids_of xs x ∙ list_any_none (λ y. x == y) xs (λ k d within.
    ne_eqb x _ (λ same. grind (arith, same, get_or_default xs k d 0 within, goes.below k, goes.above k)))

pub has-found : (xs : List ℕ) (x : ℕ) (r : Result ℕ ℕ) → MatchResult r (IsAtPosition xs x) (IsInsertionPoint xs x) → is_ok r ≡ has (ids_of xs) x
has-found xs x (Ok i) at = sym (has-holds xs x i at)
has-found xs x (Err i) goes = sym (has-goes xs x i goes)

-- ---- an id that is inserted
pub ids_of-insert : (xs : List ℕ) (i x : ℕ) → ids_of (insert xs i x) ≡ with_id (ids_of xs) x
ids_of-insert xs i x = ids_of-permuted (x ∷ xs) (insert xs i x) (IsPermutation-insert xs i x)

pub ascends-insert : (xs : List ℕ) (i x : ℕ) → IsAscending xs → IsInsertionPoint xs x i → IsAscending (insert xs i x)
ascends-insert xs i x up goes a b lt inside =
    let long = length-insert xs i x goes.within in
    grind (
      arith,
      get_or-insert_below xs i x 0 a,
      get_or-insert_below xs i x 0 b,
      get_or-insert_at xs i x 0 goes.within,
      get_or-insert_above xs i x 0 (a - 1),
      get_or-insert_above xs i x 0 (b - 1),
      up a b,
      up a (b - 1),
      up (a - 1) (b - 1),
      goes.below a,
      goes.above (b - 1),
    )

-- ---- an id that is removed
pub ascends-remove : (xs : List ℕ) (i : ℕ) → IsAscending xs → i < length xs → IsAscending (remove xs i)
ascends-remove xs i up within a b = all_pairs_remove (λ x y. x < y) xs i within (AllPairs-from_increasing xs (λ k. up k (k + 1) (omega arith))) a b 0

pub ids_of-remove : (xs : List ℕ) (i x : ℕ) → IsAscending xs → IsAtPosition xs x i → ids_of (remove xs i) ≡ without_id (ids_of xs) x
ids_of-remove xs i x up at =
    let rest = remove xs i in
    let moved = IsPermutation-remove xs i x at.within (sym (get_or_default xs i x 0 at.within ∙ at.there)) in
    let distinct = IsDistinct-IsPermutation (eq_by_cmp nat_cmp) (eq_by_cmp_equiv nat_cmp_total).symm xs (x ∷ rest) moved (IsDistinct-from_sorted nat_cmp xs (ascends-sorted xs up)) in
    let others : has (ids_of rest) x ≡ false =
    has_by_cmp-ids_of rest x ∙ list_any_none (eq_by_cmp nat_cmp x) rest (All-from_recursion _ rest (IsDistinct-head (eq_by_cmp nat_cmp) x rest distinct)) in
    has-same_ids _ _ (λ q. grind (arith, ap (λ s. has s q) (ids_of-permuted xs (x ∷ rest) moved), has-with_id (ids_of rest) x q, has-without_id (ids_of xs) x q, eqb-true q x, others))

-- ---- an edit that changes nothing
pub with_id-there : (s : Ids) (x : ℕ) → has s x ≡ true → s ≡ with_id s x
with_id-there s x there = has-same_ids _ _ (λ q. grind (arith, has-with_id s x q, eqb-true q x, there))

pub without_id-absent : (s : Ids) (x : ℕ) → has s x ≡ false → s ≡ without_id s x
without_id-absent s x absent = has-same_ids _ _ (λ q. grind (arith, has-without_id s x q, eqb-true q x, absent))

-- ---- for the calls of a list's set
pub list-length : (xs : List ℕ) → IsAscending xs → length xs ≡ size (ids_of xs)
list-length xs up = ap length (sym (ascending-ascends xs up))

pub list-at : (xs : List ℕ) (position : ℕ) → IsAscending xs → slice_get xs position ≡ slice_get (ascending (ids_of xs)) position
list-at xs position up = ap (λ ids. slice_get ids position) (sym (ascending-ascends xs up))

pub ruleset list_steps = (list-length, list-at, ids_of-insert, ids_of-remove, ascends-insert, ascends-remove, with_id-there, without_id-absent, has-holds, has-goes, has-found)
