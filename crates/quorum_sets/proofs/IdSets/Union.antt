-- A sorted list with each id once, and the ids of two sets, as a set and as such a list.
use Rattle.std.proofs.Common.{◌≡◌, ℕ, ◌||◌, ◌==◌, List, length, sym, ap, subst, ◌∙◌, arith}
use Rattle.std.specs.Ordering.{nat_cmp}
use Rattle.std.specs.List.{dedup, refill}
use Rattle.std.specs.List.Sorted.{IsSorted, IsPermutation}
use Rattle.std.proofs.lemmas.List.{append-nil, drop_all, take_all}
use Rattle.std.proofs.lemmas.List.Folds.{list_any-append}
use Rattle.std.proofs.lemmas.List.Kept.{AllPairs-from_increasing, Contains-from_dedup, Contains-dedup_nat}
use Rattle.std.proofs.lemmas.Map.Keys.{IsStrictlyIncreasing-dedup}
use Rattle.quorum_sets.specs.Ids.{Ids, has, ids_of, union}
use Rattle.quorum_sets.specs.AscendingLists.{IsAscending}
use Rattle.quorum_sets.proofs.IdSets.Members.{has-ids_of, has-ascending, ids_of-same_items, ids_of-permuted}

pub has-union : (a b : Ids) (q : ℕ) → has (union a b) q ≡ (has a q || has b q)
has-union a b q = grind (arith, has-ids_of, list_any-append, has-ascending)

-- ---- a list that is sorted in place, and in which repeats are then removed
-- a list that is written over whole
refill-whole : {X : Type 0} (xs ws : List X) → length ws ≡ length xs → refill (length xs) xs ws ≡ ws
refill-whole xs ws e = grind (arith, drop_all, append-nil, take_all)

pub ascends-sorted_once : (xs slice ws ys : List ℕ) → slice ≡ xs → ys ≡ dedup (λ x y. x == y) (refill (length xs) xs ws) → length ws ≡ length slice → IsSorted nat_cmp ws → IsAscending ys
ascends-sorted_once xs slice ws ys whole is long sorted =
    subst IsAscending (sym (is ∙ ap (dedup (λ x y. x == y)) (refill-whole xs ws (long ∙ ap length whole)))) (λ i j. AllPairs-from_increasing _ (IsStrictlyIncreasing-dedup ws sorted) i j 0)

pub ids_of-sorted_once : (xs slice ws ys : List ℕ) → slice ≡ xs → ys ≡ dedup (λ x y. x == y) (refill (length xs) xs ws) → length ws ≡ length slice → IsPermutation slice ws → ids_of ys ≡ ids_of xs
ids_of-sorted_once xs slice ws ys whole is long moved =
    ap ids_of (is ∙ ap (dedup (λ x y. x == y)) (refill-whole xs ws (long ∙ ap length whole)))
    ∙ ids_of-same_items _ ws (Contains-from_dedup (λ x y. x == y) ws) (Contains-dedup_nat ws) ∙ ids_of-permuted slice ws moved ∙ ap ids_of whole
