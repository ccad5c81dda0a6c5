-- How far two sets differ, by what they have in common.
use Rattle.std.proofs.Common.{◌≡◌, ℕ, ◌+◌, ◌-◌, true, cond, not, length, sym, ap, ◌∙◌, arith, ◌≤◌, ◌==◌, ◌&&◌}
use Rattle.std.specs.Prelude.{Bool, filter}
use Rattle.std.specs.Ordering.{nat_cmp}
use Rattle.std.proofs.Math.Bool.{and_comm}
use Rattle.std.specs.Cmp.{nat_cmp_total}
use Rattle.std.specs.FinMap as finite
use Rattle.std.proofs.lemmas.Bool.{or_right, and_parts}
use Rattle.std.proofs.lemmas.List.{length-map}
use Rattle.std.proofs.lemmas.List.Kept.{IsStrictlySortedBy-filter}
use Rattle.std.proofs.lemmas.List.Sums.{length-filter}
use Rattle.quorum_sets.specs.Ids.{Ids, has, with_id, without_id, ascending, size, ids_where, count_of, difference_count}
use Rattle.quorum_sets.proofs.Quorums.Counts.{count_by-both, count_by-none}
use Rattle.quorum_sets.proofs.IdSets.Members.{has-ascending, has-ids_where, has-with_id, has-without_id, ascending-is_sorted, ascending-ids_of, has-same_ids}

-- the ids of a set that pass a test, as a list
ascending-ids_where : (test : ℕ → Bool) (s : Ids) → ascending (ids_where test (ascending s)) ≡ filter test (ascending s)
ascending-ids_where test s = ascending-ids_of _ (IsStrictlySortedBy-filter nat_cmp test (ascending s) (ascending-is_sorted s))

-- the ids of the one that the other has are those of the other that the one has
pub kept-is_common : (a b : Ids) → filter (has b) (ascending a) ≡ filter (has a) (ascending b)
kept-is_common a b =
    sym (ascending-ids_where (has b) a)
    ∙ ap ascending (has-same_ids _ _ (λ q.
    has-ids_where (has b) (ascending a) q ∙ (λ i. has b q && sym (has-ascending a q) i) ∙ and_comm (has b q) (has a q)
    ∙ (λ i. has a q && has-ascending b q i) ∙ sym (has-ids_where (has a) (ascending b) q)))
    ∙ ascending-ids_where (has a) b

-- each set has as many ids in common with the other
pub count_of-common : (a b : Ids) → count_of (has b) a ≡ count_of (has a) b
count_of-common a b = sym (length-filter (has b) (ascending a)) ∙ ap length (kept-is_common a b) ∙ length-filter (has a) (ascending b)

-- those that are not in common are the others
pub count_of-rest : (a b : Ids) → count_of (has b) a + count_of (λ id. not (has b id)) a ≡ size a
count_of-rest a b = count_by-both (has b) (ascending a)

pub difference_count-common : (a b : Ids) (common : ℕ) → common ≡ count_of (has b) a → difference_count a b ≡ (size a - common) + (size b - common)
difference_count-common a b common is = omega (arith, count_of-rest a b, count_of-rest b a, count_of-common a b)

pub count_of-within : (a b : Ids) (common : ℕ) → common ≡ count_of (has b) a → common ≤ size b
count_of-within a b common is = omega (arith, count_of-rest b a, count_of-common a b)

-- where the one has all that the other has, they differ by those that it has more
difference_count-within : (a b : Ids) → ((q : ℕ) → has a q ≡ true → has b q ≡ true) → difference_count a b ≡ size b - size a
difference_count-within a b within =
    let none = count_by-none (λ id. not (has b id)) (ascending a) (λ q here. ap not (within q (has-ascending a q ∙ here))) in
    omega (arith, count_of-rest a b, count_of-rest b a, count_of-common a b)

pub difference_count-same : (ids : Ids) → difference_count ids ids ≡ 0
difference_count-same ids = omega (arith, difference_count-within ids ids (λ q here. here))

-- ---- one id more or less
size-len : (ids : Ids) → size ids ≡ finite.len ids
size-len ids = length-map (finite.entries ids) (λ e. e.0) ∙ sym (finite.len-entries ids)

pub size-with_id : (ids : Ids) (id : ℕ) → size (with_id ids id) ≡ cond (has ids id) (size ids) (size ids + 1)
size-with_id ids id = grind (arith, size-len ids, size-len (with_id ids id), finite.len-insert nat_cmp_total ids id tt)

pub size-without_id : (ids : Ids) (id : ℕ) → size (without_id ids id) ≡ cond (has ids id) (size ids - 1) (size ids)
size-without_id ids id = grind (arith, size-len ids, size-len (without_id ids id), finite.len-remove nat_cmp_total ids id)

pub difference_count-with_id : (ids : Ids) (id : ℕ) → difference_count ids (with_id ids id) ≤ 1
difference_count-with_id ids id =
    let differ = difference_count-within ids (with_id ids id) (λ q here. has-with_id ids id q ∙ or_right (q == id) (has ids q) here) in
    grind (arith, size-with_id ids id)

pub difference_count-without_id : (ids : Ids) (id : ℕ) → difference_count ids (without_id ids id) ≤ 1
difference_count-without_id ids id =
    let differ : difference_count (without_id ids id) ids ≡ size ids - size (without_id ids id) = difference_count-within (without_id ids id) ids (λ q here. (and_parts (not (q == id)) (has ids q) (sym (has-without_id ids id q) ∙ here)).1) in
    grind (arith, size-without_id ids id)
