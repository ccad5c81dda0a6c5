-- What a tree's changes do to its ids.
use Rattle.std.proofs.Common.{◌≡◌, ℕ, List, length, slice_get, true, false, sym, ap, ◌∙◌, ◌==◌, arith}
use Rattle.std.specs.List.Sorted.{IsStrictlySortedBy}
use Rattle.std.specs.Ordering.{nat_cmp, eq_by_cmp}
use Rattle.std.specs.Cmp.{nat_cmp_total, unsigned_tied, eq_by_cmp_equiv}
use Rattle.std.specs.BTreeSet.{BTreeSet, Updates}
use Rattle.std.proofs.lemmas.List.{take_all}
use Rattle.quorum_sets.specs.Ids.{with_id, without_id, ascending, size, ids_of}
use Rattle.quorum_sets.proofs.IdSets.Members.{has_by_cmp-ids_of, has-with_id, has-without_id, has-same_ids, ascending-ids_of, ids_of-one_more}

pub eq_by_cmp-swapped : (id q : ℕ) → eq_by_cmp nat_cmp id q ≡ (q == id)
eq_by_cmp-swapped id q = (eq_by_cmp_equiv nat_cmp_total).symm id q ∙ unsigned_tied q id

pub tree-with_id : (s n : BTreeSet ℕ) (id : ℕ) → Updates nat_cmp s n id true → ids_of n.keys ≡ with_id (ids_of s.keys) id
tree-with_id s n id u = has-same_ids _ _ (λ q.
    grind (arith, has_by_cmp-ids_of n.keys q, u.0 q, eq_by_cmp-swapped id q, has-with_id (ids_of s.keys) id q, has_by_cmp-ids_of s.keys q))

pub tree-without_id : (s n : BTreeSet ℕ) (id : ℕ) → Updates nat_cmp s n id false → ids_of n.keys ≡ without_id (ids_of s.keys) id
tree-without_id s n id u = has-same_ids _ _ (λ q.
    grind (arith, has_by_cmp-ids_of n.keys q, u.0 q, eq_by_cmp-swapped id q, has-without_id (ids_of s.keys) id q, has_by_cmp-ids_of s.keys q))

pub tree-length : (keys : List ℕ) → IsStrictlySortedBy nat_cmp keys → length keys ≡ size (ids_of keys)
tree-length keys up = ap length (sym (ascending-ids_of keys up))

pub tree-at : (keys : List ℕ) (position : ℕ) → IsStrictlySortedBy nat_cmp keys → slice_get keys position ≡ slice_get (ascending (ids_of keys)) position
tree-at keys position up = ap (λ ids. slice_get ids position) (sym (ascending-ids_of keys up))

-- for the calls of a tree's set
pub ruleset tree_steps = (tree-length, tree-at, ids_of-one_more, take_all, tree-with_id, tree-without_id)
