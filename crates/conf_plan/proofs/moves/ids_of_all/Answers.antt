use Rattle.std.proofs.Common.{arith, ◌≡◌, ◌++◌, ◌==◌, Bool, ℕ, List, length, take, ap, sym, ◌∙◌}
use Rattle.std.specs.List.{dedup, refill}
use Rattle.std.specs.List.Sorted.{IsPermutation, IsSorted}
use Rattle.std.specs.Ordering.{nat_cmp}
use Rattle.std.proofs.lemmas.Bool.Decides.{same_from_decides, Decides-like, Decides-eqb}
use Rattle.std.proofs.lemmas.List.{append-nil, drop_all, take_all}
use Rattle.std.proofs.lemmas.List.Folds.{list_any-append}
use Rattle.std.proofs.lemmas.List.Kept.{Contains-from_dedup, Contains-dedup_nat}
use Rattle.std.proofs.lemmas.List.Sorted.{list_any-IsPermutation}
use Rattle.std.proofs.lemmas.Map.Keys.{IsStrictlyIncreasing-dedup, sorted_from_strictly_increasing}
use Rattle.std.proofs.lemmas.Map.Made.{is_member-Decides}
use Rattle.quorum_sets.specs.Ids.{Ids, has, ids_of, ascending, union}
use Rattle.quorum_sets.proofs.Offered.{ascending-ids_of, has-ascending, has-ids_of, has-same_ids, has-union}
use Rattle.conf_plan.proofs.moves.ids_of_all.Goals as goal

-- a list of the ids of four sets
all-ids : (a b c d : Ids) → ids_of (((ascending a ++ ascending b) ++ ascending c) ++ ascending d) ≡ union (union a b) (union c d)
all-ids a b c d = has-same_ids _ _ (λ q.
    let test : ℕ → Bool = λ x. q == x in
    grind (
      arith,
      has-ids_of (((ascending a ++ ascending b) ++ ascending c) ++ ascending d) q,
      list_any-append test (ascending a) (ascending b),
      list_any-append test (ascending a ++ ascending b) (ascending c),
      list_any-append test ((ascending a ++ ascending b) ++ ascending c) (ascending d),
      has-ascending,
      has-union (union a b) (union c d) q,
      has-union a b q,
      has-union c d q,
    ))

-- a list of the ids of a set, sorted and each once
sorted_once : (s : Ids) (list sorted : List ℕ) → ids_of list ≡ s → IsPermutation list sorted → IsSorted nat_cmp sorted → dedup (λ x y. x == y) sorted ≡ ascending s
sorted_once s list sorted is moved up =
    let once = dedup (λ x y. x == y) sorted in
    let same : ids_of once ≡ s = has-same_ids _ _ (λ q.
    has-ids_of once q
    ∙ same_from_decides _ _ (Decides-like _ (Contains-from_dedup (λ x y. x == y) sorted q) (Contains-dedup_nat sorted q) (is_member-Decides Decides-eqb once q)) (is_member-Decides Decides-eqb sorted q)
    ∙ sym (list_any-IsPermutation (λ x. q == x) list sorted moved) ∙ sym (has-ids_of list q) ∙ ap (λ t. has t q) is) in
    sym (ascending-ids_of once (sorted_from_strictly_increasing once (IsStrictlyIncreasing-dedup sorted up))) ∙ ap ascending same

-- a list that is written over whole
refill-whole : (xs ws : List ℕ) → length ws ≡ length xs → refill (length xs) xs ws ≡ ws
refill-whole xs ws e = grind (arith, take, length, drop_all, append-nil, take_all)

pub returns : goal.returns
returns g c =
    let own = g.S.MemberSet.ids in
    let a = own c.args.a.now in
    let b = own c.args.b.now in
    let listed = c.in_ok-add_ids-4.ensures.ok
    ∙ ap (λ l. l ++ ascending (own c.args.d.now)) (c.in_ok-add_ids-3.ensures.ok
    ∙ ap (λ l. l ++ ascending (own c.args.c.now)) (c.in_ok-add_ids-2.ensures.ok
    ∙ ap (λ l. l ++ ascending b) (c.in_ok-add_ids.ensures.ok ∙ ap (λ l. l ++ ascending a) c.new-ids.ensures.items))) in
    c.dedup.ensures.items
    ∙ ap (dedup (λ x y. x == y)) (refill-whole c.add_ids-4.new.ids.items c.sort.new.self (c.sort.ensures.len ∙ ap length c.as_mut_slice.ensures.value))
    ∙ sorted_once (union (union a b) (union (own c.args.c.now) (own c.args.d.now))) _ c.sort.new.self (ap ids_of (c.as_mut_slice.ensures.value ∙ listed) ∙ all-ids _ _ _ _) c.sort.ensures.permutation
    c.in_ok-sort.ensures.sorted
