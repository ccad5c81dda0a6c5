-- How often an ascending list has an id.
use Rattle.std.proofs.Common.{◌≡◌, ℕ, ◌+◌, ◌<◌, Bool, true, cond, ◌==◌, List, [], ◌∷◌, refl, sym, ap, subst, ◌∙◌, arith, eqb-true}
use Rattle.std.specs.Prelude.{count_by}
use Rattle.std.specs.declared.cmp.Ordering.TheVariants.{Less}
use Rattle.std.specs.Ordering.{nat_cmp, MatchOrdering}
use Rattle.std.specs.Cmp.{ranks}
use Rattle.std.specs.List.{list_any, AllByRecursion}
use Rattle.std.specs.List.Sorted.{IsStrictlySortedBy}
use Rattle.std.proofs.lemmas.List.Sums.{sum_by-cons}
use Rattle.quorum_sets.specs.Ids.{Ids, has, ascending}
use Rattle.quorum_sets.proofs.Offered.{ascending-is_sorted, has-ascending}

less : (x y : ℕ) → nat_cmp x y ≡ Less → x < y
less x y e = subst (λ r. MatchOrdering r (x < y) (x ≡ y) (y < x)) e (ranks x y)

abbrev pub holds : ℕ → List ℕ → Bool
holds q xs = list_any (λ x. q == x) xs

-- those after the first are above it
pub holds-above : (z q : ℕ) (zs : List ℕ) → AllByRecursion (λ y. nat_cmp z y ≡ Less) zs → holds q zs ≡ true → z < q
holds-above z q [] up here = cc
holds-above z q (y ∷ ys) up here = grind (arith, less z y up.0, eqb-true q y, holds-above z q ys up.1, here)

-- ---- how often a list has an id
abbrev pub times : ℕ → List ℕ → ℕ
times q ids = count_by (λ x. q == x) ids

pub times-cons : (q x : ℕ) (ids : List ℕ) → times q (x ∷ ids) ≡ cond (q == x) 1 0 + times q ids
times-cons q x ids = sum_by-cons (λ y. cond (q == y) 1 0) x ids

-- an ascending list has each of its ids once
times-sorted : (q : ℕ) (ids : List ℕ) → IsStrictlySortedBy nat_cmp ids → times q ids ≡ cond (holds q ids) 1 0
unfolding IsStrictlySortedBy
times-sorted q [] up = refl
times-sorted q (x ∷ ids) up = grind (arith, times-cons q x ids, times-sorted q ids up.1, holds-above x q ids up.0, eqb-true q x)

pub times-ascending : (q : ℕ) (ids : Ids) → times q (ascending ids) ≡ cond (has ids q) 1 0
times-ascending q ids = times-sorted q (ascending ids) (ascending-is_sorted ids) ∙ ap (λ b. cond b 1 0) (sym (has-ascending ids q))
