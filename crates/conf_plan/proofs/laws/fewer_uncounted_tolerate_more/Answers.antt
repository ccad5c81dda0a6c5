use Rattle.std.proofs.Common.{◌≡◌, ℕ, ◌≤◌, Bool, true, cond, not, ◌==◌, List, [], ◌∷◌, refl, arith, eq-eqb}
use Rattle.std.specs.Prelude.{count_by}
use Rattle.std.proofs.lemmas.Bool.{or_left, or_right}
use Rattle.std.proofs.lemmas.List.Sums.{sum_by-cons}
use Rattle.quorum_sets.specs.Ids.{Ids, has, count_of}
use Rattle.quorum_sets.proofs.Offered.{Tolerates-from_counts, counts-from_Tolerates, has-ascending}
use Rattle.conf_plan.proofs.FindingMoves.AscendingIds.{holds}
use Rattle.conf_plan.proofs.laws.fewer_uncounted_tolerate_more.Goals as goal

-- if what passes one test passes the other, at least as many pass that
count_by-more : (p q : ℕ → Bool) (xs : List ℕ) → ((x : ℕ) → holds x xs ≡ true → p x ≡ true → q x ≡ true) → count_by p xs ≤ count_by q xs
count_by-more p q [] passes = omega arith
count_by-more p q (x ∷ xs) passes =
    let head = passes x (or_left (x == x) _ (eq-eqb x x refl)) in
    let rest = count_by-more p q xs (λ y here. passes y (or_right (y == x) _ here)) in
    grind (arith, head, rest, sum_by-cons (λ y. cond (p y) 1 0) x xs, sum_by-cons (λ y. cond (q y) 1 0) x xs)

counted-more : (fewer more ids : Ids) → ((id : ℕ) → has ids id ≡ true → has fewer id ≡ true → has more id ≡ true)
    → count_of (λ id. not (has more id)) ids ≤ count_of (λ id. not (has fewer id)) ids
counted-more fewer more ids within = grind (arith, count_by-more, not, has-ascending)

pub returns : goal.returns
returns c = λ voters fewer more k within tolerates.
    let counts = counts-from_Tolerates voters more k tolerates in
    Tolerates-from_counts voters fewer k (record {
      incoming = omega (arith, counts.incoming, counted-more fewer more voters.incoming (λ id here. within id (or_left _ (has voters.outgoing id) here)));
      outgoing = λ joint. omega (arith, counts.outgoing joint, counted-more fewer more voters.outgoing (λ id here. within id (or_right (has voters.incoming id) _ here)));
    })
