-- Rows that ascend by their first number, and then by their second: where the rows with a first number begin.
use Rattle.std.proofs.Common.{◌≡◌, ℕ, ◌<◌, ◌≤◌, true, false, List, length, get_or, sym, ap, ◌∙◌, arith}
use Rattle.std.specs.Prelude.{nat_lt}
use Rattle.std.specs.Ordering.{nat_cmp, ordering_then, is_lt}
use Rattle.std.specs.List.{Contains}
use Rattle.std.specs.List.Sorted.{IsSorted, IsPartitionPoint, IsPartitionedBy}
use Rattle.std.proofs.lemmas.Bool.{ltb-true, ltb-false, cases_lt}
use Rattle.std.proofs.lemmas.Bool.Decides.{nat_tests}
use Rattle.std.proofs.lemmas.Cmp.{nat_cmp_total, on_total, then_total}
use Rattle.std.proofs.lemmas.List.Sorted.{ranks_by, sorted_far, IsPartitionedBy-ltb}

not_less : (i x j y : ℕ) → is_lt (ordering_then (nat_cmp i j) (nat_cmp x y)) ≡ false → (j ≤ i) × (j ≡ i → y ≤ x)
not_less i x j y h = (grind (arith, nat_tests, h), λ same. grind (arith, nat_tests, h, same))

pub rows-ordered : (rows : List (ℕ × ℕ)) → IsSorted (λ x y. ordering_then (nat_cmp x.0 y.0) (nat_cmp x.1 y.1)) rows → (j k : ℕ) (d : ℕ × ℕ) → j ≤ k → k < length rows → ((get_or rows j d).0 ≤ (get_or rows k d).0) × ((get_or rows j d).0 ≡ (get_or rows k d).0 → (get_or rows j d).1 ≤ (get_or rows k d).1)
rows-ordered rows ascends j k d before within =
    let total = then_total (on_total (λ (r : ℕ × ℕ). r.0) nat_cmp_total) (on_total (λ (r : ℕ × ℕ). r.1) nat_cmp_total) in
    not_less _ _ _ _ (sorted_far _ (ranks_by total (λ r. r)) rows ascends j k d before within)

-- the position parts the rows with a smaller first number from the others
abbrev pub Parts : ℕ → List (ℕ × ℕ) → ℕ → Type 0
Parts first rows position = IsPartitionPoint (λ r. nat_lt r.0 first ≡ true) (λ r. nat_lt r.0 first ≡ false) rows position

-- what is not before the position has no smaller first number
pub Parts-not_before : (first : ℕ) (rows : List (ℕ × ℕ)) (position j : ℕ) (d : ℕ × ℕ) → Parts first rows position → j < length rows → first ≤ (get_or rows j d).0 → position ≤ j
Parts-not_before first rows position j d parted within enough = grind (arith, cases_lt, ltb-true)

-- the first row with a first number has the least second one: that of any row with the same first number is no less
pub rows-first : (rows : List (ℕ × ℕ)) (first second position : ℕ) → IsSorted (λ x y. ordering_then (nat_cmp x.0 y.0) (nat_cmp x.1 y.1)) rows
    → Parts first rows position → Contains rows (first, second)
    → (position < length rows) × ((get_or rows position (first, second)).0 ≡ first) × ((get_or rows position (first, second)).1 ≤ second)
rows-first rows first second position ascends parted there =
    let d : ℕ × ℕ = (first, second) in
    let first_there : (get_or rows there.0 d).0 ≡ first = ap (λ r. r.0) there.2 in
    let second_there : (get_or rows there.0 d).1 ≡ second = ap (λ r. r.1) there.2 in
    let before = Parts-not_before first rows position there.0 d parted there.1 (omega arith) in
    let order = rows-ordered rows ascends position there.0 d before there.1 in
    let not_less = ltb-false _ first (parted.1 position d (omega arith) (omega arith)) in
    let same : (get_or rows position d).0 ≡ first = omega arith in
    (omega arith, same, (let low = order.1 (same ∙ sym first_there) in omega arith))

-- sorted rows can be searched for a first number by halving
pub rows-partitioned : (rows : List (ℕ × ℕ)) (first : ℕ) → IsSorted (λ x y. ordering_then (nat_cmp x.0 y.0) (nat_cmp x.1 y.1)) rows → IsPartitionedBy (λ r. nat_lt r.0 first) rows
rows-partitioned rows first ascends = IsPartitionedBy-ltb (λ r. r.0) rows first (λ j k d before within. (rows-ordered rows ascends j k d before within).0)
