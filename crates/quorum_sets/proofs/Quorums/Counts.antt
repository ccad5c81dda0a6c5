-- Counts of the items of a list that pass a test: as far as a list is read, by what passes, and whether they are more
-- than half. `count_by-le` gives all inequalities between counts.
use Rattle.std.proofs.Common.{◌≡◌, ℕ, ◌+◌, ◌*◌, ◌≤◌, ◌<◌, Bool, true, false, cond, not, ◌&&◌, ◌||◌, ◌==◌, List, [], ◌∷◌, length, map, refl, arith, take, drop, ap, ◌∙◌, slice_get, length-take, length-drop, eq-eqb, inl, inr}
use Rattle.std.specs.Prelude.{Some, nat_lt, count_by, filter}
use Rattle.std.specs.List.{list_any, All, AllWithin}
use Rattle.std.specs.List.Sorted.{IsPermutation, IsPartitionPoint}
use Rattle.std.proofs.lemmas.Bool.{or_left, or_right, ltb-true, lt-ltb, cases_Bool}
use Rattle.std.proofs.lemmas.List.{length-map, get_or-take, get_or-drop}
use Rattle.std.proofs.lemmas.List.Folds.{fold-map}
use Rattle.std.proofs.lemmas.Option.{slice_get_within, get_or_from_slice_get}
use Rattle.std.proofs.lemmas.List.Sums.{sum_by_more, sum_by-cons, sum_by-le, sum_by-take-drop, count_by-le-length}
use Rattle.std.proofs.lemmas.List.Sorted.{length_permutation, sum_by-IsPermutation}
use Rattle.quorum_sets.specs.Ids.{Ids, ascending, majority_passes, is_empty}
use Rattle.quorum_sets.specs.Voters.{Voters, most}

-- one more item of the list
pub count_by-one_more : (test : ℕ → Bool) (xs : List ℕ) (k x : ℕ) → slice_get xs k ≡ Some x → count_by test (take (k + 1) xs) ≡ count_by test (take k xs) + cond (test x) 1 0
count_by-one_more test xs k x here =
    sum_by_more (λ y. cond (test y) 1 0) xs k 0 (slice_get_within xs k x here)
    ∙ ap (λ y. count_by test (take k xs) + cond (test y) 1 0) (get_or_from_slice_get xs k x 0 here)

-- ---- one test against others
-- where each item that passes the first test passes one of the others, these count no less
pub count_by-le : (p q r : ℕ → Bool) (xs : List ℕ) → ((x : ℕ) → list_any (λ y. x == y) xs ≡ true → p x ≡ true → (q x || r x) ≡ true) → count_by p xs ≤ count_by q xs + count_by r xs
count_by-le p q r [] covered = omega arith
count_by-le p q r (x ∷ xs) covered =
    let rest = count_by-le p q r xs (λ y here. covered y (or_right (y == x) _ here)) in
    let head = covered x (or_left (x == x) _ (eq-eqb x x refl)) in
    grind (arith, head, rest, sum_by-cons (λ y. cond (p y) 1 0) x xs, sum_by-cons (λ y. cond (q y) 1 0) x xs, sum_by-cons (λ y. cond (r y) 1 0) x xs)

count_by-false : (xs : List ℕ) → count_by (λ _. false) xs ≡ 0
count_by-false [] = refl
count_by-false (x ∷ xs) = count_by-false xs

pub count_by-mono : (p q : ℕ → Bool) (xs : List ℕ) → ((x : ℕ) → list_any (λ y. x == y) xs ≡ true → p x ≡ true → q x ≡ true) → count_by p xs ≤ count_by q xs
count_by-mono p q xs passes = omega (arith, count_by-le p q (λ _. false) xs (λ x here is. or_left (q x) false (passes x here is)), count_by-false xs)

pub count_by-none : (p : ℕ → Bool) (xs : List ℕ) → ((x : ℕ) → list_any (λ y. x == y) xs ≡ true → p x ≡ false) → count_by p xs ≡ 0
count_by-none p xs none = omega (arith, count_by-mono p (λ _. false) xs (λ x here is. (let fails = none x here in cc)), count_by-false xs)

-- those that pass and those that do not
pub count_by-both : {X : Type 0} (p : X → Bool) (xs : List X) → count_by p xs + count_by (λ x. not (p x)) xs ≡ length xs
count_by-both p [] = refl
count_by-both p (x ∷ xs) = grind (arith, count_by-both p xs, sum_by-cons (λ y. cond (p y) 1 0) x xs, sum_by-cons (λ y. cond (not (p y)) 1 0) x xs)

-- those that pass among those that a filter keeps
pub count_by-filter : (p t : ℕ → Bool) (xs : List ℕ) → count_by p (filter t xs) ≡ count_by (λ x. t x && p x) xs
count_by-filter p t [] = refl
count_by-filter p t (x ∷ xs) = grind (arith, count_by-filter p t xs, sum_by-cons (λ y. cond (p y) 1 0) x (filter t xs), sum_by-cons (λ y. cond (t y && p y) 1 0) x xs)

-- where some pass, there is one that does
pub counted_item : (p : ℕ → Bool) (xs : List ℕ) → 0 < count_by p xs → (x : ℕ) × (p x ≡ true)
counted_item p [] some = absurd (omega arith)
counted_item p (x ∷ xs) some = elim (cases_Bool (p x)) [
  | inl here ↦ (x, here)
  | inr fails ↦ counted_item p xs (grind (arith, fails, some, sum_by-cons (λ y. cond (p y) 1 0) x xs))
]

-- ---- by position
pub count_by-zero : {X : Type 0} (p : X → Bool) (xs : List X) → All (λ x. p x ≡ false) xs → count_by p xs ≡ 0
count_by-zero p xs none = let few = sum_by-le (λ x. cond (p x) 1 0) 0 xs (λ k d within. (let fails = none k d within in grind arith)) in omega arith

-- no item from i on passes
pub count_by-fails_from : {X : Type 0} (p : X → Bool) (xs : List X) (i : ℕ) → AllWithin (λ x. p x ≡ false) xs i (length xs) → count_by p xs ≤ i
count_by-fails_from p xs i fails =
    let rest = count_by-zero p (drop i xs) (λ k d within. rw get_or-drop (fails (i + k) d (omega arith) (omega (arith, length-drop i xs)))) in
    omega (arith, sum_by-take-drop (λ x. cond (p x) 1 0) xs i, count_by-le-length p (take i xs), length-take i xs)

-- no item before i passes
pub count_by-fails_before : {X : Type 0} (p : X → Bool) (xs : List X) (i : ℕ) → i ≤ length xs → AllWithin (λ x. p x ≡ false) xs 0 i → i + count_by p xs ≤ length xs
count_by-fails_before p xs i within fails =
    let first = count_by-zero p (take i xs) (λ k d inside. (let before : k < i = omega (arith, length-take i xs) in rw get_or-take (fails k d (omega arith) before))) in
    omega (arith, sum_by-take-drop (λ x. cond (p x) 1 0) xs i, count_by-le-length p (drop i xs), length-drop i xs)

-- a partition point counts what is before it
pub count_by-partition : {X : Type 0} (p : X → Bool) (xs : List X) (i : ℕ) → i ≤ length xs → IsPartitionPoint (λ x. p x ≡ true) (λ x. p x ≡ false) xs i → count_by p xs ≡ i
count_by-partition p xs i within parted =
    omega (arith, count_by-fails_from p xs i parted.1, count_by-fails_before (λ x. not (p x)) xs i within (λ k d low before. ap not (parted.0 k d low before)), count_by-both p xs)

-- ---- more than half of a list
pub most-mono : (p q : ℕ → Bool) (xs : List ℕ) → ((x : ℕ) → list_any (λ y. x == y) xs ≡ true → p x ≡ true → q x ≡ true) → most p xs ≡ true → most q xs ≡ true
most-mono p q xs passes most_p = lt-ltb _ _ (omega (arith, ltb-true _ _ most_p, count_by-mono p q xs passes))

-- the order of a list does not matter
pub count_by-permuted : {X : Type 0} (p : X → Bool) (xs ys : List X) → IsPermutation xs ys → count_by p ys ≡ count_by p xs
count_by-permuted p xs ys moved = sum_by-IsPermutation (λ x. cond (p x) 1 0) xs ys moved

pub most-permuted : {X : Type 0} (p : X → Bool) (xs ys : List X) → IsPermutation xs ys → most p ys ≡ most p xs
most-permuted p xs ys moved = λ i. nat_lt (length_permutation xs ys moved i) (2 * count_by-permuted p xs ys moved i)

-- a count over ids is one over their values
pub majority_passes-values : {X : Type 0} (p : X → Bool) (value : ℕ → X) (ids : Ids) → majority_passes (λ id. p (value id)) ids ≡ most p (map value (ascending ids))
majority_passes-values p value ids = grind (arith, length-map, fold-map)

-- ---- of a pair of sets
-- more than half of the incoming voters pass and, if there are outgoing voters, more than half of these
abbrev pub passes_in : Voters → (ℕ → Bool) → Bool
passes_in voters p = majority_passes p voters.incoming && (is_empty voters.outgoing || majority_passes p voters.outgoing)

pub passes_in-from : (voters : Voters) (p : ℕ → Bool) → majority_passes p voters.incoming ≡ true → (is_empty voters.outgoing ≡ false → majority_passes p voters.outgoing ≡ true) → passes_in voters p ≡ true
passes_in-from voters p first second = grind (arith, first, second)

pub passes_in-parts : (voters : Voters) (p : ℕ → Bool) → passes_in voters p ≡ true → (majority_passes p voters.incoming ≡ true) × (is_empty voters.outgoing ≡ false → majority_passes p voters.outgoing ≡ true)
passes_in-parts voters p passes = (grind (arith, passes), λ some_voter. grind (arith, passes, some_voter))
