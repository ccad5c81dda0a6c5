-- A stable sort by id: each id has the same changes in the same order, so its last effective one and its removals stay.
use Rattle.std.proofs.Common.{◌≡◌, ℕ, Bool, true, false, cond, not, ◌&&◌, ◌==◌, List, [], ◌∷◌, ◌++◌, reverse, refl, sym, ap, ◌∙◌, arith}
use Rattle.std.specs.Prelude.{Some, option_map, filter, find}
use Rattle.std.specs.List.Sorted.{IsStableByKey, ties}
use Rattle.std.specs.Ordering.{nat_cmp, is_lt}
use Rattle.std.proofs.lemmas.Bool.Decides.{nat_tests}
use Rattle.std.proofs.lemmas.List.{append-nil, reverse-append}
use Rattle.std.proofs.lemmas.Map.Views.{any-filter_same}
use Rattle.conf_change.specs.Change.{names, is_removal, last_effective, removes}
use Rattle.conf_change.specs.declared.change.Change.{Change}
use Rattle.conf_change.specs.declared.change.Kind.TheVariants.{Update}

-- the changes of an id
abbrev own : ℕ → List Change → List Change
own q xs = filter (λ x. q == x.id) xs

own-append : (q : ℕ) (xs ys : List Change) → own q (xs ++ ys) ≡ own q xs ++ own q ys
own-append q [] ys = refl
own-append q (x ∷ xs) ys = by (q == x.id) (own-append q xs ys)
  where
    by : (b : Bool) → own q (xs ++ ys) ≡ own q xs ++ own q ys → cond b (x ∷ own q (xs ++ ys)) (own q (xs ++ ys)) ≡ cond b (x ∷ own q xs) (own q xs) ++ own q ys
    by true e = ap (λ zs. x ∷ zs) e
    by false e = e

own-reverse : (q : ℕ) (xs : List Change) → own q (reverse xs) ≡ reverse (own q xs)
own-reverse q [] = refl
own-reverse q (x ∷ xs) =
    ap (own q) (reverse-append (x ∷ []) xs) ∙ own-append q (reverse xs) (x ∷ []) ∙ ap (λ zs. zs ++ own q (x ∷ [])) (own-reverse q xs) ∙ by (q == x.id)
  where
    by : (b : Bool) → reverse (own q xs) ++ cond b (x ∷ []) [] ≡ reverse (cond b (x ∷ own q xs) (own q xs))
    by true = sym (reverse-append (x ∷ []) (own q xs))
    by false = append-nil (reverse (own q xs))

find-own : (q : ℕ) (xs : List Change) → find (names q) (own q xs) ≡ find (names q) xs
find-own q [] = refl
find-own q (x ∷ xs) = by (q == x.id) refl (find-own q xs)
  where
    by : (b : Bool) → (q == x.id) ≡ b → find (names q) (own q xs) ≡ find (names q) xs
        → find (names q) (cond b (x ∷ own q xs) (own q xs)) ≡ cond (names q x) (Some x) (find (names q) xs)
    by true same rest = ap (cond (names q x) (Some x)) rest
    by false other rest = let unnamed : names q x ≡ false = grind (arith, nat_tests) in rest ∙ sym (ap (λ b. cond b (Some x) (find (names q) xs)) unnamed)

last_effective-own : (xs : List Change) (q : ℕ) → last_effective (own q xs) q ≡ last_effective xs q
last_effective-own xs q = ap (option_map (λ change. change.kind)) (ap (find (names q)) (sym (own-reverse q xs)) ∙ find-own q (reverse xs))

removes-own : (xs : List Change) (q : ℕ) → removes (own q xs) q ≡ removes xs q
removes-own xs q =
    any-filter_same (λ change. (change.id == q) && is_removal change.kind) (λ x. q == x.id) true (λ x passes. grind (arith, nat_tests)) xs

same-own : (changes sorted : List Change) → IsStableByKey (λ x. x.id) nat_cmp changes sorted → (q : ℕ) → own q sorted ≡ own q changes
same-own changes sorted stable q =
    let same = filter-same (ties (λ x y. is_lt (nat_cmp x.id y.id)) (record { kind = Update; id = q })) (λ x. q == x.id) (λ x. ties_same q x.id) in
    sym (same sorted) ∙ stable (record { kind = Update; id = q }) ∙ same changes
  where
    filter-same : (p r : Change → Bool) → ((x : Change) → p x ≡ r x) → (xs : List Change) → filter p xs ≡ filter r xs
    filter-same p r same [] = refl
    filter-same p r same (x ∷ xs) = λ i. cond (same x i) (x ∷ filter-same p r same xs i) (filter-same p r same xs i)

    ties_same : (a b : ℕ) → (not (is_lt (nat_cmp a b)) && not (is_lt (nat_cmp b a))) ≡ (a == b)
    ties_same a b = grind (arith, nat_tests)

pub last_effective-sorted : (changes sorted : List Change) → IsStableByKey (λ x. x.id) nat_cmp changes sorted → (q : ℕ) → last_effective sorted q ≡ last_effective changes q
last_effective-sorted changes sorted stable q = sym (last_effective-own sorted q) ∙ ap (λ xs. last_effective xs q) (same-own changes sorted stable q) ∙ last_effective-own changes q

pub removes-sorted : (changes sorted : List Change) → IsStableByKey (λ x. x.id) nat_cmp changes sorted → (q : ℕ) → removes sorted q ≡ removes changes q
removes-sorted changes sorted stable q = sym (removes-own sorted q) ∙ ap (λ xs. removes xs q) (same-own changes sorted stable q) ∙ removes-own changes q
