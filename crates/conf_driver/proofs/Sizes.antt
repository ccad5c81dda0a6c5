-- Sizes of sets of ids.
use Rattle.std.proofs.Common.{◌≡◌, ℕ, ◌≤◌, ◌<◌, true, false, not, ◌==◌, List, [], ◌∷◌, length, refl, sym, ap, ◌∙◌, arith, eq-eqb, inl, inr}
use Rattle.std.specs.List.{list_any}
use Rattle.std.specs.Prelude.{nat_eq}
use Rattle.std.proofs.lemmas.Bool.{eqb-true, or_cases, or_left}
use Rattle.quorum_sets.specs.Ids.{Ids, ascending, has, is_empty, size, with_id}
use Rattle.quorum_sets.proofs.Offered.{count_by-none, count_of-common, count_of-rest, has-ascending, has-with_id, size-with_id}

-- each id of the first set is in the second
abbrev pub IsWithin : Ids → Ids → Type 0
IsWithin a b = (q : ℕ) → has a q ≡ true → has b q ≡ true

pub size-within : (a b : Ids) → IsWithin a b → size a ≤ size b
size-within a b within =
    let none = count_by-none (λ id. not (has b id)) (ascending a) (λ q here. ap not (within q (has-ascending a q ∙ here))) in
    omega (arith, count_of-rest a b, count_of-rest b a, count_of-common a b)

-- and one id of the second is not in the first
pub size-less : (a b : Ids) (x : ℕ) → IsWithin a b → has b x ≡ true → has a x ≡ false → size a < size b
size-less a b x within here other =
    let more = size-within (with_id a x) b (λ q given. elim (or_cases (q == x) (has a q) (sym (has-with_id a x q) ∙ given)) [
      | inl same ↦ ap (has b) (eqb-true q x same) ∙ here
      | inr old ↦ within q old
    ]) in
    grind (arith, more, other, size-with_id a x)

-- ---- a set that is not empty has an id
first_of : (xs : List ℕ) → nat_eq (length xs) 0 ≡ false → (x : ℕ) × (list_any (λ y. x == y) xs ≡ true)
first_of [] some = absurd (cc)
first_of (x ∷ xs) some = (x, or_left (x == x) _ (eq-eqb x x refl))

pub id-of_some : (ids : Ids) → is_empty ids ≡ false → (x : ℕ) × (has ids x ≡ true)
id-of_some ids some = let first = first_of (ascending ids) some in (first.0, has-ascending ids first.0 ∙ first.1)
