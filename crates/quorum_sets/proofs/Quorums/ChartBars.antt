-- A bar's width, by the order of the ids by index and then by id.
use Rattle.std.proofs.Common.{◌≡◌, ℕ, ◌+◌, ◌<◌, ◌≤◌, Bool, cond, not, ◌&&◌, ◌||◌, ◌==◌, List, [], ◌∷◌, map, length, get_or, refl, sym, ap, subst, ◌∙◌, arith, inl, inr}
use Rattle.std.specs.Prelude.{nat_lt, nat_eq, count_by}
use Rattle.std.specs.List.{list_any, Contains}
use Rattle.std.specs.List.Sorted.{IsPermutation}
use Rattle.std.proofs.lemmas.Bool.{eqb-true, and_parts, cases_Bool, false_from_ne_true}
use Rattle.std.proofs.lemmas.Bool.Decides.{nat_tests}
use Rattle.std.proofs.lemmas.List.{length-map, get_or-map, get_or_default}
use Rattle.std.proofs.lemmas.List.Folds.{fold-map, list_any_at, Any-from_list_any}
use Rattle.std.proofs.lemmas.List.Sorted.{Contains-permutation, list_any-IsPermutation, sum_by-IsPermutation}
use Rattle.quorum_sets.specs.Committed.{Acks, acked_index}
use Rattle.quorum_sets.specs.Chart.{IsRanking, ranked, is_tied, bar_width}
use Rattle.quorum_sets.proofs.Quorums.Counts.{count_by-partition}
use Rattle.quorum_sets.proofs.Quorums.SortedRows.{Parts, rows-first}

-- ---- the rows against the ids
count-rows : (p : ℕ × ℕ → Bool) (ids : List ℕ) (acks : Acks) (rows : List (ℕ × ℕ)) → IsPermutation (map (ranked acks) ids) rows → count_by p rows ≡ count_by (λ id. p (ranked acks id)) ids
count-rows p ids acks rows same =
    sum_by-IsPermutation (λ r. cond (p r) 1 0) (map (ranked acks) ids) rows same ∙ fold-map (λ a r. a + cond (p r) 1 0) (ranked acks) 0 ids

any-map : {X Y : Type 0} (p : Y → Bool) (f : X → Y) (xs : List X) → list_any p (map f xs) ≡ list_any (λ x. p (f x)) xs
any-map p f [] = refl
any-map p f (x ∷ xs) = ap (λ b. p (f x) || b) (any-map p f xs)

has_row : (ids : List ℕ) (acks : Acks) (rows : List (ℕ × ℕ)) (id : ℕ) → IsRanking ids acks rows → Contains ids id → Contains rows (ranked acks id)
has_row ids acks rows id ranking among =
    let here = get_or-map (ranked acks) ids among.0 id (ranked acks id) among.1 ∙ ap (ranked acks) among.2 in
    Contains-permutation (map (ranked acks) ids) rows (ranked acks id) ranking.same (among.0, omega (arith, length-map ids (ranked acks)), here)

-- ---- the first row that has the index of an id: the id is tied unless the row is its own
abbrev pub first_id : ℕ → Acks → List (ℕ × ℕ) → ℕ → ℕ
first_id id acks rows position = (get_or rows position (ranked acks id)).1

is_tied-first : (ids : List ℕ) (acks : Acks) (rows : List (ℕ × ℕ)) (id position : ℕ) → IsRanking ids acks rows → Contains ids id → Parts (acked_index acks id) rows position → is_tied ids acks id ≡ not (first_id id acks rows position == id)
is_tied-first ids acks rows id position ranking among parted =
    let index : ℕ = acked_index acks id in
    let ties : ℕ × ℕ → Bool = λ row. nat_lt row.1 id && nat_eq row.0 index in
    let first = rows-first rows index id position ranking.ascends parted (has_row ids acks rows id ranking among) in
    elim (cases_Bool (first_id id acks rows position == id)) [
      | inl own ↦ false_from_ne_true _ (λ tied.
          let other = Any-from_list_any (λ x. ties (ranked acks x)) ids tied in
          let parts = and_parts (nat_lt other.1 id) (nat_eq (acked_index acks other.1) index) other.4 in
          let same = eqb-true (acked_index acks other.1) index parts.1 in
          let low = rows-first rows (acked_index acks other.1) other.1 position ranking.ascends (subst (λ n. Parts n rows position) (sym same) parted) (has_row ids acks rows other.1 ranking (other.0, other.2, other.3)) in
          let alike = ap (λ row. row.1) (get_or_default rows position (ranked acks other.1) (ranked acks id) first.0) in
          grind (arith, nat_tests, parts.0, low.2, alike, own)) ∙ ap not (sym own)
      | inr other ↦
          sym (any-map ties (ranked acks) ids) ∙ list_any-IsPermutation ties (map (ranked acks) ids) rows ranking.same
          ∙ list_any_at ties rows position (ranked acks id) first.0 (grind (arith, nat_tests, first.1, first.2, other)) ∙ ap not (sym other)
    ]

-- so there is such a row, and its position is the width if it is the id's own
pub bar_width-first : (ids : List ℕ) (acks : Acks) (rows : List (ℕ × ℕ)) (id position : ℕ) → IsRanking ids acks rows → Contains ids id → position ≤ length rows → Parts (acked_index acks id) rows position
    → (position < length rows) × (bar_width ids acks id ≡ cond (first_id id acks rows position == id) position 0)
bar_width-first ids acks rows id position ranking among within parted =
    let index : ℕ = acked_index acks id in
    let count = sym (count-rows (λ r. nat_lt r.0 index) ids acks rows ranking.same) ∙ count_by-partition (λ r. nat_lt r.0 index) rows position within parted in
    ((rows-first rows index id position ranking.ascends parted (has_row ids acks rows id ranking among)).0, grind (arith, is_tied-first ids acks rows id position ranking among parted, count))
