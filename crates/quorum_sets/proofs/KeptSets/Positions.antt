-- Ids that are looked up at positions of the ascending list.
use Rattle.std.proofs.Common.{◌≡◌, ℕ, ◌-◌, ◌<◌, ◌≤◌, inl, inr, true, false, get_or, length, slice_get, refl, sym, ap, ◌∙◌, ◌==◌, arith}
use Rattle.std.specs.Prelude.{Some}
use Rattle.std.proofs.lemmas.Bool.{both_ways, cases_lt, eq-eqb, ne_eqb}
use Rattle.std.proofs.lemmas.List.{get_or_default}
use Rattle.std.proofs.lemmas.List.Folds.{list_any_none}
use Rattle.std.proofs.lemmas.Map.Keys.{any_passes_from_place, non_decreasing_from_sorted}
use Rattle.std.proofs.lemmas.Map.Views.{Contains-from_any, exact_unsigned_eq}
use Rattle.std.proofs.lemmas.Option.{slice_get_within, get_or_from_slice_get}
use Rattle.quorum_sets.specs.Ids.{Ids, has, ascending}
use Rattle.quorum_sets.specs.Overlap.{IsCommon}
use Rattle.quorum_sets.proofs.IdSets.Members.{has-ascending, ascending-is_sorted}

ascends : (s : Ids) (i j : ℕ) → i ≤ j → j < length (ascending s) → get_or (ascending s) i 0 ≤ get_or (ascending s) j 0
ascends s i j = non_decreasing_from_sorted (ascending s) (ascending-is_sorted s) i j 0

pub has-seen_at : (s : Ids) (id position : ℕ) → slice_get (ascending s) position ≡ Some id → true ≡ has s id
has-seen_at s id position here = sym (has-ascending s id ∙ any_passes_from_place (λ y. id == y) (ascending s) position id here (eq-eqb id id refl))

-- an id that is above those before a position, and below the others
pub has-seen_between : (s : Ids) (id position : ℕ) → ((k : ℕ) → k < position → get_or (ascending s) k 0 < id)
    → ((k : ℕ) → position ≤ k → k < length (ascending s) → id < get_or (ascending s) k 0) → false ≡ has s id
has-seen_between s id position below above = sym (has-ascending s id ∙ list_any_none (λ y. id == y) (ascending s) (λ k d within.
    ne_eqb id _ (λ same. grind (arith, same, get_or_default (ascending s) k d 0 within, below k, above k))))

-- an id below the one at a position is below those after it
pub ascending-below_rest : (s : Ids) (id position found : ℕ) → slice_get (ascending s) position ≡ Some found → id < found
    → (k : ℕ) → position ≤ k → k < length (ascending s) → id < get_or (ascending s) k 0
ascending-below_rest s id position found here lt k later within = omega (arith, get_or_from_slice_get (ascending s) position found 0 here, ascends s position k later within)

pub ascending-above_last : (s : Ids) (id position last : ℕ) → slice_get (ascending s) (position - 1) ≡ Some last → last < id → (k : ℕ) → k < position → get_or (ascending s) k 0 < id
ascending-above_last s id position last here lt k before = grind (arith, get_or_from_slice_get, ascends, slice_get_within)

-- ---- the first id that another set has
-- the other set has no id from before the position
abbrev pub NoneBefore : Ids → Ids → ℕ → Type 0
NoneBefore s other position = (k : ℕ) → k < position → has other (get_or (ascending s) k 0) ≡ false

-- so an id of both sets is at the position or after it
pub IsCommon-from : (a b : Ids) (position id : ℕ) → NoneBefore a b position → IsCommon a b id → (position < length (ascending a)) × (get_or (ascending a) position 0 ≤ id)
IsCommon-from a b position id none shared =
    let found = Contains-from_any exact_unsigned_eq id (ascending a) (sym (has-ascending a id) ∙ shared.in_first) in
    let here : get_or (ascending a) found.0 0 ≡ id = get_or_default (ascending a) found.0 0 id found.1 ∙ found.2 in
    elim (cases_lt found.0 position) [
      | inl before ↦ absurd (both_ways _ (none found.0 before) (ap (has b) here ∙ shared.in_second))
      | inr after ↦ (omega (arith, found.1), omega (arith, here, ascends a position found.0 after found.1))
    ]
