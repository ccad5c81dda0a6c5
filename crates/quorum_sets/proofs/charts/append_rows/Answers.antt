use Rattle.std.proofs.Common.{◌≡◌, ℕ, ◌+◌, ◌<◌, ◌∙◌, List, ◌++◌, ap, sym, take, length, get_or, flat_map, arith}
use Rattle.std.proofs.lemmas.List.{take_more, append-nil, append_assoc, length-map}
use Rattle.std.proofs.lemmas.List.Concat.{flat_map-append}
use Rattle.std.proofs.lemmas.List.Elements.{Contains-get_or}
use Rattle.std.proofs.lemmas.List.Sorted.{length_permutation}
use Rattle.std.specs.Prelude.{unwrap_or}
use Rattle.ascii_text.proofs.Offered.{Extends-append}
use Rattle.quorum_sets.specs.Chart.{chart_row, row_text}
use Rattle.quorum_sets.proofs.charts.append_rows.Goals as goal

flat_map_one_more : (f : ℕ → List ℕ) (xs : List ℕ) (i : ℕ) → i < length xs → flat_map f (take (i + 1) xs) ≡ flat_map f (take i xs) ++ f (get_or xs i 0)
flat_map_one_more f xs i within =
    ap (flat_map f) (take_more xs i 0 within) ∙ flat_map-append f (take i xs) _ ∙ ap (λ rest. flat_map f (take i xs) ++ rest) (append-nil (f (get_or xs i 0)))

pub append_row-requires-clause-within : goal.append_row-requires-clause-within
append_row-requires-clause-within g c = grind (arith, length_permutation, length-map, c.requires.same, c.width_of_bar-width.ensures.within)

pub returns-in_err-append_row-clause-extends : goal.returns-in_err-append_row-clause-extends
returns-in_err-append_row-clause-extends g c = grind (arith, Extends-append, c.loop-id.invariant, c.append_row.ensures.extends)

pub loop-id-preserved : goal.loop-id-preserved
loop-id-preserved g c =
    let ids : List ℕ = c.args.ids.now in
    let acks = g.A.AckSource.acks c.args.acks.now in
    let k : ℕ = c.loop-id.id-index in
    let width = c.width_of_bar-width.ensures.width ids acks c.requires (Contains-get_or ids k 0 c.loop-id-test.true) (c.unwrap_or.ensures ∙ ap (λ o. unwrap_or o 0) c.acked-acked.ensures) in
    c.in_ok-append_row.ensures.ok
    ∙ (λ i. c.loop-id.invariant i ++ row_text (length ids) (get_or ids k 0) (c.acked-acked.ensures i) (width i))
    ∙ append_assoc c.args.text.now.items (flat_map (chart_row ids acks) (take k ids)) _
    ∙ ap (λ rows. c.args.text.now.items ++ rows) (sym (flat_map_one_more (chart_row ids acks) ids k c.loop-id-test.true))
