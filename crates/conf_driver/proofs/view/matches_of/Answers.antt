use Rattle.std.proofs.Common.{◌≡◌, ◌-◌, drop, map, length, get_or, sym, ap, ◌∙◌, arith}
use Rattle.std.proofs.lemmas.Result.{MatchResult-at_ok, MatchResult-at_err}
use Rattle.quorum_sets.specs.Ids.{ascending}
use Rattle.quorum_sets.specs.AscendingLists.{IsAtPosition, IsInsertionPoint}
use Rattle.quorum_sets.proofs.Offered.{ascending-is_ascending, search-in_ascending}
use Rattle.conf_driver.specs.View.{ViewState}
use Rattle.conf_driver.proofs.Matches.{match_in, matches-none, matches-one_more, matches-one_other, refill-set}
use Rattle.conf_driver.proofs.view.matches_of.Goals as goal

pub loop-index-init : goal.loop-index-init
loop-index-init c =
    let n = ap (λ (v : ViewState). length v.progress) c.view.view_is in
    c.in_ok-matches.ensures.items_if_clones_equal (λ y same. same) ∙ matches-none c.args.view.now.progress (ascending c.args.ids.now) c.len-index.result _ (omega (arith, n, c.len-index.ensures)) (sym c.len.ensures)

pub loop-index-preserved-in-Ok : goal.loop-index-preserved-in-Ok
loop-index-preserved-in-Ok c =
    let member = c.index.result.now in
    let ids = c.as_slice.result.now in
    let members = ap (λ (v : ViewState). v.progress) c.view.view_is in
    let there : IsAtPosition ids member.id c.in-Ok.position = MatchResult-at_ok (IsAtPosition ids member.id) (IsInsertionPoint ids member.id) _ c.in-Ok.is
    (search-in_ascending ids member.id c.binary_search.result c.binary_search.ensures.position c.as_slice.ensures.ascends) in
    refill-set c.loop-index.matches.items c.as_mut_slice.result.now c.in-Ok.position member.matched c.as_mut_slice.ensures.value
    ∙ matches-one_more c.args.view.now.progress (ascending c.args.ids.now) c.loop-index.matches.items c.loop-index.index c.in-Ok.position member (omega (arith, c.loop-index-test.true)) (omega (arith, ap length members, c.len-index.ensures, c.loop-index.auto.index))
    (c.index.ensures ∙ ap (λ ms. get_or ms (c.loop-index.index - 1) member) members) c.loop-index.invariant (ascending-is_ascending c.args.ids.now) (rw c.as_slice.ensures.ids at there)

pub loop-index-preserved : goal.loop-index-preserved
loop-index-preserved c =
    let member = c.index.result.now in
    let ids = c.as_slice.result.now in
    let members = ap (λ (v : ViewState). v.progress) c.view.view_is in
    let absent : IsInsertionPoint ids member.id c.in_default.field-0 = MatchResult-at_err (IsAtPosition ids member.id) (IsInsertionPoint ids member.id) _ c.in_default.is
    (search-in_ascending ids member.id c.binary_search.result c.binary_search.ensures.position c.as_slice.ensures.ascends) in
    matches-one_other c.args.view.now.progress (ascending c.args.ids.now) c.loop-index.matches.items c.loop-index.index c.in_default.field-0 member (omega (arith, c.loop-index-test.true)) (omega (arith, ap length members, c.len-index.ensures, c.loop-index.auto.index))
    (c.index.ensures ∙ ap (λ ms. get_or ms (c.loop-index.index - 1) member) members) c.loop-index.invariant (rw c.as_slice.ensures.ids at absent)

pub returns : goal.returns
returns c =
    let done : c.loop-index.index ≡ 0 = omega (arith, c.loop-index-test.false) in
    c.loop-index.invariant ∙ ap (λ k. map (match_in (drop k c.args.view.now.progress)) (ascending c.args.ids.now)) done
