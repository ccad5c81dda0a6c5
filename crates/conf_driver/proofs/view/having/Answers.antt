use Rattle.std.proofs.Common.{◌≡◌, ℕ, ◌<◌, Bool, List, length, map, get_or, ap, ◌∙◌, arith}
use Rattle.std.specs.Prelude.{filter, nat_le}
use Rattle.std.proofs.lemmas.Bool.Decides.{nat_tests}
use Rattle.std.proofs.lemmas.List.{get_or-map, take_all}
use Rattle.std.proofs.lemmas.Result.{IfOk-weaker}
use Rattle.quorum_sets.specs.Ids.{Ids, ascending, ids_of}
use Rattle.conf_driver.specs.View.{ViewState, having, match_of}
use Rattle.conf_driver.proofs.KeptIds.{kept-failing, kept-passing}
use Rattle.conf_driver.proofs.view.having.Goals as goal
use Rattle.conf_driver.proofs.view.having.Goals.{then-as_slice-position+in_ok-push, else-as_slice-position}

-- the match at a position
match-at : (view : ViewState) (ids : Ids) (items matches : List ℕ) (k : ℕ) → matches ≡ map (match_of view) (ascending ids) → items ≡ ascending ids → k < length items
    → get_or matches k 0 ≡ match_of view (get_or items k 0)
match-at view ids items matches k all same within = grind (arith, get_or, map, get_or-map)

pub loop-position-preserved : goal.loop-position-preserved
loop-position-preserved c =
    let test : ℕ → Bool = λ id. nat_le c.args.index (match_of c.args.view.now id) in
    let ids = c.as_slice-id-items.result.now in
    let here = match-at c.args.view.now c.args.ids.now ids c.as_slice.result.now c.loop-position.position (c.as_slice.ensures ∙ c.in_ok-matches.ensures) c.as_slice-id-items.ensures.ids c.loop-position-test.true in
    elim c.if-as_slice-position.branch [
      | then-as_slice-position+in_ok-push w ↦
          (λ i. (w.having-is i).items) ∙ w.in_ok-push.ensures.ok
          ∙ kept-passing test ids c.loop-position.having.items c.loop-position.position c.loop-position-test.true (grind (arith, nat_tests, here, w.if-as_slice-position.true)) c.loop-position.invariant
      | else-as_slice-position w ↦
          (λ i. (w.having-is i).items)
          ∙ kept-failing test ids c.loop-position.having.items c.loop-position.position c.loop-position-test.true (grind (arith, nat_tests, here, w.if-as_slice-position.false)) c.loop-position.invariant
    ]

pub returns : goal.returns
returns c =
    let test : ℕ → Bool = λ id. nat_le c.args.index (match_of c.args.view.now id) in
    let ids = c.as_slice-id-items.result.now in
    let all = c.as_slice-2.ensures ∙ c.loop-position.invariant ∙ ap (filter test) (take_all c.loop-position.position ids (omega (arith, c.loop-position-test.false)) ∙ c.as_slice-id-items.ensures.ids) in
    IfOk-weaker c.of_list.result (λ s. s ≡ ids_of c.as_slice-2.result.now) (λ s. s ≡ having c.args.view.now c.args.index c.args.ids.now) (λ s is. is ∙ ap ids_of all) c.of_list.ensures.set
