use Rattle.std.proofs.Common.{◌≡◌, ℕ, Bool, true, false, not, refl, sym, ap, ◌∙◌, arith}
use Rattle.std.specs.Bool.{beq}
use Rattle.std.specs.Prelude.{filter, if◌then◌else◌}
use Rattle.std.proofs.lemmas.List.{take_all}
use Rattle.std.proofs.lemmas.Result.{IfOk-weaker}
use Rattle.quorum_sets.specs.Ids.{Ids, ascending, has, ids_of}
use Rattle.conf_driver.specs.IdSets.{◌∩◌, ◌∖◌}
use Rattle.conf_driver.proofs.KeptIds.{kept-failing, kept-passing}
use Rattle.conf_driver.proofs.sets.kept.Goals as goal
use Rattle.conf_driver.proofs.sets.kept.Goals.{then-contains_from-in_second+in_ok-push, else-contains_from-in_second}

-- the ids that the filter leaves are those of the set
kept-is : (a b : Ids) (in_second : Bool) → ids_of (filter (λ id. if in_second then has b id else not (has b id)) (ascending a)) ≡ (if in_second then a ∩ b else a ∖ b)
kept-is a b true = refl
kept-is a b false = refl

-- the test of the code
test-is : (there in_second : Bool) → (if in_second then there else not there) ≡ beq there in_second
test-is true true = refl
test-is true false = refl
test-is false true = refl
test-is false false = refl

pub loop-id-preserved : goal.loop-id-preserved
loop-id-preserved c =
    let test : ℕ → Bool = λ id. if c.args.in_second then has c.args.b.now id else not (has c.args.b.now id) in
    let ids = c.as_slice-id-items.result.now in
    let here = test-is _ c.args.in_second ∙ ap (λ there. beq there c.args.in_second) (sym c.contains_from.ensures) in
    elim c.if-contains_from-in_second.branch [
      | then-contains_from-in_second+in_ok-push w ↦
          (λ i. (w.ids-is i).items) ∙ w.in_ok-push.ensures.ok ∙ kept-passing test ids c.loop-id.ids.items c.loop-id.id-index c.loop-id-test.true (here ∙ w.if-contains_from-in_second.true) c.loop-id.invariant
      | else-contains_from-in_second w ↦
          (λ i. (w.ids-is i).items) ∙ kept-failing test ids c.loop-id.ids.items c.loop-id.id-index c.loop-id-test.true (here ∙ w.if-contains_from-in_second.false) c.loop-id.invariant
    ]

pub returns : goal.returns
returns c =
    let test : ℕ → Bool = λ id. if c.args.in_second then has c.args.b.now id else not (has c.args.b.now id) in
    let ids = c.as_slice-id-items.result.now in
    let all = c.as_slice.ensures ∙ c.loop-id.invariant ∙ ap (filter test) (take_all c.loop-id.id-index ids (omega (arith, c.loop-id-test.false)) ∙ c.as_slice-id-items.ensures.ids) in
    IfOk-weaker c.of_list.result (λ s. s ≡ ids_of c.as_slice.result.now) (λ s. s ≡ (if c.args.in_second then c.args.a.now ∩ c.args.b.now else c.args.a.now ∖ c.args.b.now))
    (λ s is. is ∙ ap ids_of all ∙ kept-is c.args.a.now c.args.b.now c.args.in_second) c.of_list.ensures.set
