use Rattle.std.proofs.Common.{◌≡◌, ℕ, ◌+◌, Bool, true, false, List, [], ◌∷◌, ◌++◌, cond, filter, take, slice_get, sym, ap, ◌∙◌, append-nil, append_assoc}
use Rattle.std.specs.Prelude.{Some}
use Rattle.std.proofs.lemmas.List.Elements.{filter-append}
use Rattle.quorum_sets.specs.Ids.{ascending}
use Rattle.quorum_sets.proofs.Offered.{slice_get-not_past, take-one_more}
use Rattle.conf_plan.proofs.filtered.add_filtered.Goals as goal
use Rattle.conf_plan.proofs.filtered.add_filtered.Goals.{in-Some+then-test+in_ok-push, in-Some+else-test, in_default}

-- the ids that pass, with one more id
one_more : (passes : ℕ → Bool) (ids : List ℕ) (k id : ℕ) (answer : Bool) (before now after : List ℕ) → slice_get ids k ≡ Some id → answer ≡ passes id
    → now ≡ before ++ filter passes (take k ids) → after ≡ now ++ cond answer (id ∷ []) [] → after ≡ before ++ filter passes (take (k + 1) ids)
one_more passes ids k id answer before now after here is so_far added =
    added ∙ (λ i. so_far i ++ cond (is i) (id ∷ []) []) ∙ append_assoc before (filter passes (take k ids)) _
    ∙ sym (ap (λ more. before ++ more) (ap (filter passes) (take-one_more ids k id here) ∙ filter-append passes (take k ids) (id ∷ [])))

pub loop-index-preserved : goal.loop-index-preserved
loop-index-preserved g c =
    let ids = ascending (g.S.MemberSet.ids c.args.ids.now) in
    let index = c.loop-index.index in
    elim c.match-at.branch [
      | in-Some+then-test+in_ok-push w ↦ λ passes answers.
          one_more passes ids index w.in-Some.id true _ _ _ (sym w.in-Some.ensures) (sym w.if-test.true ∙ answers _ _ w.test.ensures) (c.loop-index.invariant passes answers)
          (ap (λ list. list.items) w.list-is ∙ w.in_ok-push.ensures.ok)
      | in-Some+else-test w ↦ λ passes answers.
          one_more passes ids index w.in-Some.id false _ _ _ (sym w.in-Some.ensures) (sym w.if-test.false ∙ answers _ _ w.test.ensures) (c.loop-index.invariant passes answers)
          (ap (λ list. list.items) w.list-is ∙ sym (append-nil _))
      | in_default w ↦ slice_get-not_past _ _ _ (sym w.in_default.is ∙ c.at.ensures) c.len-index-end.ensures c.loop-index-test.true
    ]
