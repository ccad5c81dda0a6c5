use Rattle.std.proofs.Common.{rules, ◌≡◌, ◌∙◌, refl, arith, max}
use Rattle.std.specs.Prelude.{slice_get}
use Rattle.std.proofs.lemmas.Iterator.{cases_from_all, YieldsList-from_range}
use Rattle.quorum_sets.specs.Ids.{ascending}
use Rattle.conf_change.proofs.Configurations.Equality.{is_same_set-by_index}
use Rattle.conf_change.proofs.config.has_same_ids.Goals as goal

pub returns : goal.returns
returns g c =
    let a = g.S.MemberSet.ids c.args.a.now in
    let b = g.S.MemberSet.ids c.args.b.now in
    let end = c.max.result in
    is_same_set-by_index a b end c.all.result (c.max.ensures ∙ (λ i. max (c.len.ensures i) (c.len-2.ensures i)))
    (cases_from_all _ _ c.all.result (λ k. slice_get (ascending a) k ≡ slice_get (ascending b) k) (λ k. slice_get (ascending a) k ≡ slice_get (ascending b) k → ⊥) c.all.ensures.ran
    (YieldsList-from_range 0 end end refl (omega arith)) (λ x q k. search rules) (λ x q k. search rules))
