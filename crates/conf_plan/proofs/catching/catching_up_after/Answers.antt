use Rattle.std.proofs.Common.{rules, ◌≡◌, ◌∙◌, not, ◌&&◌, ◌||◌, ap, sym, ℕ}
use Rattle.std.proofs.lemmas.Result.{IfOk-weaker}
use Rattle.quorum_sets.specs.Ids.{has, ascending, ids_where}
use Rattle.quorum_sets.proofs.Offered.{has-no_ids}
use Rattle.conf_change.specs.Change.{removes}
use Rattle.conf_change.specs.Configuration.{is_member}
use Rattle.conf_change.specs.Step.{changes_of}
use Rattle.conf_change.specs.declared.step.Step.{Step}
use Rattle.conf_plan.proofs.OnTheWay.CatchingUp.{catching_up-filtered}
use Rattle.conf_plan.proofs.catching.catching_up_after.Goals as goal

pub returns : goal.returns
returns g c =
    let before = c.args.before.now in
    let after = c.args.after.now in
    let members = g.S.MemberSet.ids c.in_ok-members.members in
    let removed = g.S.MemberSet.ids c.add_removed.new.removed in
    let is_removed : (step : Step) → changes_of step ≡ c.args.changes.now → (q : ℕ) → has removed q ≡ removes (changes_of step) q =
    λ step is q. c.in_ok-add_removed.ensures q ∙ (λ i. (ap (λ s. has s q) c.empty-removed.ensures ∙ has-no_ids q) i || removes (sym is i) q) in
    IfOk-weaker c.filtered.result (λ ids. g.S.MemberSet.ids ids ≡ ids_where (λ id. not (is_member before id) || (has removed id && not (has after.outgoing id))) (ascending members)) _
    (λ ids is step changes_are. catching_up-filtered before after step members removed (g.S.MemberSet.ids ids) c.in_ok-members.ensures (is_removed step changes_are) is)
    (c.filtered.ensures (λ id. not (is_member before id) || (has removed id && not (has after.outgoing id))) (λ id answer given. search rules))
