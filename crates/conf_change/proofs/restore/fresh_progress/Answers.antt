use Rattle.std.proofs.Common.{◌≡◌, ℕ, List, map, sym, ap, subst, ◌∙◌}
use Rattle.std.specs.FinMap as finite
use Rattle.std.specs.Ordering.{nat_cmp}
use Rattle.std.proofs.lemmas.Result.{IfOk-weaker}
use Rattle.quorum_sets.specs.Ids.{has, ascending}
use Rattle.quorum_sets.specs.AscendingLists.{IsAscending}
use Rattle.conf_change.specs.Configuration.{Configuration, member_ids}
use Rattle.conf_change.specs.Progress.{fresh_progress, all_fresh}
use Rattle.conf_change.specs.declared.progress.Progress.{Progress}
use Rattle.conf_change.proofs.MemberProgress.OfEachId.{ascends-of_each, progress_by-all_members}
use Rattle.conf_change.proofs.restore.fresh_progress.Goals as goal

pub returns-clause-ascends : goal.returns-clause-ascends
returns-clause-ascends g c =
    let own = g.S.MemberSet.ids in
    let of : ℕ → Progress = λ id. fresh_progress c.args.next_index (has (own c.config.inside.learners) id) in
    let Rises : List (ℕ × Progress) → Type 0 = λ ms. IsAscending (map (λ m. m.0) ms) in
    IfOk-weaker c.fresh_of.result (λ members. members.items ≡ map (λ id. (id, of id)) (ascending (own c.in_ok-ids.ids))) (λ members. Rises members.items)
    (λ members is. subst Rises (sym is) (ascends-of_each of (own c.in_ok-ids.ids))) c.fresh_of.ensures

pub returns-clause-fresh : goal.returns-clause-fresh
returns-clause-fresh g c =
    let own = g.S.MemberSet.ids in
    let config : Configuration = record {
      incoming = own c.config.inside.incoming;
      outgoing = own c.config.inside.outgoing;
      learners = own c.config.inside.learners;
      learners_next = own c.config.inside.learners_next;
      auto_leave = c.config.inside.auto_leave;
    } in
    let of : ℕ → Progress = λ id. fresh_progress c.args.next_index (has config.learners id) in
    let ids_are = c.in_ok-ids.ensures ∙ ap member_ids (sym c.config.view_is) in
    IfOk-weaker c.fresh_of.result (λ members. members.items ≡ map (λ id. (id, of id)) (ascending (own c.in_ok-ids.ids)))
    (λ members. finite.from_entries {R = nat_cmp} members.items ≡ all_fresh c.args.next_index c.args.config.now)
    (λ members is.
    ap (λ es. finite.from_entries {R = nat_cmp} es) (is ∙ ap (λ ids. map (λ id. (id, of id)) (ascending ids)) ids_are)
    ∙ progress_by-all_members config of ∙ ap (all_fresh c.args.next_index) c.config.view_is)
    c.fresh_of.ensures
