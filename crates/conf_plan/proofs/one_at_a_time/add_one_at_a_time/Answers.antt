use Rattle.std.proofs.Common.{◌≡◌, ◌&&◌, refl, sym, ap, ◌∙◌}
use Rattle.quorum_sets.specs.Tolerance.{commits_without}
use Rattle.quorum_sets.specs.Voters.{pair}
use Rattle.conf_change.specs.Configuration.{voters_of}
use Rattle.conf_plan.specs.OneAtATime.{down_in_order}
use Rattle.conf_plan.proofs.one_at_a_time.add_one_at_a_time.Goals as goal
use Rattle.conf_plan.proofs.one_at_a_time.add_one_at_a_time.Goals.{then-commits_without, else-commits_without, then-both_commit, else-both_commit}

pub returns : goal.returns
returns g c =
    let own = g.S.MemberSet.ids in
    let down = own c.args.down.now in
    let start = c.args.start.now in
    let target = c.args.target.now in
    let first = sym (c.commits_without.ensures ∙ ap (λ s. commits_without (pair (own c.start.inside.incoming.now) s) down) c.empty-none.ensures) in
    let both : (commits_without (voters_of start) down && commits_without (voters_of target) down) ≡ c.if-commits_without.both_commit = elim c.if-commits_without.branch [
      | then-commits_without w ↦
          rw (← c.start.view_is, first ∙ w.if-commits_without.true) (sym (w.both_commit-is ∙ w.commits_without-both_commit.ensures ∙ ap (λ d. commits_without (voters_of d) down) c.target.view_is))
      | else-commits_without w ↦ rw (← c.start.view_is, first ∙ w.if-commits_without.false) (sym (w.both_commit-is ∙ w.if-commits_without.false))
    ] in
    let chosen : down_in_order down start target ≡ own c.if-both_commit.add_in_order.now = elim c.if-both_commit.branch [
      | then-both_commit w ↦ rw (both ∙ w.if-both_commit.true, w.add_in_order-is) refl
      | else-both_commit w ↦ rw (both ∙ w.if-both_commit.false, w.add_in_order-is) (sym c.empty-none.ensures)
    ] in
    rw chosen c.add_in_order.ensures
