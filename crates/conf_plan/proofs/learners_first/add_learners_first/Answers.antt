use Rattle.std.proofs.Common.{◌≡◌, false, true, sym, ap, ◌∙◌, eq-eqb}
use Rattle.std.proofs.lemmas.Bool.{ne_eqb}
use Rattle.quorum_sets.specs.Ids.{size, is_empty}
use Rattle.conf_plan.specs.LearnersFirst as first
use Rattle.conf_plan.specs.Planned.{single_with}
use Rattle.conf_plan.proofs.OnTheWay.LearnersFirst.{learners_first-some_voter, planned-of_single}
use Rattle.conf_plan.proofs.OnTheWay.Newcomers.{with_newcomers-is_single}
use Rattle.conf_plan.proofs.PlannedSteps.Cases.{OnOk-weaker, single_with-is_single, added-more}
use Rattle.conf_plan.proofs.learners_first.add_learners_first.Goals as goal

pub returns-then-len-eq0 : goal.returns-then-len-eq0
returns-then-len-eq0 g c =
    let start = single_with (g.S.MemberSet.ids c.start.inside.incoming.now) (g.S.MemberSet.ids c.start.inside.learners.now) in
    let single = single_with-is_single _ _ (rw (← c.start.view_is) at c.requires.start) in
    let no_voter : is_empty (first.newcomers start c.args.target.now) ≡ true =
    ap is_empty (sym (rw (← c.start.view_is) at c.in_ok-newcomers.ensures)) ∙ eq-eqb (size (g.S.MemberSet.ids c.in_ok-newcomers.newcomers)) 0 (sym c.len.ensures ∙ c.if-len-eq0.true) in
    rw (← c.start.view_is, no_voter, planned-of_single start c.args.target.now single) (rw (← c.start.view_is) at c.add_from_single.ensures)

pub add_from_single-requires-2-clause-start : goal.add_from_single-requires-2-clause-start
add_from_single-requires-2-clause-start g c =
    let single = single_with-is_single (g.S.MemberSet.ids c.start.inside.incoming.now) (g.S.MemberSet.ids c.start.inside.learners.now) (rw (← c.start.view_is) at c.requires.start) in
    rw (c.in_ok-learners.ensures, c.in_ok-newcomers.ensures, ← c.start.view_is) (with_newcomers-is_single _ c.args.target.now single c.requires.target).valid_with_voter

pub returns : goal.returns
returns g c =
    let target = c.args.target.now in
    let start = single_with (g.S.MemberSet.ids c.start.inside.incoming.now) (g.S.MemberSet.ids c.start.inside.learners.now) in
    let single = single_with-is_single _ _ (rw (← c.start.view_is) at c.requires.start) in
    let are = rw (← c.start.view_is) at c.in_ok-newcomers.ensures in
    let stepped = rw (← c.start.view_is) at c.in_ok-add_single_steps.ensures in
    let some_voter : is_empty (first.newcomers start target) ≡ false =
    ap is_empty (sym are) ∙ ne_eqb (size (g.S.MemberSet.ids c.in_ok-newcomers.newcomers)) 0 (λ none. c.if-len-eq0.false (c.len.ensures ∙ none)) in
    rw (← c.start.view_is) (OnOk-weaker c.add_from_single-2.result
    (λ added.
    let whole = added-more _ _ _ _ _ stepped added in
    rw (learners_first-some_voter start target single c.requires.target some_voter) (rw (c.in_ok-learners.ensures, are) at whole))
    c.add_from_single-2.ensures)
