use Rattle.std.proofs.Common.{ℕ, List, ap, sym, subst, ◌∙◌, map, take_all, arith}
use Rattle.quorum_sets.specs.Ids.{has}
use Rattle.quorum_sets.specs.AscendingLists.{IsAscending}
use Rattle.conf_change.specs.Configuration.{is_member}
use Rattle.conf_change.specs.declared.progress.Progress.{Progress}
use Rattle.conf_change.proofs.MemberProgress.Filtered.{filtered, kept_entry, ascends-filtered, get-kept}
use Rattle.conf_change.proofs.tracker.keep_members.Goals as goal

pub returns-clause-ascends : goal.returns-clause-ascends
returns-clause-ascends g c =
    let d = c.args.config.now in
    let entry = kept_entry (is_member d) (has d.learners) in
    let es = c.args.others.now in
    let all = c.loop-id.invariant.items ∙ ap (filtered (λ m. m.0) entry) (take_all _ _ c.loop-id-test.false) in
    let Rises : List (ℕ × Progress) → Type 0 = λ ms. IsAscending (map (λ m. m.0) ms) in
    subst Rises (sym all) (ascends-filtered (λ m. m.0) entry es c.requires)

pub returns-clause-kept : goal.returns-clause-kept
returns-clause-kept g c = grind (arith, kept_entry, take_all, get-kept, c.loop-id.invariant.items, c.loop-id-test.false)
