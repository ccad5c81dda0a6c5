use Rattle.std.proofs.Common.{◌++◌, sym, ap, ◌∙◌}
use Rattle.std.specs.Prelude.{codes, if◌then◌else◌}
use Rattle.std.proofs.lemmas.Result.{IfOk-weaker}
use Rattle.quorum_sets.specs.Ids.{ascending}
use Rattle.quorum_sets.specs.Tolerance.{commits_without}
use Rattle.conf_change.specs.Configuration.{Configuration, voters_of}
use Rattle.conf_change.specs.Text.{spaced_numbers}
use Rattle.plan_output.proofs.steps.stall_text.Goals as goal

pub returns-then-commits_without : goal.returns-then-commits_without
returns-then-commits_without c =
    let down = c.args.down.now in
    let ids = spaced_numbers (ascending down) in
    let commits = c.commits_without.ensures ∙ ap (λ (d : Configuration). commits_without (voters_of d) down) c.now.view_is in
    IfOk-weaker c.around_ids.result _ _ (λ text is.
    is ∙ ap (λ list. codes "stalls with " ++ spaced_numbers list ++ codes " down") c.as_slice-ids.ensures.ids
    ∙ ap (λ b. if b then codes "stalls with " ++ ids ++ codes " down" else codes "no quorum with " ++ ids ++ codes " down: no step can be made")
    (sym c.if-commits_without.true ∙ commits)) c.around_ids.ensures

pub returns-else-commits_without : goal.returns-else-commits_without
returns-else-commits_without c =
    let down = c.args.down.now in
    let ids = spaced_numbers (ascending down) in
    let commits = c.commits_without.ensures ∙ ap (λ (d : Configuration). commits_without (voters_of d) down) c.now.view_is in
    IfOk-weaker c.around_ids-else-commits_without.result _ _ (λ text is.
    is ∙ ap (λ list. codes "no quorum with " ++ spaced_numbers list ++ codes " down: no step can be made") c.as_slice-ids.ensures.ids
    ∙ ap (λ b. if b then codes "stalls with " ++ ids ++ codes " down" else codes "no quorum with " ++ ids ++ codes " down: no step can be made")
    (sym c.if-commits_without.false ∙ commits)) c.around_ids-else-commits_without.ensures
