use Rattle.std.proofs.Common.{◌≡◌, List, ◌++◌, Ok}
use Rattle.std.specs.List.{All}
use Rattle.std.proofs.lemmas.List.Elements.{All-append}
use Rattle.conf_change.specs.declared.step.Step.{Step}
use Rattle.conf_plan.specs.PlanSteps.{HasU64Ids}
use Rattle.conf_plan.specs.PlanText.{plan_text}
use Rattle.conf_plan.specs.PlanCode.{path_in}
use Rattle.confscript_c.proofs.PartsApplied.{parts-apply}
use Rattle.confscript_c.proofs.laws.lines_are_applied_in_parts.Goals as goal

pub returns-clause-lines : goal.returns-clause-lines
returns-clause-lines c = λ state line first rest all before after first_is.
    parts-apply (record {
      is_restored = c.restored_is_described.ensures;
      own = c.conf_state_describes.ensures.own;
      stays = c.trackers_stay_sound.ensures.restorable;
      named = c.ids_are_named.ensures;
    }) state line first rest all before after (c.one_path_per_text.ensures.u64_ids first before ((c.one_path_per_text.ensures.ok first before).1 first_is)) first_is

pub returns-clause-printed : goal.returns-clause-printed
returns-clause-printed c = λ state line before after small_before small_after.
    let read : (steps : List Step) → All HasU64Ids steps → path_in (plan_text steps) ≡ Ok steps =
    λ steps small. (c.one_path_per_text.ensures.ok (plan_text steps) steps).0 ((c.one_path_per_text.ensures.printed steps steps small).1 (λ i. steps)) in
    returns-clause-lines c state line (plan_text before) (plan_text after) (plan_text (before ++ after)) before after (read before small_before) (read after small_after)
    (read (before ++ after) (All-append HasU64Ids before after small_before small_after))
