use Rattle.std.proofs.Common.{◌≡◌, true, arith}
use Rattle.quorum_sets.specs.Ids.{Ids}
use Rattle.conf_change.specs.Configuration.{Configuration, is_joint, is_same}
use Rattle.conf_change.specs.ConfState.{lists_of}
use Rattle.conf_change.specs.Outcome.{after_leave}
use Rattle.conf_plan.specs.declared.strategy.Strategy.{Strategy}
use Rattle.conf_plan.specs.declared.strategy.Strategy.TheVariants.{Shortest, LearnersFirst, OneAtATime}
use Rattle.conf_plan.specs.PathBy.{KeepsPromises, path_by}
use Rattle.plan_output.proofs.AutoLeave.{stays_till_last, stays_till_last-from_one_change, stays_till_last-learners_first, stays_till_last-left_first, stays_till_last-one_change_each, stays_till_last-planned_from_single}
use Rattle.plan_output.proofs.LinesLead.{LinesLead-each_json}
use Rattle.plan_output.proofs.SingleChanges.{is_taken_as_it_is-one_change_each}
use Rattle.plan_output.proofs.laws.json_lines_lead_to_the_target.Goals as goal

-- the path of a strategy, by what it promises
of_strategy : (strategy : Strategy) (down : Ids) (now target : Configuration) → KeepsPromises strategy down now (path_by strategy down now target) target
    → stays_till_last (path_by strategy down now target) ≡ true
of_strategy Shortest down now target promises =
    stays_till_last-left_first (is_same now target) (is_joint now) _ _ (stays_till_last-planned_from_single (after_leave now) target) (stays_till_last-planned_from_single now target)
of_strategy LearnersFirst down now target promises = grind (arith, stays_till_last-left_first, stays_till_last-learners_first)
of_strategy OneAtATime down now target promises = stays_till_last-from_one_change (path_by OneAtATime down now target) now target promises.run

pub returns : goal.returns
returns c strategy made down plan now target is_now is_target has =
    LinesLead-each_json
    (record {
      restored = λ d ok. (c.restored_is_described.ensures (lists_of d) d).1 (c.conf_state_describes.ensures.own d, ok);
      valid = c.run_stays_valid.ensures;
    })
    down _ plan now _ target is_now (c.one_change_each_leads.ensures strategy made now target is_now is_target has).run
    (stays_till_last-one_change_each (path_by strategy made now target)
    (of_strategy strategy made now target (c.paths_keep_promises.ensures.promises strategy made now target is_now is_target has)))
    (is_taken_as_it_is-one_change_each (path_by strategy made now target))
