-- The first line of a path.
use Rattle.std.proofs.Common.{◌≡◌, Bool, false, List, sym, ap, ◌∙◌, cond}
use Rattle.std.specs.Prelude.{Some, None, option_and_then, unwrap_or, slice_get}
use Rattle.quorum_sets.specs.Ids.{is_empty}
use Rattle.conf_change.specs.Configuration.{Configuration}
use Rattle.conf_change.specs.declared.step.Step.{Step}
use Rattle.serde_json.specs.Data.{Members, object, no_members}
use Rattle.serde_json.specs.Find.{as_object}
use Rattle.plan_output.specs.Json.{path_json}
use Rattle.driver_json.specs.Answer.{first_line_of}
use Rattle.driver_json.specs.declared.question.Question.{Question}

-- its keys, where ids are down
pub first_line_of-down : (q : Question) (path : List Step) (now : Configuration) (ms : Members) → now ≡ q.view.conf_state → is_empty q.down ≡ false → slice_get (path_json 1 now path (Some q.down)) 0 ≡ Some (object ms)
    → ms ≡ first_line_of q path
first_line_of-down q path now ms now_is some line =
    sym (ap (λ (empty : Bool). unwrap_or (option_and_then as_object (slice_get (path_json 1 q.view.conf_state path (cond empty None (Some q.down))) 0)) no_members) some
    ∙ ap (λ c. unwrap_or (option_and_then as_object (slice_get (path_json 1 c path (Some q.down)) 0)) no_members) (sym now_is)
    ∙ ap (λ found. unwrap_or (option_and_then as_object found) no_members) line)
