-- What a line asks: what to do next on the way to a target, by a strategy, in a view of a cluster.
use Rattle.std.specs.Prelude.{ℕ, List, codes, Option, Some, Result, Ok, Err}
use Rattle.quorum_sets.specs.Ids.{Ids}
use Rattle.conf_driver.specs.View.{ViewState}
use Rattle.conf_plan.specs.declared.strategy.Strategy.{Strategy}
use Rattle.serde_json.specs.Data.{Data, object}
use Rattle.serde_json.specs.Find.{get}
use Rattle.raft_json.specs.JsonText.{json_in}
use Rattle.driver_json.specs.Values.{given, number_at, ids_at, strategy_at, configuration_at, progress_in}
use Rattle.driver_json.specs.declared.line_fault.LineFault.{LineFault}
use Rattle.driver_json.specs.declared.line_fault.LineFault.TheVariants.{NotAnObject}
use Rattle.driver_json.specs.declared.place.Key.TheVariants as key
use Rattle.driver_json.specs.declared.question.Question.{Question}

-- the view that an object has, or what is wrong with the first of its keys that is wrong
abbrev pub view_in : Data → Result ViewState LineFault
view_in line =
    given (configuration_at key.ConfState line) (λ conf_state.
    given (number_at key.ConfIndex line) (λ conf_index.
    given (number_at key.Lead line) (λ lead.
    given (number_at key.Commit line) (λ commit.
    given (number_at key.PendingConfIndex line) (λ pending_conf_index.
    given (progress_in (get (codes "progress") line)) (λ progress.
    given (ids_at key.Running line) (λ running.
    given (ids_at key.Retired line) (λ retired.
    given (number_at key.MaxLag line) (λ max_lag.
    Ok (record {
      conf_state = conf_state;
      conf_index = conf_index;
      lead = lead;
      commit = commit;
      pending_conf_index = pending_conf_index;
      progress = progress;
      running = running;
      retired = retired;
      max_lag = max_lag;
    }))))))))))

-- by which strategy, and while which ids are down
abbrev pub request_in : Data → Result (Strategy × Ids) LineFault
request_in line = given (strategy_at line) (λ strategy. given (ids_at key.Down line) (λ down. Ok (strategy, down)))

-- the question that an object asks; its other keys are ignored
abbrev pub question_in : Data → Result Question LineFault
question_in line =
    given (view_in line) (λ view.
    given (configuration_at key.Target line) (λ target.
    given (request_in line) (λ request.
    Ok (record { view = view; target = target; strategy = request.0; down = request.1 }))))

-- the question that a value asks
abbrev pub question_of : Option Data → Result Question LineFault
question_of (Some (object members)) = question_in (object members)
question_of _ = Err NotAnObject

-- the question that a line asks
abbrev pub asked_in : List ℕ → Result Question LineFault
asked_in line = question_of (json_in line)
