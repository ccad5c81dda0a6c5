-- How a plan is made, by the strategy and the ids that are down, and how its text is written, by their numbers.
use Rattle.std.specs.Prelude.{ℕ, ◌==◌, List, length, Option, Some, None, Result, Ok, Err, if◌then◌else◌}
use Rattle.quorum_sets.specs.Ids.{Ids, has, ids_of}
use Rattle.conf_plan.specs.declared.strategy.Strategy.{Strategy}
use Rattle.conf_plan.specs.declared.strategy.Strategy.TheVariants.{Shortest, LearnersFirst, OneAtATime}
use Rattle.plan_output.specs.declared.output.Output.{Output}
use Rattle.plan_output.specs.declared.output.Output.TheVariants.{Steps, Table, Json}
use Rattle.confscript_c.specs.Answer.{status_answer}
use Rattle.confscript_c.specs.declared.answer.Answer.{Answer}
use Rattle.confscript_c.specs.declared.request.Request.{Request}
use Rattle.confscript_c.specs.declared.status.Status.TheVariants.{ZeroId, BadStrategy, BadOutput}

-- the strategy with this code: 0, 1 or 2; no other code has one
abbrev pub strategy_at : ℕ → Result Strategy Answer
strategy_at code =
    if code == 0 then Ok Shortest
    else (if code == 1 then Ok LearnersFirst
    else (if code == 2 then Ok OneAtATime else Err (status_answer BadStrategy 0)))

-- the output with this code: 0, 1 or 2; no other code has one
abbrev pub output_at : ℕ → Result Output Answer
output_at code =
    if code == 0 then Ok Steps
    else (if code == 1 then Ok Table
    else (if code == 2 then Ok Json else Err (status_answer BadOutput 0)))

-- the ids that are down, if there are any; 0 is not an id
abbrev pub down_in : List ℕ → Result (Option Ids) Answer
down_in ids =
    if length ids == 0 then Ok None
    else (if has (ids_of ids) 0 then Err (status_answer ZeroId 0) else Ok (Some (ids_of ids)))

-- the request of these, or the answer for the first that is wrong
abbrev pub request_of : Result Strategy Answer → Result (Option Ids) Answer → Result Request Answer
request_of (Err why) down = Err why
request_of (Ok strategy) (Err why) = Err why
request_of (Ok strategy) (Ok down) = Ok (record { strategy = strategy; down = down })

-- the request of the code of a strategy, and a list of ids that are down
abbrev pub request_in : ℕ → List ℕ → Result Request Answer
request_in strategy down = request_of (strategy_at strategy) (down_in down)

-- the request of these with the output, or the answer for the first that is wrong
abbrev pub text_request_of : Result Strategy Answer → Result Output Answer → Result (Option Ids) Answer
    → Result (Request × Output) Answer
text_request_of (Err why) output down = Err why
text_request_of (Ok strategy) (Err why) down = Err why
text_request_of (Ok strategy) (Ok output) (Err why) = Err why
text_request_of (Ok strategy) (Ok output) (Ok down) = Ok (record { strategy = strategy; down = down }, output)

-- the request of the code of a strategy, the code of an output, and a list of ids that are down, with the output
abbrev pub text_request_in : ℕ → ℕ → List ℕ → Result (Request × Output) Answer
text_request_in strategy output down = text_request_of (strategy_at strategy) (output_at output) (down_in down)
