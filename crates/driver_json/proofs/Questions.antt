-- The error of a line is that of the first of its parts that is wrong.
use Rattle.std.proofs.Common.{◌≡◌, refl}
use Rattle.std.specs.Prelude.{Result, Ok, Err}
use Rattle.conf_change.specs.Configuration.{Configuration}
use Rattle.quorum_sets.specs.Ids.{Ids}
use Rattle.conf_driver.specs.View.{ViewState}
use Rattle.conf_plan.specs.declared.strategy.Strategy.{Strategy}
use Rattle.serde_json.specs.Data.{Data}
use Rattle.driver_json.specs.Question.{question_in, request_in, view_in}
use Rattle.driver_json.specs.Values.{configuration_at, ids_at, strategy_at}
use Rattle.driver_json.specs.declared.line_fault.LineFault.{LineFault}
use Rattle.driver_json.specs.declared.place.Key.TheVariants as key
use Rattle.driver_json.specs.declared.question.Question.{Question}

pub question_in-refused : (d : Data) (view : ViewState) (target : Configuration) (fault : LineFault) → view_in d ≡ Ok view → configuration_at key.Target d ≡ Ok target → request_in d ≡ Err fault
    → ◌≡◌ {A = Result Question LineFault} (question_in d) (Err fault)
question_in-refused d view target fault seen ends is = rw (seen, ends, is) refl

pub request_in-refused : (d : Data) (strategy : Strategy) (fault : LineFault) → strategy_at d ≡ Ok strategy → ids_at key.Down d ≡ Err fault
    → ◌≡◌ {A = Result (Strategy × Ids) LineFault} (request_in d) (Err fault)
request_in-refused d strategy fault by is = rw (by, is) refl
