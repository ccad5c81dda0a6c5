use Rattle.std.proofs.Common.{◌≡◌, ◌++◌, ap, sym, ◌∙◌}
use Rattle.std.specs.Prelude.{None, Option, Some, unwrap_or}
use Rattle.std.proofs.lemmas.Result.{IfOk-weaker}
use Rattle.conf_driver.specs.Next.{answer_in, propose_first}
use Rattle.conf_driver.specs.Rows.{first_of, rows_of_path, rows_of_step, rows_of_view}
use Rattle.conf_driver.specs.Situation.{values_of}
use Rattle.conf_driver.specs.declared.action.Action.{Action}
use Rattle.conf_driver.proofs.FirstAnswer.{first_of-here, first_of-later}
use Rattle.conf_driver.proofs.answer.answer_in.Goals as goal

pub returns-in-Some : goal.returns-in-Some
returns-in-Some c =
    let s = values_of c.args.situation.now in
    let of_view : first_of (rows_of_view s) ≡ Some c.in-Some.answer = sym c.in_ok-answer.ensures ∙ c.in-Some.is in
    sym (ap (λ (found : Option Action). unwrap_or found (propose_first c.args.path.now)) (first_of-here (rows_of_view s) (rows_of_path s ++ rows_of_step s) _ of_view))

pub returns-in-Some-2 : goal.returns-in-Some-2
returns-in-Some-2 c =
    let s = values_of c.args.situation.now in
    let of_view : first_of (rows_of_view s) ≡ None = sym c.in_ok-answer.ensures ∙ c.in_default.is in
    let of_path : first_of (rows_of_path s) ≡ Some c.in-Some-2.answer = sym c.in_ok-answer-2.ensures ∙ c.in-Some-2.is in
    sym (ap (λ (found : Option Action). unwrap_or found (propose_first c.args.path.now))
    (first_of-later (rows_of_view s) (rows_of_path s ++ rows_of_step s) of_view ∙ first_of-here (rows_of_path s) (rows_of_step s) _ of_path))

pub returns-in-Some-3 : goal.returns-in-Some-3
returns-in-Some-3 c =
    let s = values_of c.args.situation.now in
    let of_view : first_of (rows_of_view s) ≡ None = sym c.in_ok-answer.ensures ∙ c.in_default.is in
    let of_path : first_of (rows_of_path s) ≡ None = sym c.in_ok-answer-2.ensures ∙ c.in_default-2.is in
    let of_step : first_of (rows_of_step s) ≡ Some c.in-Some-3.answer = sym c.in_ok-answer-3.ensures ∙ c.in-Some-3.is in
    sym (ap (λ (found : Option Action). unwrap_or found (propose_first c.args.path.now))
    (first_of-later (rows_of_view s) (rows_of_path s ++ rows_of_step s) of_view ∙ first_of-later (rows_of_path s) (rows_of_step s) of_path ∙ of_step))

pub returns : goal.returns
returns c =
    let s = values_of c.args.situation.now in
    let of_view : first_of (rows_of_view s) ≡ None = sym c.in_ok-answer.ensures ∙ c.in_default.is in
    let of_path : first_of (rows_of_path s) ≡ None = sym c.in_ok-answer-2.ensures ∙ c.in_default-2.is in
    let of_step : first_of (rows_of_step s) ≡ None = sym c.in_ok-answer-3.ensures ∙ c.in_default-3.is in
    let last : answer_in s c.args.path.now ≡ propose_first c.args.path.now =
    ap (λ (found : Option Action). unwrap_or found (propose_first c.args.path.now))
    (first_of-later (rows_of_view s) (rows_of_path s ++ rows_of_step s) of_view ∙ first_of-later (rows_of_path s) (rows_of_step s) of_path ∙ of_step) in
    IfOk-weaker c.propose_first.result (λ action. action ≡ propose_first c.args.path.now) (λ action. action ≡ answer_in s c.args.path.now)
    (λ action is. is ∙ sym last) c.propose_first.ensures
