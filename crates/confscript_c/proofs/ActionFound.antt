-- The result of the call that says what to do next, where there is an action.
use Rattle.std.proofs.Common.{◌≡◌, ℕ, Bool, true, false, cond, List, refl, ap, ◌∙◌}
use Rattle.std.specs.Prelude.{Result, Ok, Err}
use Rattle.std.proofs.lemmas.Bool.{cond-false}
use Rattle.conf_change.specs.Configuration.{Configuration, has_voter}
use Rattle.conf_driver.specs.Next.{IsWellPosed, next_of}
use Rattle.conf_driver.specs.View.{ViewState, lacks_conf_index, lacks_leader_progress}
use Rattle.conf_plan.specs.PathBy.{has_path, ids_down}
use Rattle.conf_plan.specs.declared.strategy.Strategy.{Strategy}
use Rattle.conf_plan.specs.declared.strategy.Strategy.TheVariants.{Shortest, LearnersFirst, OneAtATime}
use Rattle.confscript_c.specs.Actions.{action_numbers}
use Rattle.confscript_c.specs.Answer.{status_answer}
use Rattle.confscript_c.specs.Next.{action_result, if_complete, next_for, unless_shortest, viewed}
use Rattle.confscript_c.specs.Views.{view_in}
use Rattle.confscript_c.specs.Written.{OutResult}
use Rattle.confscript_c.specs.declared.answer.Answer.{Answer}
use Rattle.confscript_c.specs.declared.request.Request.{Request}
use Rattle.confscript_c.specs.declared.status.Status.TheVariants.{NoVoter, JointTarget}

unless_shortest-other : (strategy : Strategy) (result : OutResult) → ¬ (strategy ≡ Shortest) → unless_shortest strategy result ≡ result
unless_shortest-other Shortest result other = absurd (other refl)
unless_shortest-other LearnersFirst result other = refl
unless_shortest-other OneAtATime result other = refl

with_path : (first second has : Bool) (result : OutResult) → first ≡ true → second ≡ true → has ≡ true
    → cond first (cond second (cond has result (Err (status_answer JointTarget 0))) (Err (status_answer NoVoter 2))) (Err (status_answer NoVoter 1)) ≡ result
with_path true true true result a b c = refl
with_path true true false result a b c = cc
with_path true false has result a b c = cc
with_path false second has result a b c = cc

if_complete-is : (strategy : Strategy) (target : Configuration) (view : ViewState) (result : OutResult) → IsWellPosed strategy target view → if_complete target view result ≡ result
if_complete-is strategy target view result posed =
    cond-false target.auto_leave _ _ posed.1 ∙ cond-false (lacks_conf_index view) _ _ posed.2 ∙ cond-false (lacks_leader_progress view) _ result posed.3

pub action_result-Ok : (request : Request) (target : Configuration) (view : ViewState) → IsWellPosed request.strategy target view → has_voter view.conf_state ≡ true → has_voter target ≡ true
    → has_path request.strategy view.conf_state target ≡ true
    → action_result request target view ≡ Ok (action_numbers (ids_down request.down) view.conf_state (next_of request.strategy target (ids_down request.down) view))
action_result-Ok request target view posed voter voter_target has =
    unless_shortest-other request.strategy _ posed.0 ∙ if_complete-is request.strategy target view _ posed ∙ with_path (has_voter view.conf_state) (has_voter target) (has_path request.strategy view.conf_state target) _ voter voter_target has

pub next_for-Ok : (asked : Result Request Answer) (begins ends : Result Configuration Answer) (numbers : List ℕ) (request : Request) (now target : Configuration) (view : ViewState)
    → asked ≡ Ok request → begins ≡ Ok now → ends ≡ Ok target → view_in now numbers ≡ Ok view → next_for asked begins ends numbers ≡ action_result request target view
next_for-Ok asked begins ends numbers request now target view a b e v =
    ap (λ r. next_for r begins ends numbers) a ∙ ap (λ r. next_for (Ok request) r ends numbers) b
    ∙ ap (λ r. next_for (Ok request) (Ok now) r numbers) e ∙ ap (viewed request target) v
