-- There is an action unless `next` refuses.
use Rattle.std.proofs.Common.{◌≡◌, Bool, true, false, refl, ◌∙◌}
use Rattle.std.specs.Prelude.{None}
use Rattle.std.proofs.lemmas.Bool.{cond-false}
use Rattle.conf_change.specs.Configuration.{Configuration, has_voter}
use Rattle.conf_driver.specs.Next.{IsWellPosed}
use Rattle.conf_driver.specs.View.{ViewState, lacks_conf_index, lacks_leader_progress}
use Rattle.conf_plan.specs.PathBy.{has_path}
use Rattle.conf_plan.specs.declared.strategy.Strategy.{Strategy}
use Rattle.conf_plan.specs.declared.strategy.Strategy.TheVariants.{Shortest, LearnersFirst, OneAtATime}
use Rattle.driver_json.specs.Answer.{no_answer, no_answer_by, no_path}

no_path-none : (now target path : Bool) → now ≡ true → target ≡ true → path ≡ true → no_path now target path ≡ None
no_path-none true true true a b c = refl
no_path-none true true false a b c = cc
no_path-none true false path a b c = cc
no_path-none false target path a b c = cc

no_answer_by-none : (strategy : Strategy) (target : Configuration) (view : ViewState) → IsWellPosed strategy target view → has_voter view.conf_state ≡ true → has_voter target ≡ true → has_path strategy view.conf_state target ≡ true
    → no_answer_by strategy target view ≡ None
no_answer_by-none strategy target view posed voter voter_target path =
    cond-false target.auto_leave _ _ posed.1 ∙ cond-false (lacks_conf_index view) _ _ posed.2 ∙ cond-false (lacks_leader_progress view) _ _ posed.3
    ∙ no_path-none (has_voter view.conf_state) (has_voter target) (has_path strategy view.conf_state target) voter voter_target path

pub no_answer-none : (strategy : Strategy) (target : Configuration) (view : ViewState) → IsWellPosed strategy target view → has_voter view.conf_state ≡ true → has_voter target ≡ true → has_path strategy view.conf_state target ≡ true
    → no_answer strategy target view ≡ None
no_answer-none Shortest target view posed voter voter_target path = absurd (posed.0 refl)
no_answer-none LearnersFirst target view posed voter voter_target path = no_answer_by-none LearnersFirst target view posed voter voter_target path
no_answer-none OneAtATime target view posed voter voter_target path = no_answer_by-none OneAtATime target view posed voter voter_target path
