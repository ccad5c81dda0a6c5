use Rattle.std.proofs.Common.{◌≡◌, true, false, sym, ap, ◌∙◌}
use Rattle.std.specs.Prelude.{Ok}
use Rattle.std.proofs.lemmas.Bool.{false_from_ne_true, true_from_ne_false}
use Rattle.conf_change.specs.Configuration.{has_voter}
use Rattle.conf_driver.specs.Next.{IsWellPosed, next_of}
use Rattle.conf_driver.specs.View.{lacks_conf_index, lacks_leader_progress}
use Rattle.conf_plan.specs.PathBy.{has_path}
use Rattle.conf_plan.specs.declared.strategy.Strategy.TheVariants.{Shortest}
use Rattle.driver_json.specs.Answer.{unless_refused}
use Rattle.driver_json.proofs.Actions.{no_answer-none}
use Rattle.driver_json.proofs.answer.action_for.Goals as goal

pub returns-in-Ok-clause-action : goal.returns-in-Ok-clause-action
returns-in-Ok-clause-action c =
    let q = c.args.question.now in
    let now = q.view.conf_state in
    let made = c.in-Ok.is in
    let other : ¬ (q.strategy ≡ Shortest) = λ e. let refused = c.next.ensures.shortest.1 e in cc in
    let stays : q.target.auto_leave ≡ false = false_from_ne_true _ (λ e. let refused = c.next.ensures.auto_leave_target.1 (other, e) in cc) in
    let indexed : lacks_conf_index q.view ≡ false = false_from_ne_true _ (λ e. let refused = c.next.ensures.no_conf_index.1 (other, stays, e) in cc) in
    let known : lacks_leader_progress q.view ≡ false = false_from_ne_true _ (λ e. let refused = c.next.ensures.no_leader_progress.1 (other, stays, indexed, e) in cc) in
    let posed : IsWellPosed q.strategy q.target q.view = (other, stays, indexed, known) in
    let voter : has_voter now ≡ true = true_from_ne_false _ (λ e. let refused = c.next.ensures.no_voter_now.1 (posed, e) in cc) in
    let voter_target : has_voter q.target ≡ true = true_from_ne_false _ (λ e. let refused = c.next.ensures.no_voter_target.1 (posed, voter, e) in cc) in
    let path : has_path q.strategy now q.target ≡ true = true_from_ne_false _ (λ e. let refused = c.next.ensures.joint_target.1 (posed, voter, voter_target, e) in cc) in
    ap (λ why. unless_refused why (next_of q.strategy q.target q.down q.view)) (no_answer-none q.strategy q.target q.view posed voter voter_target path) ∙ ap Ok (sym c.in-Ok.ensures.answer)
