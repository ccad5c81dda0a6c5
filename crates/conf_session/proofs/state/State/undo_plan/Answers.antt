use Rattle.std.proofs.Common.{◌≡◌, sym, ap, ◌∙◌, arith}
use Rattle.std.specs.Prelude.{Err, option_copied}
use Rattle.std.proofs.lemmas.Bool.{true_from_ne_false}
use Rattle.conf_change.specs.Configuration.{Configuration, has_voter}
use Rattle.conf_change.specs.TrackerState.{TrackerState}
use Rattle.conf_plan.specs.Planned.{planned}
use Rattle.conf_session.specs.SessionState.{current}
use Rattle.conf_session.proofs.Kept.{valid-older, plan-is, same-some}
use Rattle.conf_session.proofs.state.State.undo_plan.Goals as goal

pub plan-requires-clause-valid_target : goal.plan-requires-clause-valid_target
plan-requires-clause-valid_target c =
    let kept = sym c.kept_at.ensures ∙ ap option_copied c.in-Some.is in
    let earlier = c.kept_lead_to_now.ensures c.args.self.now c.args.count c.in-Some.older.now c.is_session.ensures c.requires kept in
    valid-older c.args.self.now c.args.count c.in-Some.older.now earlier

pub unreachable-requires : goal.unreachable-requires
unreachable-requires c =
    let kept = sym c.kept_at.ensures ∙ ap option_copied c.in-Some.is in
    let earlier = c.kept_lead_to_now.ensures c.args.self.now c.args.count c.in-Some.older.now c.is_session.ensures c.requires kept in
    let now : c.config-now.result.now ≡ current c.args.self.now = c.config-now.ensures ∙ ap (λ (t : TrackerState). t.config) c.tracker.ensures.tracker ∙ ap current c.self.view_is in
    let none = c.plan.ensures.no_voter_now.0 (c.in-Err-NoVoterNow.is ∙ ap Err c.in-Err-NoVoterNow.field-0-is) in
    let some = ap has_voter now ∙ earlier.voter in cc

pub returns-in-Ok-clause-planned : goal.returns-in-Ok-clause-planned
returns-in-Ok-clause-planned c =
    let kept = sym c.kept_at.ensures ∙ ap option_copied c.in-Some.is in
    let earlier = c.kept_lead_to_now.ensures c.args.self.now c.args.count c.in-Some.older.now c.is_session.ensures c.requires kept in
    let now : c.config-now.result.now ≡ current c.args.self.now = c.config-now.ensures ∙ ap (λ (t : TrackerState). t.config) c.tracker.ensures.tracker ∙ ap current c.self.view_is in
    let some = ap has_voter now ∙ earlier.voter in
    let voter = true_from_ne_false (has_voter c.in-Some.older.now) (λ none. let refused = c.plan.ensures.no_voter_target.1 (some, none) in let made = c.in-Ok.is in cc) in
    plan-is c.args.self.now c.args.count c.in-Some.older.now c.in-Ok.plan kept voter
    (c.in-Ok.ensures.planned ∙ ap (λ (d : Configuration). planned d c.in-Some.older.now) now)

pub returns-in-Ok-clause-best : goal.returns-in-Ok-clause-best
returns-in-Ok-clause-best c = grind (arith, same-some, c.kept_at.ensures, c.in-Some.is, c.config-now.ensures, c.tracker.ensures.tracker, c.self.view_is, c.in-Ok.ensures.best)
