-- That each plan which is printed is the best there is.
use Rattle.std.proofs.Common.{◌≡◌, ℕ, true, [], ◌++◌, ◌∙◌, ap}
use Rattle.std.specs.Prelude.{None, Result, Ok}
use Rattle.std.proofs.lemmas.List.{append-nil}
use Rattle.conf_change.specs.Configuration.{Configuration, has_voter}
use Rattle.conf_plan.specs.Best.{IsBest}
use Rattle.conf_plan.specs.PathBy.{has_path, path_by, ids_down}
use Rattle.conf_plan.specs.Planned.{planned}
use Rattle.conf_plan.specs.Run.{IsValidWithVoter}
use Rattle.conf_session.specs.SessionState.{SessionState}
use Rattle.conf_tool.specs.Laws.{PrintedPlanIsBest, IsBestPlan}
use Rattle.conf_tool.specs.Outputs.{Output, worse_of, pair_then, session_after_pair, ends_before, planned_pairs}
use Rattle.conf_tool.specs.PlanAnswer.{path_status, path_text, path_between, reply_text, plan_text_between, status_with, plan_status}
use Rattle.conf_tool.specs.PlanScript.{default_session}
use Rattle.conf_tool.specs.declared.origin.Origin.TheVariants.{Line}
use Rattle.conf_tool.specs.Pairs.{Pair}
use Rattle.conf_tool.specs.declared.plan_input_fault.PlanInputFault.{PlanInputFault}
use Rattle.conf_tool.specs.declared.plan_options.PlanOptions.{PlanOptions}
use Rattle.conf_plan.specs.declared.strategy.Strategy.TheVariants.{Shortest}
use Rattle.conf_tool.specs.declared.status.Status.TheVariants.{Clean}
use Rattle.conf_tool.proofs.Theorems.PromisedPaths.{path_between-path}
use Rattle.conf_tool.proofs.Theorems.PairByPair.{HoldsOfText, pair-valid, each-printed, pair-printed}

abbrev AreBest : Type 0
AreBest = (now target : Configuration) → IsValidWithVoter now → IsValidWithVoter target → IsBest now (planned now target) target

-- the path is the plan
shortest-path : (options : PlanOptions) (pair : Pair) → pair.strategy ≡ Shortest → has_voter pair.current ≡ true → has_voter pair.target ≡ true → path_between options pair ≡ Ok (planned pair.current pair.target)
shortest-path options pair shortest a b =
    path_between-path options pair a b (ap (λ s. has_path s pair.current pair.target) shortest) ∙ ap (λ s. Ok (path_by s (ids_down options.down) pair.current pair.target)) shortest

-- .. and it is printed
between-voters : (options : PlanOptions) (session : SessionState) (number : ℕ) (pair : Pair) → pair.strategy ≡ Shortest → has_voter pair.current ≡ true → has_voter pair.target ≡ true →
    plan_text_between options session number pair ≡ path_text options session number pair.current (planned pair.current pair.target)
between-voters options session number pair shortest a b = ap (reply_text options session number pair.current) (shortest-path options pair shortest a b)

status-voters : (options : PlanOptions) (pair : Pair) → pair.strategy ≡ Shortest → options.down ≡ None → has_voter pair.current ≡ true → has_voter pair.target ≡ true → plan_status options pair ≡ Clean
status-voters options pair shortest none a b =
    ap (status_with options pair.current) (shortest-path options pair shortest a b) ∙ ap (λ down. path_status down pair.current (planned pair.current pair.target)) none

pair-best : AreBest → (options : PlanOptions) → HoldsOfText options (IsBestPlan options)
pair-best best options session number pair valid = λ shortest voter_now voter_target. (
  planned pair.current pair.target,
  between-voters options session number pair shortest voter_now voter_target,
  best pair.current pair.target (record { valid = valid.now; voter = voter_now }) (record { valid = valid.target; voter = voter_target }),
)

-- the output of one pair
abbrev pair_with : PlanOptions → Result Pair PlanInputFault → Output
pair_with options pair = pair_then options default_session 1 pair (planned_pairs options (session_after_pair options default_session pair) 2 [] None)

one-pair : (options : PlanOptions) (pair : Pair) → pair.strategy ≡ Shortest → options.down ≡ None → has_voter pair.current ≡ true → has_voter pair.target ≡ true →
    pair_then options default_session 1 (Ok pair) (ends_before 2 None) ≡ record { text = path_text options default_session 1 pair.current (planned pair.current pair.target); outcome = Ok Clean }
one-pair options pair shortest none a b =
    (λ i. record { text = between-voters options default_session 1 pair shortest a b i ++ []; outcome = worse_of (status-voters options pair shortest none a b i) (Ok Clean) })
    ∙ ap (λ t. record { text = t; outcome = Ok Clean }) (append-nil (path_text options default_session 1 pair.current (planned pair.current pair.target)))

pub printed-best : AreBest → PrintedPlanIsBest
printed-best best = record {
  each = λ options input. (each-printed options (IsBestPlan options) (pair-best best options) input);
  texts = λ options from to. (pair-printed options (IsBestPlan options) (pair-best best options) from to);
  alone = λ options input first second pair none whole lines is shortest voter_now voter_target. (
    planned pair.current pair.target,
    (λ i. planned_pairs options default_session 1 (lines i) (whole i)) ∙ (λ i. pair_with options (is i)) ∙ one-pair options pair shortest none voter_now voter_target,
    let both = pair-valid options (Line first.number) (Line second.number) first.text second.text pair is in
        best pair.current pair.target (record { valid = both.now; voter = voter_now }) (record { valid = both.target; voter = voter_target }),
  );
}
