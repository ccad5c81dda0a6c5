use Rattle.std.proofs.Common.{◌≡◌, ℕ, List, true, refl, ap, sym, ◌∙◌, inl, inr, ◌⊎◌}
use Rattle.std.specs.Prelude.{Some, Ok, Err}
use Rattle.std.proofs.lemmas.Result.{err_from_is_err_and}
use Rattle.conf_change.specs.Configuration.{Configuration, is_valid, has_voter, is_restorable}
use Rattle.conf_change.specs.ConfState.{ConfStateLists, restored}
use Rattle.conf_change.specs.ConfStateLine.{conf_state_in}
use Rattle.conf_change.specs.Violation.{valid_of}
use Rattle.conf_change.specs.declared.step.Step.{Step}
use Rattle.conf_plan.specs.PathBy.{ids_down}
use Rattle.conf_plan.specs.PlanCode.{path_in}
use Rattle.conf_plan.specs.PlanText.{plan_text}
use Rattle.plan_output.specs.Output.{text_as}
use Rattle.plan_output.specs.declared.output.Output.{Output}
use Rattle.confscript_c.specs.Answer.{no_memory}
use Rattle.confscript_c.specs.Applied.{applied}
use Rattle.confscript_c.specs.Paths.{members_path_result}
use Rattle.confscript_c.specs.PlanTexts.{pair_in}
use Rattle.confscript_c.specs.Planning.{plan_result, result_for}
use Rattle.confscript_c.specs.Request.{text_request_in}
use Rattle.confscript_c.specs.declared.answer.Answer.{Answer}
use Rattle.confscript_c.specs.declared.request.Request.{Request}
use Rattle.confscript_c.proofs.PlanLeads.{steps_result-run, IsRun-by, restored_of-from_line}
use Rattle.confscript_c.proofs.planning.plan_between.Goals as goal

-- the result for a request and a pair
asked : (strategy output : ℕ) (down now target : List ℕ) (request : Request) (form : Output) (pair : Configuration × Configuration)
    → text_request_in strategy output down ≡ Ok (request, form) → pair_in now target ≡ Ok pair
    → plan_result strategy output down now target ≡ members_path_result request pair.0 pair.1 (text_as form 1 request.down pair.0)
asked strategy output down now target request form pair is_request is_pair =
    ap (λ r. result_for r (pair_in now target)) is_request ∙ ap (result_for (Ok (request, form))) is_pair

-- a valid configuration with a voter can be restored
restorable : (c : Configuration) → is_valid c ≡ true → has_voter c ≡ true → is_restorable c ≡ true
restorable c valid votes = rw (valid, votes) refl

refused : (strategy output : ℕ) (down now target : List ℕ) (request : Request) (form : Output) (pair : Configuration × Configuration) (why : Answer)
    → text_request_in strategy output down ≡ Ok (request, form) → pair_in now target ≡ Ok pair
    → (why ≡ no_memory) ⊎ ((written : List Step → List ℕ) → members_path_result request pair.0 pair.1 written ≡ Err why)
    → (why ≡ no_memory) ⊎ (plan_result strategy output down now target ≡ Err why)
refused strategy output down now target request form pair why is_request is_pair (inl memory) = inl memory
refused strategy output down now target request form pair why is_request is_pair (inr none) =
    inr (asked strategy output down now target request form pair is_request is_pair ∙ none (text_as form 1 request.down pair.0))

pub returns-in_err-path-clause-refused : goal.returns-in_err-path-clause-refused
returns-in_err-path-clause-refused c =
    let p = err_from_is_err_and c.from_residual-in_err-path.result c.from_residual-in_err-path.ensures.1 in
    rw (p.1, p.2) (refused c.args.strategy c.args.output c.args.down.now c.args.now.now c.args.target.now c.in_ok-request.request c.in_ok-request.output (c.in_ok-now.now, c.in_ok-now.target) _
    c.in_ok-request.ensures.request c.in_ok-now.ensures.pair c.in_err-path.ensures.refused)

pub returns-in_err-path_text-clause-refused : goal.returns-in_err-path_text-clause-refused
returns-in_err-path_text-clause-refused c =
    let p = err_from_is_err_and c.from_residual-in_err-path_text.result c.from_residual-in_err-path_text.ensures.1 in
    rw (p.1, p.2) (inl refl)

pub returns-clause-text : goal.returns-clause-text
returns-clause-text c =
    asked c.args.strategy c.args.output c.args.down.now c.args.now.now c.args.target.now c.in_ok-request.request c.in_ok-request.output (c.in_ok-now.now, c.in_ok-now.target) c.in_ok-request.ensures.request
    c.in_ok-now.ensures.pair
    ∙ c.in_ok-path.ensures.path (text_as c.in_ok-request.output 1 c.in_ok-request.request.down c.in_ok-now.now) ∙ ap Ok (sym c.in_ok-path_text.ensures.text)

pub returns-clause-leads : goal.returns-clause-leads
returns-clause-leads c =
    let steps = c.in_ok-path.path in
    let now = c.in_ok-now.now in
    let request = c.in_ok-request.request in
    let target = c.in_ok-now.target in
    let promises = c.in_ok-path.ensures.promises in
    let taken = steps_result-run 1 now target steps (IsRun-by request.strategy (ids_down request.down) now target steps promises) in
    let restores : (saved : ConfStateLists) → valid_of saved ≡ Ok now → restored saved ≡ Some now = λ saved is. (c.restored_is_described.ensures saved now).1
    (((c.valid_is_described.ensures saved now).0 is).0, restorable now c.in_ok-now.ensures.valid.0 c.in_ok-path.ensures.made.voter) in
    record {
      request = request;
      written_as = c.in_ok-request.output;
      before = now;
      after = target;
      asked = c.in_ok-request.ensures.request;
      begins = c.in_ok-now.ensures.now;
      ends = c.in_ok-now.ensures.target;
      leads = record {
        steps = steps;
        printed = c.in_ok-path_text.ensures.text;
        promises = promises;
        taken = taken;
        in_one_call = λ output line is.
            ap (λ from. applied from (path_in (plan_text steps))) (restored_of-from_line now restores (conf_state_in line) is)
            ∙ ap (applied (Ok now)) (c.in_ok-path_text.ensures.reads_back output) ∙ taken;
      };
    }
