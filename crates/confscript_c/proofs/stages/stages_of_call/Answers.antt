use Rattle.std.proofs.Common.{◌≡◌, ℕ, List, refl, ap, sym, subst, ◌∙◌, inl, inr, ◌⊎◌}
use Rattle.std.specs.Prelude.{Ok, Err}
use Rattle.std.proofs.lemmas.Result.{err_from_is_err_and}
use Rattle.conf_change.specs.Configuration.{Configuration}
use Rattle.conf_change.specs.declared.step.Step.{Step}
use Rattle.conf_plan.specs.OneChangeEach.{one_change_each}
use Rattle.conf_plan.specs.PathBy.{ids_down}
use Rattle.conf_plan.specs.Run.{IsRun}
use Rattle.confscript_c.specs.Answer.{no_memory}
use Rattle.confscript_c.specs.Numbers.{valid_configuration_of}
use Rattle.confscript_c.specs.Paths.{members_path_result}
use Rattle.confscript_c.specs.Request.{request_in}
use Rattle.confscript_c.specs.Stages.{stages_array, stages_for, stages_result}
use Rattle.confscript_c.specs.declared.answer.Answer.{Answer}
use Rattle.confscript_c.specs.declared.request.Request.{Request}
use Rattle.confscript_c.proofs.stages.stages_of_call.Goals as goal

-- the result for a request and two configurations
asked : (configuration target : List ℕ) (strategy : ℕ) (down : List ℕ) (request : Request) (now wanted : Configuration)
    → request_in strategy down ≡ Ok request → valid_configuration_of configuration ≡ Ok now → valid_configuration_of target ≡ Ok wanted
    → stages_result configuration target strategy down ≡ members_path_result request now wanted (stages_array request.down now)
asked configuration target strategy down request now wanted is_request is_now is_target =
    ap (λ r. stages_for r (valid_configuration_of configuration) (valid_configuration_of target)) is_request
    ∙ ap (λ c. stages_for (Ok request) c (valid_configuration_of target)) is_now ∙ ap (stages_for (Ok request) (Ok now)) is_target

refused : (configuration target : List ℕ) (strategy : ℕ) (down : List ℕ) (request : Request) (now wanted : Configuration) (why : Answer)
    → request_in strategy down ≡ Ok request → valid_configuration_of configuration ≡ Ok now → valid_configuration_of target ≡ Ok wanted
    → (why ≡ no_memory) ⊎ ((written : List Step → List ℕ) → members_path_result request now wanted written ≡ Err why)
    → (why ≡ no_memory) ⊎ (stages_result configuration target strategy down ≡ Err why)
refused configuration target strategy down request now wanted why is_request is_now is_target (inl memory) = inl memory
refused configuration target strategy down request now wanted why is_request is_now is_target (inr none) =
    inr (asked configuration target strategy down request now wanted is_request is_now is_target ∙ none (stages_array request.down now))

pub returns-in_err-path-clause-refused : goal.returns-in_err-path-clause-refused
returns-in_err-path-clause-refused c =
    let p = err_from_is_err_and c.from_residual-in_err-path.result c.from_residual-in_err-path.ensures.1 in
    rw (p.1, p.2) (refused c.args.configuration.now c.args.target.now c.args.strategy c.args.down.now c.in_ok-request.request c.in_ok-now.now c.in_ok-target.target _
    c.in_ok-request.ensures.request c.in_ok-now.ensures.configuration c.in_ok-target.ensures.configuration c.in_err-path.ensures.refused)

pub returns-in_err-stages_array-clause-refused : goal.returns-in_err-stages_array-clause-refused
returns-in_err-stages_array-clause-refused c =
    let p = err_from_is_err_and c.from_residual-in_err-stages_array.result c.from_residual-in_err-stages_array.ensures.1 in
    rw (p.1, p.2) (inl refl)

pub returns-clause-numbers : goal.returns-clause-numbers
returns-clause-numbers c =
    asked c.args.configuration.now c.args.target.now c.args.strategy c.args.down.now c.in_ok-request.request c.in_ok-now.now c.in_ok-target.target
    c.in_ok-request.ensures.request c.in_ok-now.ensures.configuration c.in_ok-target.ensures.configuration
    ∙ c.in_ok-path.ensures.path (stages_array c.in_ok-request.request.down c.in_ok-now.now) ∙ ap Ok (sym c.in_ok-stages_array.ensures)

pub returns-clause-leads : goal.returns-clause-leads
returns-clause-leads c =
    let steps = c.in_ok-path.path in
    let now = c.in_ok-now.now in
    let target = c.in_ok-target.target in
    let request = c.in_ok-request.request in
    let made = c.in_ok-path.ensures.made in
    let each =
    c.one_change_each_leads.ensures request.strategy (ids_down request.down) now target (record { valid = c.in_ok-now.ensures.valid; voter = made.voter })
    (record { valid = c.in_ok-target.ensures.valid; voter = made.voter_target }) made.has in
    record {
      request = request;
      before = now;
      after = target;
      asked = c.in_ok-request.ensures.request;
      begins = c.in_ok-now.ensures.configuration;
      ends = c.in_ok-target.ensures.configuration;
      leads = record {
        steps = steps;
        written = c.in_ok-stages_array.ensures;
        promises = c.in_ok-path.ensures.promises;
        on_the_way = c.stages_are_on_the_way.ensures now target (one_change_each steps) (subst (λ path. IsRun now (one_change_each path) target) (sym made.is) each.run);
      };
    }
