use Rattle.std.proofs.Common.{◌≡◌, ◌⊎◌, sym, subst}
use Rattle.std.specs.Prelude.{Ok, Err, IfOk, IfErr}
use Rattle.confscript_c.specs.Answer.{no_memory}
use Rattle.confscript_c.specs.Written.{OutResult}
use Rattle.confscript_c.proofs.ActionFound.{next_for-Ok}
use Rattle.confscript_c.proofs.next.next_of_call.Goals as goal

pub returns-clause-numbers : goal.returns-clause-numbers
returns-clause-numbers c =
    subst (λ (result : OutResult). IfOk c.action_of.result (λ numbers. result ≡ Ok numbers.items))
    (sym (next_for-Ok _ _ _ c.args.view.now _ _ _ _ c.in_ok-request.ensures.request c.in_ok-now.ensures.configuration c.in_ok-target.ensures.configuration c.in_ok-view.ensures.view))
    c.action_of.ensures.numbers

pub returns-clause-refused : goal.returns-clause-refused
returns-clause-refused c =
    subst (λ (result : OutResult). IfErr c.action_of.result (λ why. (why ≡ no_memory) ⊎ (result ≡ Err why)))
    (sym (next_for-Ok _ _ _ c.args.view.now _ _ _ _ c.in_ok-request.ensures.request c.in_ok-now.ensures.configuration c.in_ok-target.ensures.configuration c.in_ok-view.ensures.view))
    c.action_of.ensures.refused
