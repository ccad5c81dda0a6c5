use Rattle.std.proofs.Common.{◌≡◌, ℕ, List, sym, subst, ◌∙◌}
use Rattle.std.specs.Prelude.{Ok}
use Rattle.confscript_c.specs.Planning.{LeadsToTarget}
use Rattle.confscript_c.specs.Written.{OutResult}
use Rattle.confscript_c.proofs.planning.confscript_plan.Goals as goal

same_text : (a b : List ℕ) → ◌≡◌ {A = OutResult} (Ok a) (Ok b) → a ≡ b
same_text a b e = cc

pub returns-in-Ok-clause-leads : goal.returns-in-Ok-clause-leads
returns-in-Ok-clause-leads c = λ _ text is.
    let P : List ℕ → Type 0 = λ t. LeadsToTarget c.args.strategy c.args.output c.args.down.now c.args.now.now c.args.target.now t in
    subst P (same_text _ _ (sym c.in-Ok.ensures.text ∙ is)) c.in-Ok.ensures.leads
