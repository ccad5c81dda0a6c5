use Rattle.std.proofs.Common.{◌≡◌, ◌∙◌, ◌++◌, sym, subst, ap}
use Rattle.std.specs.Prelude.{Ok, OnOk}
use Rattle.std.proofs.lemmas.Result.{err_from_is_err_and, IfOk-weaker}
use Rattle.conf_tool.specs.Outputs.{Output, pair_text, planned_texts}
use Rattle.conf_tool.specs.Pairs.{pair_between}
use Rattle.conf_tool.proofs.Modes.Plan.{texts-from, texts-to, texts-memory, texts-paired}
use Rattle.conf_tool.proofs.run.plan.texts_answer.Goals as goal

pub returns-in_err-current-clause-fault : goal.returns-in_err-current-clause-fault
returns-in_err-current-clause-fault c =
    let p = err_from_is_err_and c.from_residual.result c.from_residual.ensures.1 in
    rw (p.1, p.2) (texts-from c.args.options.now c.args.texts.from.now c.args.texts.to.now _ (rw c.as_bytes.ensures.value at c.in_err-current.ensures.fault))

pub returns-in_err-target-clause-fault : goal.returns-in_err-target-clause-fault
returns-in_err-target-clause-fault c =
    let current = rw c.as_bytes.ensures.value at c.in_ok-current.ensures.current in
    let p = err_from_is_err_and c.from_residual-in_err-target.result c.from_residual-in_err-target.ensures.1 in
    rw (p.1, p.2) (texts-to c.args.options.now c.args.texts.from.now c.args.texts.to.now c.in_ok-current.current _ current (rw c.as_bytes-2.ensures.value at c.in_err-target.ensures.fault))

pub returns-clause-text : goal.returns-clause-text
returns-clause-text c =
    let current = rw c.as_bytes.ensures.value at c.in_ok-current.ensures.current in
    let target = rw c.as_bytes-2.ensures.value at c.in_ok-target.ensures.pair in
    let planned = texts-paired c.args.options.now c.args.texts.from.now c.args.texts.to.now c.in_ok-current.current c.in_ok-target.target current target in
    let before = c.args.text.now.items in
    let after = c.pair_answer.new.text.items in
    let first = subst (λ session. OnOk c.pair_answer.result (after ≡ before ++ pair_text c.args.options.now session 1 (pair_between c.in_ok-current.current c.in_ok-target.target))) c.in_ok-session.ensures c.pair_answer.ensures.text in
    subst (λ text. OnOk c.pair_answer.result (after ≡ before ++ text)) (sym (ap (λ (o : Output). o.text) planned)) first

pub returns-clause-outcome : goal.returns-clause-outcome
returns-clause-outcome c =
    let current = rw c.as_bytes.ensures.value at c.in_ok-current.ensures.current in
    let target = rw c.as_bytes-2.ensures.value at c.in_ok-target.ensures.pair in
    let planned = texts-paired c.args.options.now c.args.texts.from.now c.args.texts.to.now c.in_ok-current.current c.in_ok-target.target current target in
    let output = planned_texts c.args.options.now c.args.texts.from.now c.args.texts.to.now in
    IfOk-weaker c.pair_answer.result _ (λ status. output.outcome ≡ Ok status) (λ status is. ap (λ (o : Output). o.outcome) planned ∙ ap Ok (sym is)) c.pair_answer.ensures.status

pub returns-clause-fault : goal.returns-clause-fault
returns-clause-fault c = texts-memory _ _ c.pair_answer.ensures.memory
