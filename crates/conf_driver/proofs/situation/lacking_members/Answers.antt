use Rattle.std.proofs.Common.{ap, ◌∙◌}
use Rattle.conf_driver.specs.View.{ViewState, lacking}
use Rattle.conf_driver.proofs.situation.lacking_members.Goals as goal

pub returns : goal.returns
returns c =
    let pending = ap (λ (v : ViewState). v.pending_conf_index) c.view.view_is in
    let known = ap (λ (v : ViewState). v.conf_index) c.view.view_is in
    let lack_pending = c.in_ok-lack_pending.ensures ∙ (λ i. lacking c.args.view.now (pending i) (c.in_ok-without.ensures i)) in
    let lack_configuration = c.in_ok-lack_configuration.ensures ∙ (λ i. lacking c.args.view.now (known i) (c.in_ok-without-2.ensures i)) in
    λ i. (lack_pending i, lack_configuration i)
