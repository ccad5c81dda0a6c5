use Rattle.std.proofs.Common.{ap, ◌∙◌, not}
use Rattle.std.specs.Prelude.{nat_eq}
use Rattle.quorum_sets.specs.Ids.{Ids}
use Rattle.conf_change.specs.Configuration.{Configuration, member_ids}
use Rattle.conf_driver.specs.IdSets.{◌∖◌}
use Rattle.conf_driver.specs.Situation.{after_first}
use Rattle.conf_driver.specs.View.{ViewState, lacking, voter_ids}
use Rattle.conf_driver.proofs.situation.situation_of.Goals as goal

pub returns : goal.returns
returns c =
    let view = c.args.view.now in
    let before = ap (λ (v : ViewState). v.conf_state) c.view.view_is in
    let after_is = ap (λ (now : Configuration). after_first now c.args.path.now) before in
    let step = c.in_ok-step.ensures in
    let after = ap (λ (t : Configuration × Ids × Ids × Ids). t.0) step ∙ after_is in
    let voters = ap (λ (t : Configuration × Ids × Ids × Ids). t.1) step ∙ ap voter_ids before in
    let members = ap (λ (t : Configuration × Ids × Ids × Ids). t.2) step ∙ ap member_ids before in
    let voters_after = ap (λ (t : Configuration × Ids × Ids × Ids). t.3) step ∙ ap voter_ids after_is in
    let running = ap (λ (v : ViewState). v.running) c.view.view_is in
    let retired = ap (λ (v : ViewState). v.retired) c.view.view_is in
    let lack_pending = ap (λ (t : Ids × Ids). t.0) c.in_ok-lacking.ensures ∙ ap (λ ids. lacking view view.pending_conf_index (ids ∖ c.args.down.now)) voters in
    let lack_configuration = ap (λ (t : Ids × Ids). t.1) c.in_ok-lacking.ensures ∙ ap (λ ids. lacking view view.conf_index (ids ∖ c.args.down.now)) members in
    let heard = ap (λ (t : Ids × Ids). t.0) c.in_ok-seen.ensures in
    let up = ap (λ (t : Ids × Ids). t.1) c.in_ok-seen.ensures in
    let lead = ap (λ (v : ViewState). v.lead) c.view.view_is in
    let pending = ap (λ (v : ViewState). v.pending_conf_index) c.view.view_is in
    let has_step = ap (λ n. not (nat_eq n 0)) c.len.ensures in
    λ i. record {
      before = before i;
      after = after i;
      target = c.args.target.now;
      has_step = has_step i;
      stalls = c.args.stalls;
      voters = voters i;
      members = members i;
      voters_after = voters_after i;
      down = c.args.down.now;
      heard = heard i;
      up = up i;
      running = running i;
      retired = retired i;
      lead = lead i;
      is_pending = not (nat_eq (pending i) 0);
      lack_pending = lack_pending i;
      lack_configuration = lack_configuration i;
    }
