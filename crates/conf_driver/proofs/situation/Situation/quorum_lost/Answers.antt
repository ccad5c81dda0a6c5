use Rattle.std.proofs.Common.{◌≡◌, false, not, sym, ap, ◌∙◌}
use Rattle.std.specs.Prelude.{Some}
use Rattle.quorum_sets.specs.Ids.{Ids}
use Rattle.quorum_sets.specs.Voters.{is_quorum}
use Rattle.conf_change.specs.Configuration.{voters_of}
use Rattle.conf_driver.specs.IdSets.{◌∩◌, ◌∖◌}
use Rattle.conf_driver.specs.Rows.{when}
use Rattle.conf_driver.specs.Situation.{values_of}
use Rattle.conf_driver.specs.declared.action.Action.TheVariants.{Stuck}
use Rattle.conf_driver.specs.declared.action.StuckReason.TheVariants.{QuorumLost}
use Rattle.conf_driver.proofs.situation.Situation.quorum_lost.Goals as goal

pub returns : goal.returns
returns c =
    let s = values_of c.args.self.now in
    let counted : is_quorum (voters_of s.before) (s.voters ∖ s.down) ≡ false =
    ap (is_quorum (voters_of s.before)) (sym c.in_ok-counted.ensures) ∙ sym c.is_quorum_before.ensures ∙ c.if-is_quorum_before.false in
    ap (λ (lost : Ids). Some (Stuck QuorumLost lost)) c.in_ok-lost.ensures ∙ ap (λ b. when (not b) (Stuck QuorumLost (s.voters ∩ s.down))) (sym counted)
