use Rattle.std.proofs.Common.{sym, ap, ◌∙◌, option_map, arith}
use Rattle.conf_change.proofs.MemberProgress.Acknowledged.{get-matches}
use Rattle.conf_change.proofs.acknowledgement.TrackerAckSource.acked.Goals as goal

pub returns-in_err-progress : goal.returns-in_err-progress
returns-in_err-progress g c = grind (arith, get-matches, c.from_residual.ensures, c.in_err-progress.ensures)

pub returns : goal.returns
returns g c = ap (option_map (λ p. p.matched)) c.in_ok-progress.ensures ∙ sym (get-matches c.args.self.now c.args.id)
