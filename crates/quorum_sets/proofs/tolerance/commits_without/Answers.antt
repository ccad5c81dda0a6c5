use Rattle.std.proofs.Common.{sym, ap, ◌∙◌, is_some}
use Rattle.quorum_sets.proofs.Quorums.Tolerance.{commits_without-is_some}
use Rattle.quorum_sets.proofs.tolerance.commits_without.Goals as goal

pub returns : goal.returns
returns g c = c.is_some.ensures ∙ ap is_some c.may_be_down.ensures.counted ∙ sym (commits_without-is_some _ _)
