use Rattle.std.proofs.Common.{◌≡◌, length}
use Rattle.conf_change.specs.ChangeList.{changes_in}
use Rattle.conf_change.proofs.Texts.ChangeTokens.{onto}
use Rattle.conf_change.proofs.change_list.read_over.Given as goal

abbrev pub invariant-loop-token : goal.invariant-loop-token
invariant-loop-token l = changes_in l.text ≡ onto l.list.items (changes_in l.rest)

abbrev pub decreases-loop-token : goal.decreases-loop-token
decreases-loop-token l = length l.rest
