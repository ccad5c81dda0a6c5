use Rattle.std.proofs.Common.{◌∙◌}
use Rattle.quorum_sets.specs.Voters.{pair}
use Rattle.quorum_sets.specs.Tolerance.{may_be_down}
use Rattle.confscript_c.specs.Quorums.{count_answer}
use Rattle.confscript_c.proofs.quorums.may_be_down_answer.Goals as goal

pub returns : goal.returns
returns c =
    c.count_answer.ensures
    ∙ (λ j. count_answer (c.may_be_down.ensures.counted j))
    ∙ (λ j. count_answer (may_be_down (pair (c.in_ok-incoming.ensures.set j) (c.in_ok-outgoing.ensures.set j)) (c.in_ok-down.ensures.set j)))
