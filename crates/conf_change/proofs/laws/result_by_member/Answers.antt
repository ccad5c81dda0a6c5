use Rattle.conf_change.proofs.ListsOfChanges.ResultOfEach.{has-incoming_after, has-learners_after, has-next_after}
use Rattle.conf_change.proofs.laws.result_by_member.Goals as goal

pub returns-clause-incoming : goal.returns-clause-incoming
returns-clause-incoming c = has-incoming_after

pub returns-clause-learners : goal.returns-clause-learners
returns-clause-learners c = has-learners_after

pub returns-clause-learners_next : goal.returns-clause-learners_next
returns-clause-learners_next c = has-next_after
