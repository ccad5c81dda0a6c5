use Rattle.std.proofs.Common.{arith}
use Rattle.std.proofs.lemmas.List.{nil_from_length}
use Rattle.quorum_sets.proofs.Offered.{ascending-no_ids}
use Rattle.conf_change.proofs.restore.fill.Goals as goal

pub returns-then-is_empty-clause-once : goal.returns-then-is_empty-clause-once
returns-then-is_empty-clause-once g c = grind (arith, nil_from_length, ascending-no_ids, c.is_empty.ensures, c.if-is_empty.true, c.requires.empty)
