use Rattle.std.proofs.Common.{arith}
use Rattle.std.proofs.lemmas.List.{nil_from_length}
use Rattle.std.proofs.lemmas.Result.{IfOk-weaker}
use Rattle.quorum_sets.proofs.IdSets.Members.{has-ascending, has-same_ids}
use Rattle.quorum_sets.proofs.IdSets.Union.{has-union}
use Rattle.quorum_sets.proofs.unions.union.Goals as goal

pub returns-then-len-eq0 : goal.returns-then-len-eq0
returns-then-len-eq0 g c = grind (arith, nil_from_length, IfOk-weaker, has-same_ids, has-union, has-ascending, c.len.ensures, c.if-len-eq0.true, c.try_clone.ensures)

pub returns : goal.returns
returns g c = grind (arith, IfOk-weaker, c.as_slice.ensures, c.in_ok-add_ids-2.ensures.ok, c.in_ok-add_ids.ensures.ok, c.new-ids.ensures.items, c.of_list.ensures)
