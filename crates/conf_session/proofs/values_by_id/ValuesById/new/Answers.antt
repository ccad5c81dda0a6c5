use Rattle.std.proofs.Common.{sym, subst, arith}
use Rattle.std.proofs.Math.Seq.{take-append_seam}
use Rattle.quorum_sets.proofs.Offered.{ascending-is_ascending}
use Rattle.quorum_sets.specs.AscendingLists.{IsAscending}
use Rattle.conf_session.proofs.values_by_id.ValuesById.new.Goals as goal

pub invariant_of-result : goal.invariant_of-result
invariant_of-result g c = record { ascends = subst IsAscending (sym c.in_ok-ids.ensures) (ascending-is_ascending _) }

pub returns-then-assign-clause-values : goal.returns-then-assign-clause-values
returns-then-assign-clause-values g c = grind (arith, take-append_seam, c.in_ok-extend_from_slice.ensures.items, c.new-named.ensures.items, c.as_slice.ensures.value, c.arguments.view_is, c.as_slice-2.ensures.value, c.as_slice-5.ensures.value, c.in_ok-extend_from_slice-2.ensures.items, c.assign.auto.own, c.as_mut_slice.ensures.len, c.as_slice-4.ensures.value, c.assign.ensures.values, c.if-assign.true)
