use Rattle.std.proofs.Common.{rules, sym, ap, subst, ◌∙◌, arith}
use Rattle.quorum_sets.specs.AscendingLists.{IsAscending, IsIdList}
use Rattle.quorum_sets.specs.Ids.{ids_of}
use Rattle.quorum_sets.proofs.IdSets.Union.{ascends-sorted_once, ids_of-sorted_once}
use Rattle.quorum_sets.proofs.inline_ids.InlineIdsMemberSet.of_list.Goals as goal
use Rattle.quorum_sets.proofs.inline_ids.InlineIdsMemberSet.of_list.Goals.{then-not-is_ascending, else-not-is_ascending}

pub invariant_of-result : goal.invariant_of-result
invariant_of-result c = elim c.if-not-is_ascending.branch [
  | then-not-is_ascending w ↦ subst IsIdList (sym w.own-is) (record {
    ascends = ascends-sorted_once c.in_ok-own.own.items _ w.sort_unstable.new.self _ w.as_mut_slice.ensures.value w.dedup.ensures.items w.sort_unstable.ensures.len w.sort_unstable.ensures.sorted;
    room = search rules;
  })
  | else-not-is_ascending w ↦ subst IsIdList (sym w.own-is) (record {
    ascends = subst IsAscending (sym c.in_ok-own.ensures.ok) (c.is_ascending.ensures (grind arith));
    room = search rules;
  })
]

pub returns-clause-set : goal.returns-clause-set
returns-clause-set c = elim c.if-not-is_ascending.branch [
  | then-not-is_ascending w ↦
      ap (λ own. ids_of own.items) w.own-is
      ∙ ids_of-sorted_once c.in_ok-own.own.items _ w.sort_unstable.new.self _ w.as_mut_slice.ensures.value w.dedup.ensures.items w.sort_unstable.ensures.len w.sort_unstable.ensures.permutation
      ∙ ap ids_of c.in_ok-own.ensures.ok
  | else-not-is_ascending w ↦ ap (λ own. ids_of own.items) w.own-is ∙ ap ids_of c.in_ok-own.ensures.ok
]
