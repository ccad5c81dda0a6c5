use Rattle.std.proofs.Common.{◌≡◌, ◌<◌, ◌^◌, take}
use Rattle.std.specs.Prelude.{filter_map}
use Rattle.std.specs.List.{All}
use Rattle.conf_plan.specs.Planned.{move_of, single_with}
use Rattle.conf_plan.proofs.moves.moves_to.Given as goal

abbrev pub invariant-loop-id : goal.invariant-loop-id
invariant-loop-id g l =
    let own = g.S.MemberSet.ids in
    record {
      moved : l.changes.items ≡ filter_map (move_of (single_with (own l.incoming) (own l.learners)) (own l.to_voters) (own l.to_learners)) (take l.id-index l.id-items);
      u64_ids : All (λ change. change.id < 2 ^ 64) l.changes.items;
    }
