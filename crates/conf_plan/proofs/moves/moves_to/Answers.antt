use Rattle.std.proofs.Common.{◌≡◌, ℕ, ◌+◌, ◌<◌, ◌^◌, List, [], ◌∷◌, ◌++◌, length, take, get_or, sym, ap, subst, ◌∙◌, append-nil, arith}
use Rattle.std.specs.Prelude.{Option, Some, None, option_map, filter_map}
use Rattle.std.specs.List.{All, cons_option}
use Rattle.std.proofs.lemmas.List.{take_all, take_more}
use Rattle.std.proofs.lemmas.List.Elements.{All-push, filter_map-append}
use Rattle.conf_change.specs.declared.change.Change.{Change}
use Rattle.conf_plan.specs.Planned.{kind_by, move_of, single_with}
use Rattle.conf_plan.proofs.FindingMoves.OfEachId.{change_of}
use Rattle.conf_plan.proofs.moves.moves_to.Goals as goal
use Rattle.conf_plan.proofs.moves.moves_to.Goals.{in-Some+in_ok-push, in_default}

-- the changes of one more id
one_more : (move : ℕ → Option Change) (ids : List ℕ) (k : ℕ) (change : Option Change) (changes after : List Change) → k < length ids → change ≡ move (get_or ids k 0)
    → changes ≡ filter_map move (take k ids) → after ≡ changes ++ cons_option change [] → after ≡ filter_map move (take (k + 1) ids)
one_more move ids k change changes after within is so_far added =
    added ∙ (λ i. so_far i ++ cons_option (is i) [])
    ∙ sym (ap (filter_map move) (take_more ids k 0 within) ∙ filter_map-append move (take k ids) (get_or ids k 0 ∷ []))

pub loop-id-preserved : goal.loop-id-preserved
loop-id-preserved g c =
    let own = g.S.MemberSet.ids in
    let now = c.loop-id.invariant in
    let ids = c.as_slice-id-items.result.now in
    let k = c.loop-id.id-index in
    let id = get_or ids k 0 in
    let move = move_of (single_with (own c.args.incoming.now) (own c.args.learners.now)) (own c.args.to_voters.now) (own c.args.to_learners.now) in
    elim c.match-kind_of_move.branch [
      | in-Some+in_ok-push w ↦
          let small : id < 2 ^ 64 = omega (arith, c.type_inv.id-items k) in
          let added = ap (λ changes. changes.items) w.changes-is ∙ w.in_ok-push.ensures.items in
          record {
            moved = one_more move ids k (Some (change_of id w.in-Some.kind)) _ _ c.loop-id-test.true (ap (option_map (change_of id)) (w.in-Some.ensures
                ∙ (λ i. kind_by (c.contains_from-target_voter.ensures i) (c.contains_from-target_learner.ensures i) (c.contains_from-voter.ensures i) (c.contains_from-learner.ensures i))))
                now.moved added;
            u64_ids = subst (All (λ change. change.id < 2 ^ 64)) (sym added) (All-push (λ change. change.id < 2 ^ 64) _ _ now.u64_ids small);
          }
      | in_default w ↦
          let same = ap (λ changes. changes.items) w.changes-is in
          record {
            moved = one_more move ids k None _ _ c.loop-id-test.true (ap (option_map (change_of id)) (w.in_default.ensures
                ∙ (λ i. kind_by (c.contains_from-target_voter.ensures i) (c.contains_from-target_learner.ensures i) (c.contains_from-voter.ensures i) (c.contains_from-learner.ensures i))))
                now.moved (same ∙ sym (append-nil _));
            u64_ids = subst (All (λ change. change.id < 2 ^ 64)) (sym same) now.u64_ids;
          }
    ]

pub returns-clause-moves : goal.returns-clause-moves
returns-clause-moves g c =
    let own = g.S.MemberSet.ids in
    let move = move_of (single_with (own c.args.incoming.now) (own c.args.learners.now)) (own c.args.to_voters.now) (own c.args.to_learners.now) in
    c.loop-id.invariant.moved ∙ ap (filter_map move) (take_all c.loop-id.id-index c.as_slice-id-items.result.now c.loop-id-test.false ∙ c.as_slice-id-items.ensures ∙ c.in_ok-ids.ensures)
