use Rattle.std.proofs.Common.{◌≡◌, [], ◌++◌, take, slice_get, sym, ap, ◌∙◌, append_assoc}
use Rattle.std.specs.List.{cons_option}
use Rattle.conf_change.proofs.Offered.{item-copied}
use Rattle.conf_plan.specs.OneAtATime.{in_turn}
use Rattle.conf_plan.proofs.OnTheWay.InTurn.{in_turn-option}
use Rattle.conf_plan.proofs.one_at_a_time.add_in_turn.Goals as goal

pub loop-index-preserved : goal.loop-index-preserved
loop-index-preserved c =
    let joins = c.args.joins.now in
    let retires = c.args.retires.now in
    let k = c.loop-index.index in
    let before = c.args.list.now.items in
    let turns = in_turn (take k joins) (take k retires) in
    let joiner : c.copied.result ≡ slice_get joins k = c.copied.ensures ∙ item-copied joins k _ c.get.ensures.lookup in
    let retirer : c.copied-in-loop-index.result ≡ slice_get retires k = c.copied-in-loop-index.ensures ∙ item-copied retires k _ c.get-in-loop-index.ensures.lookup in
    c.in_ok-add_if_any-2.ensures ∙ (λ i. c.in_ok-add_if_any.ensures i ++ cons_option (retirer i) [])
    ∙ (λ i. (c.loop-index.invariant i ++ cons_option (joiner i) []) ++ cons_option (slice_get retires k) [])
    ∙ append_assoc (before ++ turns) (cons_option (slice_get joins k) []) (cons_option (slice_get retires k) [])
    ∙ append_assoc before turns (cons_option (slice_get joins k) [] ++ cons_option (slice_get retires k) [])
    ∙ sym (ap (λ ids. before ++ ids) (in_turn-option joins retires k))
