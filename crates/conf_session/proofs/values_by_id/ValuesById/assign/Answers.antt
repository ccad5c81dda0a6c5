use Rattle.std.proofs.Common.{◌≡◌, ◌+◌, ◌==◌, false, not, [], ◌∷◌, ◌++◌, get_or, length, take, drop, sym, ap, ◌∙◌, subst}
use Rattle.std.specs.Prelude.{nat_eq}
use Rattle.std.specs.List.{list_any}
use Rattle.std.proofs.lemmas.Bool.{eqb-true}
use Rattle.std.proofs.lemmas.List.{nil_from_length, take-append-drop, take_all}
use Rattle.std.proofs.lemmas.Option.{slice_get-get_or}
use Rattle.quorum_sets.proofs.Offered.{ascending-is_ascending, take-one_more}
use Rattle.quorum_sets.specs.AscendingLists.{IsAscending}
use Rattle.conf_session.specs.Quorum.{each_once}
use Rattle.conf_session.proofs.QuorumValues.{IsAssigned, assigned-all, assigned-before, assigned-first, assigned-too_few, at-position, not-nowhere, seen-before}
use Rattle.conf_session.proofs.values_by_id.ValuesById.assign.Goals as goal
use Rattle.conf_session.proofs.values_by_id.ValuesById.assign.Goals.{then-is_none+in-Some, else-is_none}

pub position_of-requires : goal.position_of-requires
position_of-requires g c = subst IsAscending (sym c.requires.ids) (ascending-is_ascending _)

pub loop-id-preserved-in_default : goal.loop-id-preserved-in_default
loop-id-preserved-in_default g c = absurd (not-nowhere c.args.ids.now c.args.named.now c.loop-id.id-index c.in_default.field-0 c.requires.ids c.loop-id-test.true c.in_default.ensures)

pub returns-in_default-split_first-clause-one_each : goal.returns-in_default-split_first-clause-one_each
returns-in_default-split_first-clause-one_each g c =
    let ids = c.args.ids.now in
    let named = c.args.named.now in
    let k = c.loop-id.id-index in
    let id = get_or named k 0 in
    let own = c.loop-id.own in
    let values = c.args.values.now in
    let is = c.loop-id.invariant in
    let none : list_any (λ x. id == x) (take k named) ≡ false = sym (seen-before ids (take k named) id c.in-Ok.position values own c.loop-id.rest.now c.index-own-position.result is c.in-Ok.ensures) ∙ c.is_none.ensures ∙ ap not c.if-is_none.true in
    let empty : c.loop-id.rest.now ≡ [] = nil_from_length _ (rw c.in_default-split_first.is at c.split_first.ensures.cases) in
    let few = assigned-too_few ids (take k named) id (drop (k + 1) named) values own none (subst (IsAssigned ids (take k named) values own) empty is) in
    let whole : (take k named ++ id ∷ []) ++ drop (k + 1) named ≡ named = ap (λ xs. xs ++ drop (k + 1) named) (sym (take-one_more named k id (slice_get-get_or named k 0 c.loop-id-test.true))) ∙ take-append-drop (k + 1) named in
    sym (ap (λ xs. nat_eq (length values) (length (each_once xs))) (sym whole) ∙ few)

pub loop-id-preserved : goal.loop-id-preserved
loop-id-preserved g c =
    let ids = c.args.ids.now in
    let named = c.args.named.now in
    let k = c.loop-id.id-index in
    let id = get_or named k 0 in
    let own = c.loop-id.own in
    let rest = c.loop-id.rest.now in
    let values = c.args.values.now in
    let position = c.in-Ok.position in
    let is = c.loop-id.invariant in
    let more : take (k + 1) named ≡ take k named ++ id ∷ [] = take-one_more named k id (slice_get-get_or named k 0 c.loop-id-test.true) in
    let seen : list_any (λ x. id == x) (take k named) ≡ not c.is_none.result = sym (seen-before ids (take k named) id position values own rest c.index-own-position.result is c.in-Ok.ensures) ∙ c.is_none.ensures in
    elim c.if-is_none.branch [
      | then-is_none+in-Some w ↦
          let up = subst IsAscending (sym c.requires.ids) (ascending-is_ascending _) in
          let parts : rest ≡ w.in-Some.value.now ∷ w.in-Some.after.now = w.in-Some.ensures.cases.0 in
          rw (more, w.own-is, w.rest-is) (assigned-first ids (take k named) id position values own w.in-Some.value.now rest w.in-Some.after.now up (seen ∙ ap not w.if-is_none.true) (at-position ids id position c.in-Ok.ensures) parts is)
      | else-is_none w ↦ rw (more, w.own-is, w.rest-is) (assigned-before ids (take k named) id values own rest (seen ∙ ap not w.if-is_none.false) is)
    ]

pub returns-clause-values : goal.returns-clause-values
returns-clause-values g c = λ all.
    let named = c.args.named.now in
    let up = subst IsAscending (sym c.requires.ids) (ascending-is_ascending _) in
    let empty : c.loop-id.rest.now ≡ [] = nil_from_length _ (eqb-true (length c.loop-id.rest.now) 0 (sym c.is_empty.ensures ∙ all)) in
    let taken : take c.loop-id.id-index named ≡ named = take_all c.loop-id.id-index named c.loop-id-test.false in
    assigned-all c.args.ids.now named c.args.values.now c.loop-id.own c.requires.ids up (rw (taken, empty) at c.loop-id.invariant)
