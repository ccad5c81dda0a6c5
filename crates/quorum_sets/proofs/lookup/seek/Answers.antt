use Rattle.std.proofs.Common.{sym, ◌<◌, arith}
use Rattle.std.proofs.lemmas.Bool.{eqb-true, eqb-false}
use Rattle.quorum_sets.proofs.KeptSets.Positions.{has-seen_at, ascending-below_rest}
use Rattle.quorum_sets.proofs.lookup.seek.Goals as goal

pub returns-then-candidate-id-clause-member : goal.returns-then-candidate-id-clause-member
returns-then-candidate-id-clause-member g c = grind (arith, has-seen_at, eqb-true, c.in-Some.ensures)

pub returns-then-candidate-id-clause-below : goal.returns-then-candidate-id-clause-below
returns-then-candidate-id-clause-below g c = λ other.
    let apart = eqb-false c.in-Some.candidate c.args.id other in
    let lt : c.args.id < c.in-Some.candidate = omega (arith, apart) in
    ascending-below_rest (g.S.MemberSet.ids c.args.set.now) c.args.id c.loop-at.at c.in-Some.candidate (sym c.in-Some.ensures) lt
