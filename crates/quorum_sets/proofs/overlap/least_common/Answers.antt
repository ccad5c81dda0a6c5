use Rattle.std.proofs.Common.{sym, ◌∙◌, arith}
use Rattle.std.proofs.lemmas.Option.{get_or_from_slice_get, gets}
use Rattle.quorum_sets.specs.Ids.{ascending}
use Rattle.quorum_sets.proofs.KeptSets.Positions.{has-seen_at, IsCommon-from}
use Rattle.quorum_sets.proofs.overlap.least_common.Goals as goal

pub returns-then-contains_from-clause-least : goal.returns-then-contains_from-clause-least
returns-then-contains_from-clause-least g c =
    let a = g.S.MemberSet.ids c.args.a.now in
    let here = sym c.in-Some.ensures in
    record {
      common = record { in_first = sym (has-seen_at a c.in-Some.id c.loop-position.position here); in_second = sym c.contains_from.ensures ∙ c.if-contains_from.true };
      least = λ other shared. omega (arith, get_or_from_slice_get (ascending a) c.loop-position.position c.in-Some.id 0 here, (IsCommon-from a _ _ other c.loop-position.invariant shared).1);
    }

pub loop-position-preserved : goal.loop-position-preserved
loop-position-preserved g c = grind (arith, get_or_from_slice_get, gets, c.match-at.branch, c.loop-position.invariant)

pub returns-clause-none : goal.returns-clause-none
returns-clause-none g c id shared = omega (arith, (IsCommon-from _ _ _ id c.loop-position.invariant shared).0)
