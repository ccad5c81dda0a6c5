use Rattle.std.proofs.Common.{length, ap, arith}
use Rattle.dd_file.proofs.TextLines.EndPositions.{lie-fields, position-within, end-position, end-within}
use Rattle.dd_file.proofs.raw_lines.RawLines.end.Goals as goal

pub offset_bounds-ends-i : goal.offset_bounds-ends-i
offset_bounds-ends-i c = let h = position-within _ _ _ _ c.args.i (lie-fields _ _ _ c.self.invariant c.self.view_is) c.as_slice-ends.ensures.value c.requires in omega arith

pub bounds-ends-i : goal.bounds-ends-i
bounds-ends-i c = position-within _ _ _ _ c.args.i (lie-fields _ _ _ c.self.invariant c.self.view_is) c.as_slice-ends.ensures.value c.requires

pub returns-clause-position : goal.returns-clause-position
returns-clause-position c = end-position _ _ _ _ c.args.i (lie-fields _ _ _ c.self.invariant c.self.view_is) c.as_slice-ends.ensures.value c.requires

pub returns-clause-within : goal.returns-clause-within
returns-clause-within c = end-within c.args.self.now c.args.i _ c.requires (end-position _ _ _ _ c.args.i (lie-fields _ _ _ c.self.invariant c.self.view_is) c.as_slice-ends.ensures.value c.requires)

pub returns-clause-small : goal.returns-clause-small
returns-clause-small c =
    let lie = lie-fields _ _ _ c.self.invariant c.self.view_is in
    let within = end-within c.args.self.now c.args.i _ c.requires (end-position _ _ _ _ c.args.i lie c.as_slice-ends.ensures.value c.requires) in
    let text = c.self.inside.text in
    omega (arith, within, ap length lie.whole, text.ok.0, text.ok.1, text.small)
