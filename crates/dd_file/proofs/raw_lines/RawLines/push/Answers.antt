use Rattle.std.proofs.Common.{◌≡◌, ◌∷◌, [], ◌++◌, ◌+◌, length, ap, ◌∙◌, arith}
use Rattle.ascii_text.specs.Lines.{newline}
use Rattle.dd_file.specs.LineEnds.{LieIn}
use Rattle.dd_file.proofs.TextLines.EndPositions.{lie-fields, found-lines, fill-text, lie-push}
use Rattle.dd_file.proofs.raw_lines.RawLines.push.Goals as goal
use Rattle.dd_file.proofs.raw_lines.RawLines.push.Goals.{After-append-2}

-- the lines and the new one
more : (c : After-append-2) → LieIn c.append-2.new.bytes.items c.push.new.self.items (c.args.self.now ++ c.args.line.now ∷ [])
more c =
    let old = c.self.inside.text.items in
    let text : c.append-2.new.bytes.items ≡ (old ++ c.args.line.now) ++ newline = c.append-2.ensures.items ∙ ap (λ t. t ++ newline) (c.append.ensures.items ∙ ap (λ t. t ++ c.args.line.now) c.make_room.ensures.items) in
    let end : c.len.result + length c.args.line.now ≡ length old + length c.args.line.now = omega (arith, c.len.ensures, c.make_room.new.bytes.ok.0, ap length c.make_room.ensures.items) in
    lie-push old c.self.inside.ends.items _ _ c.args.self.now c.args.line.now _ (lie-fields _ _ _ c.self.invariant c.self.view_is) text c.in_ok-push.ensures.items end

pub invariant_of-self-2 : goal.invariant_of-self-2
invariant_of-self-2 c = fill-text _ _ _ (more c)

pub returns-clause-ok : goal.returns-clause-ok
returns-clause-ok c = found-lines _ _ _ (more c)
