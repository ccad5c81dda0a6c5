use Rattle.std.proofs.Common.{◌∷◌, [], refl, rules}
use Rattle.dd_file.specs.LineEnds.{LieIn}
use Rattle.dd_file.proofs.TextLines.EndPositions.{found-lines, lie-push}
use Rattle.dd_file.proofs.raw_lines.RawLines.of_line.Goals as goal
use Rattle.dd_file.proofs.raw_lines.RawLines.of_line.Goals.{In_ok-push-2}

-- the line alone
one : (c : In_ok-push-2) → LieIn c.push-2.new.self.items c.push.new.self.items (c.args.line.items ∷ [])
one c = lie-push [] [] _ _ [] c.args.line.items c.len.result (record { whole = refl; positions = refl }) (c.in_ok-push-2.ensures.items) (search rules) (search rules)

pub returns : goal.returns
returns c = found-lines _ _ _ (one c)
