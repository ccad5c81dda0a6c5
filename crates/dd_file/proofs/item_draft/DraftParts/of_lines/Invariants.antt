use Rattle.std.proofs.Common.{◌≡◌, ◌++◌, map, take, vec_items}
use Rattle.dd_file.proofs.item_draft.DraftParts.of_lines.Given as goal

-- the lines of the input so far are after the directive line
abbrev pub invariant-loop-input_line : goal.invariant-loop-input_line
invariant-loop-input_line l = l.raw_lines ≡ l.initial.raw_lines ++ map (λ line. vec_items line) (take l.input_line-index l.input)
