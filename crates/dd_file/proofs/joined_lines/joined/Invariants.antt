use Rattle.std.proofs.Common.{◌≡◌, ◌++◌, drop}
use Rattle.dd_file.specs.Script.{joined}
use Rattle.dd_file.proofs.joined_lines.joined.Given as goal

-- the text so far, and what the lines that are left give
abbrev pub invariant-loop-i : goal.invariant-loop-i
invariant-loop-i l = l.text.items ++ joined (drop l.i l.lines) ≡ joined l.lines
