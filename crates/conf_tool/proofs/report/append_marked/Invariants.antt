use Rattle.std.proofs.Common.{◌≡◌, ◌++◌, ◌∷◌, [], length}
use Rattle.conf_tool.specs.Reports.{marked}
use Rattle.conf_tool.proofs.report.append_marked.Given as goal

-- the text so far, and the lines that are left after the sign
abbrev pub invariant-loop-full_line : goal.invariant-loop-full_line
invariant-loop-full_line l = l.text.items ++ marked (l.sign ∷ 32 ∷ []) l.rest ≡ l.initial.text.items ++ marked (l.sign ∷ 32 ∷ []) l.bytes

abbrev pub decreases-loop-full_line : goal.decreases-loop-full_line
decreases-loop-full_line l = length l.rest
