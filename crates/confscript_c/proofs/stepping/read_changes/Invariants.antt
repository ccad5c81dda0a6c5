use Rattle.std.proofs.Common.{◌≡◌, ◌+◌, drop}
use Rattle.confscript_c.specs.Stepped.{changes_from}
use Rattle.confscript_c.proofs.ChangesRead.{joined}
use Rattle.confscript_c.proofs.stepping.read_changes.Given as goal

-- the changes so far are before those of the other numbers
abbrev pub invariant-loop-index : goal.invariant-loop-index
invariant-loop-index l = changes_from 1 l.numbered ≡ joined l.changes.items (changes_from (l.index + 1) (drop l.index l.numbered))
