use Rattle.std.proofs.Common.{◌≡◌, drop, map}
use Rattle.quorum_sets.specs.Ids.{ascending}
use Rattle.conf_driver.proofs.Matches.{match_in}
use Rattle.conf_driver.proofs.view.matches_of.Given as goal

-- each id has the match of its first entry from the index on
abbrev pub invariant-loop-index : goal.invariant-loop-index
invariant-loop-index l = l.matches.items ≡ map (match_in (drop l.index l.view.progress)) (ascending l.ids)
