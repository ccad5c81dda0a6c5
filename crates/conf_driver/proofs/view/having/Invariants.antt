use Rattle.std.proofs.Common.{◌≡◌, take}
use Rattle.std.specs.Prelude.{filter, nat_le}
use Rattle.conf_driver.specs.View.{match_of}
use Rattle.conf_driver.proofs.view.having.Given as goal

-- the ids so far that have the index
abbrev pub invariant-loop-position : goal.invariant-loop-position
invariant-loop-position l = l.having.items ≡ filter (λ id. nat_le l.index (match_of l.view id)) (take l.position l.id-items)
