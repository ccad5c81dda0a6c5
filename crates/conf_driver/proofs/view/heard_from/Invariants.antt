use Rattle.std.proofs.Common.{◌≡◌, take}
use Rattle.std.specs.Prelude.{flat_map}
use Rattle.conf_driver.specs.View.{heard}
use Rattle.conf_driver.proofs.view.heard_from.Given as goal

-- the ids so far
abbrev pub invariant-loop-member : goal.invariant-loop-member
invariant-loop-member l = l.ids.items ≡ flat_map heard (take l.member-index l.member-items)
