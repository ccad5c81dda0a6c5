use Rattle.std.proofs.Common.{◌≡◌, true, take}
use Rattle.std.specs.List.{list_all}
use Rattle.confscript_c.specs.Views.{has_id, member_indices}
use Rattle.confscript_c.proofs.views.has_ids.Given as goal

-- the id of no member so far is 0
abbrev pub invariant-loop-member : goal.invariant-loop-member
invariant-loop-member l = list_all (has_id l.numbers) (take l.member (member_indices l.numbers)) ≡ true
