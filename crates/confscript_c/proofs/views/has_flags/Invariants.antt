use Rattle.std.proofs.Common.{◌≡◌, true, take}
use Rattle.std.specs.List.{list_all}
use Rattle.confscript_c.specs.Views.{has_flag, member_indices}
use Rattle.confscript_c.proofs.views.has_flags.Given as goal

-- each member so far has a flag
abbrev pub invariant-loop-member : goal.invariant-loop-member
invariant-loop-member l = list_all (has_flag l.numbers) (take l.member (member_indices l.numbers)) ≡ true
