use Rattle.std.proofs.Common.{◌≡◌, take, map}
use Rattle.confscript_c.specs.Views.{member_in, member_indices}
use Rattle.confscript_c.proofs.views.members_in.Given as goal

-- the members so far
abbrev pub invariant-loop-member : goal.invariant-loop-member
invariant-loop-member l = l.members.items ≡ map (member_in l.numbers) (take l.member (member_indices l.numbers))
