use Rattle.std.proofs.Common.{◌∷◌, ◌++◌, [], ap, ◌∙◌, arith}
use Rattle.confscript_c.proofs.MembersRead.{members_all, members_more}
use Rattle.confscript_c.proofs.views.members_in.Goals as goal

pub loop-member-preserved : goal.loop-member-preserved
loop-member-preserved c =
    let more = members_more c.args.numbers.now c.loop-member.member c.loop-member.members.items c.loop-member-test.true c.loop-member.invariant in
    c.in_ok-push.ensures.items ∙ ap (λ member. c.loop-member.members.items ++ member ∷ []) c.member_in.ensures ∙ more

pub returns : goal.returns
returns c = members_all c.args.numbers.now c.loop-member.member c.loop-member.members.items (omega arith) c.loop-member.invariant
