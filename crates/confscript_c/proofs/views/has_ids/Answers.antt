use Rattle.std.proofs.Common.{sym, arith}
use Rattle.std.proofs.lemmas.Bool.Decides.{nat_tests}
use Rattle.confscript_c.specs.Views.{has_id}
use Rattle.confscript_c.proofs.MembersRead.{fails_one, passes_all, passes_more}
use Rattle.confscript_c.proofs.views.has_ids.Goals as goal

pub returns-then-numbers-member-eq0 : goal.returns-then-numbers-member-eq0
returns-then-numbers-member-eq0 c = sym (fails_one (has_id c.args.numbers.now) c.args.numbers.now c.loop-member.member c.loop-member-test.true (grind (arith, nat_tests)))

pub loop-member-preserved : goal.loop-member-preserved
loop-member-preserved c =
    passes_more (has_id c.args.numbers.now) c.args.numbers.now c.loop-member.member c.loop-member-test.true c.loop-member.invariant (grind (arith, nat_tests))

pub returns : goal.returns
returns c = sym (passes_all (has_id c.args.numbers.now) c.args.numbers.now c.loop-member.member (omega arith) c.loop-member.invariant)
