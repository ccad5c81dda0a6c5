use Rattle.std.proofs.Common.{sym, arith}
use Rattle.std.proofs.lemmas.Bool.Decides.{nat_tests}
use Rattle.confscript_c.specs.Views.{has_flag}
use Rattle.confscript_c.proofs.MembersRead.{fails_one, passes_all, passes_more}
use Rattle.confscript_c.proofs.views.has_flags.Goals as goal

pub returns-then-numbers-member-gt1 : goal.returns-then-numbers-member-gt1
returns-then-numbers-member-gt1 c = sym (fails_one (has_flag c.args.numbers.now) c.args.numbers.now c.loop-member.member c.loop-member-test.true (grind (arith, nat_tests)))

pub loop-member-preserved : goal.loop-member-preserved
loop-member-preserved c =
    passes_more (has_flag c.args.numbers.now) c.args.numbers.now c.loop-member.member c.loop-member-test.true c.loop-member.invariant (grind (arith, nat_tests))

pub returns : goal.returns
returns c = sym (passes_all (has_flag c.args.numbers.now) c.args.numbers.now c.loop-member.member (omega arith) c.loop-member.invariant)
