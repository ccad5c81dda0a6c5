use Rattle.std.proofs.lemmas.Grind.{common_steps}
use Rattle.std.proofs.Common.{rules, arith}
use Rattle.std.proofs.Output.{has_written_append, has_written_of_eq, writes_in_calls_nil}
use Rattle.std.proofs.lemmas.List.{get_or-take}
use Rattle.plan_input.proofs.ShownTokens.{visible-next, text-cut, text-whole}
use Rattle.plan_input.proofs.short_token.ShortTokenDisplay.fmt.Goals as goal

pub loop-byte-init : goal.loop-byte-init
loop-byte-init g c = λ plain. record { wrote = writes_in_calls_nil _ _; plain = plain }

pub loop-byte-preserved : goal.loop-byte-preserved
loop-byte-preserved g c = grind (arith, common_steps, has_written_of_eq, visible-next, get_or-take, has_written_append, c.visible.ensures, c.loop-byte.invariant)

pub returns-in_ok-write_str-clause-writes : goal.returns-in_ok-write_str-clause-writes
returns-in_ok-write_str-clause-writes g c = grind (arith, common_steps, has_written_of_eq, text-cut, has_written_append, c.loop-byte.invariant)

pub returns-else-self-gt-LONGEST-clause-writes : goal.returns-else-self-gt-LONGEST-clause-writes
returns-else-self-gt-LONGEST-clause-writes g c = λ plain ok. has_written_of_eq _ _ _ _ _ (text-whole c.args.self.now c.loop-byte.byte-index (search rules) (search rules)) (c.loop-byte.invariant plain)
