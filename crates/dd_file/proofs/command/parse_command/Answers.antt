use Rattle.std.proofs.Common.{sym}
use Rattle.dd_file.proofs.DirectiveTokens.Keys.{arguments_of-keys}
use Rattle.dd_file.proofs.command.parse_command.Goals as goal

pub invariant_of-result : goal.invariant_of-result
invariant_of-result c = arguments_of-keys c.split_at.result.1.now _ (sym (rw c.in-Some.is at c.in_ok-arguments.ensures))
