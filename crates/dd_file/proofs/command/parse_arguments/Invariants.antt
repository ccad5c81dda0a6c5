use Rattle.std.proofs.Common.{length}
use Rattle.dd_file.proofs.DirectiveTokens.ArgumentsSoFar.{IsParsed}
use Rattle.dd_file.proofs.command.parse_arguments.Given as goal

-- the arguments so far and those of the text that is left
abbrev pub invariant-parse : goal.invariant-parse
invariant-parse l = IsParsed l.text l.arguments.items l.rest

abbrev pub decreases-parse : goal.decreases-parse
decreases-parse l = length l.rest
