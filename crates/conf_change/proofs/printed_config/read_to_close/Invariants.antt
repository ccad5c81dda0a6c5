use Rattle.std.proofs.Common.{◌≡◌, length}
use Rattle.ascii_text.specs.Tokens.{tokens_in}
use Rattle.conf_change.specs.PrintedConfig.{numbers_to_close}
use Rattle.conf_change.proofs.Texts.PrintedConfig.{onto_read}
use Rattle.conf_change.proofs.printed_config.read_to_close.Given as goal

abbrev pub invariant-loop-token : goal.invariant-loop-token
invariant-loop-token l = numbers_to_close (tokens_in l.text) ≡ onto_read l.numbers.items (numbers_to_close (tokens_in l.rest))

abbrev pub decreases-loop-token : goal.decreases-loop-token
decreases-loop-token l = length l.rest
