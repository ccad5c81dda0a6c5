use Rattle.std.proofs.Common.{◌≡◌, length}
use Rattle.std.specs.List.{slice_split}
use Rattle.conf_change.specs.ConfStateLine.{numbers_in_tokens, is_space_byte}
use Rattle.conf_change.proofs.Texts.ConfStateLine.{onto_numbers}
use Rattle.conf_change.proofs.conf_state_line.read_numbers.Given as goal

abbrev pub invariant-loop-numbers : goal.invariant-loop-numbers
invariant-loop-numbers l = numbers_in_tokens (slice_split is_space_byte l.text) ≡ onto_numbers l.numbers.items (numbers_in_tokens (slice_split is_space_byte l.rest))

abbrev pub decreases-loop-numbers : goal.decreases-loop-numbers
decreases-loop-numbers l = length l.rest
