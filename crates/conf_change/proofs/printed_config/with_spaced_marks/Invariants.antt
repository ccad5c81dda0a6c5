use Rattle.std.proofs.Common.{◌≡◌, take}
use Rattle.std.specs.Prelude.{flat_map}
use Rattle.conf_change.specs.PrintedConfig.{spaced_mark}
use Rattle.conf_change.proofs.printed_config.with_spaced_marks.Given as goal

abbrev pub invariant-loop-byte : goal.invariant-loop-byte
invariant-loop-byte l = l.spaced.items ≡ flat_map spaced_mark (take l.byte-index l.text)
