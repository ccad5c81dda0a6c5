-- A position in an input, and the limits of one.
use Rattle.std.specs.Prelude.{ℕ, ◌-◌, ◌^◌}

-- how many lines and bytes of the input are before a position
pub record Position : Type 0 where
  pub lines : ℕ
  pub bytes : ℕ

-- the start of an input
abbrev pub start : Position
start = record { lines = 0; bytes = 0 }

-- the greatest length of an input in bytes
abbrev pub longest_input : ℕ
longest_input = 2 ^ 30 - 1

-- the greatest number of bytes that are read ahead of what was returned
abbrev pub longest_lookahead : ℕ
longest_lookahead = 4096
