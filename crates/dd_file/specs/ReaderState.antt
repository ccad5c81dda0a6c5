-- The state of a reader of items or lines.
use Rattle.std.specs.Prelude.{◌≡◌, ◌≤◌, ℕ, Bool, true, false, List, [], length, Option, None}
use Rattle.dd_file.specs.Position.{Position, start, longest_input, longest_lookahead}
use Rattle.dd_file.specs.declared.fault.FileFault.{FileFault}

-- The state of a reader: the bytes that were read and not returned, whether the end of the input was reached, the
-- position after what was returned, and the error that was returned, if any.
pub record ReaderState : Type 0 where
  pub buffered : List ℕ
  pub is_ended : Bool
  pub position : Position
  pub fault : Option FileFault

-- the state of a reader before its first call
abbrev pub fresh : ReaderState
fresh = record { buffered = []; is_ended = false; position = start; fault = None }

-- the end was reached, and all before it was returned without an error
pub record IsOver (state : ReaderState) : Type 0 where
  pub fault : state.fault ≡ None
  pub buffered : state.buffered ≡ []
  pub ended : state.is_ended ≡ true

-- the buffer is empty at the end, each line has at least one byte, and the limit is not exceeded
pub record IsWithin (buffered : List ℕ) (is_ended : Bool) (lines bytes : ℕ) : Type 0 where
  pub ended : is_ended ≡ true → buffered ≡ []
  pub counted : lines ≤ bytes
  pub limit : bytes ≤ longest_input

-- unless an error was returned, the bytes that were read ahead are bounded
abbrev pub IsBounded : ReaderState → Type 0
IsBounded state = state.fault ≡ None → length state.buffered ≤ longest_lookahead
