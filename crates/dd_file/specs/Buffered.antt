-- Lines and items that are buffered, and so can be returned without a read.
use Rattle.std.specs.Prelude.{◌≡◌, ◌≤◌, ◌<◌, ◌+◌, ◌-◌, ◌==◌, ◌++◌, ℕ, Bool, true, false, List, [], ◌∷◌, length, take, drop, map, filter, Option, None, ⊤}
use Rattle.std.specs.List.{list_any}
use Rattle.std.specs.Io.KnownBytes.{Consumes, IsAtEnd}
use Rattle.ascii_text.specs.Lines.{first_len, full_lines, line_of, ends_in_newline}
use Rattle.dd_file.specs.Position.{longest_input, longest_lookahead}
use Rattle.dd_file.specs.Script.{FirstItem, Ended}
use Rattle.dd_file.specs.ReaderState.{ReaderState}
use Rattle.dd_file.specs.declared.fault.FileFault.{FileFault}
use Rattle.dd_file.specs.declared.fault.FileFault.TheVariants.{Read, NoMemory, Syntax, InputTooLong}

-- the state after these lines and bytes of the buffer were returned
abbrev pub passed : ReaderState → ℕ → ℕ → ReaderState
passed state lines bytes = record state {
  buffered = drop bytes state.buffered;
  position = record { lines = state.position.lines + lines; bytes = state.position.bytes + bytes };
}

-- the state after all that was buffered, which is this many lines, was returned, and the end was reached
abbrev pub ended : ReaderState → ℕ → ReaderState
ended state lines = record (passed state lines (length state.buffered)) { is_ended = true }

-- nothing, or a text whose last byte is a newline
abbrev pub is_whole_text : List ℕ → Bool
is_whole_text [] = true
is_whole_text (b ∷ []) = b == 10
is_whole_text (b ∷ c ∷ bytes) = is_whole_text (c ∷ bytes)

-- those lines of the bytes that end in a newline, without it
abbrev pub whole_lines : List ℕ → List (List ℕ)
whole_lines bytes = map line_of (filter ends_in_newline (full_lines bytes))

-- whether no further line could change the first item
abbrev pub is_ended : {A : Type 0} → FirstItem A → Bool
is_ended (Ended result left) = true
is_ended first = false

-- whether what comes next is buffered: the buffered lines that end in a newline are enough to end it
abbrev pub is_first_buffered : {A : Type 0} → (List (List ℕ) → FirstItem A) → List ℕ → Bool
is_first_buffered first buffered = is_ended (first (whole_lines buffered))

-- What comes next is buffered: no error was returned, the end was not reached, and the buffered bytes are within the limit
-- and enough.
pub record IsFirstBuffered {A : Type 0} (first : List (List ℕ) → FirstItem A) (state : ReaderState) : Type 0 where
  pub faultless : state.fault ≡ None
  pub unended : state.is_ended ≡ false
  pub limit : state.position.bytes + length state.buffered ≤ longest_input
  pub enough : is_first_buffered first state.buffered ≡ true

-- The bytes of one read were appended to the buffered ones. There were some, or the input has ended.
pub record FilledBy (old new : List ℕ) (before after : Option (List ℕ)) (some : Bool) : Type 0 where
  pub bytes_read : List ℕ
  pub consumed : Consumes before after bytes_read
  pub buffered : new ≡ old ++ bytes_read
  pub ahead : length bytes_read ≤ longest_lookahead
  pub more : some ≡ true → 0 < length bytes_read
  pub ended : some ≡ false → (bytes_read ≡ []) × IsAtEnd after

-- the errors that interrupt reading, and do not depend on the input alone
abbrev pub IsInterruption : FileFault → Type 0
IsInterruption Read = ⊤
IsInterruption NoMemory = ⊤
IsInterruption (InputTooLong line) = ⊥
IsInterruption (Syntax line fault) = ⊥

-- the buffered bytes that are within the limit
abbrev pub within_limit : ReaderState → List ℕ
within_limit state = take (longest_input - state.position.bytes) state.buffered

-- the bytes begin with this full line, which ends in a newline
pub record BeginsWithLine (full_line bytes : List ℕ) : Type 0 where
  pub rest : List ℕ
  pub is : bytes ≡ full_line ++ rest
  pub one : first_len full_line ≡ length full_line
  pub ends : ends_in_newline full_line ≡ true

-- the first bytes, this many, are there and have no newline
pub record HasNoNewline (count : ℕ) (bytes : List ℕ) : Type 0 where
  pub within : count ≤ length bytes
  pub none : list_any (λ b. b == 10) (take count bytes) ≡ false
