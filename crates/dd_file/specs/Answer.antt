-- The result of reading the next item or line, in terms of the input. A contract cannot know what is still to come, so
-- it speaks of every input that agrees with what was read.
use Rattle.std.specs.Prelude.{◌≡◌, ◌≤◌, ◌<◌, ◌+◌, ℕ, Bool, true, false, ◌||◌, ◌⊎◌, List, [], ◌++◌, length, Option, Some, None, Result, Ok, Err, ⊤, IfOk, IfSome, IfErr, OnOk}
use Rattle.std.specs.Io.KnownBytes.{IsAtEnd}
use Rattle.dd_file.specs.Position.{Position, longest_input, longest_lookahead}
use Rattle.dd_file.specs.Grammar.{Next, Over, Parsed, Faulty}
use Rattle.dd_file.specs.ReaderState.{ReaderState, IsOver}
use Rattle.dd_file.specs.Device.{LosesPrefix}
use Rattle.dd_file.specs.declared.fault.FileFault.{FileFault}
use Rattle.dd_file.specs.declared.fault.FileFault.TheVariants.{Read, NoMemory, Syntax, InputTooLong}
use Rattle.dd_file.specs.declared.fault.SyntaxFault.TheVariants.{AfterDouble}

-- The input, from the position of a state on, agrees with the bytes that a call read: it is the buffered bytes, then
-- the bytes that the call read, and then more. There is no more if the reader has no bytes left. If the end was reached
-- before the call, the call read nothing, and there is no more.
pub record AgreesWith (state : ReaderState) (before after input more : List ℕ) : Type 0 where
  pub bytes_read : List ℕ
  pub consumed : before ≡ bytes_read ++ after
  pub whole : input ≡ (state.buffered ++ bytes_read) ++ more
  pub met : state.is_ended ≡ true → bytes_read ++ more ≡ []
  pub last : after ≡ [] → more ≡ []

-- the input agrees with a reader whose bytes are known; no input agrees with other readers
abbrev pub Agrees : ReaderState → Option (List ℕ) → Option (List ℕ) → List ℕ → List ℕ → Type 0
Agrees state (Some before) (Some after) input more = AgreesWith state before after input more
Agrees state (Some before) None input more = ⊥
Agrees state None after input more = ⊥

-- what comes next according to the result of a call; after an item come the buffered bytes, and then more
abbrev pub next_in_answer : {A : Type 0} → ReaderState → List ℕ → Result (Option A) FileFault → Next A
next_in_answer new more (Ok None) = Over
next_in_answer new more (Ok (Some value)) = Parsed value new.position (new.buffered ++ more)
next_in_answer new more (Err fault) = Faulty fault

-- reading was interrupted by a failed read, or because memory ran out, so the result does not depend on the input alone
abbrev pub IsInterrupted : {X : Type 0} → Result X FileFault → Type 0
IsInterrupted result = (result ≡ Err Read) ⊎ (result ≡ Err NoMemory)

-- The result is the next item or line of each input that agrees with what was read, or reading was interrupted. It is
-- not specified for a reader whose bytes are unknown.
abbrev pub IsNextOfInput : {A : Type 0} → (Position → List ℕ → Next A) → ReaderState → ReaderState → Option (List ℕ) → Option (List ℕ) → Result (Option A) FileFault → Type 0
IsNextOfInput next old new before after result =
    (input more : List ℕ) → Agrees old before after input more → IsInterrupted result ⊎ (next old.position input ≡ next_in_answer new more result)

-- whether the result is that a read failed
abbrev pub is_read_fault : {X : Type 0} → Result X FileFault → Bool
is_read_fault (Err Read) = true
is_read_fault result = false

-- the error of a result, if it is one
abbrev pub fault_of : {X : Type 0} → Result X FileFault → Option FileFault
fault_of (Ok value) = None
fault_of (Err fault) = Some fault

-- the errors that reading a line at this position may return, with the line that each names
abbrev pub IsLineFault : Position → FileFault → Type 0
IsLineFault position Read = ⊤
IsLineFault position NoMemory = ⊤
IsLineFault position (InputTooLong line) = line ≡ position.lines + 1
IsLineFault position (Syntax line fault) = ⊥

-- the errors that reading an item at this position may return, with the line that each names
abbrev pub IsItemFault : Position → FileFault → Type 0
IsItemFault position (Syntax line AfterDouble) = position.lines + 1 < line
IsItemFault position (Syntax line fault) = line ≡ position.lines + 1
IsItemFault position fault = IsLineFault position fault

-- A call that reads: known bytes of the reader lose a prefix, the end is reported only if the reader has none left, and
-- once the end was reached the reader is not called again.
pub record MovesOn {R : Type 0} (remaining : R → Option (List ℕ)) (old new : ReaderState) (before after : R) : Type 0 where
  pub consumed : LosesPrefix (remaining before) (remaining after)
  pub met : new.is_ended ≡ true → (old.is_ended ≡ true) ⊎ IsAtEnd (remaining after)
  pub stays : old.is_ended ≡ true → (after ≡ before) × (new.is_ended ≡ true)

-- A call that reads the next item or line. A reader is modelled by the bytes that are left, if they are known, and by
-- whether a read has failed.
pub record ReadsOn {R A : Type 0} (remaining : R → Option (List ℕ)) (has_failed : R → Bool) (next : Position → List ℕ → Next A) (IsFault : Position → FileFault → Type 0)
    (old new : ReaderState) (before after : R) (result : Result (Option A) FileFault) : Type 0 where
  -- the result is the next item or line of each input that agrees with what was read
  pub answers : old.fault ≡ None → IsNextOfInput next old new (remaining before) (remaining after) result
  pub moves : MovesOn remaining old new before after
  -- each item has at least one line, and there are no more lines than bytes in the longest input
  pub forward : IfOk result (λ value. IfSome value (λ _. old.position.lines < new.position.lines))
  pub counted : OnOk result (new.position.lines ≤ longest_input)
  -- the look-ahead is bounded
  pub lookahead : OnOk result (length new.buffered ≤ longest_lookahead)
  -- the end is permanent
  pub finished : result ≡ Ok None → IsOver new × (new.position ≡ old.position)
  pub over : IsOver old → (result ≡ Ok None) × (new ≡ old) × (after ≡ before)
  -- an error is permanent, and the reader is not called again
  pub open_end : OnOk result (new.fault ≡ None)
  pub fault : IfErr result (λ fault. new.fault ≡ Some fault)
  pub again : IfSome old.fault (λ fault. (result ≡ Err fault) × (new ≡ old) × (after ≡ before))
  pub kind : old.fault ≡ None → IfErr result (IsFault old.position)
  -- the reader has failed exactly when it had failed before, or `Read` is returned
  pub read : old.fault ≡ None → has_failed after ≡ (has_failed before || is_read_fault result)

-- A call that may read for a program that replies: the reader was not called, or the replies were flushed before. A read
-- that failed was a call, though it may have left the reader as it was.
abbrev pub FlushesFirst : {R W X F : Type 0} → (W → Type 0) → R → R → W → Result (Result X FileFault) F → Type 0
FlushesFirst IsFlushed before after writer (Ok answer) = IsFlushed writer ⊎ ((after ≡ before) × (is_read_fault answer ≡ false))
FlushesFirst IsFlushed before after writer (Err fault) = after ≡ before
