-- What a call writes into the caller's buffer: the bytes of a text, or the numbers of an array.
use Rattle.std.specs.Prelude.{◌≡◌, ◌⊎◌, ℕ, List, ◌++◌, length, drop, Result, Ok, Err, nat_le, if◌then◌else◌}
use Rattle.confscript_c.specs.Answer.{status_answer, done, no_memory}
use Rattle.confscript_c.specs.declared.answer.Answer.{Answer}
use Rattle.confscript_c.specs.declared.status.Status.TheVariants.{TooSmall}

-- the result of a call that writes: the bytes or numbers, or the answer with the reason why there are none
abbrev pub OutResult : Type 0
OutResult = Result (List ℕ) Answer

-- the answer for a result of this length, if the buffer has this much room: the length, and whether it fits
abbrev pub length_answer : ℕ → ℕ → Answer
length_answer len room = if nat_le len room then done len else status_answer TooSmall len

-- items that fit overwrite the start of the buffer; otherwise the buffer is unchanged
abbrev pub written_over : {X : Type 0} → List X → List X → List X
written_over items buffer = if nat_le (length items) (length buffer) then items ++ drop (length items) buffer else buffer

-- the answer of a call with this result, if the buffer has this much room
abbrev pub answer_to : OutResult → ℕ → Answer
answer_to (Ok items) room = length_answer (length items) room
answer_to (Err why) room = why

-- the buffer afterwards
abbrev pub buffer_after : OutResult → List ℕ → List ℕ
buffer_after (Ok items) buffer = written_over items buffer
buffer_after (Err why) buffer = buffer

-- a call returns the answer of this result and writes it; or memory ran out, and the buffer is unchanged
abbrev pub Writes : OutResult → List ℕ → Answer → List ℕ → Type 0
Writes outcome before result after =
    ((result ≡ answer_to outcome (length before)) × (after ≡ buffer_after outcome before)) ⊎ ((result ≡ no_memory) × (after ≡ before))
