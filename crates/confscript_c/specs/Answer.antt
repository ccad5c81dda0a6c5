-- What a call returns: a status, and a number whose meaning depends on it.
use Rattle.std.specs.Prelude.{◌≡◌, ◌⊎◌, ℕ, Result, Err}
use Rattle.confscript_c.specs.Status.{code_of}
use Rattle.confscript_c.specs.declared.answer.Answer.{Answer}
use Rattle.confscript_c.specs.declared.status.Status.{Status}
use Rattle.confscript_c.specs.declared.status.Status.TheVariants.{Done, NoMemory}

-- the answer of a status with a number
abbrev pub status_answer : Status → ℕ → Answer
status_answer status number = record { status = code_of status; number = number }

-- the call did its work, with this number as its result
abbrev pub done : ℕ → Answer
done number = status_answer Done number

-- memory ran out
abbrev pub no_memory : Answer
no_memory = status_answer NoMemory 0

-- a call is refused with this answer, where the result of its arguments is this one: by that result, or out of memory
abbrev pub Refuses : {A : Type 0} → Result A Answer → Answer → Type 0
Refuses result why = (why ≡ no_memory) ⊎ (result ≡ Err why)
