-- The state of a rewriter, and the text that its writer got. A newline at the end of the text so far is pending, since
-- it is dropped if the script ends in two newlines there. So the writer has a prefix of the script at any time.
use Rattle.std.specs.Prelude.{◌≡◌, ◌⊎◌, ℕ, Bool, true, List, ◌++◌, Option, Result, IsErr, OnOk, OnErr}
use Rattle.std.specs.Io.KnownBytes.{Appends}
use Rattle.ascii_text.specs.Lines.{without_last}
use Rattle.dd_file.specs.Device.{AppendsPart}
use Rattle.dd_file.specs.Rewritten.{without_double_end, newlines_at_end}
use Rattle.dd_file.specs.declared.fault.WriteFault.{WriteFault}
use Rattle.dd_file.specs.declared.expecting.Expecting.{Expecting}
use Rattle.dd_file.specs.declared.expecting.Expecting.TheVariants.{Ready, NeedsOutput, Over, Failed}

-- what a rewriter expects, and how many newlines the text so far ends in: 0, 1, or 2 for two or more
pub record RewriterState : Type 0 where
  pub expecting : Expecting
  pub newlines : ℕ

-- an item is expected next, or the end; or a write has failed
abbrev pub CanKeep : RewriterState → Type 0
CanKeep state = (state.expecting ≡ Ready) ⊎ (state.expecting ≡ Failed)

-- an output is expected next; or a write has failed
abbrev pub IsOutputNext : RewriterState → Type 0
IsOutputNext state = (state.expecting ≡ NeedsOutput) ⊎ (state.expecting ≡ Failed)

-- what was written since the start is a prefix of the whole script, whatever text follows this one in it
abbrev pub HasBegun : Option (List ℕ) → Option (List ℕ) → List ℕ → Type 0
HasBegun start now text = (rest : List ℕ) → AppendsPart start now (without_double_end (text ++ rest))

-- this text was written since the start, but for a newline at its end
pub record HasWritten (newlines : ℕ) (start now : Option (List ℕ)) (text : List ℕ) : Type 0 where
  pub counted : newlines ≡ newlines_at_end text
  pub gained : Appends start now (without_last 10 text)
  pub begun : HasBegun start now text

-- a call that writes more text, and counts the newlines at its end
abbrev pub Continues : ℕ → ℕ → Option (List ℕ) → Option (List ℕ) → List ℕ → Type 0
Continues newlines count old new more = (start : Option (List ℕ)) (text : List ℕ) → HasWritten newlines start old text → HasWritten count start new (text ++ more)

-- a call that fails while it writes more text
abbrev pub BreaksOff : ℕ → Option (List ℕ) → Option (List ℕ) → List ℕ → Type 0
BreaksOff newlines old new more = (start : Option (List ℕ)) (text : List ℕ) → HasWritten newlines start old text → HasBegun start new (text ++ more)

-- a call that writes the end of the script
abbrev pub Finishes : ℕ → Option (List ℕ) → Option (List ℕ) → Type 0
Finishes newlines old new = (start : Option (List ℕ)) (text : List ℕ) → HasWritten newlines start old text → Appends start new (without_double_end text)

-- a call that fails while it writes the end of the script
abbrev pub FinishesPart : ℕ → Option (List ℕ) → Option (List ℕ) → Type 0
FinishesPart newlines old new = (start : Option (List ℕ)) (text : List ℕ) → HasWritten newlines start old text → AppendsPart start new (without_double_end text)

-- A call of a rewriter, from one state and writer to the next. If it succeeds, the rewriter then expects `next`. An
-- error is permanent.
pub record Writes {W X : Type 0} (has_failed : W → Bool) (old new : RewriterState) (before after : W) (next : Expecting) (Written WrittenPart : Type 0) (result : Result X WriteFault) : Type 0 where
  pub written : OnOk result Written
  pub part : OnErr result WrittenPart
  pub expecting : OnOk result (new.expecting ≡ next)
  pub fault : OnErr result (new.expecting ≡ Failed)
  -- the writer is not called again
  pub again : old.expecting ≡ Failed → IsErr result × (after ≡ before)
  -- an error comes only after a failed write, in this call or before it; without an error no write failed in it
  pub failed : OnErr result ((old.expecting ≡ Failed) ⊎ (has_failed after ≡ true))
  pub sound : OnOk result (has_failed after ≡ has_failed before)

-- a call that writes more text, all of it or up to an error
abbrev pub WritesMore : {W X : Type 0} → (W → Option (List ℕ)) → (W → Bool) → RewriterState → RewriterState → W → W → Expecting → List ℕ → Result X WriteFault → Type 0
WritesMore contents has_failed old new before after next text result =
    Writes has_failed old new before after next (Continues old.newlines new.newlines (contents before) (contents after) text) (BreaksOff old.newlines (contents before) (contents after) text) result

-- a call that writes the end of the script, all of it or up to an error
abbrev pub WritesEnd : {W X : Type 0} → (W → Option (List ℕ)) → (W → Bool) → RewriterState → RewriterState → W → W → Result X WriteFault → Type 0
WritesEnd contents has_failed old new before after result =
    Writes has_failed old new before after Over (Finishes old.newlines (contents before) (contents after)) (FinishesPart old.newlines (contents before) (contents after)) result
