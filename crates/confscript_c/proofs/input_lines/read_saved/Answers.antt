use Rattle.std.proofs.Common.{◌≡◌, ℕ, Option, None, ◌⊎◌, inl, inr, refl, ap}
use Rattle.std.specs.Prelude.{Result, Err}
use Rattle.conf_change.specs.ConfState.{ConfStateLists}
use Rattle.conf_change.specs.declared.saved_configuration.ConfStateFault.{ConfStateFault}
use Rattle.conf_change.specs.declared.saved_configuration.ConfStateFault.TheVariants.{BadConfState, NoMemory}
use Rattle.confscript_c.specs.Answer.{no_memory}
use Rattle.confscript_c.specs.InputLines.{line_answer, read_as}
use Rattle.confscript_c.proofs.input_lines.read_saved.Goals as goal

of_fault : (number : ℕ) (read : Option ConfStateLists) (fault : ConfStateFault) → (◌≡◌ {A = Result ConfStateLists ConfStateFault} (Err fault) (Err BadConfState) → read ≡ None)
    → (line_answer number fault ≡ no_memory) ⊎ (read_as number read ≡ Err (line_answer number fault))
of_fault number read BadConfState none = inr (ap (read_as number) (none refl))
of_fault number read NoMemory none = inl refl

pub returns-in-Ok-clause-saved : goal.returns-in-Ok-clause-saved
returns-in-Ok-clause-saved c = ap (read_as c.args.number) c.in-Ok.ensures.value

pub returns-in-Err-clause-refused : goal.returns-in-Err-clause-refused
returns-in-Err-clause-refused c = rw c.line_answer.ensures (of_fault c.args.number _ c.in-Err.fault c.in-Err.ensures.fault)
