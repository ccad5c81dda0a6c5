-- Faults that end a run.
use Rattle.std.proofs.Common.{◌≡◌, ℕ, Bool, false, ◌||◌, List, sym, ◌∙◌, ap, subst, inl, inr, arith}
use Rattle.std.specs.Prelude.{◌⊎◌, true, Option, Err}
use Rattle.dd_file.specs.Device.{AppendsPart}
use Rattle.dd_file.specs.Answer.{IsInterrupted}
use Rattle.dd_file.specs.Answer as reader
use Rattle.dd_file.specs.declared.fault.FileFault.{FileFault}
use Rattle.dd_file.specs.declared.fault.FileFault.TheVariants.{Read, NoMemory, InputTooLong, Syntax}
use Rattle.conf_tool.specs.Outputs.{Output}
use Rattle.conf_tool.specs.Run.{Means, as_tool_fault, is_read_failure, is_write_failure}
use Rattle.conf_tool.specs.declared.status.Status.{Status}
use Rattle.conf_tool.specs.declared.tool_fault.ToolFault.{ToolFault}
use Rattle.conf_tool.specs.declared.tool_fault.ToolFault.TheVariants.{Script, Read as CannotRead, NoMemory as OutOfMemory}

-- a fault of the reader as one of the run: of the input ..
pub record IsOfInput (fault converted : FileFault) : Type 0 where
  pub same : fault ≡ converted
  pub not_read : fault ≡ Read → ⊥
  pub not_memory : fault ≡ NoMemory → ⊥

pub input-fault : (fault converted : FileFault) → Script converted ≡ as_tool_fault fault → IsOfInput fault converted
input-fault Read converted is = let bad : ⊥ = cc in absurd bad
input-fault NoMemory converted is = let bad : ⊥ = cc in absurd bad
input-fault (InputTooLong line) converted is = record { same = cc; not_read = λ e. cc; not_memory = λ e. cc }
input-fault (Syntax line fault) converted is = record { same = cc; not_read = λ e. cc; not_memory = λ e. cc }

pub input-uncut : {X : Type 0} (fault converted : FileFault) → IsOfInput fault converted → IsInterrupted {X = X} (Err fault) → ⊥
input-uncut fault converted is (inl e) = is.not_read cc
input-uncut fault converted is (inr e) = is.not_memory cc

-- .. or one that cuts the run short
pub data IsOfReader : FileFault → ToolFault → Type 0 where
  CutByRead : IsOfReader Read CannotRead
  CutByMemory : IsOfReader NoMemory OutOfMemory

pub reader-fault : (fault : FileFault) (converted : ToolFault) → converted ≡ as_tool_fault fault → ((f : FileFault) → converted ≡ Script f → ⊥) → IsOfReader fault converted
reader-fault Read converted is other = subst (IsOfReader Read) (sym is) CutByRead
reader-fault NoMemory converted is other = subst (IsOfReader NoMemory) (sym is) CutByMemory
reader-fault (InputTooLong line) converted is other = absurd (other (InputTooLong line) is)
reader-fault (Syntax line fault) converted is other = absurd (other (Syntax line fault) is)

pub reader-means : (fault : FileFault) (converted : ToolFault) → IsOfReader fault converted → (output : Output) (before after : Option (List ℕ)) → AppendsPart before after output.text → Means output (Err converted) before after
reader-means fault converted CutByRead output before after part = part
reader-means fault converted CutByMemory output before after part = part

pub reader-read : (fault : FileFault) (converted : ToolFault) → IsOfReader fault converted → is_read_failure {X = Status} (Err converted) ≡ reader.is_read_fault {X = Status} (Err fault)
reader-read fault converted x2 = grind arith

pub reader-unwritten : (fault : FileFault) (converted : ToolFault) → IsOfReader fault converted → is_write_failure {X = Status} (Err converted) ≡ false
reader-unwritten fault converted x2 = grind arith

-- a read that failed came after a flush
pub reader-flushed : (Flushed Unread X : Type 0) (fault : FileFault) (converted : ToolFault) → IsOfReader fault converted → is_read_failure {X = Status} (Err converted) ≡ true
    → Flushed ⊎ (Unread × (reader.is_read_fault {X = X} (Err fault) ≡ false)) → Flushed
reader-flushed Flushed Unread X fault converted CutByRead failed (inl flushed) = flushed
reader-flushed Flushed Unread X fault converted CutByRead failed (inr unread) = let bad : true ≡ false = unread.1 in cc
reader-flushed Flushed Unread X fault converted CutByMemory failed either = let bad : false ≡ true = failed in cc

-- a call that fails so, after none did
pub or-fault : (start now later fault converted : Bool) → later ≡ (now || fault) → converted ≡ fault → now ≡ start → later ≡ (start || converted)
or-fault start now later fault converted is same before = is ∙ ap (λ f. now || f) (sym same) ∙ ap (λ m. m || converted) before
