use Rattle.std.proofs.Common.{ℕ, List, [], sym}
use Rattle.std.specs.Prelude.{Option, Some, None, Result, Ok, Err}
use Rattle.std.specs.Io.KnownBytes.{Appends}
use Rattle.std.proofs.lemmas.List.{append-nil}
use Rattle.dd_file.specs.Device.{AppendsPart}
use Rattle.conf_tool.specs.Outputs.{Output}
use Rattle.conf_tool.specs.Run.{Means}
use Rattle.conf_tool.specs.declared.status.Status.{Status}
use Rattle.conf_tool.specs.declared.tool_fault.ToolFault.{ToolFault}
use Rattle.conf_tool.specs.declared.tool_fault.ToolFault.TheVariants.{Script, Configurations, Read, Write, NoMemory}
use Rattle.conf_tool.proofs.ModeOutput.FirstParts.{kept-part}
use Rattle.conf_tool.proofs.run.flush_after.Goals as goal

-- a whole text is a prefix of it
whole-part : (before after : Option (List ℕ)) (text : List ℕ) → Appends before after text → AppendsPart before after text
whole-part None after text all = tt
whole-part (Some o) None text all = absurd all
whole-part (Some o) (Some n) text all = (text, [], sym (append-nil text), all)

-- whatever the answer, what was written is a prefix of the output
means-part : (output : Output) (result : Result Status ToolFault) (before after : Option (List ℕ)) → Means output result before after → AppendsPart before after output.text
means-part output (Ok status) before after wrote = whole-part before after output.text wrote.1
means-part output (Err (Script fault)) before after wrote = whole-part before after output.text wrote.1
means-part output (Err (Configurations fault)) before after wrote = whole-part before after output.text wrote.1
means-part output (Err Read) before after part = part
means-part output (Err Write) before after part = part
means-part output (Err NoMemory) before after part = part

pub returns-in-Err-clause-output : goal.returns-in-Err-clause-output
returns-in-Err-clause-output g c = λ output before means.
    kept-part before _ _ output.text (means-part output c.args.outcome before _ means) c.flush.ensures.bytes
