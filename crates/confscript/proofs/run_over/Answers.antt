use Rattle.std.proofs.Common.{rules, ◌∙◌, refl, sym}
use Rattle.std.specs.Prelude.{Err}
use Rattle.conf_tool.specs.declared.tool_fault.ToolFault.TheVariants.{Read}
use Rattle.confscript.proofs.Ended.{named-standard, named-file, named-ends, run-ends}
use Rattle.confscript.proofs.run_over.Goals as goal

pub returns-then-eq-clause-ends : goal.returns-then-eq-clause-ends
returns-then-eq-clause-ends g c =
    named-ends _ _ _ _ _ c.args.invocation _
    (named-standard _ _ c.args.invocation.file c.unwrap_or-name.result _ c.unwrap_or-name.ensures (sym c.eq.ensures ∙ c.if-eq.true))
    (run-ends g.W.Sink.contents _ _ _ c.args.output.now c.run_to.new.writer _ c.requires.empty c.run_to.ensures.consumed c.run_to.ensures.output c.run_to.ensures.given)

pub returns-in-Ok-clause-ends : goal.returns-in-Ok-clause-ends
returns-in-Ok-clause-ends g c =
    named-ends _ _ _ _ _ c.args.invocation _
    (c.new.ensures.bytes ∙ c.in-Ok.ensures ∙ named-file _ _ c.args.invocation.file c.unwrap_or-name.result _ c.unwrap_or-name.ensures refl (sym c.eq.ensures ∙ c.if-eq.false))
    (run-ends g.W.Sink.contents _ _ _ c.args.output.now c.run_to-in-Ok.new.writer _ c.requires.empty c.run_to-in-Ok.ensures.consumed c.run_to-in-Ok.ensures.output c.run_to-in-Ok.ensures.given)

pub returns-in-Err-clause-kinds : goal.returns-in-Err-clause-kinds
returns-in-Err-clause-kinds g c = (Err Read, tt, search rules)
