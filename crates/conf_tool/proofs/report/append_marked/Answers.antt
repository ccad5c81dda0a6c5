use Rattle.std.proofs.Common.{◌∷◌, [], ◌++◌, ap, ◌∙◌}
use Rattle.ascii_text.specs.Lines.{newline, without_last}
use Rattle.conf_tool.specs.Reports.{marked}
use Rattle.conf_tool.proofs.ModeOutput.MarkedLines.{marked-first}
use Rattle.conf_tool.proofs.report.append_marked.Goals as goal

pub loop-full_line-preserved : goal.loop-full_line-preserved
loop-full_line-preserved c =
    let sign = c.args.sign ∷ 32 ∷ [] in
    let full_line = c.in-Some.full_line.now in
    ap (λ t. t ++ marked sign c.in-Some.suffix.now) (c.in_ok-append_line.ensures ∙ ap (λ t. t ++ (without_last 10 full_line ++ newline)) c.in_ok-extend_from_slice.ensures.items)
    ∙ marked-first c.loop-full_line.text.items sign c.loop-full_line.rest.now full_line c.in-Some.suffix.now c.in-Some.ensures.full_lines ∙ c.loop-full_line.invariant
