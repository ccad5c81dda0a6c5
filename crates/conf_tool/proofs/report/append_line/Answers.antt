use Rattle.std.proofs.Common.{[], ◌∷◌, ◌++◌, append_assoc, sym, ap, ◌∙◌}
use Rattle.conf_tool.proofs.ModeOutput.MarkedLines.{whole-line, bare-line}
use Rattle.conf_tool.proofs.report.append_line.Goals as goal

pub returns-in_ok-push : goal.returns-in_ok-push
returns-in_ok-push c =
    let before = c.args.text.now.items in
    let full_line = c.args.full_line.now in
    c.in_ok-push.ensures.items ∙ ap (λ t. t ++ 10 ∷ []) c.in_ok-extend_from_slice.ensures.items ∙ append_assoc before full_line (10 ∷ [])
    ∙ ap (λ t. before ++ (t ++ 10 ∷ [])) (sym (bare-line full_line (sym c.ends_in_newline.ensures ∙ c.if-not-ends_in_newline.true)))

pub returns-else-not-ends_in_newline : goal.returns-else-not-ends_in_newline
returns-else-not-ends_in_newline c =
    let before = c.args.text.now.items in
    c.in_ok-extend_from_slice.ensures.items ∙ ap (λ t. before ++ t) (sym (whole-line c.args.full_line.now (sym c.ends_in_newline.ensures ∙ c.if-not-ends_in_newline.false)))
