use Rattle.std.proofs.Common.{◌≡◌, ◌∙◌, ◌++◌, [], ◌∷◌, ap, length, rules, arith}
use Rattle.dd_file.specs.Rewritten.{newlines_at_end, pending_newline}
use Rattle.conf_tool.specs.Reports.{answered_text}
use Rattle.conf_tool.proofs.Modes.Rewrite.{rewrite-item, added}
use Rattle.conf_tool.proofs.run.rewrite.RewritingHandlerItem.answer.Goals.{then-self-gt0+in_ok-extend_from_slice, else-self-gt0}
use Rattle.conf_tool.proofs.run.rewrite.RewritingHandlerItem.answer.Goals as goal

pub returns-clause-answered : goal.returns-clause-answered
returns-clause-answered c = λ count so_far. (so_far.0 ++ _, c.count_newlines-self.ensures so_far.0 so_far.1)

pub returns-clause-text : goal.returns-clause-text
returns-clause-text c = λ rest.
    let item = c.args.item.now in
    let text = c.requires.few.1.0 in
    let before = c.if-self-gt0.text.items in
    let more = answered_text c.args.self.now.session (item ∷ []) in
    let pending : before ≡ pending_newline c.args.self.now.newlines = elim c.if-self-gt0.branch [
      | then-self-gt0+in_ok-extend_from_slice w ↦ grind (arith, pending_newline, c.requires.empty, w.if-self-gt0, w.text-is, w.in_ok-extend_from_slice.ensures.items)
      | else-self-gt0 w ↦ grind (arith, pending_newline, c.requires.empty, w.if-self-gt0, w.text-is)
    ] in
    let start : c.len-start.result ≡ length before = search (rules, arith) in
    let appended = added c.len-start.result before more c.as_slice.result.now start (c.as_slice.ensures.value ∙ c.in_ok-rewrite_item.ensures.text) in
    let counts = c.count_newlines-self.ensures text c.requires.few.1.1 ∙ ap (λ t. newlines_at_end (text ++ t)) appended in
    rw (c.hold_newline.ensures, c.in_ok-rewrite_item.ensures.text, pending)
    (rewrite-item _ _ _ _ item text c.in_ok-rewrite_item.ensures.session c.requires.few.1.1 counts rest)
