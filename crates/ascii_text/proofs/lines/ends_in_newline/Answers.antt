use Rattle.std.proofs.Common.{sym, ap, ◌∙◌}
use Rattle.ascii_text.specs.Lines.{ends_in_newline}
use Rattle.ascii_text.proofs.FullLines.{ends_in_newline-append}
use Rattle.ascii_text.proofs.lines.ends_in_newline.Goals as goal

pub returns-in-Some : goal.returns-in-Some
returns-in-Some c = sym (ap ends_in_newline c.in-Some.ensures.cases.0 ∙ ends_in_newline-append c.in-Some.last.now c.in-Some.field-0-1.now)
