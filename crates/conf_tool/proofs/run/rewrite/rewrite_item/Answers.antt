use Rattle.std.proofs.Common.{◌∙◌, ◌++◌, ap, sym}
use Rattle.std.proofs.lemmas.List.{append-nil}
use Rattle.dd_file.specs.Rewritten.{entry_text}
use Rattle.conf_tool.proofs.run.rewrite.rewrite_item.Goals as goal

pub returns-clause-text : goal.returns-clause-text
returns-clause-text c =
    c.in_ok-append_entry.ensures ∙ ap (λ actual. c.args.text.now.items ++ entry_text c.args.item.now actual) (c.as_slice.ensures.value ∙ c.in_ok-actual.ensures.actual)
    ∙ rw c.in-Some.ensures (ap (λ t. c.args.text.now.items ++ t) (sym (append-nil _)))
