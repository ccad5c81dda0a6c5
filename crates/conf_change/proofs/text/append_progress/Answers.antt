use Rattle.std.proofs.Common.{◌∙◌}
use Rattle.std.proofs.lemmas.List.{append_assoc}
use Rattle.std.proofs.lemmas.Result.{on_ok_weaker}
use Rattle.conf_change.proofs.text.append_progress.Goals as goal

pub returns-clause-ok : goal.returns-clause-ok
returns-clause-ok c = on_ok_weaker c.append_if.result
    (λ is. is ∙ rw (c.in_ok-append_labelled-2.ensures.ok, c.in_ok-append_labelled.ensures.ok, c.in_ok-append_number.ensures.ok) (simp append_assoc))
    c.append_if.ensures.ok
