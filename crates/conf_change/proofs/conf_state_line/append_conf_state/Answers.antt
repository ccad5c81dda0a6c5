use Rattle.std.proofs.Common.{List, ℕ, subst, ◌∙◌}
use Rattle.std.specs.Prelude.{codes}
use Rattle.std.proofs.lemmas.Result.{on_ok_weaker}
use Rattle.conf_change.specs.Text.{spaced_numbers}
use Rattle.conf_change.specs.ConfStateLine.{ParsesToNumbers}
use Rattle.conf_change.proofs.Texts.ConfStateLine.{DenotesConfState-printed, line_grouped}
use Rattle.conf_change.proofs.conf_state_line.append_conf_state.Goals as goal

pub returns-clause-ok : goal.returns-clause-ok
returns-clause-ok c = rw (← c.state.view_is) (on_ok_weaker c.append-2.result
    (λ is. is ∙ rw (
      c.in_ok-append.ensures.ok,
      c.in_ok-append_field-4.ensures.ok,
      c.in_ok-append_field-3.ensures.ok,
      c.in_ok-append_field-2.ensures.ok,
      c.in_ok-append_field.ensures.ok,
      c.deref.ensures.value,
      c.deref-2.ensures.value,
      c.deref-3.ensures.value,
      c.deref-4.ensures.value,
      c.truth_text.ensures,
    )
    (line_grouped _ (codes "Voters:[") _ (codes "] VotersOutgoing:[") _ (codes "] Learners:[") _ (codes "] LearnersNext:[") _ (codes "] AutoLeave:") _))
    c.append-2.ensures.ok)

pub returns-clause-denotes : goal.returns-clause-denotes
returns-clause-denotes c =
    let Q : List ℕ → Type 0 = λ numbers. ParsesToNumbers (spaced_numbers numbers) numbers in
    rw (← c.state.view_is) (on_ok_weaker c.append-2.result
    (λ _. DenotesConfState-printed _
    (subst Q c.deref.ensures.value c.in_ok-append_field.ensures.parsed) (subst Q c.deref-2.ensures.value c.in_ok-append_field-2.ensures.parsed)
    (subst Q c.deref-3.ensures.value c.in_ok-append_field-3.ensures.parsed) (subst Q c.deref-4.ensures.value c.in_ok-append_field-4.ensures.parsed))
    c.append-2.ensures.ok)
