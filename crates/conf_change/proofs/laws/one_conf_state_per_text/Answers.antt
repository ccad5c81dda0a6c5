use Rattle.std.proofs.Common.{sym, ◌∙◌}
use Rattle.quorum_sets.specs.Ids.{ascending}
use Rattle.conf_change.specs.ConfState.{lists_of}
use Rattle.conf_change.proofs.Texts.ConfStateLine.{conf_state_in-ok, DenotesConfState-from_some, DenotesConfState-printed, ParsesToNumbers-spaced}
use Rattle.conf_change.proofs.laws.one_conf_state_per_text.Goals as goal

pub returns-clause-some : goal.returns-clause-some
returns-clause-some c = λ text saved. (conf_state_in-ok text saved, DenotesConfState-from_some text saved)

pub returns-clause-one : goal.returns-clause-one
returns-clause-one c = λ text a b first second.
    let same = sym (conf_state_in-ok text a first) ∙ conf_state_in-ok text b second in cc

pub returns-clause-printed : goal.returns-clause-printed
returns-clause-printed c = λ printed small.
    DenotesConfState-printed (lists_of printed) (ParsesToNumbers-spaced (ascending printed.incoming) small.incoming) (ParsesToNumbers-spaced (ascending printed.outgoing) small.outgoing)
    (ParsesToNumbers-spaced (ascending printed.learners) small.learners) (ParsesToNumbers-spaced (ascending printed.learners_next) small.learners_next)
