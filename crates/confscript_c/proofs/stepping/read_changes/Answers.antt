use Rattle.std.proofs.Common.{◌+◌, inr, drop, sym, ap, ◌∙◌}
use Rattle.std.specs.Prelude.{Err}
use Rattle.confscript_c.specs.Stepped.{changes_from}
use Rattle.confscript_c.proofs.ChangesRead.{joined, joined-kind, joined-no_kind}
use Rattle.confscript_c.proofs.stepping.read_changes.Goals as goal

pub returns-in_default-clause-refused : goal.returns-in_default-clause-refused
returns-in_default-clause-refused c =
    inr (c.loop-index.invariant ∙ joined-no_kind c.args.numbered.now c.loop-index.index _ c.loop-index.changes.items c.loop-index-test.true (sym c.in_default.ensures) ∙ ap Err (sym c.new.ensures))

pub loop-index-preserved : goal.loop-index-preserved
loop-index-preserved c =
    let i = c.loop-index.index in
    c.loop-index.invariant ∙ joined-kind c.args.numbered.now i _ c.in-Some.kind c.loop-index.changes.items c.loop-index-test.true (sym c.in-Some.ensures)
    ∙ ap (λ items. joined items (changes_from (i + 1 + 1) (drop (i + 1) c.args.numbered.now))) (sym c.in_ok-append.ensures)
