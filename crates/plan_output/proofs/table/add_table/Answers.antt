use Rattle.std.proofs.Common.{◌++◌, ap, ◌∙◌}
use Rattle.std.specs.Prelude.{option_copied}
use Rattle.quorum_sets.specs.Ids.{ascending}
use Rattle.plan_output.specs.Table as spec
use Rattle.plan_output.specs.Table.{ids_on_the_way}
use Rattle.plan_output.proofs.table.add_table.Goals as goal

pub returns-clause-ok : goal.returns-clause-ok
returns-clause-ok c =
    let down = option_copied c.args.down in
    let path = c.args.path.now in
    let table =
    c.as_slice-3.ensures.value ∙ c.in_ok-table.ensures
    ∙ ap (λ all. spec.table_of (ascending (ids_on_the_way all)) all path down) (c.as_slice-2.ensures.value ∙ c.in_ok-stages.ensures) in
    c.in_ok-append.ensures.ok ∙ ap (λ text. c.args.text.now.items ++ text) table
