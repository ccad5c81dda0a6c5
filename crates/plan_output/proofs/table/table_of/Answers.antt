use Rattle.std.proofs.Common.{◌++◌, ap, ◌∙◌}
use Rattle.std.specs.Prelude.{option_copied}
use Rattle.quorum_sets.specs.Ids.{ascending}
use Rattle.plan_output.specs.Grid.{grid_text}
use Rattle.plan_output.specs.Names.{denoted_text, name_by}
use Rattle.plan_output.specs.Table as spec
use Rattle.plan_output.specs.Table.{stage_rows}
use Rattle.plan_output.proofs.table.table_of.Goals as goal

pub returns : goal.returns
returns c =
    let down = option_copied c.args.down in
    let stages = c.args.stages.now in
    let path = c.args.path.now in
    let ids = c.as_slice-ids.result.now in
    let rows = c.in_ok-append_grid.ensures ∙ (λ k. c.new-table.ensures.items k ++ grid_text ((c.as_slice.ensures.value ∙ c.in_ok-rows.ensures) k)) in
    c.in_ok-append_denoted.ensures ∙ ap (λ text. text ++ denoted_text c.in_ok-names.names) rows
    ∙ ap (λ numbered. grid_text (stage_rows (name_by numbered) ids stages path down) ++ denoted_text numbered) c.in_ok-names.ensures
    ∙ ap (λ ids. spec.table_of ids stages path down) c.as_slice-ids.ensures.ids
    ∙ ap (λ set. spec.table_of (ascending set) stages path down) c.in_ok-members.ensures
