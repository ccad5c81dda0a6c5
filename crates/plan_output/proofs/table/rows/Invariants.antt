use Rattle.std.proofs.Common.{◌≡◌, ◌++◌, drop}
use Rattle.std.specs.Prelude.{option_copied}
use Rattle.plan_output.specs.Names.{name_by}
use Rattle.plan_output.specs.Table.{rows_of, stage_rows}
use Rattle.plan_output.proofs.table.rows.Given as goal

-- the rows so far, before those of the other stages, are all rows
abbrev pub invariant-loop-index : goal.invariant-loop-index
invariant-loop-index l =
    let name = name_by l.names in
    let ids = l.ids in
    let down = option_copied l.down in
    l.rows.items ++ rows_of name ids down l.path l.index (drop l.index l.stages) ≡ stage_rows name ids l.stages l.path down
