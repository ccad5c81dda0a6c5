-- The table of a path: a row for the configuration with which it begins, and one for each step. Each cell is given the
-- names of the ids.
use Rattle.std.specs.Prelude.{ℕ, ◌+◌, ◌-◌, ◌==◌, not, ◌&&◌, List, [], ◌∷◌, ◌++◌, map, length, replicate, codes, decimal, flat_map, slice_get, Option, Some, None, if◌then◌else◌}
use Rattle.std.specs.List.{join_with_byte}
use Rattle.quorum_sets.specs.Ids.{Ids, has, ascending, size, ids_of, is_empty}
use Rattle.quorum_sets.specs.Voters.{majority}
use Rattle.conf_change.specs.Configuration.{Configuration, is_joint, members}
use Rattle.conf_change.specs.Text.{text_if}
use Rattle.conf_change.specs.declared.step.Step.{Step}
use Rattle.plan_output.specs.Grid.{grid_text}
use Rattle.plan_output.specs.Names.{denoted_text, name_by, named_line, names_text, numbered_of}
use Rattle.plan_output.specs.Stages.{StageState, stages, stage_may_be_down, while_catching_up, may_be_down_besides}

-- ---- the cells of a row
-- The mark of an id: `V` for a voter, of both sets in a joint configuration; `+` for an incoming voter alone; `-` for
-- an outgoing voter alone, or `~` if it is a next learner; `L` for a learner; `.` for an id that is not a member.
abbrev pub mark : Configuration → ℕ → List ℕ
mark c id =
    if has c.incoming id then (if is_joint c && not (has c.outgoing id) then codes "+" else codes "V")
    else (if has c.outgoing id then (if has c.learners_next id then codes "~" else codes "-")
    else (if has c.learners id then codes "L" else codes "."))

-- a cell, padded on the left with spaces to this width
abbrev pub flush_right : ℕ → List ℕ → List ℕ
flush_right width cell = replicate (width - length cell) 32 ++ cell

-- the marks of ids, each flush right below the name of its id
abbrev pub marks_text : (ℕ → List ℕ) → List ℕ → Configuration → List ℕ
marks_text name ids c = join_with_byte 32 (map (λ id. flush_right (length (name id)) (mark c id)) ids)

-- the majority of a set and how many ids it has: 2 of 3
abbrev pub majority_of : Ids → List ℕ
majority_of ids = decimal (majority (size ids)) ++ codes " of " ++ decimal (size ids)

-- the majority of the voters, or in a joint configuration of the incoming and of the outgoing ones: 3 of 5 and 2 of 3
abbrev pub majority_text : Configuration → List ℕ
majority_text c = majority_of c.incoming ++ text_if (is_joint c) (codes " and " ++ majority_of c.outgoing)

-- how many ids may be down, or stalls if the voters that count are not a quorum even with none down
abbrev pub down_text : Option ℕ → List ℕ
down_text (Some most) = decimal most
down_text None = codes "stalls"

-- how many ids may be down until the members have caught up; empty if none has to
abbrev pub until_text : StageState → List ℕ
until_text stage = text_if (not (is_empty stage.catching_up)) (down_text (while_catching_up stage))

-- the last cell, if ids are given that are down: how many may be down besides these
abbrev pub besides_cells : Option Ids → StageState → List (List ℕ)
besides_cells None stage = []
besides_cells (Some down) stage = down_text (may_be_down_besides stage down) ∷ []

-- the row of a stage, which begins with its name
abbrev pub row : (ℕ → List ℕ) → List ℕ → Option Ids → List ℕ → StageState → List (List ℕ)
row name ids down stage_name stage =
    stage_name ∷ marks_text name ids stage.config ∷ majority_text stage.config ∷ down_text (stage_may_be_down stage)
    ∷ names_text name (ascending stage.catching_up) ∷ until_text stage ∷ besides_cells down stage

-- ---- the rows
-- the heading of the column for these ids that are down: besides 4 5
abbrev pub besides_heading : (ℕ → List ℕ) → Ids → List ℕ
besides_heading name down = codes "besides " ++ names_text name (ascending down)

-- the last heading, if ids are given that are down
abbrev pub besides_headings : (ℕ → List ℕ) → Option Ids → List (List ℕ)
besides_headings name None = []
besides_headings name (Some down) = besides_heading name down ∷ []

-- the headings of the columns
abbrev pub headings : (ℕ → List ℕ) → List ℕ → Option Ids → List (List ℕ)
headings name ids down =
    codes "step" ∷ names_text name ids ∷ codes "majority" ∷ codes "may be down" ∷ codes "catch up" ∷ codes "until then" ∷ besides_headings name down

-- the name of a step: its number, counted from 1, and its line
abbrev pub step_name : (ℕ → List ℕ) → ℕ → Step → List ℕ
step_name name number step = decimal number ++ codes " " ++ named_line name step

-- the name of a stage with this number, if this step leads to it: no step leads to the first one
abbrev pub name_after : (ℕ → List ℕ) → ℕ → Option Step → List ℕ
name_after name number None = codes "now"
name_after name number (Some step) = step_name name number step

-- the name of the stage at this index, counted from 0
abbrev pub stage_name : (ℕ → List ℕ) → List Step → ℕ → List ℕ
stage_name name steps index = name_after name index (if index == 0 then None else slice_get steps (index - 1))

-- a row for each stage, the first of which has this index
abbrev pub rows_of : (ℕ → List ℕ) → List ℕ → Option Ids → List Step → ℕ → List StageState → List (List (List ℕ))
rows_of name ids down steps index [] = []
rows_of name ids down steps index (stage ∷ stages) =
    row name ids down (stage_name name steps index) stage ∷ rows_of name ids down steps (index + 1) stages

-- the headings, and a row for each stage, with columns for these ids
abbrev pub stage_rows : (ℕ → List ℕ) → List ℕ → List StageState → List Step → Option Ids → List (List (List ℕ))
stage_rows name ids all steps down = headings name ids down ∷ rows_of name ids down steps 0 all

-- ---- the table
-- the ids that are members at some stage
abbrev pub ids_on_the_way : List StageState → Ids
ids_on_the_way all = ids_of (flat_map (λ stage. members stage.config) all)

-- The table with columns for these ids: the rows, and after them which ids the names denote, if they are numbers.
abbrev pub table_of : List ℕ → List StageState → List Step → Option Ids → List ℕ
table_of ids all steps down = grid_text (stage_rows (name_by (numbered_of ids)) ids all steps down) ++ denoted_text (numbered_of ids)

-- the table of a path; if ids are given that are down, its last column shows how many may be down besides these
abbrev pub table_text : Configuration → List Step → Option Ids → List ℕ
table_text now steps down =
    let all = stages now steps in
    table_of (ascending (ids_on_the_way all)) all steps down
