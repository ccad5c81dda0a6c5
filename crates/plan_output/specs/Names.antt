-- The names of the ids of a table: their digits, or numbers where the ids are too long to be read there (own).
use Rattle.std.specs.Prelude.{ℕ, Bool, false, List, [], ◌∷◌, ◌++◌, map, length, codes, decimal, ◌==◌, nat_le, nat_lt, count_by, Option, Some, None, if◌then◌else◌}
use Rattle.std.specs.Fmt.{digits}
use Rattle.std.specs.List.{join_with_byte, list_any}
use Rattle.ascii_text.specs.Lines.{newline}
use Rattle.conf_change.specs.ChangeList.{letter_of}
use Rattle.conf_change.specs.Step.{changes_of}
use Rattle.conf_change.specs.declared.change.Change.{Change}
use Rattle.conf_change.specs.declared.step.Step.{Step}
use Rattle.conf_plan.specs.PlanText.{command_tokens}
use Rattle.plan_output.specs.Grid.{grid_text}

-- ---- which name an id has
-- whether an id has more than six digits
abbrev pub is_long : ℕ → Bool
is_long id = nat_lt 6 (length (decimal id))

-- the ids that are called by numbers: all ids of the table if one of them is long, and none otherwise
abbrev pub numbered_of : List ℕ → List ℕ
numbered_of ids = if list_any is_long ids then ids else []

-- the number of an id if it is one of the numbered ids: how many of these are at most it
abbrev pub number_in : List ℕ → ℕ → Option ℕ
number_in numbered id = if list_any (λ other. id == other) numbered then Some (count_by (λ other. nat_le other id) numbered) else None

-- # and the number, as #2, or the digits of the id if it has no number
abbrev pub name_as : ℕ → Option ℕ → List ℕ
name_as id (Some number) = codes "#" ++ decimal number
name_as id None = decimal id

-- the name of an id in a table where these ids are numbered
unfoldable pub name_by : List ℕ → ℕ → List ℕ
name_by numbered id = name_as id (number_in numbered id)

-- ---- where names stand
-- the names of ids, with one space between
abbrev pub names_text : (ℕ → List ℕ) → List ℕ → List ℕ
names_text name ids = join_with_byte 32 (map name ids)

-- a change: its letter, and the name of its id
abbrev pub named_change : (ℕ → List ℕ) → Change → List ℕ
named_change name change = letter_of change.kind ∷ name change.id

-- the line of a step, with the names of its ids: simple l4, or simple l#1
abbrev pub named_line : (ℕ → List ℕ) → Step → List ℕ
named_line name step = join_with_byte 32 (command_tokens step ++ map (named_change name) (changes_of step))

-- ---- which id a name denotes
-- the row of an id below the table: its name, its decimal and its hexadecimal digits
abbrev pub denoted_row : (ℕ → List ℕ) → ℕ → List (List ℕ)
denoted_row name id = name id ∷ decimal id ∷ digits 16 false id ∷ []

-- what follows the table: an empty line and a row for each of the numbered ids, or nothing if there is none
abbrev pub denoted_text : List ℕ → List ℕ
denoted_text [] = []
denoted_text (id ∷ ids) = newline ++ grid_text (map (denoted_row (name_by (id ∷ ids))) (id ∷ ids))
