-- The values that an iterator has left.
use Rattle.std.specs.Prelude.{ℕ, List, [], ◌∷◌, map}
use Rattle.ascii_text.specs.WhiteSpace.{trimmed}
use Rattle.dd_file.specs.DirectiveLine.{split_at_commas}
use Rattle.dd_file.specs.declared.values.ValuesKind.{ValuesKind}
use Rattle.dd_file.specs.declared.values.ValuesKind.TheVariants.{Nothing, Plain, Listed}

-- the values that are left in a text of this kind
abbrev pub values_left : ValuesKind → List ℕ → List (List ℕ)
values_left Nothing text = []
values_left Plain text = text ∷ []
values_left Listed text = map trimmed (split_at_commas text)
