-- In which form a configuration is written, by its first bytes after white space.
use Rattle.std.specs.Prelude.{ℕ, List, codes, nat_eq, if◌then◌else◌}
use Rattle.std.specs.List.{starts_with}
use Rattle.ascii_text.specs.WhiteSpace.{trimmed}
use Rattle.plan_input.specs.declared.form.Form.{Form}
use Rattle.plan_input.specs.declared.form.Form.TheVariants.{Json, ConfStateLine, Printed, Other}

-- the form of a text without white space at its ends
abbrev pub form_of_trimmed : List ℕ → Form
form_of_trimmed text =
    if starts_with nat_eq text (codes "{") then Json
    else (if starts_with nat_eq text (codes "Voters:") then ConfStateLine
    else (if starts_with nat_eq text (codes "voters") then Printed
    else Other))

-- the form of a text
abbrev pub form_of : List ℕ → Form
form_of text = form_of_trimmed (trimmed text)
