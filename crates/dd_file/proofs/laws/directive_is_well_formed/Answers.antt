use Rattle.std.proofs.Common.{◌≡◌, false, not, [], ◌∷◌, ◌++◌, refl, ◌∙◌, ap}
use Rattle.std.specs.Prelude.{Ok}
use Rattle.ascii_text.specs.WhiteSpace.{is_blank, trimmed}
use Rattle.dd_file.specs.Script.{Open, result_of, first_of, is_separator, directive, body}
use Rattle.dd_file.proofs.ScriptGrammar.Cuts.{cut-whole}
use Rattle.dd_file.proofs.ScriptGrammar.LinesOfItem.{first_of-head}
use Rattle.ascii_text.proofs.Offered.{is_blank-trimmed}
use Rattle.dd_file.proofs.laws.directive_is_well_formed.Goals as goal

-- a directive line alone, and no separator after it
pub returns : goal.returns
returns c n line input command comment some ends parses none are =
    let filled : is_blank (trimmed line) ≡ false = is_blank-trimmed line ∙ some in
    let whole : first_of ((line ∷ []) ++ input) ≡ Open (Ok (directive 1 command (line ∷ []) input [])) =
    first_of-head line [] input (record { comment = comment; blank = some; continued = []; last = line; is = refl; none = refl; ends = ap not ends })
    ∙ rw (filled, parses) (ap (body command (line ∷ [])) (cut-whole is_separator input none)) in
    record { number = n; lines = line ∷ input; are_lines = are; first = directive 1 command (line ∷ []) input []; is_first = ap result_of whole; is = refl }
