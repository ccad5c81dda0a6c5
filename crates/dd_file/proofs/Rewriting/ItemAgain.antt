-- An item that is written is read again as that item.
use Rattle.std.proofs.Common.{◌≡◌, ℕ, Bool, true, false, ◌&&◌, List, [], ◌∷◌, ◌++◌, map, refl, sym, ◌∙◌, ap, subst, arith}
use Rattle.std.proofs.lemmas.Bool.{and_parts}
use Rattle.std.specs.Prelude.{Some, Ok}
use Rattle.std.specs.List.{list_all, list_any}
use Rattle.std.proofs.lemmas.List.{append_assoc, append-nil, map-append}
use Rattle.std.proofs.lemmas.List.Folds.{list_all-append}
use Rattle.ascii_text.specs.Lines.{newline, lines_of, text_of}
use Rattle.ascii_text.specs.WhiteSpace.{is_blank, without_trailing_space}
use Rattle.dd_file.specs.Cut.{cut}
use Rattle.dd_file.specs.DirectiveLine.{CommandText, command_of}
use Rattle.dd_file.specs.Script.{FirstItem, Ended, Open, first_of, joined, is_comment, is_separator, is_dashes, directive, in_single, after_separator, body, at_line}
use Rattle.dd_file.specs.ItemDraft.{dashes_line, has_pair}
use Rattle.dd_file.specs.Rewritten.{entry_text, output_text, opening, closing, has_blank_line, is_output, is_output_line}
use Rattle.dd_file.specs.Laws.{is_line, IsSameItem}
use Rattle.dd_file.specs.Items.{Item, Comment, Blank}
use Rattle.dd_file.proofs.TextLines.CarriageReturns.{without_return, without_returns, trimmed-without_return, ends-without_returns, any-without_returns, is_separator-without_return, is_last_line-without_return, joined-without_returns}
use Rattle.ascii_text.proofs.Offered.{is_blank-without_last}
use Rattle.dd_file.proofs.TextLines.CutAgain.{lines_of-text_of, text_of-append, IsOutputOf, output-lines, output-returns, has_blank_line-lines}
use Rattle.dd_file.proofs.ScriptGrammar.Cuts.{cut-parted, cut-whole, pair-parted}
use Rattle.dd_file.proofs.TextLines.EqualButReturns.{input-again}
use Rattle.dd_file.proofs.ScriptGrammar.LinesOfItem.{IsHead, first_of-head, ReadItem, ReadComment, ReadBlank, ReadBlankHead, ReadDirective}

-- the lines of an output after its separator, with the blank line that ends it or without
abbrev pub output_after : Bool → Bool → List (List ℕ) → List (List ℕ)
output_after true false lines = lines ++ [] ∷ []
output_after true true lines = dashes_line ∷ lines ++ dashes_line ∷ dashes_line ∷ [] ∷ []
output_after false false lines = lines
output_after false true lines = dashes_line ∷ lines ++ dashes_line ∷ dashes_line ∷ []

-- after the blank line may stand any lines, without it none
abbrev pub lines_after : Bool → List (List ℕ) → List (List ℕ)
lines_after true more = more
lines_after false more = []

-- the lines that are written of a directive
abbrev pub lines_of_written : Bool → List (List ℕ) → Bool → List (List ℕ) → List (List ℕ)
lines_of_written is_ended raw double lines = raw ++ dashes_line ∷ output_after is_ended double lines

output_text-lines : (double : Bool) (lines : List (List ℕ)) → (opening double ++ text_of lines) ++ closing double ≡ text_of (dashes_line ∷ output_after true double lines)
output_text-lines false lines = append_assoc (opening false) (text_of lines) newline ∙ ap (λ t. opening false ++ t) (sym (text_of-append lines ([] ∷ [])))
output_text-lines true lines = grind (arith, append_assoc, text_of-append)

-- a directive is written as those lines
pub directive-text : (raw lines : List (List ℕ)) (found : List ℕ) → IsOutputOf lines found → text_of raw ++ output_text found ≡ text_of (lines_of_written true raw (has_blank_line found) lines)
directive-text raw lines found is = grind (arith, output_text-lines, text_of-append)

output_after-returns : (is_ended double : Bool) (lines : List (List ℕ)) → list_all is_output_line lines ≡ true → without_returns (output_after is_ended double lines) ≡ output_after is_ended double lines
output_after-returns true false lines h = map-append without_return lines ([] ∷ []) ∙ ap (λ t. t ++ [] ∷ []) (output-returns lines h)
output_after-returns true true lines h = grind (arith, map-append, without_return, output-returns)
output_after-returns false false lines h = output-returns lines h
output_after-returns false true lines h = grind (arith, map-append, without_return, output-returns)

output_after-lines : (is_ended double : Bool) (lines : List (List ℕ)) → list_all is_line lines ≡ true → list_all is_line (output_after is_ended double lines) ≡ true
output_after-lines true false lines h = list_all-append is_line lines ([] ∷ []) ∙ ap (λ b. b && true) h
output_after-lines true true lines h = list_all-append is_line lines (dashes_line ∷ dashes_line ∷ [] ∷ []) ∙ ap (λ b. b && true) h
output_after-lines false false lines h = h
output_after-lines false true lines h = list_all-append is_line lines (dashes_line ∷ dashes_line ∷ []) ∙ ap (λ b. b && true) h

pub lines_of_written-are : (is_ended double : Bool) (raw lines : List (List ℕ)) → list_all is_line raw ≡ true → list_all is_line lines ≡ true → list_all is_line (lines_of_written is_ended raw double lines) ≡ true
lines_of_written-are is_ended double raw lines h k = grind (arith, list_all-append, output_after-lines)

-- those lines, written and cut again
written_lines : (is_ended double : Bool) (raw lines : List (List ℕ)) → list_all is_line raw ≡ true → list_all is_line lines ≡ true → list_all is_output_line lines ≡ true →
    lines_of (text_of (lines_of_written is_ended raw double lines)) ≡ without_returns raw ++ dashes_line ∷ output_after is_ended double lines
written_lines is_ended double raw lines h k output = grind (arith, lines_of-text_of, lines_of_written-are, map-append, without_return, without_returns, output_after-returns)

-- what is read of an item, ended by these lines or open at the end
abbrev pub found_as : Bool → Item → List (List ℕ) → FirstItem Item
found_as true item more = Ended (Ok item) more
found_as false item more = Open (Ok item)

-- no line of an output is four dashes, so the first is not, and there is no pair
output_line-dashes : (line : List ℕ) → is_output_line line ≡ true → is_dashes line ≡ false
output_line-dashes line h = grind arith

no-pair : (lines : List (List ℕ)) → list_all is_output_line lines ≡ true → has_pair (lines ++ dashes_line ∷ []) ≡ false
no-pair [] h = refl
no-pair (line ∷ []) h = grind (arith, output_line-dashes line)
no-pair (line ∷ next ∷ lines) h = grind (arith, output_line-dashes line, no-pair (next ∷ lines))

-- an output after a separator, read again
module _ (command : CommandText) (directive_lines input lines : List (List ℕ)) (output : list_all is_output_line lines ≡ true) where
  single-again : (tail : List (List ℕ)) → after_separator command directive_lines input tail ≡ in_single command directive_lines input (cut is_blank tail) →
      after_separator command directive_lines input (lines ++ tail) ≡ in_single command directive_lines input (cut is_blank (lines ++ tail))
  single-again tail same = at lines output where
    at : (ls : List (List ℕ)) → list_all is_output_line ls ≡ true → after_separator command directive_lines input (ls ++ tail) ≡ in_single command directive_lines input (cut is_blank (ls ++ tail))
    at [] h = same
    at (line ∷ ls) h = rw (output_line-dashes line (and_parts (is_output_line line) _ h).0) refl

  output-again : (is_ended double : Bool) (more : List (List ℕ)) → list_any is_blank lines ≡ double →
      after_separator command directive_lines input (output_after is_ended double lines ++ lines_after is_ended more) ≡ found_as is_ended (directive 1 command directive_lines input lines) more
  output-again true false more blank = grind (arith, append_assoc, single-again, cut-parted)
  output-again false false more blank = single-again [] refl ∙ ap (in_single command directive_lines input) (ap (cut is_blank) (append-nil lines) ∙ cut-whole is_blank lines blank)
  output-again true true more blank = grind (arith, append_assoc, pair-parted, no-pair)
  output-again false true more blank = grind (arith, append-nil, pair-parted, no-pair)

-- The lines of this text are read as the item again, ended by the last of them whatever lines follow, or by the end.
abbrev pub IsReadAs : Bool → ℕ → List (List ℕ) → List ℕ → List ℕ → Item → Type 0
IsReadAs is_ended m more text found item = (again : Item) × (first_of (lines_of text ++ lines_after is_ended more) ≡ found_as is_ended again more) × IsSameItem m found item (at_line m again)

-- what the law states of an item
abbrev pub IsReadAgain : ℕ → List (List ℕ) → List ℕ → Item → Type 0
IsReadAgain m more found item = IsReadAs true m more (entry_text item found) found item

-- directive lines without carriage returns
head-returns : (line : List ℕ) (rest : List (List ℕ)) → IsHead line rest → IsHead (without_return line) (without_returns rest)
head-returns line rest is = record {
  comment = rw (trimmed-without_return line) is.comment;
  blank = is_blank-without_last 13 line refl ∙ is.blank;
  continued = without_returns is.continued;
  last = without_return is.last;
  is = ap without_returns is.is ∙ map-append without_return is.continued (is.last ∷ []);
  none = any-without_returns _ is_last_line-without_return is.continued ∙ is.none;
  ends = is_last_line-without_return is.last ∙ is.ends;
}

-- a directive is read again
pub directive-again : (is_ended : Bool) (n m : ℕ) (command : CommandText) (line : List ℕ) (rest input expected more lines : List (List ℕ)) (found : List ℕ) → IsHead line rest →
    is_blank (joined (line ∷ rest)) ≡ false → command_of (joined (line ∷ rest)) ≡ Some command → list_any is_separator input ≡ false → list_all is_line ((line ∷ rest) ++ input) ≡ true → IsOutputOf lines found →
    IsReadAs is_ended m more (text_of (lines_of_written is_ended ((line ∷ rest) ++ input) (has_blank_line found) lines)) found (directive n command (line ∷ rest) input expected)
directive-again is_ended n m command line rest input expected more lines found is parses command_is none are found_is =
    let directive_lines = line ∷ rest in
    let double = has_blank_line found in
    let H = without_returns directive_lines in
    let I = without_returns input in
    let out = output_after is_ended double lines in
    let after = lines_after is_ended more in
    let joined_is = joined-without_returns directive_lines in
    let filled : is_blank (joined H) ≡ false = ap is_blank joined_is ∙ parses in
    let command_again : command_of (joined H) ≡ Some command = ap command_of joined_is ∙ command_is in
    let written : lines_of (text_of (lines_of_written is_ended (directive_lines ++ input) double lines)) ++ after ≡ H ++ (I ++ dashes_line ∷ (out ++ after)) =
    ap (λ t. t ++ after) (written_lines is_ended double (directive_lines ++ input) lines are found_is.are_lines found_is.are_output ∙ ap (λ t. t ++ dashes_line ∷ out) (map-append without_return directive_lines input))
    ∙ append_assoc (H ++ I) (dashes_line ∷ out) after ∙ append_assoc H I (dashes_line ∷ (out ++ after)) in
    let read : first_of (H ++ (I ++ dashes_line ∷ (out ++ after))) ≡ found_as is_ended (directive 1 command H I lines) more =
    first_of-head (without_return line) (without_returns rest) (I ++ dashes_line ∷ (out ++ after)) (head-returns line rest is) ∙ rw (filled, command_again)
    (ap (body command H) (cut-parted is_separator I dashes_line (out ++ after) (any-without_returns _ is_separator-without_return input ∙ none) refl)
    ∙ output-again command H I lines found_is.are_output is_ended double more (sym (has_blank_line-lines lines found found_is))) in (
      directive 1 command H I lines,
      ap first_of written ∙ read,
      (
        _,
        refl,
        record {
          line = refl;
          command = refl;
          arguments = refl;
          input = input-again input;
          expected = sym found_is.text;
          raw_lines = ap (map without_trailing_space) (sym (map-append without_return directive_lines input)) ∙ ends-without_returns (directive_lines ++ input);
        },
      ),
    )

-- a comment, a blank line and blank directive lines, which are written as they are
lines-again : (m : ℕ) (kind : List (List ℕ) → Item) (lines more : List (List ℕ)) (found : List ℕ) → list_all is_line lines ≡ true → entry_text (kind lines) found ≡ text_of lines ++ [] →
    first_of (without_returns lines ++ more) ≡ Ended (Ok (kind (without_returns lines))) more → IsSameItem m found (kind lines) (at_line m (kind (without_returns lines))) → IsReadAgain m more found (kind lines)
lines-again m kind lines more found are text read same = grind (arith, without_returns, append-nil, lines_of-text_of)

-- an item that was read is read again where it is written
pub read-again : (m : ℕ) (more : List (List ℕ)) (item : Item) (found : List ℕ) → is_output found ≡ true → ReadItem item → IsReadAgain m more found item
read-again m more item found output (ReadComment line are comment) =
    let still : is_comment (without_return line) ≡ true = rw (trimmed-without_return line) comment in
    lines-again m Comment (line ∷ []) more found (ap (λ b. b && true) are) refl (rw still refl) (_, refl, ends-without_returns (line ∷ []))
read-again m more item found output (ReadBlank line are comment blank) =
    let none : is_comment (without_return line) ≡ false = rw (trimmed-without_return line) comment in
    let still : is_blank (without_return line) ≡ true = is_blank-without_last 13 line refl ∙ blank in
    lines-again m Blank (line ∷ []) more found (ap (λ b. b && true) are) refl (rw (none, still) refl) (_, refl, ends-without_returns (line ∷ []))
read-again m more item found output (ReadBlankHead line rest is are blank) =
    let still : is_blank (joined (without_returns (line ∷ rest))) ≡ true = ap is_blank (joined-without_returns (line ∷ rest)) ∙ blank in
    lines-again m Blank (line ∷ rest) more found are refl (first_of-head (without_return line) (without_returns rest) more (head-returns line rest is) ∙ rw still refl) (_, refl, ends-without_returns (line ∷ rest))
read-again m more item found output (ReadDirective n command line rest input expected is parses command_is none are) =
    let found_is = output-lines found output in
    subst (λ (text : List ℕ). IsReadAs true m more text found (directive n command (line ∷ rest) input expected)) (sym (directive-text ((line ∷ rest) ++ input) found_is.0 found found_is.1))
    (directive-again true n m command line rest input expected more found_is.0 found is parses command_is none are found_is.1)
