-- What an item that lines begin with was read from.
use Rattle.std.proofs.Common.{◌≡◌, ℕ, Bool, true, false, cond, ◌&&◌, List, [], ◌∷◌, ◌++◌, refl, sym, ◌∙◌, ap, subst, arith}
use Rattle.std.proofs.lemmas.Bool.{and_parts}
use Rattle.std.specs.Prelude.{Option, Some, None, Ok}
use Rattle.std.specs.List.{list_all, list_any}
use Rattle.std.proofs.lemmas.List.{append_assoc}
use Rattle.std.proofs.lemmas.List.Folds.{list_all-append}
use Rattle.ascii_text.specs.WhiteSpace.{is_blank}
use Rattle.dd_file.specs.Cut.{Cut, Whole, Parted, cut}
use Rattle.dd_file.specs.DirectiveLine.{CommandText, command_of}
use Rattle.dd_file.specs.Script.{Ended, result_of, first_of, is_comment, is_last_line, is_separator, is_dashes, cut_at_pair, joined, directive, after_pair, in_double, in_single, after_separator, body, at_command, after_directive_lines, at_directive, at_line}
use Rattle.dd_file.specs.Laws.{is_line, IsWellFormed}
use Rattle.dd_file.specs.Items.{Item, Comment, Blank}
use Rattle.dd_file.proofs.ScriptGrammar.Cuts.{IsCut, IsWhole, IsParted, cut-is, cut-parted}

-- directive lines, which begin with this line: all but the last are continued
pub record IsHead (line : List ℕ) (rest : List (List ℕ)) : Type 0 where
  pub comment : is_comment line ≡ false
  pub blank : is_blank line ≡ false
  pub continued : List (List ℕ)
  pub last : List ℕ
  pub is : line ∷ rest ≡ continued ++ last ∷ []
  pub none : list_any is_last_line continued ≡ false
  pub ends : is_last_line last ≡ true

-- the item that begins with them
pub first_of-head : (line : List ℕ) (rest more : List (List ℕ)) → IsHead line rest → first_of ((line ∷ rest) ++ more) ≡ after_directive_lines (line ∷ rest) more
first_of-head line rest more is =
    rw (is.comment, is.blank) (ap (λ ls. at_directive (cut is_last_line (ls ++ more))) is.is ∙ ap (λ ls. at_directive (cut is_last_line ls)) (append_assoc is.continued (is.last ∷ []) more)
    ∙ ap at_directive (cut-parted is_last_line is.continued is.last more is.none is.ends) ∙ ap (λ ls. after_directive_lines ls more) (sym is.is))

-- an item at a line, and the lines that it was read from
pub data ReadItem : Item → Type 0 where
  ReadComment : (line : List ℕ) → is_line line ≡ true → is_comment line ≡ true → ReadItem (Comment (line ∷ []))
  ReadBlank : (line : List ℕ) → is_line line ≡ true → is_comment line ≡ false → is_blank line ≡ true → ReadItem (Blank (line ∷ []))
  ReadBlankHead : (line : List ℕ) (rest : List (List ℕ)) → IsHead line rest → list_all is_line (line ∷ rest) ≡ true → is_blank (joined (line ∷ rest)) ≡ true → ReadItem (Blank (line ∷ rest))
  ReadDirective : (n : ℕ) (command : CommandText) (line : List ℕ) (rest input expected : List (List ℕ)) → IsHead line rest → is_blank (joined (line ∷ rest)) ≡ false →
      command_of (joined (line ∷ rest)) ≡ Some command → list_any is_separator input ≡ false → list_all is_line ((line ∷ rest) ++ input) ≡ true →
      ReadItem (directive n command (line ∷ rest) input expected)

-- what is known of a directive that lines begin with
record IsDirective (command : CommandText) (directive_lines lines : List (List ℕ)) (item : Item) : Type 0 where
  input : List (List ℕ)
  expected : List (List ℕ)
  is : directive 1 command directive_lines input expected ≡ item
  none : list_any is_separator input ≡ false
  are_lines : list_all is_line lines ≡ true → list_all is_line input ≡ true

all-parts : (xs ys : List (List ℕ)) → list_all is_line (xs ++ ys) ≡ true → (list_all is_line xs ≡ true) × (list_all is_line ys ≡ true)
all-parts xs ys h = and_parts (list_all is_line xs) _ (sym (list_all-append is_line xs ys) ∙ h)

module _ (item : Item) where
  after_pair-item : (found : Item) (lines : List (List ℕ)) → result_of (after_pair found lines) ≡ Some (Ok item) → found ≡ item
  after_pair-item found [] is = cc
  after_pair-item found (line ∷ lines) is = grind arith

  module _ (command : CommandText) (directive_lines : List (List ℕ)) where
    -- the directive with these parts is the item
    abbrev IsWith : List (List ℕ) → Type 0
    IsWith input = (expected : List (List ℕ)) × (directive 1 command directive_lines input expected ≡ item)

    in_double-item : (input : List (List ℕ)) (found : Cut (List ℕ)) → result_of (in_double command directive_lines input found) ≡ Some (Ok item) → IsWith input
    in_double-item input (Whole xs) is = cc
    in_double-item input (Parted xs x ys) is = (xs, after_pair-item _ ys is)

    in_single-item : (input : List (List ℕ)) (found : Cut (List ℕ)) → result_of (in_single command directive_lines input found) ≡ Some (Ok item) → IsWith input
    in_single-item input (Whole xs) is = (xs, cc)
    in_single-item input (Parted xs x ys) is = (xs, cc)

    after_separator-item : (input lines : List (List ℕ)) → result_of (after_separator command directive_lines input lines) ≡ Some (Ok item) → IsWith input
    after_separator-item input [] is = ([], cc)
    after_separator-item input (line ∷ lines) is = at (is_dashes line) is where
      at : (c : Bool) → result_of (cond c (in_double command directive_lines input (cut_at_pair lines)) (in_single command directive_lines input (cut is_blank (line ∷ lines)))) ≡ Some (Ok item) → IsWith input
      at true k = in_double-item input (cut_at_pair lines) k
      at false k = in_single-item input (cut is_blank (line ∷ lines)) k

    body-item : (lines : List (List ℕ)) (found : Cut (List ℕ)) → IsCut is_separator lines found → result_of (body command directive_lines found) ≡ Some (Ok item) → IsDirective command directive_lines lines item
    body-item lines found (IsWhole xs none) is = record { input = xs; expected = []; is = cc; none = none; are_lines = λ h. h }
    body-item lines found (IsParted list xs x ys e none here) is =
        let with = after_separator-item xs ys is in
        record { input = xs; expected = with.0; is = with.1; none = none; are_lines = λ h. (all-parts xs (x ∷ ys) (sym (ap (list_all is_line) e) ∙ h)).0 }

  -- directive lines, and the lines after them
  head-item : (n : ℕ) (line : List ℕ) (rest lines : List (List ℕ)) → IsHead line rest → list_all is_line (line ∷ rest) ≡ true → list_all is_line lines ≡ true →
      result_of (after_directive_lines (line ∷ rest) lines) ≡ Some (Ok item) → ReadItem (at_line n item)
  head-item n line rest lines is own others found = at (is_blank (joined (line ∷ rest))) refl (command_of (joined (line ∷ rest))) refl found where
    at : (blank : Bool) → is_blank (joined (line ∷ rest)) ≡ blank → (command : Option CommandText) → command_of (joined (line ∷ rest)) ≡ command →
        result_of (cond blank (Ended (Ok (Blank (line ∷ rest))) lines) (at_command command (line ∷ rest) lines)) ≡ Some (Ok item) → ReadItem (at_line n item)
    at true blank command parses k = let same : Blank (line ∷ rest) ≡ item = cc in subst (λ i. ReadItem (at_line n i)) same (ReadBlankHead line rest is own blank)
    at false blank None parses k = cc
    at false blank (Some command) parses k =
        let found_is = body-item command (line ∷ rest) lines _ (cut-is is_separator lines) k in
        subst (λ i. ReadItem (at_line n i)) found_is.is (ReadDirective n command line rest found_is.input found_is.expected is blank parses found_is.none
        (list_all-append is_line (line ∷ rest) found_is.input ∙ ap (λ b. b && list_all is_line found_is.input) own ∙ found_is.are_lines others))

  -- lines that begin with an item
  pub first_of-item : (n : ℕ) (lines : List (List ℕ)) → list_all is_line lines ≡ true → result_of (first_of lines) ≡ Some (Ok item) → ReadItem (at_line n item)
  first_of-item n [] are is = cc
  first_of-item n (line ∷ lines) are is = at (is_comment line) (is_blank line) refl refl is where
    own : is_line line ≡ true
    own = (and_parts (is_line line) _ are).0

    -- the first line is the first directive line
    first : (xs : List (List ℕ)) (x : List ℕ) (ys : List (List ℕ)) → line ∷ lines ≡ xs ++ x ∷ ys → (rest : List (List ℕ)) × (line ∷ rest ≡ xs ++ x ∷ [])
    first [] x ys e = let same : line ≡ x = cc in ([], ap (λ l. l ∷ []) same)
    first (z ∷ xs) x ys e = let same : line ≡ z = cc in (xs ++ x ∷ [], ap (λ l. l ∷ (xs ++ x ∷ [])) same)

    directive_lines : (found : Cut (List ℕ)) → IsCut is_last_line (line ∷ lines) found → is_comment line ≡ false → is_blank line ≡ false → result_of (at_directive found) ≡ Some (Ok item) → ReadItem (at_line n item)
    directive_lines found (IsWhole xs none) comment blank k = cc
    directive_lines found (IsParted list xs x ys e none here) comment blank k =
        let begun = first xs x ys e in
        let all = all-parts (xs ++ x ∷ []) ys (ap (list_all is_line) (append_assoc xs (x ∷ []) ys ∙ sym e) ∙ are) in
        head-item n line begun.0 ys (record { comment = comment; blank = blank; continued = xs; last = x; is = begun.1; none = none; ends = here })
        (ap (list_all is_line) begun.1 ∙ all.0) all.1 (ap (λ ls. result_of (after_directive_lines ls ys)) begun.1 ∙ k)

    at : (c d : Bool) → is_comment line ≡ c → is_blank line ≡ d →
        result_of (cond c (Ended (Ok (Comment (line ∷ []))) lines) (cond d (Ended (Ok (Blank (line ∷ []))) lines) (at_directive (cut is_last_line (line ∷ lines))))) ≡ Some (Ok item) → ReadItem (at_line n item)
    at true d comment blank k = let same : Comment (line ∷ []) ≡ item = cc in subst (λ i. ReadItem (at_line n i)) same (ReadComment line own comment)
    at false true comment blank k = let same : Blank (line ∷ []) ≡ item = cc in subst (λ i. ReadItem (at_line n i)) same (ReadBlank line own comment blank)
    at false false comment blank k = directive_lines _ (cut-is is_last_line (line ∷ lines)) comment blank k

pub given-read : (item : Item) → IsWellFormed item → ReadItem item
given-read item given = subst ReadItem (sym given.is) (first_of-item given.first given.number given.lines given.are_lines given.is_first)
