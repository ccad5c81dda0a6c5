-- The first item of some lines where more lines follow: an ended one stays what it is, and a blank line ends an open
-- directive with its separator.
use Rattle.std.proofs.lemmas.Grind.{common_steps}
use Rattle.std.proofs.Common.{◌≡◌, ℕ, ◌+◌, ◌-◌, ◌<◌, ◌≤◌, Bool, true, false, cond, List, [], ◌∷◌, ◌++◌, length, drop, refl, sym, ◌∙◌, ap, subst, length-append, arith, rules}
use Rattle.std.specs.Prelude.{Option, Some, None, Result, Ok, Err}
use Rattle.std.proofs.Math.Seq.{drop-append_seam}
use Rattle.std.proofs.lemmas.List.{append_assoc}
use Rattle.ascii_text.specs.WhiteSpace.{is_blank}
use Rattle.dd_file.specs.Cut.{Cut, cut}
use Rattle.dd_file.specs.DirectiveLine.{CommandText, command_of}
use Rattle.dd_file.specs.Script.{FirstItem, NoItem, Ended, Open, result_of, lines_left, first_of, is_comment, is_last_line, is_separator, is_dashes, cut_at_pair, joined, directive, after_pair, in_double, in_single, after_separator, body, at_command, after_directive_lines, at_directive}
use Rattle.dd_file.specs.Laws.{has_separator}
use Rattle.dd_file.specs.Items.{Item, Comment, Blank}
use Rattle.dd_file.specs.declared.fault.SyntaxFault.{SyntaxFault}
use Rattle.dd_file.specs.declared.fault.SyntaxFault.TheVariants.{AfterDouble}
use Rattle.dd_file.proofs.ScriptGrammar.Cuts.{IsCut, IsWhole, IsParted, cut-is, cut-parted, cut-local, IsPair, NoPair, HasPair, pair-is}

-- the fewest lines that an item with this result has
abbrev pub fewest : Result Item SyntaxFault → ℕ
fewest (Err AfterDouble) = 2
fewest result = 1

-- these lines are left after an item of `least` lines or more
pub record IsLeft (least : ℕ) (lines left : List (List ℕ)) : Type 0 where
  pub own : List (List ℕ)
  pub is : lines ≡ own ++ left
  pub some : least ≤ length own

-- after a part of the item and one more line
left-parted : (j k : ℕ) (whole lines xs : List (List ℕ)) (x : List ℕ) (ys : List (List ℕ)) → IsLeft j whole lines → lines ≡ xs ++ x ∷ ys → k ≤ j + 1 → IsLeft k whole ys
left-parted j k whole lines xs x ys left e le =
    let some = left.some in
    let outer = length-append left.own (xs ++ x ∷ []) in
    let inner = length-append xs (x ∷ []) in
    record {
      own = left.own ++ (xs ++ x ∷ []);
      is = left.is ∙ ap (λ t. left.own ++ t) (e ∙ sym (append_assoc xs (x ∷ []) ys)) ∙ sym (append_assoc left.own (xs ++ x ∷ []) ys);
      some = omega (arith, some, outer, inner, le);
    }

-- an open item with these lines is ended by a blank line, if it is a directive with its separator
abbrev Closes : List (List ℕ) → List (List ℕ) → Result Item SyntaxFault → FirstItem Item → Type 0
Closes more lines result grown = (left : List (List ℕ)) (item : Item) → more ≡ [] ∷ left → result ≡ Ok item → has_separator item 0 (length lines) ≡ true → grown ≡ Ended result left

-- the first item of these lines, and what it is where more lines follow
abbrev Grows : List (List ℕ) → List (List ℕ) → FirstItem Item → FirstItem Item → Type 0
Grows more lines NoItem grown = lines ≡ []
Grows more lines (Ended result left) grown = IsLeft (fewest result) lines left × (grown ≡ Ended result (left ++ more))
Grows more lines (Open result) grown = (fewest result ≤ length lines) × Closes more lines result grown

left-some : (k : ℕ) (whole lines : List (List ℕ)) → IsLeft k whole lines → k ≤ length whole
left-some k whole lines left = let some = left.some in let all = ap length left.is in let len = length-append left.own lines in omega (arith, some, all, len)

module _ (more whole : List (List ℕ)) where
  after_pair-grows : (item : Item) (lines : List (List ℕ)) → IsLeft 1 whole lines → Grows more whole (after_pair item lines) (after_pair item (lines ++ more))
  after_pair-grows item [] own = (left-some 1 whole [] own, λ left other e is separated. rw e refl)
  after_pair-grows item (line ∷ lines) own = at (is_blank line) where
    at : (c : Bool) → Grows more whole (cond c (Ended (Ok item) lines) (Ended (Err AfterDouble) lines)) (cond c (Ended (Ok item) (lines ++ more)) (Ended (Err AfterDouble) (lines ++ more)))
    at true = (left-parted 1 1 whole _ [] line lines own refl (omega arith), refl)
    at false = (left-parted 1 2 whole _ [] line lines own refl (omega arith), refl)

  module _ (command : CommandText) (directive_lines : List (List ℕ)) where
    in_double-grows : (input lines : List (List ℕ)) (found : Cut (List ℕ)) → IsPair lines found → IsLeft 1 whole lines →
        Grows more whole (in_double command directive_lines input found) (in_double command directive_lines input (cut_at_pair (lines ++ more)))
    in_double-grows input lines found (NoPair xs) own = (left-some 1 whole lines own, λ left item e is separated. cc)
    in_double-grows input lines found (HasPair xs x y ys e same) own = rw (same more) (after_pair-grows _ ys (left-parted 1 1 whole lines (xs ++ x ∷ []) y ys own e (omega arith)))

    in_single-grows : (input lines : List (List ℕ)) (found : Cut (List ℕ)) → IsCut is_blank lines found → IsLeft 1 whole lines →
        Grows more whole (in_single command directive_lines input found) (in_single command directive_lines input (cut is_blank (lines ++ more)))
    in_single-grows input lines found (IsWhole xs none) own = grind (arith, common_steps, left-some, own, cut-parted)
    in_single-grows input lines found (IsParted list xs x ys e none here) own = grind (arith, cut-local, left-parted, own)

    after_separator-grows : (input lines : List (List ℕ)) → IsLeft 1 whole lines →
        Grows more whole (after_separator command directive_lines input lines) (after_separator command directive_lines input (lines ++ more))
    after_separator-grows input [] own = (left-some 1 whole [] own, λ left item e is separated. rw e refl)
    after_separator-grows input (line ∷ lines) own = at (is_dashes line) where
      at : (c : Bool) → Grows more whole (cond c (in_double command directive_lines input (cut_at_pair lines)) (in_single command directive_lines input (cut is_blank (line ∷ lines))))
          (cond c (in_double command directive_lines input (cut_at_pair (lines ++ more))) (in_single command directive_lines input (cut is_blank ((line ∷ lines) ++ more))))
      at true = in_double-grows input lines _ (pair-is lines) (left-parted 1 1 whole _ [] line lines own refl (omega arith))
      at false = in_single-grows input (line ∷ lines) _ (cut-is is_blank (line ∷ lines)) own

    body-grows : (lines : List (List ℕ)) (found : Cut (List ℕ)) → IsCut is_separator lines found → whole ≡ directive_lines ++ lines → 1 ≤ length directive_lines →
        Grows more whole (body command directive_lines found) (body command directive_lines (cut is_separator (lines ++ more)))
    body-grows lines found (IsWhole xs none) all some =
        (left-some 1 whole xs (record { own = directive_lines; is = all; some = some }), λ left item e is separated. let same : directive 1 command directive_lines xs [] ≡ item = cc in absurd (unseparated (subst (λ i. has_separator i 0 (length whole) ≡ true) (sym same) separated))) where
          unseparated : has_separator (directive 1 command directive_lines xs []) 0 (length whole) ≡ true → ⊥
          unseparated separated =
              let fewer : length (directive_lines ++ xs) + 0 < length whole = search rules in
              let same = ap length all in
              omega (arith, fewer, same)
    body-grows lines found (IsParted list xs x ys e none here) all some =
        rw (cut-local is_separator list xs x ys more e none here) (after_separator-grows xs ys (left-parted 1 1 whole list xs x ys (record { own = directive_lines; is = all; some = some }) e (omega arith)))

  after_directive_lines-grows : (directive_lines lines : List (List ℕ)) → whole ≡ directive_lines ++ lines → 1 ≤ length directive_lines →
      Grows more whole (after_directive_lines directive_lines lines) (after_directive_lines directive_lines (lines ++ more))
  after_directive_lines-grows directive_lines lines all some = at (is_blank (joined directive_lines)) (command_of (joined directive_lines)) where
    at : (c : Bool) (command : Option CommandText) → Grows more whole (cond c (Ended (Ok (Blank directive_lines)) lines) (at_command command directive_lines lines))
        (cond c (Ended (Ok (Blank directive_lines)) (lines ++ more)) (at_command command directive_lines (lines ++ more)))
    at true command = (record { own = directive_lines; is = all; some = some }, refl)
    at false None = (record { own = directive_lines; is = all; some = some }, refl)
    at false (Some command) = body-grows command directive_lines lines _ (cut-is is_separator lines) all some

at_directive-grows : (more lines : List (List ℕ)) (found : Cut (List ℕ)) → IsCut is_last_line lines found → 1 ≤ length lines → Grows more lines (at_directive found) (at_directive (cut is_last_line (lines ++ more)))
at_directive-grows more lines found (IsWhole xs none) begun = (begun, λ left item e is separated. cc)
at_directive-grows more lines found (IsParted list xs x ys e none here) begun = grind (arith, length-append, cut-local, after_directive_lines-grows, append_assoc)

first_of-grows : (more lines : List (List ℕ)) → Grows more lines (first_of lines) (first_of (lines ++ more))
first_of-grows more [] = refl
first_of-grows more (line ∷ lines) = at (is_comment line) (is_blank line) (at_directive-grows more (line ∷ lines) _ (cut-is is_last_line (line ∷ lines)) (omega arith)) where
  own : IsLeft 1 (line ∷ lines) lines
  own = record { own = line ∷ []; is = refl; some = omega arith }

  at : (c d : Bool) → Grows more (line ∷ lines) (at_directive (cut is_last_line (line ∷ lines))) (at_directive (cut is_last_line ((line ∷ lines) ++ more))) →
      Grows more (line ∷ lines) (cond c (Ended (Ok (Comment (line ∷ []))) lines) (cond d (Ended (Ok (Blank (line ∷ []))) lines) (at_directive (cut is_last_line (line ∷ lines)))))
      (cond c (Ended (Ok (Comment (line ∷ []))) (lines ++ more)) (cond d (Ended (Ok (Blank (line ∷ []))) (lines ++ more)) (at_directive (cut is_last_line ((line ∷ lines) ++ more)))))
  at true d grows = (own, refl)
  at false true grows = (own, refl)
  at false false grows = grows

-- an ended item stays what it is, whatever lines follow
pub first_of-local : (lines left more : List (List ℕ)) (result : Result Item SyntaxFault) → first_of lines ≡ Ended result left → first_of (lines ++ more) ≡ Ended result (left ++ more)
first_of-local lines left more result is = (subst (λ first. Grows more lines first (first_of (lines ++ more))) is (first_of-grows more lines)).1

-- the lines of an item, and those that are left
pub first_of-left : (lines left : List (List ℕ)) (result : Result Item SyntaxFault) → first_of lines ≡ Ended result left → IsLeft (fewest result) lines left
first_of-left lines left result is = (subst (λ first. Grows [] lines first (first_of (lines ++ []))) is (first_of-grows [] lines)).0

-- a blank line ends an open directive with its separator
pub first_of-closes : (lines left : List (List ℕ)) (item : Item) → first_of lines ≡ Open (Ok item) → has_separator item 0 (length lines) ≡ true → first_of (lines ++ [] ∷ left) ≡ Ended (Ok item) left
first_of-closes lines left item is separated = (subst (λ first. Grows ([] ∷ left) lines first (first_of (lines ++ [] ∷ left))) is (first_of-grows ([] ∷ left) lines)).1 left item refl refl separated

-- lines have a first item
pub first_of-none : (lines : List (List ℕ)) → result_of (first_of lines) ≡ None → lines ≡ []
first_of-none lines is = at (first_of lines) (first_of-grows [] lines) is where
  at : (first : FirstItem Item) → Grows [] lines first (first_of (lines ++ [])) → result_of first ≡ None → lines ≡ []
  at NoItem none e = none
  at (Ended r left) own e = cc
  at (Open r) own e = cc

-- .. which has one of them at least
pub fewest-some : (result : Result Item SyntaxFault) → 1 ≤ fewest result
fewest-some result = grind arith

pub first_of-fewest : (lines : List (List ℕ)) (result : Result Item SyntaxFault) → result_of (first_of lines) ≡ Some result → fewest result ≤ length lines
first_of-fewest lines result is = at (first_of lines) (first_of-grows [] lines) is where
  at : (first : FirstItem Item) → Grows [] lines first (first_of (lines ++ [])) → result_of first ≡ Some result → fewest result ≤ length lines
  at NoItem none e = cc
  at (Ended r left) own e = let same : r ≡ result = cc in subst (λ x. fewest x ≤ length lines) same (left-some _ lines left own.0)
  at (Open r) own e = let same : r ≡ result = cc in subst (λ x. fewest x ≤ length lines) same own.0

pub lines_left-shorter : (line : List ℕ) (lines : List (List ℕ)) → length (lines_left (first_of (line ∷ lines))) < length (line ∷ lines)
lines_left-shorter line lines = at (first_of (line ∷ lines)) (first_of-grows [] (line ∷ lines)) where
  at : (first : FirstItem Item) → Grows [] (line ∷ lines) first (first_of ((line ∷ lines) ++ [])) → length (lines_left first) < length (line ∷ lines)
  at NoItem none = omega arith
  at (Ended r left) own = let some = own.0.some in let fewest = fewest-some r in let all = ap length own.0.is in let len = length-append own.0.own left in omega (arith, some, fewest, all, len)
  at (Open r) own = omega arith

-- the lines that are left, by how many there are
pub left-drop : (lines left : List (List ℕ)) (k : ℕ) → IsLeft k lines left → drop (length lines - length left) lines ≡ left
left-drop lines left k own = grind (arith, common_steps, length-append, own, drop-append_seam)
