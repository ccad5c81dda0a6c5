-- A script that is written again, with outputs that were found, is read again item by item.
use Rattle.std.proofs.Common.{◌≡◌, ℕ, ◌+◌, ◌≤◌, Bool, true, false, not, cond, ◌&&◌, List, [], ◌∷◌, ◌++◌, inl, inr, length, map, refl, sym, ◌∙◌, ap, subst, arith, rules}
use Rattle.std.proofs.lemmas.Bool.{and_parts}
use Rattle.std.proofs.lemmas.Bool.Decides.{nat_tests}
use Rattle.std.specs.Prelude.{Ok, ◌==◌, nat_eq, Some, None, flat_map}
use Rattle.std.specs.List.{list_all, list_any}
use Rattle.std.proofs.lemmas.List.{append_assoc, append-nil}
use Rattle.std.proofs.lemmas.List.Folds.{list_all-append}
use Rattle.ascii_text.specs.Lines.{newline, lines_of, text_of}
use Rattle.ascii_text.specs.WhiteSpace.{is_blank}
use Rattle.dd_file.specs.DirectiveLine.{CommandText, command_of}
use Rattle.dd_file.specs.Script.{Ended, Open, first_of, joined, is_comment, is_separator, directive, at_line}
use Rattle.dd_file.specs.Buffered.{is_whole_text}
use Rattle.dd_file.specs.ItemDraft.{dashes_line}
use Rattle.dd_file.specs.Position.{longest_input}
use Rattle.dd_file.specs.Grammar.{Script, script_of, with_first}
use Rattle.dd_file.specs.Rewritten.{Entry, entry, entry_text, has_blank_line, is_output, rewritten_text, without_double_end}
use Rattle.dd_file.specs.Laws.{is_line, AreWellFormed, IsSameItem, AreReadAgain, AreOver, LastIsRemoved, ReadAgain, ends_in_long_blank}
use Rattle.dd_file.specs.Items.{Item, Comment, Blank}
use Rattle.ascii_text.proofs.Offered.{list-by_last}
use Rattle.dd_file.proofs.TextLines.LastNewlines.{double_end-pushed}
use Rattle.dd_file.proofs.TextLines.CutAgain.{text_of-append, text_of-end, text_of-whole, output-lines}
use Rattle.dd_file.proofs.TextLines.TextAfter.{lines-append}
use Rattle.dd_file.proofs.ScriptGrammar.LinesOfItem.{IsHead, ReadItem, ReadComment, ReadBlank, ReadBlankHead, ReadDirective, given-read}
use Rattle.dd_file.proofs.ScriptGrammar.AllItems.{items_of, items_of-first, script_of-lines}
use Rattle.dd_file.proofs.Rewriting.ItemAgain.{read-again, directive-again, directive-text, lines_of_written, lines_of_written-are, output_after}

-- the entries are read again as the items of this script, which has no fault
abbrev IsAgain : List Entry → Script Item → Type 0
IsAgain entries script = (script.fault ≡ None) × AreReadAgain entries script.items

-- entries of items that the grammar gives, with outputs
abbrev AreWritten : List Entry → Type 0
AreWritten [] = Unit {0}
AreWritten (e ∷ entries) = ReadItem e.item × (is_output e.output ≡ true) × AreWritten entries

are-written : (entries : List Entry) → AreWellFormed (map (λ e. e.item) entries) → list_all (λ e. is_output e.output) entries ≡ true → AreWritten entries
are-written [] given output = tt
are-written (e ∷ entries) given output =
    let k = and_parts (is_output e.output) (list_all (λ e. is_output e.output) entries) output in (given-read e.item given.0, k.0, are-written entries given.1 k.1)

-- a text of whole lines
abbrev HasLines : List ℕ → Type 0
HasLines text = (lines : List (List ℕ)) × (text ≡ text_of lines) × (list_all is_line lines ≡ true)

entry-lines : (item : Item) (found : List ℕ) → is_output found ≡ true → ReadItem item → HasLines (entry_text item found)
entry-lines item found output (ReadComment line are comment) = (line ∷ [], append-nil (text_of (line ∷ [])), ap (λ b. b && true) are)
entry-lines item found output (ReadBlank line are comment blank) = (line ∷ [], append-nil (text_of (line ∷ [])), ap (λ b. b && true) are)
entry-lines item found output (ReadBlankHead line rest is are blank) = (line ∷ rest, append-nil (text_of (line ∷ rest)), are)
entry-lines item found output (ReadDirective n command line rest input expected is parses command_is none are) =
    let found_is = output-lines found output in
    let raw = (line ∷ rest) ++ input in (
      lines_of_written true raw (has_blank_line found) found_is.0,
      directive-text raw found_is.0 found found_is.1,
      lines_of_written-are true (has_blank_line found) raw found_is.0 are found_is.1.are_lines,
    )

-- an entry that is read again first, and others after it
read-first : (before m : ℕ) (lines left : List (List ℕ)) (e : Entry) (entries : List Entry) (again : Item) → items_of before lines ≡ with_first (at_line (before + 1) again) (items_of m left) →
    IsSameItem (before + 1) e.output e.item (at_line (before + 1) again) → IsAgain entries (items_of m left) → IsAgain (e ∷ entries) (items_of before lines)
read-first before m lines left e entries again whole same rest =
    subst (IsAgain (e ∷ entries)) (sym whole) (rest.0, ReadAgain (before + 1) e.item (at_line (before + 1) again) e.output entries _ same rest.1)

again-first : (before : ℕ) (e : Entry) (entries : List Entry) (more : List ℕ) → ReadItem e.item → is_output e.output ≡ true →
    ((k : ℕ) → IsAgain entries (items_of k (lines_of more))) → IsAgain (e ∷ entries) (items_of before (lines_of (entry_text e.item e.output ++ more)))
again-first before e entries more read output rest =
    let text = entry_text e.item e.output in
    let again = read-again (before + 1) (lines_of more) e.item e.output output read in
    let own = entry-lines e.item e.output output read in
    let lines = lines-append text more (ap is_whole_text own.1 ∙ text_of-whole own.0) in
    read-first before _ (lines_of (text ++ more)) (lines_of more) e entries again.0
    (items_of-first before (lines_of (text ++ more)) (Ended (Ok again.0) (lines_of more)) again.0 (ap first_of lines ∙ again.1) refl) again.2 (rest _)

no-entries : (k : ℕ) → IsAgain [] (items_of k [])
no-entries k = (refl, AreOver)

abbrev texts_of : List Entry → List ℕ
texts_of entries = flat_map (λ e. entry_text e.item e.output) entries

-- after this text: what is left of the entries at the end of a script is read as they are
abbrev IsRest : List ℕ → List Entry → Type 0
IsRest before entries = (left : List ℕ) × (without_double_end (before ++ texts_of entries) ≡ before ++ left) × ((m : ℕ) → IsAgain entries (items_of m (lines_of left)))

-- nothing is dropped
all-left : (before : List ℕ) (e : Entry) → ReadItem e.item → is_output e.output ≡ true → without_double_end (before ++ texts_of (e ∷ [])) ≡ before ++ texts_of (e ∷ []) → IsRest before (e ∷ [])
all-left before e read output same = (texts_of (e ∷ []), same, λ m. again-first m e [] [] read output no-entries)

-- the empty line after lines is dropped
empty-dropped : (before line : List ℕ) (lines : List (List ℕ)) → without_double_end (before ++ (text_of (line ∷ lines) ++ newline)) ≡ before ++ text_of (line ∷ lines)
empty-dropped before line lines =
    let part = text_of-end line lines in
    let end : before ++ text_of (line ∷ lines) ≡ (before ++ part.0) ++ newline = ap (λ t. before ++ t) part.1 ∙ sym (append_assoc before part.0 newline) in
    ap without_double_end (sym (append_assoc before (text_of (line ∷ lines)) newline) ∙ ap (λ t. t ++ newline) end) ∙ double_end-pushed (before ++ part.0) 10 ∙ sym end

-- a line with something in it is not
line-kept : (before line : List ℕ) → is_line line ≡ true → (line ≡ [] → ⊥) → without_double_end (before ++ (line ++ newline)) ≡ before ++ (line ++ newline)
line-kept before line are some = elim (list-by_last line) [
  | inl none ↦ absurd (some none)
  | inr p ↦
      let whole : before ++ (line ++ newline) ≡ ((before ++ p.0) ++ p.1 ∷ []) ++ newline =
      ap (λ t. before ++ (t ++ newline)) p.2 ∙ sym (append_assoc before (p.0 ++ p.1 ∷ []) newline) ∙ ap (λ t. t ++ newline) (sym (append_assoc before p.0 (p.1 ∷ []))) in
      let other : (not (p.1 == 10) && true) ≡ true = (and_parts (is_line p.0) _ (sym (list_all-append (λ b. not (b == 10)) p.0 (p.1 ∷ [])) ∙ ap is_line (sym p.2) ∙ are)).1 in
      ap without_double_end whole ∙ double_end-pushed (before ++ p.0) p.1 ∙ ap (λ c. cond c ((before ++ p.0) ++ p.1 ∷ []) (((before ++ p.0) ++ p.1 ∷ []) ++ newline)) (no-newline p.1 other) ∙ sym whole
] where
  no-newline : (b : ℕ) → (not (b == 10) && true) ≡ true → nat_eq 10 b ≡ false
  no-newline b h = grind (arith, nat_tests)

-- the text of an entry of one line at the end of a script
one-line : (line : List ℕ) → (((line ++ newline) ++ []) ++ []) ++ [] ≡ line ++ newline
one-line line = append-nil _ ∙ append-nil _ ∙ append-nil (line ++ newline)

line-left : (before line : List ℕ) (e : Entry) → ReadItem e.item → is_output e.output ≡ true → texts_of (e ∷ []) ≡ line ++ newline → is_line line ≡ true → (line ≡ [] → ⊥) → IsRest before (e ∷ [])
line-left before line e read output text are some = grind (arith, all-left, line-kept)

-- a line that is empty is dropped after others, and stays where it is alone
blank-left : (before line : List ℕ) (lines : List (List ℕ)) (found : List ℕ) → before ≡ text_of lines → is_output found ≡ true → is_line line ≡ true → is_comment line ≡ false → is_blank line ≡ true →
    IsRest before (entry (Blank (line ∷ [])) found ∷ [])
blank-left before (b ∷ line) lines found is output are comment blank =
    line-left before (b ∷ line) (entry (Blank ((b ∷ line) ∷ [])) found) (ReadBlank (b ∷ line) are comment blank) output (one-line (b ∷ line)) are (λ e. cc)
blank-left before [] [] found is output are comment blank =
    all-left before (entry (Blank ([] ∷ [])) found) (ReadBlank [] are comment blank) output (ap (λ t. without_double_end (t ++ newline)) is ∙ ap (λ t. t ++ newline) (sym is))
blank-left before [] (first ∷ lines) found is output are comment blank = (
  [],
  ap (λ t. without_double_end (t ++ newline)) is ∙ empty-dropped [] first lines ∙ sym is ∙ sym (append-nil before),
  λ m. (refl, LastIsRemoved found),
)

-- the lines of a directive are those that are left and an empty one
suffix-blank : (raw : List (List ℕ)) (double : Bool) (lines : List (List ℕ)) → lines_of_written true raw double lines ≡ lines_of_written false raw double lines ++ [] ∷ []
suffix-blank raw double lines = ap (λ t. raw ++ dashes_line ∷ t) (at double) ∙ sym (append_assoc raw (dashes_line ∷ output_after false double lines) ([] ∷ [])) where
  at : (d : Bool) → output_after true d lines ≡ output_after false d lines ++ [] ∷ []
  at false = refl
  at true = ap (λ t. dashes_line ∷ t) (sym (append_assoc lines (dashes_line ∷ dashes_line ∷ []) ([] ∷ [])))

-- the empty line after a directive is dropped
directive-left : (before : List ℕ) (n : ℕ) (command : CommandText) (line : List ℕ) (rest input expected : List (List ℕ)) (found : List ℕ) → is_output found ≡ true → IsHead line rest →
    is_blank (joined (line ∷ rest)) ≡ false → command_of (joined (line ∷ rest)) ≡ Some command → list_any is_separator input ≡ false → list_all is_line ((line ∷ rest) ++ input) ≡ true →
    IsRest before (entry (directive n command (line ∷ rest) input expected) found ∷ [])
directive-left before n command line rest input expected found output is parses command_is none are =
    let found_is = output-lines found output in
    let lines = found_is.0 in
    let double = has_blank_line found in
    let raw = (line ∷ rest) ++ input in
    let left = lines_of_written false raw double lines in
    let e = entry (directive n command (line ∷ rest) input expected) found in
    let whole : texts_of (e ∷ []) ≡ text_of left ++ newline =
    append-nil (entry_text e.item found) ∙ directive-text raw lines found found_is.1 ∙ ap text_of (suffix-blank raw double lines) ∙ text_of-append left ([] ∷ []) in
    let again = λ (m : ℕ). directive-again false n (m + 1) command line rest input expected [] lines found is parses command_is none are found_is.1 in (
      text_of left,
      ap (λ t. without_double_end (before ++ t)) whole ∙ empty-dropped before line (lines_of_written false (rest ++ input) double lines),
      λ m. read-first m m (lines_of (text_of left)) [] e [] (again m).0 (items_of-first m (lines_of (text_of left)) (Open (Ok (again m).0)) (again m).0 (ap first_of (sym (append-nil (lines_of (text_of left)))) ∙ (again m).1) refl) (again m).2 (no-entries m),
    )

last-left : (before : List ℕ) (lines : List (List ℕ)) (item : Item) (found : List ℕ) → before ≡ text_of lines → ReadItem item → is_output found ≡ true → ends_in_long_blank (item ∷ []) ≡ false →
    IsRest before (entry item found ∷ [])
last-left before lines item found is (ReadComment line are comment) output short =
    line-left before line (entry (Comment (line ∷ [])) found) (ReadComment line are comment) output (one-line line) are (λ e. let bad : false ≡ true = ap is_comment (sym e) ∙ comment in cc)
last-left before lines item found is (ReadBlank line are comment blank) output short = blank-left before line lines found is output are comment blank
last-left before lines item found is (ReadBlankHead line [] directive_lines are blank) output short =
    line-left before line (entry (Blank (line ∷ [])) found) (ReadBlankHead line [] directive_lines are blank) output (one-line line) (and_parts (is_line line) true are).0 (λ e. let bad : true ≡ false = ap is_blank (sym e) ∙ directive_lines.blank in cc)
last-left before lines item found is (ReadBlankHead line (next ∷ rest) directive_lines are blank) output short = absurd (search (rules, arith))
last-left before lines item found is (ReadDirective n command line rest input expected directive_lines parses command_is none are) output short = grind (arith, directive-left)

-- the end of a script is decided by its last item
ends-next : (item next : Item) (items : List Item) → ends_in_long_blank (item ∷ next ∷ items) ≡ ends_in_long_blank (next ∷ items)
ends-next item next items = grind arith

-- after lines: the rest of a script
rest-left : (before : List ℕ) (lines : List (List ℕ)) → before ≡ text_of lines → (e : Entry) (entries : List Entry) → AreWritten (e ∷ entries) → ends_in_long_blank (map (λ e. e.item) (e ∷ entries)) ≡ false →
    IsRest before (e ∷ entries)
rest-left before lines is e [] written short = last-left before lines e.item e.output is written.0 written.1 short
rest-left before lines is e (next ∷ entries) written short =
    let text = entry_text e.item e.output in
    let own = entry-lines e.item e.output written.1 written.0 in
    let so_far : before ++ text ≡ text_of (lines ++ own.0) = ap (λ t. t ++ text) is ∙ ap (λ t. text_of lines ++ t) own.1 ∙ sym (text_of-append lines own.0) in
    let more = rest-left (before ++ text) (lines ++ own.0) so_far next entries written.2 (sym (ends-next e.item next.item (map (λ e. e.item) entries)) ∙ short) in (
      text ++ more.0,
      ap without_double_end (sym (append_assoc before text (texts_of (next ∷ entries)))) ∙ more.1 ∙ append_assoc before text more.0,
      λ m. again-first m e (next ∷ entries) more.0 written.0 written.1 more.2,
    )

-- all of it
pub written-again : (entries : List Entry) → AreWellFormed (map (λ e. e.item) entries) → list_all (λ e. is_output e.output) entries ≡ true → ends_in_long_blank (map (λ e. e.item) entries) ≡ false →
    length (rewritten_text entries) ≤ longest_input → IsAgain entries (script_of (rewritten_text entries))
written-again [] given output short fits = subst (IsAgain []) (sym (script_of-lines [] fits)) (no-entries 0)
written-again (e ∷ entries) given output short fits =
    let left = rest-left [] [] refl e entries (are-written (e ∷ entries) given output) short in
    subst (IsAgain (e ∷ entries)) (sym (script_of-lines (rewritten_text (e ∷ entries)) fits ∙ ap (λ (t : List ℕ). items_of 0 (lines_of t)) left.1)) (left.2 0)
