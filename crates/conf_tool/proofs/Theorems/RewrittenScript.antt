-- A script that is written with its actual outputs is read again, and checks clean.
use Rattle.std.proofs.Common.{◌≡◌, ℕ, ◌≤◌, Bool, true, false, not, ◌||◌, List, [], ◌∷◌, ◌++◌, map, length, refl, sym, ap, ◌∙◌, subst, arith}
use Rattle.std.specs.Prelude.{⊤, None, Ok, bytes_eq}
use Rattle.std.specs.List.{list_all, list_any}
use Rattle.std.proofs.lemmas.Slice.Eq.{bytes_eq-Decides}
use Rattle.dd_file.specs.DirectiveText.{DirectiveText}
use Rattle.dd_file.specs.DirectiveLine.{has_keys}
use Rattle.dd_file.specs.Position.{longest_input}
use Rattle.dd_file.specs.Grammar.{script_of}
use Rattle.dd_file.specs.Rewritten.{Entry, entry, is_output, rewritten_text}
use Rattle.dd_file.specs.Laws.{IsSameItem, AreWellFormed, AreReadAgain, AreOver, LastIsRemoved, ReadAgain, ends_in_long_blank, ItemsAreWellFormed, WrittenScript, ItemsHaveKeys, directives_of, item_has_keys}
use Rattle.dd_file.specs.Items.{Item, Comment, Blank, Directive}
use Rattle.conf_change.specs.declared.floor.Floor.{Floor}
use Rattle.conf_session.specs.SessionState.{SessionState, new_session}
use Rattle.conf_session.specs.Commands.{Answer, answer}
use Rattle.conf_tool.specs.Reports.{actual_for, session_after, answered_entries, differs}
use Rattle.conf_tool.specs.Outputs.{checked, checked_entries, check_status}
use Rattle.conf_session.specs.ReplyLines.{IsValidOutput}
use Rattle.conf_tool.specs.Laws.{RewrittenClean}
use Rattle.conf_tool.specs.declared.status.Status.TheVariants.{Clean}
use Rattle.conf_session.proofs.Offered.{all-append, and-first, and-second, and-both, same-answer}

-- the texts that are found can stand as outputs
abbrev pub ActualIsValid : Type 0
ActualIsValid = (session : SessionState) (directive : DirectiveText) → has_keys directive.arguments ≡ true → IsValidOutput (answer session directive).actual

actual-output : ActualIsValid → (session : SessionState) (item : Item) → item_has_keys item ≡ true → is_output (actual_for session item) ≡ true
actual-output holds session (Comment lines) keys = refl
actual-output holds session (Blank lines) keys = refl
actual-output holds session (Directive directive) keys = (holds session directive keys).output

-- so each text that is found for a script is an output
actual-outputs : ActualIsValid → (session : SessionState) (items : List Item) → list_all item_has_keys items ≡ true → list_all (λ entry. is_output entry.output) (answered_entries session items) ≡ true
actual-outputs holds session [] keys = refl
actual-outputs holds session (item ∷ items) keys = and-both _ _ (actual-output holds session item (and-first _ _ keys)) (actual-outputs holds (session_after session item) items (and-second _ _ keys))

items-of : (session : SessionState) (items : List Item) → map (λ entry. entry.item) (answered_entries session items) ≡ items
items-of session [] = refl
items-of session (item ∷ items) = ap (λ more. item ∷ more) (items-of (session_after session item) items)

-- ---- the directives that are read again
-- It is of the same command, each session answers it alike, and it expects the actual output.
pub record IsAgain (session : SessionState) (directive again : DirectiveText) : Type 0 where
  pub command : again.command ≡ directive.command
  pub answers : (at : SessionState) → answer at again ≡ answer at directive
  pub expected : again.expected ≡ (answer session directive).actual

-- .. and so are those that a session runs in turn
abbrev pub AreAgain : SessionState → List DirectiveText → List DirectiveText → Type 0
AreAgain session [] [] = ⊤
AreAgain session [] (other ∷ again) = ⊥
AreAgain session (directive ∷ directives) [] = ⊥
AreAgain session (directive ∷ directives) (other ∷ again) = IsAgain session directive other × AreAgain (answer session directive).session directives again

none-left : (session : SessionState) (items : List Item) → [] ≡ answered_entries session items → items ≡ []
none-left session [] e = refl
none-left session (item ∷ items) e = cc

are-again : (session : SessionState) (items : List Item) (entries : List Entry) (again : List Item) → entries ≡ answered_entries session items → AreReadAgain entries again →
    AreAgain session (directives_of items) (directives_of again)
are-again session [] entries again e AreOver = tt
are-again session (one ∷ items) entries again e AreOver = cc
are-again session [] entries again e (LastIsRemoved actual) = cc
are-again session (one ∷ items) entries again e (LastIsRemoved actual) =
    let begins : entry (Blank ([] ∷ [])) actual ≡ entry one (actual_for session one) = cc in
    let ended : items ≡ [] = none-left (session_after session one) items (cc) in
    rw (sym (ap (λ (x : Entry). x.item) begins), ended) tt
are-again session [] entries again e (ReadAgain n item other actual more others is read) = cc
are-again session (one ∷ items) entries again e (ReadAgain n item other actual more others is read) =
    let begins : entry item actual ≡ entry one (actual_for session one) = cc in
    by_item one (subst (λ (x : Entry). IsSameItem n x.output x.item other) begins is) (are-again (session_after session one) items more others (cc) read)
  where
    by_item : (one : Item) → IsSameItem n (actual_for session one) one other → AreAgain (session_after session one) (directives_of items) (directives_of others) →
        AreAgain session (directives_of (one ∷ items)) (directives_of (other ∷ others))
    by_item (Comment lines) same rest = rw same.1 rest
    by_item (Blank lines) same rest = rw same.1 rest
    by_item (Directive directive) same rest =
        rw same.1 (record { command = same.2.command; answers = λ at. same-answer n _ directive same.0 at same.2; expected = same.2.expected }, rest)

-- ---- items that can be written and read again
pub record CanBeRead (items : List Item) : Type 0 where
  pub given : AreWellFormed items
  pub keys : list_all item_has_keys items ≡ true
  pub short : ends_in_long_blank items ≡ false

pub read-again : WrittenScript → ActualIsValid → (session : SessionState) (items : List Item) → CanBeRead items → let text = rewritten_text (answered_entries session items) in
    length text ≤ longest_input → ((script_of text).fault ≡ None) × AreAgain session (directives_of items) (directives_of (script_of text).items)
read-again written holds session items can fits =
    let same = items-of session items in
    let read = written (answered_entries session items) (subst AreWellFormed (sym same) can.given) (actual-outputs holds session items can.keys) (ap ends_in_long_blank same ∙ can.short) fits in
    (read.0, are-again session items _ _ refl read.1)

given-append : (xs ys : List Item) → AreWellFormed xs → AreWellFormed ys → AreWellFormed (xs ++ ys)
given-append [] ys a b = b
given-append (x ∷ xs) ys a b = (a.0, given-append xs ys a.1 b)

ends-later : (x y : Item) (ys : List Item) → ends_in_long_blank (x ∷ y ∷ ys) ≡ ends_in_long_blank (y ∷ ys)
ends-later x y ys = grind arith

short-append : (xs ys : List Item) → ends_in_long_blank xs ≡ false → ends_in_long_blank ys ≡ false → ends_in_long_blank (xs ++ ys) ≡ false
short-append [] ys a b = b
short-append (x ∷ []) [] a b = a
short-append (x ∷ []) (y ∷ ys) a b = ends-later x y ys ∙ b
short-append (x ∷ next ∷ xs) ys a b = ends-later x next (xs ++ ys) ∙ short-append (next ∷ xs) ys (sym (ends-later x next xs) ∙ a) b

pub read-append : (xs ys : List Item) → CanBeRead xs → CanBeRead ys → CanBeRead (xs ++ ys)
read-append xs ys a b = record { given = given-append xs ys a.given b.given; keys = all-append item_has_keys xs ys a.keys b.keys; short = short-append xs ys a.short b.short }

-- ---- none of them differs
-- one of the directives in turn differs
abbrev pub any_differs : SessionState → List DirectiveText → Bool
any_differs session [] = false
any_differs session (directive ∷ directives) = not (bytes_eq (answer session directive).actual directive.expected) || any_differs (answer session directive).session directives

-- a script is clean by its directives
pub differs-by : (session : SessionState) (items : List Item) → list_any differs (answered_entries session items) ≡ any_differs session (directives_of items)
differs-by session [] = refl
differs-by session (Comment lines ∷ items) = differs-by session items
differs-by session (Blank lines ∷ items) = differs-by session items
differs-by session (Directive directive ∷ items) = ap (λ more. not (bytes_eq (answer session directive).actual directive.expected) || more) (differs-by (answer session directive).session items)

pub again-clean : (session : SessionState) (directives again : List DirectiveText) → AreAgain session directives again → any_differs session again ≡ false
again-clean session [] [] same = refl
again-clean session [] (other ∷ again) same = absurd same
again-clean session (directive ∷ directives) [] same = absurd same
again-clean session (directive ∷ directives) (other ∷ again) same =
    let answers = same.0.answers session in
    ap (λ b. not b || any_differs (answer session other).session again) ((bytes_eq-Decides _ _).1 (ap (λ (a : Answer). a.actual) answers ∙ sym same.0.expected))
    ∙ ap (λ (a : Answer). any_differs a.session again) answers ∙ again-clean (answer session directive).session directives again same.1

-- so they check clean
pub written-clean : WrittenScript → ActualIsValid → (history : ℕ) (floor : Floor) (items : List Item) → CanBeRead items →
    let text = rewritten_text (answered_entries (new_session history floor) items) in length text ≤ longest_input → (checked text history floor).outcome ≡ Ok Clean
written-clean written holds history floor items can fits =
    let session = new_session history floor in
    let again = (script_of (rewritten_text (answered_entries session items))).items in
    let read = read-again written holds session items can fits in
    ap (λ fault. (checked_entries (answered_entries session again) fault).outcome) read.0
    ∙ ap (λ b. Ok (check_status b)) (differs-by session again ∙ again-clean session (directives_of items) (directives_of again) read.1)

pub rewritten-clean : WrittenScript → ItemsAreWellFormed → ItemsHaveKeys → ActualIsValid → RewrittenClean
rewritten-clean written given keys holds input history floor short fits =
    written-clean written holds history floor (script_of input).items (record { given = given input; keys = keys input; short = short }) fits
