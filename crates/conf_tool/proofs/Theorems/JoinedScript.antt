-- A script that checks clean and the script that undoes its last changes check clean when they are joined.
use Rattle.std.proofs.Common.{◌≡◌, ℕ, ◌≤◌, Bool, true, false, not, ◌||◌, List, [], ◌∷◌, ◌++◌, map, length, refl, sym, ap, ◌∙◌, subst, arith}
use Rattle.std.specs.Prelude.{Option, Some, None, Result, Ok, Err, option_map, bytes_eq, codes, decimal}
use Rattle.std.specs.List.{list_all, list_any, join_with_byte}
use Rattle.std.proofs.Math.Bool.{or_assoc}
use Rattle.std.proofs.lemmas.List.{length-append}
use Rattle.ascii_text.specs.Lines.{newline, lines_of}
use Rattle.dd_file.specs.DirectiveText.{DirectiveText}
use Rattle.dd_file.specs.Position.{longest_input}
use Rattle.dd_file.specs.Grammar.{script_of}
use Rattle.dd_file.specs.Rewritten.{Entry, rewritten_text}
use Rattle.dd_file.specs.Script.{is_separator}
use Rattle.dd_file.specs.Laws.{is_line, IsWellFormed, DirectiveIsWellFormed, WrittenScript, item_has_keys, IsComplete, moved, directives_of, moved_fault, JoinedItems}
use Rattle.dd_file.specs.Items.{Item, Comment, Blank, Directive}
use Rattle.dd_file.specs.declared.fault.FileFault.{FileFault}
use Rattle.conf_change.specs.declared.change.Change.{Change}
use Rattle.conf_change.specs.declared.change.Kind.{Kind}
use Rattle.conf_change.specs.declared.step.Step.{Step}
use Rattle.conf_change.specs.declared.step.Step.TheVariants.{Simple, EnterJoint, LeaveJoint}
use Rattle.conf_change.specs.ChangeList.{letter_of}
use Rattle.conf_plan.specs.PlanText.{change_text}
use Rattle.conf_change.specs.declared.floor.Floor.{Floor}
use Rattle.conf_session.specs.SessionState.{SessionState, new_session}
use Rattle.conf_session.specs.Commands.{answer, after_answers}
use Rattle.conf_tool.specs.Reports.{session_after_all, answered_entries, differs}
use Rattle.conf_session.specs.Undo.{undo_plan_of, undo_fault_text}
use Rattle.conf_tool.specs.UndoScript.{step_command, change_lines, step_directive, comment, step_items, undo_items}
use Rattle.conf_tool.specs.Outputs.{checked, checked_entries, check_status, undone_unless}
use Rattle.conf_session.specs.ReplyLines.{is_line_byte}
use Rattle.conf_tool.specs.Laws.{JoinedClean}
use Rattle.conf_tool.specs.declared.status.Status.{Status}
use Rattle.conf_tool.specs.declared.tool_fault.ToolFault.{ToolFault}
use Rattle.conf_tool.specs.declared.status.Status.TheVariants.{Clean}
use Rattle.conf_session.specs.declared.undo_fault.UndoFault.{UndoFault}
use Rattle.conf_session.proofs.Offered.{and-first, and-second, and-both, reply_line-bytes, undo_fault-in_lines, spaced-tokens_in, changes-tokens_in}
use Rattle.conf_tool.proofs.Theorems.RewrittenScript.{ActualIsValid, CanBeRead, again-clean, any_differs, differs-by, read-again, read-append}

-- ---- the directives of a script
-- the session after it
pub left-by : (session : SessionState) (items : List Item) → session_after_all session items ≡ after_answers session (directives_of items)
left-by session [] = refl
left-by session (Comment lines ∷ items) = left-by session items
left-by session (Blank lines ∷ items) = left-by session items
left-by session (Directive directive ∷ items) = left-by (answer session directive).session items

-- wherever they stand
differs-moved : (lines : ℕ) (session : SessionState) (directives : List DirectiveText) → any_differs session (map (moved lines) directives) ≡ any_differs session directives
differs-moved lines session [] = refl
differs-moved lines session (directive ∷ directives) =
    ap (λ more. not (bytes_eq (answer session directive).actual directive.expected) || more) (differs-moved lines (answer session directive).session directives)

differs-append : (session : SessionState) (xs ys : List DirectiveText) → any_differs session (xs ++ ys) ≡ (any_differs session xs || any_differs (after_answers session xs) ys)
differs-append session [] ys = refl
differs-append session (x ∷ xs) ys =
    let this = not (bytes_eq (answer session x).actual x.expected) in
    let after = (answer session x).session in
    ap (λ more. this || more) (differs-append after xs ys) ∙ sym (or_assoc this (any_differs after xs) (any_differs (after_answers after xs) ys))

-- a script that is clean
record IsCleanScript (entries : List Entry) (fault : Option FileFault) : Type 0 where
  same : list_any differs entries ≡ false
  whole : fault ≡ None

abbrev ended : Status → Result Status ToolFault
ended status = Ok status

status-clean : (b : Bool) → ended (check_status b) ≡ ended Clean → b ≡ false
status-clean b e = grind arith

clean-script : (entries : List Entry) (fault : Option FileFault) → (checked_entries entries fault).outcome ≡ Ok Clean → IsCleanScript entries fault
clean-script entries None e = record { same = status-clean (list_any differs entries) e; whole = refl }
clean-script entries (Some fault) e = let bad : ⊥ = cc in absurd bad

-- ---- the items that undo changes are items that the grammar gives
pub bytes-line : (text : List ℕ) → list_all is_line_byte text ≡ true → is_line text ≡ true
bytes-line [] h = refl
bytes-line (b ∷ text) h = and-both _ _ (and-first _ _ (and-first _ _ h)) (bytes-line text (and-second _ _ h))

pub comment-read : (text : List ℕ) → list_all is_line_byte text ≡ true → CanBeRead (comment text ∷ [])
comment-read text h = record {
  given = (record { number = 1; lines = (codes "# " ++ text) ∷ []; are_lines = and-both _ _ (bytes-line text h) refl; first = comment text; is_first = refl; is = refl }, tt);
  keys = refl;
  short = refl;
}

-- a line of changes is no separator
letter-apart : (kind : Kind) (rest : List ℕ) → is_separator (letter_of kind ∷ rest) ≡ false
letter-apart kind rest = grind arith

lines-apart : (changes : List Change) → list_any is_separator (change_lines changes) ≡ false
lines-apart [] = refl
lines-apart (change ∷ []) = ap (λ b. b || false) (letter-apart change.kind (decimal change.id))
lines-apart (change ∷ next ∷ changes) = ap (λ b. b || false) (letter-apart change.kind (decimal change.id ++ 32 ∷ join_with_byte 32 (map change_text (next ∷ changes))))

lines-whole : (changes : List Change) → list_all is_line (change_lines changes) ≡ true
lines-whole [] = refl
lines-whole (change ∷ changes) = and-both _ _ (bytes-line (join_with_byte 32 (map change_text (change ∷ changes))) (spaced-tokens_in (map change_text (change ∷ changes)) (changes-tokens_in (change ∷ changes)))) refl

step-given : DirectiveIsWellFormed → (step : Step) → IsWellFormed (step_directive step)
step-given given (Simple changes) = given 1 (codes "simple") (change_lines changes) (step_command (Simple changes)) refl refl refl refl (lines-apart changes) (lines-whole changes)
step-given given (EnterJoint true changes) =
    given 1 (codes "enter-joint autoleave=true") (change_lines changes) (step_command (EnterJoint true changes)) refl refl refl refl (lines-apart changes) (lines-whole changes)
step-given given (EnterJoint false changes) =
    given 1 (codes "enter-joint autoleave=false") (change_lines changes) (step_command (EnterJoint false changes)) refl refl refl refl (lines-apart changes) (lines-whole changes)
step-given given LeaveJoint = given 1 (codes "leave-joint") [] (step_command LeaveJoint) refl refl refl refl refl refl

pub step-keys : (step : Step) → item_has_keys (step_directive step) ≡ true
step-keys step = grind arith

directives-read : DirectiveIsWellFormed → (steps : List Step) → CanBeRead (map step_directive steps)
directives-read given [] = record { given = tt; keys = refl; short = refl }
directives-read given (step ∷ steps) =
    read-append (step_directive step ∷ []) (map step_directive steps) (record { given = (step-given given step, tt); keys = and-both _ _ (step-keys step) refl; short = refl }) (directives-read given steps)

pub steps-read : DirectiveIsWellFormed → (steps : List Step) → CanBeRead (step_items steps)
steps-read given [] = comment-read (codes "nothing to do") refl
steps-read given (step ∷ steps) = directives-read given (step ∷ steps)

undo-read : DirectiveIsWellFormed → (plan : Result (List Step) UndoFault) → CanBeRead (undo_items plan)
undo-read given (Ok steps) = steps-read given steps
undo-read given (Err fault) = comment-read (undo_fault_text fault) (reply_line-bytes (undo_fault_text fault) (undo_fault-in_lines fault))

-- ---- so the joined script is clean
joined-text : WrittenScript → DirectiveIsWellFormed → JoinedItems → ActualIsValid → (script : List ℕ) (history : ℕ) (floor : Floor) (count : ℕ) →
    let session = session_after_all (new_session history floor) (script_of script).items in
    let text = rewritten_text (answered_entries session (undo_items (undo_plan_of session count))) in
    IsComplete (lines_of script) → IsCleanScript (answered_entries (new_session history floor) (script_of script).items) (script_of script).fault →
    length ((script ++ newline ++ newline) ++ text) ≤ longest_input → (checked ((script ++ newline ++ newline) ++ text) history floor).outcome ≡ Ok Clean
joined-text written given joined_items holds script history floor count complete clean fits =
    let begin = new_session history floor in
    let items = (script_of script).items in
    let session = session_after_all begin items in
    let plan = undo_plan_of session count in
    let text = rewritten_text (answered_entries session (undo_items plan)) in
    let prefix = script ++ newline ++ newline in
    let before = length (lines_of prefix) in
    let again = (script_of text).items in
    let sum = length-append prefix text in
    let read = read-again written holds session (undo_items plan) (undo-read given plan) (omega (arith, sum, fits)) in
    let joined = joined_items script text complete fits in
    let none : list_any differs (answered_entries begin (script_of (prefix ++ text)).items) ≡ false =
    differs-by begin (script_of (prefix ++ text)).items ∙ ap (any_differs begin) joined.0 ∙ differs-append begin (directives_of items) (map (moved before) (directives_of again))
    ∙ ap (λ b. b || any_differs (after_answers begin (directives_of items)) (map (moved before) (directives_of again))) (sym (differs-by begin items) ∙ clean.same)
    ∙ differs-moved before (after_answers begin (directives_of items)) (directives_of again)
    ∙ ap (λ s. any_differs s (directives_of again)) (sym (left-by begin items)) ∙ again-clean session (directives_of (undo_items plan)) (directives_of again) read.1 in
    ap (λ fault. (checked_entries (answered_entries begin (script_of (prefix ++ text)).items) fault).outcome) (joined.1 ∙ ap (option_map (moved_fault before)) read.0)
    ∙ ap (λ b. Ok (check_status b)) none

pub joined-clean : WrittenScript → DirectiveIsWellFormed → JoinedItems → ActualIsValid → JoinedClean
joined-clean written given joined_items holds script history floor count complete clean fits =
    let session = session_after_all (new_session history floor) (script_of script).items in
    let is_clean = clean-script (answered_entries (new_session history floor) (script_of script).items) (script_of script).fault clean in
    let same = ap (λ fault. (undone_unless session count fault).text) is_clean.whole in
    subst (λ text. length ((script ++ newline ++ newline) ++ text) ≤ longest_input → (checked ((script ++ newline ++ newline) ++ text) history floor).outcome ≡ Ok Clean) (sym same)
    (joined-text written given joined_items holds script history floor count complete is_clean) fits
