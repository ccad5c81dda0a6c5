-- A session that runs the script which undoes its last changes takes the steps of the plan, and comes to the configuration of before them.
use Rattle.std.proofs.Common.{◌≡◌, ℕ, ◌≤◌, true, false, List, [], ◌∷◌, ◌++◌, map, length, refl, sym, ap, ◌∙◌, subst, arith}
use Rattle.std.specs.Prelude.{Some, Result, Ok, codes, decimal}
use Rattle.std.specs.List.{All, join_with_byte}
use Rattle.std.proofs.lemmas.List.{append-nil}
use Rattle.std.proofs.lemmas.List.Elements.{All-head, All-tail}
use Rattle.ascii_text.specs.Lines.{newline, text_of}
use Rattle.ascii_text.specs.WhiteSpace.{trimmed, without_trailing_space}
use Rattle.ascii_text.specs.Tokens.{tokens_in}
use Rattle.ascii_text.proofs.Offered.{tokens_in-at_space, tokens_in-ends}
use Rattle.dd_file.specs.DirectiveText.{DirectiveText}
use Rattle.dd_file.specs.Laws.{DirectiveIsWellFormed, WrittenScript, directives_of}
use Rattle.dd_file.specs.Position.{longest_input}
use Rattle.dd_file.specs.Grammar.{script_of}
use Rattle.dd_file.specs.DirectiveLine.{ArgumentText}
use Rattle.dd_file.specs.Rewritten.{rewritten_text}
use Rattle.conf_change.specs.ChangeList.{BadToken, letter_of, changes_in, changes_in_tokens}
use Rattle.conf_change.specs.Changer.{ChangerState, Accepts, moved_to, moved_by, changer_after}
use Rattle.conf_change.specs.Configuration.{Configuration}
use Rattle.conf_change.specs.Step.{changes_of}
use Rattle.conf_change.specs.declared.change.Change.{Change}
use Rattle.conf_change.specs.declared.change.Kind.{Kind}
use Rattle.conf_change.specs.declared.floor.Floor.{Floor}
use Rattle.conf_change.specs.declared.refused.Refused.{Refused}
use Rattle.conf_change.specs.declared.step.Step.{Step}
use Rattle.conf_change.specs.declared.step.Step.TheVariants.{Simple, EnterJoint, LeaveJoint}
use Rattle.conf_plan.specs.PlanSteps.{HasU64Ids}
use Rattle.conf_plan.specs.PlanText.{change_text}
use Rattle.conf_plan.specs.Run.{IsRun}
use Rattle.conf_session.specs.Commands.{Answer, Row, answer, answered, after_answers, step_reply, if_read, reply_of, row_of}
use Rattle.conf_session.specs.Input.{changes_read}
use Rattle.conf_session.specs.Reply.{Reply, stepped}
use Rattle.conf_session.specs.SessionState.{SessionState, IsSession, new_session, current, after_directive}
use Rattle.conf_session.specs.Undo.{LeadsBack, undo_plan_of}
use Rattle.conf_session.specs.Values.{read_arguments}
use Rattle.conf_session.specs.declared.undo_fault.UndoFault.{UndoFault}
use Rattle.conf_tool.specs.Laws.{LeadsBackBy, UndoScriptLeadsBack}
use Rattle.conf_tool.specs.Outputs.{undone_unless}
use Rattle.conf_tool.specs.Reports.{session_after_all, answered_entries}
use Rattle.conf_tool.specs.UndoScript.{step_command, step_line, change_lines, step_directive, step_items, undo_items, TakesSteps}
use Rattle.conf_tool.proofs.Theorems.JoinedScript.{left-by, steps-read}
use Rattle.conf_tool.proofs.Theorems.RewrittenScript.{ActualIsValid, AreAgain, read-again}

-- ---- the input of a step's directive is read as the step's changes
-- the printed changes of a step are read as they are
abbrev pub ChangesAreRead : Type 0
ChangesAreRead = (step : Step) → HasU64Ids step → changes_in (join_with_byte 32 (map change_text (changes_of step))) ≡ Ok (changes_of step)

abbrev input_of : List Change → List ℕ
input_of changes = trimmed (text_of (change_lines changes))

-- a letter is no white space
trimmed-letter : (kind : Kind) (rest : List ℕ) → trimmed (letter_of kind ∷ rest) ≡ without_trailing_space (letter_of kind ∷ rest)
trimmed-letter kind rest = grind arith

-- what follows the first letter
abbrev after_letter : Change → List Change → List ℕ
after_letter change [] = decimal change.id
after_letter change (next ∷ changes) = decimal change.id ++ 32 ∷ join_with_byte 32 (map change_text (next ∷ changes))

begins-letter : (change : Change) (changes : List Change) → join_with_byte 32 (map change_text (change ∷ changes)) ≡ letter_of change.kind ∷ after_letter change changes
begins-letter change changes = grind arith

-- a line of input has the tokens of its text
tokens_in-of_input : (change : Change) (changes : List Change) → tokens_in (input_of (change ∷ changes)) ≡ tokens_in (join_with_byte 32 (map change_text (change ∷ changes)))
tokens_in-of_input change changes =
    let line = join_with_byte 32 (map change_text (change ∷ changes)) in
    let letter = letter_of change.kind in
    let rest = after_letter change changes in
    let begins = begins-letter change changes in
    ap (λ text. tokens_in (trimmed text)) (append-nil (line ++ newline))
    ∙ ap (λ text. tokens_in (trimmed (text ++ newline))) begins
    ∙ ap tokens_in (trimmed-letter change.kind (rest ++ newline))
    ∙ sym (tokens_in-ends (letter ∷ (rest ++ newline)))
    ∙ tokens_in-at_space (letter ∷ rest) 10 [] refl
    ∙ append-nil (tokens_in (letter ∷ rest))
    ∙ ap tokens_in (sym begins)

changes-of_input : (changes : List Change) → changes_in (join_with_byte 32 (map change_text changes)) ≡ Ok changes → changes_in (input_of changes) ≡ Ok changes
changes-of_input [] read = read
changes-of_input (change ∷ changes) read = ap changes_in_tokens (tokens_in-of_input change changes) ∙ read

-- ---- a session that is given a step's directive takes the step
abbrev pub directive_for : Step → DirectiveText
directive_for step = record {
  line = 1;
  command = (step_command step).name;
  arguments = (step_command step).arguments;
  input = input_of (changes_of step);
  expected = [];
  raw_lines = (step_line step ∷ []) ++ change_lines (changes_of step);
}

abbrev Read : Type 0
Read = Result (List Change) BadToken

abbrev Made : Type 0
Made = Result ChangerState Refused

-- the reply of a row whose input is a list of changes that is read so
abbrev reply_read : Row → SessionState → List ArgumentText → Read → Reply
reply_read row session arguments read =
    if_read (λ input. if_read (λ values. reply_of row.command session input values) (read_arguments row.parameters arguments)) (changes_read read)

step-answer : (session : SessionState) (step : Step) (next : ChangerState) → changes_in (input_of (changes_of step)) ≡ Ok (changes_of step) → changer_after session.changer step ≡ Ok next
    → answer session (directive_for step) ≡ answered session (stepped next)
step-answer session (Simple changes) next read made =
    ap (λ (r : Read). answered session (reply_read (row_of (codes "simple")) session [] r)) read ∙ ap (λ (r : Made). answered session (step_reply r)) made
step-answer session (EnterJoint true changes) next read made =
    ap (λ (r : Read). answered session (reply_read (row_of (codes "enter-joint")) session (step_command (EnterJoint true changes)).arguments r)) read
    ∙ ap (λ (r : Made). answered session (step_reply r)) made
step-answer session (EnterJoint false changes) next read made =
    ap (λ (r : Read). answered session (reply_read (row_of (codes "enter-joint")) session (step_command (EnterJoint false changes)).arguments r)) read
    ∙ ap (λ (r : Made). answered session (step_reply r)) made
step-answer session LeaveJoint next read made = ap (λ (r : Made). answered session (step_reply r)) made

-- ---- so it takes the steps of a run in turn
pub record Comes (session : SessionState) (directives : List DirectiveText) (steps : List Step) (target : Configuration) : Type 0 where
  pub taken : TakesSteps session directives steps
  pub there : current (after_answers session directives) ≡ target

pub run-comes : ChangesAreRead → (session : SessionState) (steps : List Step) (target : Configuration) → All HasU64Ids steps → IsRun (current session) steps target
    → Comes session (map directive_for steps) steps target
run-comes read session [] target small run = record { taken = tt; there = run }
run-comes read session (step ∷ steps) target small run =
    let next = moved_to session.changer step run.0 in
    let made : changer_after session.changer step ≡ Ok next = ap (moved_by session.changer step) run.1 in
    let accepts : Accepts session.changer step next = record { configuration = run.1; whole = refl } in
    let answers = step-answer session step next (changes-of_input (changes_of step) (read step (All-head HasU64Ids step steps small))) made in
    let after = ap (λ (a : Answer). a.session) answers in
    let rest = run-comes read (after_directive session (stepped next).update) steps target (All-tail HasU64Ids step steps small) run.2 in
    let Rest : SessionState → Type 0 = λ s. Comes s (map directive_for steps) steps target in
    let moved = subst Rest (sym after) rest in
    record { taken = ((next, accepts, answers), moved.taken); there = moved.there }

-- ---- and so from the script that is read again
pub directives-items : (steps : List Step) → directives_of (step_items steps) ≡ map directive_for steps
directives-items [] = refl
directives-items (step ∷ steps) = of_steps (step ∷ steps)
  where
    of_steps : (steps : List Step) → directives_of (map step_directive steps) ≡ map directive_for steps
    of_steps [] = refl
    of_steps (step ∷ steps) = ap (λ ds. directive_for step ∷ ds) (of_steps steps)

-- directives that are read again take the steps
pub record TakesAgain (session : SessionState) (directives again : List DirectiveText) (steps : List Step) : Type 0 where
  pub taken : TakesSteps session again steps
  pub after : after_answers session again ≡ after_answers session directives

pub takes-again : (session : SessionState) (directives again : List DirectiveText) (steps : List Step) → AreAgain session directives again → TakesSteps session directives steps → TakesAgain session directives again steps
takes-again session [] [] [] same taken = record { taken = tt; after = refl }
takes-again session [] [] (step ∷ steps) same taken = absurd taken
takes-again session [] (other ∷ again) steps same taken = absurd same
takes-again session (directive ∷ directives) [] steps same taken = absurd same
takes-again session (directive ∷ directives) (other ∷ again) [] same taken = absurd taken
takes-again session (directive ∷ directives) (other ∷ again) (step ∷ steps) same taken =
    let answers = same.0.answers session in
    let after = ap (λ (a : Answer). a.session) answers in
    let rest = takes-again (answer session directive).session directives again steps same.1 taken.1 in
    let moved = subst (λ s. TakesSteps s again steps × (after_answers s again ≡ after_answers (answer session directive).session directives)) (sym after) (rest.taken, rest.after) in
    record { taken = ((taken.0.0, taken.0.1, answers ∙ taken.0.2), moved.0); after = moved.1 }

undo_of-session : WrittenScript → DirectiveIsWellFormed → ActualIsValid → ChangesAreRead → (session : SessionState) (count : ℕ) (steps : List Step) → LeadsBack session count steps →
    length (rewritten_text (answered_entries session (undo_items (Ok steps)))) ≤ longest_input → LeadsBackBy session count steps (script_of (rewritten_text (answered_entries session (undo_items (Ok steps)))))
undo_of-session written given holds changes session count steps back fits =
    let again = (script_of (rewritten_text (answered_entries session (step_items steps)))).items in
    let read = read-again written holds session (step_items steps) (steps-read given steps) fits in
    let comes = run-comes changes session steps back.older back.u64_ids back.run in
    let same = subst (λ ds. AreAgain session ds (directives_of again)) (directives-items steps) read.1 in
    let takes = takes-again session (map directive_for steps) (directives_of again) steps same comes.taken in
    record {
      whole = read.0;
      taken = takes.taken;
      at_most_four = back.at_most_four;
      at_most_three = back.at_most_three;
      back = back.is_kept ∙ ap Some (sym (ap current (left-by session again ∙ takes.after) ∙ comes.there));
    }

pub undo_script-leads_back : WrittenScript → DirectiveIsWellFormed → ActualIsValid
    → ((history : ℕ) (floor : Floor) (directives : List DirectiveText) → IsSession (after_answers (new_session history floor) directives))
    → ((session : SessionState) (count : ℕ) (steps : List Step) → IsSession session → 1 ≤ count → undo_plan_of session count ≡ Ok steps → LeadsBack session count steps)
    → ChangesAreRead → UndoScriptLeadsBack
undo_script-leads_back written given holds sessions leads changes script history floor count steps whole some made fits =
    let begin = new_session history floor in
    let items = (script_of script).items in
    let session = session_after_all begin items in
    let is = subst IsSession (sym (left-by begin items)) (sessions history floor (directives_of items)) in
    let back = leads session count steps is some made in
    let text = ap (λ fault. (undone_unless session count fault).text) whole ∙ ap (λ (p : Result (List Step) UndoFault). rewritten_text (answered_entries session (undo_items p))) made in
    let Fits : List ℕ → Type 0 = λ t. length t ≤ longest_input → LeadsBackBy session count steps (script_of t) in
    subst Fits (sym text) (undo_of-session written given holds changes session count steps back) fits
