-- Each reply is reply lines.
use Rattle.std.proofs.Common.{◌≡◌, ℕ, Bool, true, false, cond, not, List, [], ◌∷◌, ◌++◌, refl, sym, ap, ◌∙◌, subst, arith}
use Rattle.std.specs.Prelude.{Option, Some, None, Result, Ok, Err, codes}
use Rattle.std.specs.List.{list_all, slice_split, onto_first}
use Rattle.std.proofs.lemmas.Bool.Decides.{nat_tests}
use Rattle.dd_file.specs.DirectiveText.{DirectiveText}
use Rattle.dd_file.specs.DirectiveLine.{ArgumentText, has_keys, is_key, is_key_byte}
use Rattle.dd_file.proofs.Offered.{all-filter}
use Rattle.conf_change.specs.ChangerState.{ChangerState}
use Rattle.conf_change.specs.Acknowledgement.{ack_answer}
use Rattle.conf_change.specs.Configuration.{Configuration}
use Rattle.ascii_text.specs.WhiteSpace.{is_space}
use Rattle.ascii_text.specs.Tokens.{has_bytes, tokens_in}
use Rattle.conf_change.specs.ChangeList.{BadToken, unknown_token, unknown_input, bad_number, token_of, IsFirstBad, changes_in}
use Rattle.conf_change.specs.ConfState.{ConfStateLists, lists_of, restored}
use Rattle.conf_change.specs.ConfStateLine.{conf_state_in, conf_state_text}
use Rattle.conf_change.specs.Text.{refused_text, progress_text, bad_token_text}
use Rattle.conf_change.specs.Transition.{step_for}
use Rattle.conf_change.specs.Changer.{begun_with, changer_after}
use Rattle.conf_change.specs.declared.acknowledgement.AckFault.{AckFault}
use Rattle.conf_change.specs.declared.acknowledgement.AckFault.TheVariants.{NotMember, IndexTooLarge}
use Rattle.conf_change.specs.declared.change.Change.{Change}
use Rattle.conf_change.specs.declared.progress.Progress.{Progress}
use Rattle.conf_change.specs.declared.refused.Refused.{Refused}
use Rattle.conf_change.specs.declared.step.Step.{Step}
use Rattle.conf_change.specs.declared.step.Step.TheVariants.{Simple as SimpleStep, EnterJoint as EnterStep, LeaveJoint as LeaveStep}
use Rattle.conf_session.specs.Parameter.{key_of}
use Rattle.conf_session.specs.Arguments.{first_bad}
use Rattle.conf_session.specs.SessionState.{SessionState}
use Rattle.conf_session.specs.Reply.{Reply, replied_line}
use Rattle.conf_session.specs.Undo.{undo_plan_of, undo_fault_text, undone_changer}
use Rattle.conf_session.specs.declared.undo_fault.UndoFault.{UndoFault}
use Rattle.conf_session.specs.Quorum.{is_one_each, with_one_each}
use Rattle.conf_session.specs.Input.{Input, no_input_line, changes_read, no_change_read, conf_state_read, read_input}
use Rattle.conf_session.specs.Values.{Values, values_read, read_arguments}
use Rattle.conf_session.specs.ReplyTexts.{line}
use Rattle.conf_session.specs.Commands.{step_reply, restore_reply, undo_reply, ack_reply, committed_by, if_read, reply_of, reply_to}
use Rattle.conf_session.specs.ReplyLines.{is_line_byte, is_reply_line, IsReplyText}
use Rattle.conf_session.specs.declared.parameter.Parameter.{Parameter}
use Rattle.conf_session.specs.declared.input.InputKind.{InputKind}
use Rattle.conf_session.specs.declared.input.InputKind.TheVariants.{Changes, NoChange, ConfStateLine, Nothing}
use Rattle.conf_session.specs.declared.commands.Command.{Command}
use Rattle.conf_session.specs.declared.commands.Command.TheVariants.{Simple, EnterJoint, LeaveJoint, ConfChange, ConfState, Restore, Undo, Ack, CommitIndex, Committed, Vote, Unknown}
use Rattle.conf_session.proofs.ChartLines.{chart-in_lines, index-in_lines, vote-in_lines}
use Rattle.conf_session.proofs.ReplyLines.{and-first, and-second, all-weaker, reply_line-append, progress-in_lines, refused-in_lines, undo_fault-in_lines, conf_state-in_lines, line-in_lines, reply_text-append, plan-in_lines, tracker-in_lines}

abbrev HasReplyText : Reply → Type 0
HasReplyText reply = IsReplyText reply.actual

no_input-in_lines : IsReplyText no_input_line
no_input-in_lines = line-in_lines (codes "this command takes no input") refl

-- ---- the tokens of an input
abbrev has_no_white : List ℕ → Bool
has_no_white token = list_all (λ b. not (is_space b)) token

split-whole : (text : List ℕ) → list_all has_no_white (slice_split is_space text) ≡ true
split-whole [] = refl
split-whole (b ∷ text) = at (is_space b) refl (slice_split is_space text) (split-whole text) where
  at : (white : Bool) → is_space b ≡ white → (parts : List (List ℕ)) → list_all has_no_white parts ≡ true → list_all has_no_white (cond white ([] ∷ parts) (onto_first b parts)) ≡ true
  at white e parts h = grind arith

tokens_in-whole : (text : List ℕ) → list_all has_no_white (tokens_in text) ≡ true
tokens_in-whole text = all-filter has_no_white has_bytes (slice_split is_space text) (split-whole text)

among : (before : List (List ℕ)) (token : List ℕ) (after : List (List ℕ)) → list_all has_no_white (before ++ token ∷ after) ≡ true → has_no_white token ≡ true
among [] token after h = and-first _ _ h
among (w ∷ before) token after h = among before token after (and-second _ _ h)

byte-black : (b : ℕ) → not (is_space b) ≡ true → is_line_byte b ≡ true
byte-black b h = grind (arith, nat_tests)

token-in_lines : (bad : BadToken) → list_all is_line_byte (token_of bad) ≡ true → is_reply_line (bad_token_text bad) ≡ true
token-in_lines (unknown_token token) h = reply_line-append (codes "unknown token ") token refl refl h
token-in_lines (unknown_input token) h = reply_line-append (codes "unknown input: ") token refl refl h
token-in_lines (bad_number token) h = reply_line-append (codes "bad number: ") token refl refl h

-- the first bad token of a text is one of its tokens
abbrev FirstBads : Type 0
FirstBads = (text : List ℕ) (bad : BadToken) → changes_in text ≡ Err bad → IsFirstBad (tokens_in text) bad

bad-in_lines : FirstBads → (text : List ℕ) (bad : BadToken) → changes_in text ≡ Err bad → is_reply_line (bad_token_text bad) ≡ true
bad-in_lines first_bads text bad e =
    let is : IsFirstBad (tokens_in text) bad = first_bads text bad e in
    token-in_lines bad (all-weaker _ is_line_byte byte-black (token_of bad) (among is.before (token_of bad) is.after (ap (list_all has_no_white) (sym is.position) ∙ tokens_in-whole text)))

input-in_lines : FirstBads → (kind : InputKind) (text actual : List ℕ) → read_input kind text ≡ Err actual → IsReplyText actual
input-in_lines first_bads Changes text actual e = at (changes_in text) refl e where
  at : (read : Result (List Change) BadToken) → changes_in text ≡ read → changes_read read ≡ Err actual → IsReplyText actual
  at (Ok changes) is e = cc
  at (Err bad) is e = let same : line (bad_token_text bad) ≡ actual = cc in subst IsReplyText same (line-in_lines (bad_token_text bad) (bad-in_lines first_bads text bad is))
input-in_lines first_bads NoChange text actual e = at (changes_in text) refl e where
  at : (read : Result (List Change) BadToken) → changes_in text ≡ read → no_change_read read ≡ Err actual → IsReplyText actual
  at (Ok []) is e = cc
  at (Ok (change ∷ changes)) is e = let same : no_input_line ≡ actual = cc in subst IsReplyText same no_input-in_lines
  at (Err bad) is e = let same : line (bad_token_text bad) ≡ actual = cc in subst IsReplyText same (line-in_lines (bad_token_text bad) (bad-in_lines first_bads text bad is))
input-in_lines first_bads ConfStateLine text actual e = at (conf_state_in text) e where
  at : (read : Option ConfStateLists) → conf_state_read read ≡ Err actual → IsReplyText actual
  at None e = let same : line (codes "bad conf state") ≡ actual = cc in subst IsReplyText same (line-in_lines (codes "bad conf state") refl)
  at (Some saved) e = cc
input-in_lines first_bads Nothing [] actual e = cc
input-in_lines first_bads Nothing (b ∷ text) actual e = let same : no_input_line ≡ actual = cc in subst IsReplyText same no_input-in_lines

-- ---- the arguments
byte-key : (b : ℕ) → is_key_byte b ≡ true → is_line_byte b ≡ true
byte-key b h = grind (arith, nat_tests)

bad-key : (parameters : List Parameter) (before arguments : List ArgumentText) (key : List ℕ) → has_keys arguments ≡ true → first_bad parameters before arguments ≡ Some key → is_key key ≡ true
bad-key parameters before [] key h e = cc
bad-key parameters before (argument ∷ arguments) key h e = grind (arith, bad-key parameters (before ++ argument ∷ []) arguments key)

parameter-bytes : (parameter : Parameter) → list_all is_line_byte (key_of parameter) ≡ true
parameter-bytes parameter = grind arith

values-in_lines : (bad : Option (List ℕ)) (missing : Option Parameter) (values : Values) (actual : List ℕ) → ((key : List ℕ) → bad ≡ Some key → is_key key ≡ true) → values_read bad missing values ≡ Err actual → IsReplyText actual
values-in_lines (Some key) missing values actual h e =
    let same : line (codes "bad argument: " ++ key) ≡ actual = cc in
    subst IsReplyText same (line-in_lines (codes "bad argument: " ++ key) (reply_line-append (codes "bad argument: ") key refl refl (all-weaker is_key_byte is_line_byte byte-key key (and-second _ _ (h key refl)))))
values-in_lines None (Some parameter) values actual h e =
    let same : line (codes "missing argument: " ++ key_of parameter) ≡ actual = cc in
    subst IsReplyText same (line-in_lines (codes "missing argument: " ++ key_of parameter) (reply_line-append (codes "missing argument: ") (key_of parameter) refl refl (parameter-bytes parameter)))
values-in_lines None None values actual h e = cc

arguments-in_lines : (parameters : Option (List Parameter)) (arguments : List ArgumentText) (actual : List ℕ) → has_keys arguments ≡ true → read_arguments parameters arguments ≡ Err actual → IsReplyText actual
arguments-in_lines None arguments actual keys e = cc
arguments-in_lines (Some parameters) arguments actual keys e = grind (arith, values-in_lines, bad-key)

-- ---- the commands
step-in_lines : (made : Result ChangerState Refused) → HasReplyText (step_reply made)
step-in_lines (Ok after) = tracker-in_lines after.tracker
step-in_lines (Err refused) = line-in_lines (refused_text refused) (refused-in_lines refused)

restored-in_lines : (changer : ChangerState) (c : Option Configuration) → HasReplyText (restore_reply changer c)
restored-in_lines changer None = line-in_lines (codes "not a configuration") refl
restored-in_lines changer (Some c) = tracker-in_lines (begun_with changer.tracker.floor changer.last_index c).tracker

undo-in_lines : (session : SessionState) (count : ℕ) (plan : Result (List Step) UndoFault) → HasReplyText (undo_reply session count plan)
undo-in_lines session count (Ok steps) = reply_text-append _ _ (plan-in_lines steps) (tracker-in_lines (undone_changer session steps).tracker)
undo-in_lines session count (Err fault) = line-in_lines (undo_fault_text fault) (undo_fault-in_lines fault)

ack-in_lines : (changer : ChangerState) (id : ℕ) (made : Result Progress AckFault) → HasReplyText (ack_reply changer id made)
ack-in_lines changer id (Ok p) = line-in_lines (progress_text id p) (progress-in_lines id p)
ack-in_lines changer id (Err NotMember) = line-in_lines (codes "not a member") refl
ack-in_lines changer id (Err IndexTooLarge) = line-in_lines (codes "index too large") refl

one_each-in_lines : {V : Type 0} (ids : List ℕ) (values : List (Option V)) (text : List ℕ) → HasReplyText (replied_line text) → HasReplyText (replied_line (with_one_each ids values text))
one_each-in_lines ids values text t = by (is_one_each ids values) where
  by : (enough : Bool) → HasReplyText (replied_line (cond enough text (codes "wrong number of values")))
  by true = t
  by false = line-in_lines (codes "wrong number of values") refl

command-in_lines : (command : Command) (session : SessionState) (input : Input) (values : Values) → HasReplyText (reply_of command session input values)
command-in_lines Simple session input values = step-in_lines (changer_after session.changer (SimpleStep input.changes))
command-in_lines EnterJoint session input values = step-in_lines (changer_after session.changer (EnterStep values.auto_leave input.changes))
command-in_lines LeaveJoint session input values = step-in_lines (changer_after session.changer LeaveStep)
command-in_lines ConfChange session input values = step-in_lines (changer_after session.changer (step_for values.transition input.changes))
command-in_lines ConfState session input values = let saved = lists_of session.changer.tracker.config in line-in_lines (conf_state_text saved) (conf_state-in_lines saved)
command-in_lines Restore session input values = restored-in_lines session.changer (restored input.saved)
command-in_lines Undo session input values = undo-in_lines session values.steps (undo_plan_of session values.steps)
command-in_lines Ack session input values = ack-in_lines session.changer values.id (ack_answer session.changer.tracker values.id values.index)
command-in_lines CommitIndex session input values = line-in_lines _ (index-in_lines (committed_by session.changer.tracker))
command-in_lines Committed session input values = grind (arith, chart-in_lines, one_each-in_lines)
command-in_lines Vote session input values = grind (arith, one_each-in_lines, line-in_lines, vote-in_lines)
command-in_lines Unknown session input values = line-in_lines (codes "unknown command") refl

if_read-in_lines : {V : Type 0} (reply : V → Reply) (read : Result V (List ℕ)) → ((actual : List ℕ) → read ≡ Err actual → IsReplyText actual) → ((v : V) → HasReplyText (reply v)) → HasReplyText (if_read reply read)
if_read-in_lines reply (Ok v) bad good = good v
if_read-in_lines reply (Err actual) bad good = bad actual refl

pub reply-in_lines : FirstBads → (session : SessionState) (directive : DirectiveText) → has_keys directive.arguments ≡ true → IsReplyText (reply_to session directive).actual
reply-in_lines first_bads session directive keys = grind (arith, if_read-in_lines, input-in_lines, arguments-in_lines, command-in_lines)
