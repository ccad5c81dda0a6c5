-- The answer of a session to a directive.
use Rattle.std.specs.Prelude.{ℕ, List, [], ◌∷◌, Option, Some, None, Result, Ok, Err, if◌then◌else◌, codes, bytes_eq}
use Rattle.quorum_sets.specs.Committed.{joint_committed_index}
use Rattle.dd_file.specs.DirectiveText.{DirectiveText}
use Rattle.dd_file.specs.DirectiveLine.{ArgumentText}
use Rattle.conf_change.specs.ChangerState.{ChangerState}
use Rattle.conf_change.specs.Configuration.{Configuration, voters_of}
use Rattle.conf_change.specs.Changer.{changer_after, begun_with}
use Rattle.conf_change.specs.Acknowledgement.{ack_answer, changer_with_progress, matches}
use Rattle.conf_change.specs.ConfState.{lists_of, restored}
use Rattle.conf_change.specs.ConfStateLine.{conf_state_text}
use Rattle.conf_change.specs.Text.{refused_text}
use Rattle.conf_change.specs.TrackerState.{TrackerState}
use Rattle.conf_change.specs.Transition.{step_for}
use Rattle.conf_change.specs.declared.acknowledgement.AckFault.{AckFault}
use Rattle.conf_change.specs.declared.acknowledgement.AckFault.TheVariants.{NotMember, IndexTooLarge}
use Rattle.conf_change.specs.declared.progress.Progress.{Progress}
use Rattle.conf_change.specs.declared.refused.Refused.{Refused}
use Rattle.conf_change.specs.declared.step.Step.{Step}
use Rattle.conf_change.specs.declared.step.Step.TheVariants.{Simple as SimpleStep, EnterJoint as EnterStep, LeaveJoint as LeaveStep}
use Rattle.conf_session.specs.SessionState.{SessionState, after_directive}
use Rattle.conf_session.specs.Input.{Input, read_input}
use Rattle.conf_session.specs.Values.{Values, read_arguments}
use Rattle.conf_session.specs.Quorum.{index_text, committed_reply, vote_reply}
use Rattle.conf_session.specs.Reply.{Reply, replied, replied_line, stepped, restored_with, acknowledged_by}
use Rattle.conf_session.specs.Undo.{undo_plan_of, undo_fault_text, undone}
use Rattle.conf_session.specs.declared.input.InputKind.{InputKind}
use Rattle.conf_session.specs.declared.input.InputKind.TheVariants.{Changes, NoChange, ConfStateLine, Nothing}
use Rattle.conf_session.specs.declared.parameter.Parameter.{Parameter}
use Rattle.conf_session.specs.declared.parameter.Parameter.TheVariants.{AutoLeave, Transition as TransitionAsked, Steps, Id, Index, Incoming, Outgoing, Indexes, Votes}
use Rattle.conf_session.specs.declared.undo_fault.UndoFault.{UndoFault}
use Rattle.conf_session.specs.declared.commands.Command.{Command}
use Rattle.conf_session.specs.declared.commands.Command.TheVariants.{Simple, EnterJoint, LeaveJoint, ConfChange, ConfState, Restore, Undo, Ack, CommitIndex, Committed, Vote, Unknown}

-- A command, the kind of its input, and its parameters, in the order in which missing arguments are reported. They are
-- None if the arguments are ignored.
pub record Row : Type 0 where
  pub command : Command
  pub input : InputKind
  pub parameters : Option (List Parameter)

-- a row with these parts
abbrev pub row_with : Command → InputKind → Option (List Parameter) → Row
row_with command input parameters =
    record { command = command; input = input; parameters = parameters }

-- the table of commands: the row of a name
abbrev pub row_of : List ℕ → Row
row_of name =
    if bytes_eq name (codes "simple") then row_with Simple Changes None
    else (if bytes_eq name (codes "enter-joint")
    then row_with EnterJoint Changes (Some (AutoLeave ∷ []))
    else (if bytes_eq name (codes "leave-joint") then row_with LeaveJoint NoChange None
    else (if bytes_eq name (codes "conf-change")
    then row_with ConfChange Changes (Some (TransitionAsked ∷ []))
    else (if bytes_eq name (codes "conf-state") then row_with ConfState Nothing (Some [])
    else (if bytes_eq name (codes "restore") then row_with Restore ConfStateLine (Some [])
    else (if bytes_eq name (codes "undo") then row_with Undo Nothing (Some (Steps ∷ []))
    else (if bytes_eq name (codes "ack") then row_with Ack Nothing (Some (Id ∷ Index ∷ []))
    else (if bytes_eq name (codes "commit-index") then row_with CommitIndex Nothing (Some [])
    else (if bytes_eq name (codes "committed")
    then row_with Committed Nothing (Some (Incoming ∷ Outgoing ∷ Indexes ∷ []))
    else (if bytes_eq name (codes "vote")
    then row_with Vote Nothing (Some (Incoming ∷ Outgoing ∷ Votes ∷ []))
    else row_with Unknown Changes None))))))))))

-- the reply to a change: the configuration after it, or why it is refused
abbrev pub step_reply : Result ChangerState Refused → Reply
step_reply (Ok after) = stepped after
step_reply (Err refused) = replied_line (refused_text refused)

-- the reply to a step
abbrev pub reply_to_step : ChangerState → Step → Reply
reply_to_step changer step = step_reply (changer_after changer step)

-- the reply to `restore`: the restored configuration, or that the saved lists describe none
abbrev pub restore_reply : ChangerState → Option Configuration → Reply
restore_reply changer None = replied_line (codes "not a configuration")
restore_reply changer (Some c) =
    restored_with (begun_with changer.tracker.floor changer.last_index c)

-- the reply to `undo` with this plan, or with the reason why there is none
abbrev pub undo_reply : SessionState → ℕ → Result (List Step) UndoFault → Reply
undo_reply session count (Ok steps) = undone session count steps
undo_reply session count (Err fault) = replied_line (undo_fault_text fault)

-- the reply to `undo` of the last `count` changes
abbrev pub undo_last : SessionState → ℕ → Reply
undo_last session count = undo_reply session count (undo_plan_of session count)

-- the reply to `ack`: the member's progress after the acknowledgement, or why it is refused
abbrev pub ack_reply : ChangerState → ℕ → Result Progress AckFault → Reply
ack_reply changer id (Ok p) = acknowledged_by (changer_with_progress changer id p) id p
ack_reply changer id (Err NotMember) = replied_line (codes "not a member")
ack_reply changer id (Err IndexTooLarge) = replied_line (codes "index too large")

-- the reply to `ack` of this index by the member with this id
abbrev pub reply_to_ack : ChangerState → ℕ → ℕ → Reply
reply_to_ack changer id index = ack_reply changer id (ack_answer changer.tracker id index)

-- the index that the configuration commits if each member has acknowledged its match index
abbrev pub committed_by : TrackerState → ℕ
committed_by tracker = joint_committed_index (voters_of tracker.config) (matches tracker)

-- the reply of a command to its input and the values of its arguments
abbrev pub reply_of : Command → SessionState → Input → Values → Reply
reply_of Simple session input values = reply_to_step session.changer (SimpleStep input.changes)
reply_of EnterJoint session input values =
    reply_to_step session.changer (EnterStep values.auto_leave input.changes)
reply_of LeaveJoint session input values = reply_to_step session.changer LeaveStep
reply_of ConfChange session input values =
    reply_to_step session.changer (step_for values.transition input.changes)
reply_of ConfState session input values =
    replied_line (conf_state_text (lists_of session.changer.tracker.config))
reply_of Restore session input values = restore_reply session.changer (restored input.saved)
reply_of Undo session input values = undo_last session values.steps
reply_of Ack session input values = reply_to_ack session.changer values.id values.index
reply_of CommitIndex session input values =
    replied_line (index_text (committed_by session.changer.tracker))
reply_of Committed session input values = replied_line (committed_reply values)
reply_of Vote session input values = replied_line (vote_reply values)
reply_of Unknown session input values = replied_line (codes "unknown command")

-- the reply to what was read, or the line that reports why it could not be read
abbrev pub if_read : {V : Type 0} → (V → Reply) → Result V (List ℕ) → Reply
if_read reply (Ok read) = reply read
if_read reply (Err actual) = replied actual

-- the reply of a row: the input is read first, then the arguments, and then the command is run
abbrev pub reply_by : Row → SessionState → List ℕ → List ArgumentText → Reply
reply_by row session text arguments =
    if_read (λ input. if_read (λ values. reply_of row.command session input values)
    (read_arguments row.parameters arguments)) (read_input row.input text)

-- the reply to a directive
abbrev pub reply_to : SessionState → DirectiveText → Reply
reply_to session directive =
    reply_by (row_of directive.command) session directive.input directive.arguments

-- the output, and the session afterwards
pub record Answer : Type 0 where
  pub actual : List ℕ
  pub session : SessionState

-- the answer that a reply gives: its output, and the session after its update
abbrev pub answered : SessionState → Reply → Answer
answered session reply =
    record { actual = reply.actual; session = after_directive session reply.update }

-- The answer to a directive. A refused one changes only the last index.
abbrev pub answer : SessionState → DirectiveText → Answer
answer session directive = answered session (reply_to session directive)

-- the session after the answers to some directives in turn
abbrev pub after_answers : SessionState → List DirectiveText → SessionState
after_answers session [] = session
after_answers session (directive ∷ directives) =
    after_answers (answer session directive).session directives
