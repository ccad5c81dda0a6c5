-- The reply of a command.
use Rattle.std.specs.Prelude.{ℕ, List, option_map, unwrap_or}
use Rattle.std.specs.Result.{result_ok}
use Rattle.conf_change.specs.Acknowledgement.{ack_answer, changer_with_progress}
use Rattle.conf_change.specs.ChangerState.{ChangerState}
use Rattle.conf_change.specs.Text.{progress_text}
use Rattle.conf_change.specs.declared.progress.Progress.{Progress}
use Rattle.conf_session.specs.ReplyTexts.{line, tracker_text}
use Rattle.conf_session.specs.SessionState.{SessionChange, Nothing, Acknowledged, Stepped, Restored, Undone}
use Rattle.conf_session.specs.declared.session_update.SessionUpdate.{SessionUpdate}
use Rattle.conf_session.specs.declared.session_update.SessionUpdate.TheVariants as update

-- the output, and how the session changes
pub record Reply : Type 0 where
  pub actual : List ℕ
  pub update : SessionChange

-- the changer after an acknowledgement; unchanged if it is refused
abbrev pub after_acknowledgement : ChangerState → ℕ → ℕ → ChangerState
after_acknowledgement changer id index = unwrap_or
    (option_map (changer_with_progress changer id)
    (result_ok (ack_answer changer.tracker id index))) changer

-- how an update changes a session that has this changer, where `next` is the next one
abbrev pub session_change : ChangerState → ChangerState → SessionUpdate → SessionChange
session_change changer next update.Nothing = Nothing
session_change changer next (update.Acknowledged id index) =
    Acknowledged (after_acknowledgement changer id index)
session_change changer next update.Stepped = Stepped next
session_change changer next update.Restored = Restored next
session_change changer next (update.Undone count) = Undone next count

-- the reply that an output and an update denote
abbrev pub reply_in : ChangerState → ChangerState → List ℕ → SessionUpdate → Reply
reply_in changer next actual update =
    record { actual = actual; update = session_change changer next update }

-- an output after which the session is unchanged
abbrev pub replied : List ℕ → Reply
replied actual = record { actual = actual; update = Nothing }

-- one line after which the session is unchanged
abbrev pub replied_line : List ℕ → Reply
replied_line text = replied (line text)

-- an accepted change, with the changer after it
abbrev pub stepped : ChangerState → Reply
stepped after = record { actual = tracker_text after.tracker; update = Stepped after }

-- a restored configuration, with the changer that begins with it
abbrev pub restored_with : ChangerState → Reply
restored_with after = record { actual = tracker_text after.tracker; update = Restored after }

-- an acknowledged index, with the progress of its member
abbrev pub acknowledged_by : ChangerState → ℕ → Progress → Reply
acknowledged_by after id p =
    record { actual = line (progress_text id p); update = Acknowledged after }
