use Rattle.std.proofs.lemmas.Grind.{common_steps}
use Rattle.std.proofs.Common.{◌≡◌, ◌++◌, arith}
use Rattle.std.specs.Prelude.{Some, slice_get}
use Rattle.std.specs.FinMap as finite
use Rattle.std.proofs.lemmas.List.{take_all}
use Rattle.std.proofs.lemmas.Option.{gets}
use Rattle.conf_change.specs.Text.{progress_text}
use Rattle.conf_session.specs.ReplyTexts.{line}
use Rattle.conf_session.proofs.CommandReplies.{members-one_more, tracker-appended}
use Rattle.conf_session.proofs.reply_texts.append_tracker.Goals as goal
use Rattle.conf_session.proofs.reply_texts.append_tracker.Goals.{in-Some+in_ok-append_member, in_default}

pub loop-index-preserved : goal.loop-index-preserved
loop-index-preserved c = elim c.match-member_at.branch [
  | in-Some+in_ok-append_member w ↦
      let at : slice_get (finite.entries c.args.tracker.now.progress) c.loop-index.index ≡ Some (w.in-Some.id, w.in-Some.progress) = cc in
      let more : c.match-member_at.text.items ≡ c.loop-index.text.items ++ line (progress_text w.in-Some.id w.in-Some.progress) = rw w.text-is w.in_ok-append_member.ensures in
      members-one_more _ _ _ _ _ _ _ at c.loop-index.invariant more
  | in_default w ↦ grind (arith, gets)
]

pub returns : goal.returns
returns c = grind (arith, common_steps, take_all, tracker-appended, c.config.ensures, c.in_ok-write_config.ensures.ok, c.in_ok-end_line.ensures, c.loop-index.invariant)
