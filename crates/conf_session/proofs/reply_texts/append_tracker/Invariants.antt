use Rattle.std.proofs.Common.{◌≡◌, ◌++◌, take}
use Rattle.std.specs.Prelude.{flat_map}
use Rattle.std.specs.FinMap as finite
use Rattle.conf_session.specs.ReplyTexts.{member_line}
use Rattle.conf_session.proofs.reply_texts.append_tracker.Given as goal

abbrev pub invariant-loop-index : goal.invariant-loop-index
invariant-loop-index l = l.text.items ≡ l.initial.text.items ++ flat_map member_line (take l.index (finite.entries l.tracker.progress))
