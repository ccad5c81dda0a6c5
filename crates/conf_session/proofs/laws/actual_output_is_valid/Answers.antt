use Rattle.conf_session.proofs.OutputLines.{reply_text-valid_output}
use Rattle.conf_session.proofs.RepliesInLines.{reply-in_lines}
use Rattle.conf_session.proofs.laws.actual_output_is_valid.Goals as goal

pub returns : goal.returns
returns c = λ session directive keys.
    reply_text-valid_output _ (reply-in_lines (λ text bad. (c.one_list_per_text.ensures.err text bad).1) session directive keys)
