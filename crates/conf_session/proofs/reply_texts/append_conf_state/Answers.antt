use Rattle.std.proofs.Common.{arith}
use Rattle.std.proofs.lemmas.List.{append_assoc}
use Rattle.conf_session.proofs.reply_texts.append_conf_state.Goals as goal

pub returns : goal.returns
returns c = grind (arith, append_assoc, c.in_ok-write_conf_state.ensures.ok, c.in_ok-state.ensures.ascending, c.end_line.ensures)
