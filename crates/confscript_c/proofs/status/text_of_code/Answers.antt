use Rattle.std.proofs.Common.{arith, sym}
use Rattle.std.proofs.lemmas.List.{get_or_past}
use Rattle.std.specs.Prelude.{codes}
use Rattle.confscript_c.specs.Status.{status_texts}
use Rattle.confscript_c.proofs.status.text_of_code.Goals as goal

pub returns-in_default : goal.returns-in_default
returns-in_default c = sym (get_or_past status_texts c.args.code (codes "unknown status") (omega (arith, c.in_default)))
