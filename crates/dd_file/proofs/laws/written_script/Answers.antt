use Rattle.dd_file.proofs.Rewriting.ScriptAgain.{written-again}
use Rattle.dd_file.proofs.laws.written_script.Goals as goal

pub returns : goal.returns
returns c = written-again
