use Rattle.std.proofs.Common.{arith, rules}
use Rattle.std.proofs.lemmas.Result.{err_from_is_err_and}
use Rattle.dd_file.proofs.Rewriting.PartByPart.{Finishes-from_last, finishes-part, finishes-none}
use Rattle.dd_file.proofs.rewriter.Rewriter.end.Goals as goal

pub returns-then-eq : goal.returns-then-eq
returns-then-eq g c = record {
  written = search rules;
  part = finishes-none _ _;
  expecting = search rules;
  fault = search rules;
  again = search rules;
  failed = search rules;
  sound = search rules;
}

pub returns-in_err-write_all : goal.returns-in_err-write_all
returns-in_err-write_all g c = grind (arith, err_from_is_err_and, finishes-part, c.from_residual.ensures.1, c.self.view_is, c.last_newline.ensures, c.in_err-write_all.ensures.err)

pub returns : goal.returns
returns g c = grind (arith, Finishes-from_last, c.self.view_is, c.last_newline.ensures, c.in_ok-write_all.ensures.ok)
