use Rattle.std.proofs.Common.{◌∙◌, sym, ap, refl, ◌||◌}
use Rattle.std.proofs.Math.Bool.{or-false, or-true}
use Rattle.std.proofs.lemmas.Result.{err_from_is_err_and}
use Rattle.conf_tool.proofs.ModeOutput.FirstParts.{wrote-end, wrote-end_part, wrote-no_end, whole-unfailed}
use Rattle.conf_tool.proofs.run.handler.finish.Goals as goal

pub returns-in_err-outcome-clause-output : goal.returns-in_err-outcome-clause-output
returns-in_err-outcome-clause-output g c =
    let p = err_from_is_err_and c.from_residual.result c.from_residual.ensures.1 in
    rw (p.1, p.2) (λ total parts before prefix. wrote-no_end total _ parts _ before _ prefix)

pub returns-in_err-write_all : goal.returns-in_err-write_all
returns-in_err-write_all g c =
    let p = err_from_is_err_and c.from_residual-in_err-write_all.result c.from_residual-in_err-write_all.ensures.1 in
    rw (p.1, p.2) (record {
      output = λ total parts before prefix. wrote-end_part total _ parts _ _ _ before _ _ prefix c.in_ok-outcome.ensures.output (rw c.as_slice.ensures.value at c.in_err-write_all.ensures.err);
      read = refl;
      write = c.in_err-write_all.ensures.failed ∙ sym (or-true _);
      kinds = λ fault. tt;
    })

pub returns : goal.returns
returns g c =
    let unfailed = whole-unfailed _ c.in_ok-outcome.ensures.whole in
    record {
      output = λ total parts before prefix.
          wrote-end total _ parts _ _ _ before _ _ prefix c.in_ok-outcome.ensures.output c.in_ok-outcome.ensures.whole (rw c.as_slice.ensures.value at c.in_ok-write_all.ensures.ok);
      read = unfailed.0;
      write = c.in_ok-write_all.ensures.sound ∙ sym (or-false _) ∙ ap (λ failed. g.W.Sink.has_failed c.args.writer.now || failed) (sym unfailed.1);
      kinds = c.in_ok-outcome.ensures.kinds;
    }
