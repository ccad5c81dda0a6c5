use Rattle.std.proofs.Common.{◌∙◌, sym, ap, refl, ◌||◌}
use Rattle.std.specs.Prelude.{⊤}
use Rattle.std.proofs.Math.Bool.{or-false, or-true}
use Rattle.std.proofs.lemmas.Result.{err_from_is_err_and}
use Rattle.conf_tool.proofs.ModeOutput.FirstParts.{wrote-part, wrote-cut, stop-means, stop-kind}
use Rattle.conf_tool.proofs.run.handler.reply.Goals as goal

pub returns-in_err-answer : goal.returns-in_err-answer
returns-in_err-answer g c =
    let p = err_from_is_err_and c.from_residual.result c.from_residual.ensures.1 in
    let stop = c.in_err-answer.ensures.stop in
    let kind = stop-kind _ ⊤ _ _ stop in
    rw (p.1, p.2) (record {
      answered = tt;
      wrote = tt;
      stop = λ total parts before prefix rest. stop-means g.M.Handler.mode _ total _ parts _ before _ prefix stop rest;
      read = kind.unread;
      write = sym (or-false _) ∙ ap (λ failed. g.W.Sink.has_failed c.args.writer.now || failed) (sym kind.unwritten);
      kinds = kind.kind;
    })

pub returns-in_err-write_all : goal.returns-in_err-write_all
returns-in_err-write_all g c =
    let p = err_from_is_err_and c.from_residual-in_err-write_all.result c.from_residual-in_err-write_all.ensures.1 in
    rw (p.1, p.2) (record {
      answered = tt;
      wrote = tt;
      stop = λ total parts before prefix rest. wrote-cut total _ _ parts _ _ before _ _ prefix c.in_ok-answer.ensures.text (rw c.as_slice.ensures.value at c.in_err-write_all.ensures.err) rest;
      read = refl;
      write = c.in_err-write_all.ensures.failed ∙ sym (or-true _);
      kinds = tt;
    })

pub returns-clause-wrote : goal.returns-clause-wrote
returns-clause-wrote g c = λ total parts before prefix.
    wrote-part total _ _ parts _ _ before _ _ prefix c.in_ok-answer.ensures.text (rw c.as_slice.ensures.value at c.in_ok-write_all.ensures.ok)
