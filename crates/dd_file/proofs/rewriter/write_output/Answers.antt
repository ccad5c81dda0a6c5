use Rattle.std.proofs.lemmas.Result.{err_from_is_err_and}
use Rattle.dd_file.proofs.Rewriting.OutputText.{continues-found, breaks-found}
use Rattle.dd_file.proofs.Rewriting.KnownBytes.{appends-append, append-part, part-part}
use Rattle.dd_file.proofs.rewriter.write_output.Goals as goal

pub returns-in_err-write_all-clause-err : goal.returns-in_err-write_all-clause-err
returns-in_err-write_all-clause-err g c =
    let p = err_from_is_err_and c.from_residual.result c.from_residual.ensures.1 in
    rw (p.1, ← c.needs_double-double.ensures) (breaks-found c.args.newlines c.needs_double-double.result _ _ c.args.text.now (part-part _ _ _ _ (rw (c.before_output.ensures) at c.in_err-write_all.ensures.err)))

pub returns-in_err-write_all-2-clause-err : goal.returns-in_err-write_all-2-clause-err
returns-in_err-write_all-2-clause-err g c =
    let p = err_from_is_err_and c.from_residual-in_err-write_all-2.result c.from_residual-in_err-write_all-2.ensures.1 in
    rw (p.1, ← c.needs_double-double.ensures) (breaks-found c.args.newlines c.needs_double-double.result _ _ c.args.text.now
    (append-part _ (g.W.Sink.contents c.write_all.new.writer) _ _ _ (rw (c.before_output.ensures) at c.in_ok-write_all.ensures.ok) (part-part _ _ _ _ c.in_err-write_all-2.ensures.err)))

pub returns-in_err-write_all-3-clause-err : goal.returns-in_err-write_all-3-clause-err
returns-in_err-write_all-3-clause-err g c =
    let p = err_from_is_err_and c.from_residual-in_err-write_all-3.result c.from_residual-in_err-write_all-3.ensures.1 in
    rw (p.1, ← c.needs_double-double.ensures) (breaks-found c.args.newlines c.needs_double-double.result _ _ c.args.text.now
    (append-part _ (g.W.Sink.contents c.write_all.new.writer) _ _ _ (rw (c.before_output.ensures) at c.in_ok-write_all.ensures.ok)
    (append-part _ (g.W.Sink.contents c.write_all-2.new.writer) _ _ _ c.in_ok-write_all-2.ensures.ok
    (rw (c.strip_last.ensures, c.after_output-suffix.ensures) at c.in_err-write_all-3.ensures.err))))

pub returns-clause-ok : goal.returns-clause-ok
returns-clause-ok g c =
    rw (← c.needs_double-double.ensures) (continues-found c.args.newlines c.count_newlines.result c.count_newlines-2.result c.needs_double-double.result _ _ c.args.text.now
    (appends-append _ (g.W.Sink.contents c.write_all.new.writer) _ _ _ (rw (c.before_output.ensures) at c.in_ok-write_all.ensures.ok)
    (appends-append _ (g.W.Sink.contents c.write_all-2.new.writer) _ _ _ c.in_ok-write_all-2.ensures.ok
    (rw (c.strip_last.ensures, c.after_output-suffix.ensures) at c.in_ok-write_all-3.ensures.ok)))
    c.count_newlines.ensures (rw (c.after_output-suffix.ensures) at c.count_newlines-2.ensures))
