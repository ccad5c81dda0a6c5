use Rattle.std.proofs.Common.{sym}
use Rattle.std.proofs.lemmas.Result.{err_from_is_err_and}
use Rattle.dd_file.proofs.Rewriting.KnownBytes.{appends-append, append-part, part-part}
use Rattle.dd_file.proofs.Rewriting.PartByPart.{continues-bytes, breaks-bytes}
use Rattle.dd_file.proofs.rewriter.write_text.Goals as goal

pub returns-in_err-write_all-clause-err : goal.returns-in_err-write_all-clause-err
returns-in_err-write_all-clause-err g c =
    let p = err_from_is_err_and c.from_residual.result c.from_residual.ensures.1 in
    rw (p.1) (breaks-bytes _ _ _ _ (sym c.if-is_empty.ensures) (part-part _ _ _ _ (rw (c.pending_newline.ensures) at c.in_err-write_all.ensures.err)))

pub returns-in_err-write_all-2-clause-err : goal.returns-in_err-write_all-2-clause-err
returns-in_err-write_all-2-clause-err g c =
    let p = err_from_is_err_and c.from_residual-in_err-write_all-2.result c.from_residual-in_err-write_all-2.ensures.1 in
    rw (p.1) (breaks-bytes _ _ _ _ (sym c.if-is_empty.ensures) (append-part _ (g.W.Sink.contents c.write_all.new.writer) _ _ _ (rw (c.pending_newline.ensures) at c.in_ok-write_all.ensures.ok)
    (rw (c.strip_last.ensures) at c.in_err-write_all-2.ensures.err)))

pub returns-clause-ok : goal.returns-clause-ok
returns-clause-ok g c = continues-bytes _ _ _ _ _ (sym c.if-is_empty.ensures)
    (appends-append _ (g.W.Sink.contents c.write_all.new.writer) _ _ _ (rw (c.pending_newline.ensures) at c.in_ok-write_all.ensures.ok) (rw (c.strip_last.ensures) at c.in_ok-write_all-2.ensures.ok))
    c.count_newlines.ensures
