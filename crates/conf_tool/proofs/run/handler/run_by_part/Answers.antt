use Rattle.std.proofs.Common.{◌≡◌, true, false, ap, ◌≤◌, ◌∙◌, ◌++◌, ◌∷◌, [], sym, subst, refl, length-append, arith}
use Rattle.std.specs.Prelude.{Option, None, Some}
use Rattle.std.specs.Borrow.{Bor}
use Rattle.std.proofs.Math.Bool.{or-false}
use Rattle.std.proofs.lemmas.Result.{err_from_is_err_and}
use Rattle.dd_file.specs.Device.{AppendsPart, LosesPrefix}
use Rattle.dd_file.specs.Position.{longest_input, start}
use Rattle.dd_file.specs.Grammar.{next_of, script_from}
use Rattle.dd_file.specs.ReaderState.{ReaderState}
use Rattle.conf_tool.specs.Answered.{script}
use Rattle.conf_tool.proofs.ModeOutput.FirstParts.{means-of, part-nothing, wrote-kept, wrote-nothing, wrote-prefix}
use Rattle.conf_tool.specs.Run.{Means}
use Rattle.conf_tool.proofs.ModeInput.PositionReached.{loses-nothing, loses-more, reached-begin, reached-end, reached-fault, reached-part, reached-next, reached-prefix}
use Rattle.conf_tool.proofs.ModeInput.Faults.{input-fault, input-uncut, reader-fault, reader-means, reader-read, reader-unwritten, reader-flushed, or-fault}
use Rattle.conf_tool.proofs.run.handler.run_by_part.Goals as goal

pub returns-in_err-mode-clause-output : goal.returns-in_err-mode-clause-output
returns-in_err-mode-clause-output g c =
    let p = err_from_is_err_and c.from_residual.result c.from_residual.ensures.1 in
    rw (p.1, p.2, c.in_err-mode.ensures.memory) (λ input more agrees. part-nothing _ _)

pub returns-in_err-parts-clause-output : goal.returns-in_err-parts-clause-output
returns-in_err-parts-clause-output g c =
    let p = err_from_is_err_and c.from_residual-in_err-parts.result c.from_residual-in_err-parts.ensures.1 in
    rw (p.1, p.2, c.in_err-parts.ensures.memory) (λ input more agrees. part-nothing _ _)

pub each-init : goal.each-init
each-init g c = record {
  parts = [];
  reached = reached-begin _ _ _ c.in_ok-parts.ensures.fresh;
  answered = c.in_ok-mode.ensures.unanswered;
  wrote = wrote-nothing _ _ _ c.in_ok-mode.ensures.all;
  counted = subst (λ (s : ReaderState). s.position.lines ≤ longest_input) (sym c.in_ok-parts.ensures.fresh) (omega arith);
  unread = refl;
  unwritten = refl;
}

pub returns-in_err-read : goal.returns-in_err-read
returns-in_err-read g c =
    let p = err_from_is_err_and c.from_residual-in_err-read.result c.from_residual-in_err-read.ensures.1 in
    let remaining = g.R.Source.remaining in
    let before = g.W.Sink.contents c.args.writer.now in
    let after = g.W.Sink.contents c.next_after_flush.new.writer in
    let same = c.in_err-read.ensures.unread in
    let lost = subst (λ r. LosesPrefix (remaining c.each.reader) (remaining r)) (sym same) (loses-nothing (remaining c.each.reader)) in
    rw (p.1, p.2) (record {
      output = λ input more agrees.
          let prefix = reached-prefix _ _ _ _ _ _ c.each.invariant.reached lost input more agrees in
          subst (λ s. AppendsPart before after (g.M.Handler.whole c.args.options s).text) (sym prefix.is) (wrote-prefix _ _ _ _ _ (wrote-kept _ _ _ _ _ _ c.each.invariant.wrote c.next_after_flush.ensures.kept) prefix.rest);
      consumed = loses-more _ _ _ c.each.invariant.reached.consumed lost;
      read = ap g.R.Source.has_failed same ∙ c.each.invariant.unread ∙ sym (or-false _);
      write = or-fault _ _ _ _ _ c.in_err-read.ensures.write refl c.each.invariant.unwritten;
      asks = λ failed. let bad : false ≡ true = failed in cc;
      kinds = tt;
    })

pub reply-requires : goal.reply-requires
reply-requires g c = (_, c.each.invariant.answered, omega (arith, c.each.invariant.reached.few, c.each.invariant.counted))

pub each-preserved : goal.each-preserved
each-preserved g c =
    let some : c.in-Ok-Some.field-0 ≡ Some c.in-Ok-Some.part = rw c.in-Ok-Some.is at c.in-Ok-Some.field-0-is in
    let reads = (rw (c.in_ok-read.was, c.in-Ok-Some.is, some) at c.next_after_flush.follows.holds-at-none).0 in
    let parts = c.each.invariant.parts ++ c.in-Ok-Some.part.now ∷ [] in
    record {
      parts = parts;
      reached = reached-next _ _ _ _ _ _ _ _ _ _ _ c.requires.in_turn c.each.invariant.reached reads;
      answered = subst (g.M.Handler.HasAnswered c.reply.new.mode) (sym (length-append c.each.invariant.parts (c.in-Ok-Some.part.now ∷ []))) (c.in_ok-reply-in-Ok-Some.ensures.answered _ c.each.invariant.answered);
      wrote = c.in_ok-reply-in-Ok-Some.ensures.wrote _ _ _ (wrote-kept _ _ _ _ _ _ c.each.invariant.wrote c.next_after_flush.ensures.kept);
      counted = reads.counted;
      unread = reads.read c.each.invariant.reached.open_end ∙ or-false _ ∙ c.each.invariant.unread;
      unwritten = c.in_ok-reply-in-Ok-Some.ensures.write ∙ or-false _ ∙ c.in_ok-read.ensures.write ∙ or-false _ ∙ c.each.invariant.unwritten;
    }

pub returns-in_err-reply-in-Ok-Some-clause-output : goal.returns-in_err-reply-in-Ok-Some-clause-output
returns-in_err-reply-in-Ok-Some-clause-output g c = λ input more agrees.
    let p = err_from_is_err_and c.from_residual-in_err-reply-in-Ok-Some.result c.from_residual-in_err-reply-in-Ok-Some.ensures.1 in
    let some : c.in-Ok-Some.field-0 ≡ Some c.in-Ok-Some.part = rw c.in-Ok-Some.is at c.in-Ok-Some.field-0-is in
    let reads = (rw (c.in_ok-read.was, c.in-Ok-Some.is, some) at c.next_after_flush.follows.holds-at-none).0 in
    let prefix = reached-part _ _ _ _ _ _ _ _ _ _ _ c.requires.in_turn c.each.invariant.reached reads input more agrees in
    rw (p.1, p.2) (means-of (g.M.Handler.whole c.args.options) _ _ _ _ _ prefix.is
    (c.in_err-reply-in-Ok-Some.ensures.stop _ _ _ (wrote-kept _ _ _ _ _ _ c.each.invariant.wrote c.next_after_flush.ensures.kept) prefix.rest))

pub returns-in_err-reply-in-Ok-Some-clause-consumed : goal.returns-in_err-reply-in-Ok-Some-clause-consumed
returns-in_err-reply-in-Ok-Some-clause-consumed g c = loses-more _ _ _ c.each.invariant.reached.consumed (rw c.in_ok-read.was at c.next_after_flush.follows.holds-at-none).0.moves.consumed

pub finish-requires : goal.finish-requires
finish-requires g c = (_, c.each.invariant.answered)

pub returns-in-Ok-None-clause-output : goal.returns-in-Ok-None-clause-output
returns-in-Ok-None-clause-output g c = λ input more agrees.
    let none : c.in-Ok-None.field-0 ≡ None = rw c.in-Ok-None.is at c.in-Ok-None.field-0-is in
    let reads = (rw (c.in_ok-read.was, c.in-Ok-None.is, none) at c.next_after_flush.follows.holds-at-none).0 in
    let prefix = reached-end _ _ _ _ _ _ _ _ _ _ c.requires.in_turn c.each.invariant.reached reads input more agrees in
    subst (λ s. Means (g.M.Handler.whole c.args.options s) c.finish.result (g.W.Sink.contents c.args.writer.now) (g.W.Sink.contents c.finish.new.writer)) (sym prefix) (c.finish.ensures.output _ _ _ (wrote-kept _ _ _ _ _ _ c.each.invariant.wrote c.next_after_flush.ensures.kept))

pub returns-in-Ok-None-clause-consumed : goal.returns-in-Ok-None-clause-consumed
returns-in-Ok-None-clause-consumed g c = loses-more _ _ _ c.each.invariant.reached.consumed (rw c.in_ok-read.was at c.next_after_flush.follows.holds-at-none).0.moves.consumed

pub finish-requires-in-Script : goal.finish-requires-in-Script
finish-requires-in-Script g c = (_, c.each.invariant.answered)

pub returns-in-Script-clause-output : goal.returns-in-Script-clause-output
returns-in-Script-clause-output g c = λ input more agrees.
    let converted = input-fault c.in-Err.fault c.in-Script.fault (sym c.in-Script.is ∙ c.from.ensures) in
    let prefix = reached-fault _ _ _ _ _ _ _ _ _ _ _ c.requires.in_turn c.each.invariant.reached (rw (c.in_ok-read.was, c.in-Err.is) at c.next_after_flush.follows.holds-at-none).0 (input-uncut _ _ converted) input more agrees
    ∙ ap (λ f. script c.each.invariant.parts (Some f)) converted.same in
    subst (λ s. Means (g.M.Handler.whole c.args.options s) c.finish-in-Script.result (g.W.Sink.contents c.args.writer.now) (g.W.Sink.contents c.finish-in-Script.new.writer)) (sym prefix) (c.finish-in-Script.ensures.output _ _ _ (wrote-kept _ _ _ _ _ _ c.each.invariant.wrote c.next_after_flush.ensures.kept))

pub returns-in-Script-clause-consumed : goal.returns-in-Script-clause-consumed
returns-in-Script-clause-consumed g c = loses-more _ _ _ c.each.invariant.reached.consumed (rw c.in_ok-read.was at c.next_after_flush.follows.holds-at-none).0.moves.consumed

pub returns-in_default : goal.returns-in_default
returns-in_default g c =
    let converted = reader-fault c.in-Err.fault c.from.result c.from.ensures c.in_default.not-Script in
    let before = g.W.Sink.contents c.args.writer.now in
    let after = g.W.Sink.contents c.next_after_flush.new.writer in
    record {
      output = λ input more agrees.
          let prefix = reached-prefix _ _ _ _ _ _ c.each.invariant.reached (rw c.in_ok-read.was at c.next_after_flush.follows.holds-at-none).0.moves.consumed input more agrees in
          reader-means _ _ converted (g.M.Handler.whole c.args.options (script_from (next_of g.D.Draft.first_item g.D.Draft.numbered longest_input) start input)) before after
          (subst (λ s. AppendsPart before after (g.M.Handler.whole c.args.options s).text) (sym prefix.is) (wrote-prefix _ _ _ _ _ (wrote-kept _ _ _ _ _ _ c.each.invariant.wrote c.next_after_flush.ensures.kept) prefix.rest));
      consumed = loses-more _ _ _ c.each.invariant.reached.consumed (rw c.in_ok-read.was at c.next_after_flush.follows.holds-at-none).0.moves.consumed;
      read = or-fault _ _ _ _ _ ((rw (c.in_ok-read.was, c.in-Err.is) at c.next_after_flush.follows.holds-at-none).0.read c.each.invariant.reached.open_end) (reader-read _ _ converted) c.each.invariant.unread;
      write = or-fault _ _ _ _ _ c.in_ok-read.ensures.write (reader-unwritten _ _ converted) c.each.invariant.unwritten;
      asks = λ failed. reader-flushed (g.W.Sink.IsFlushed c.next_after_flush.new.writer) _ (Option (Bor g.row.D-Part.Denot)) _ _ converted failed (rw c.in-Err.is at (c.in_ok-read.ensures.flushed c.each.invariant.reached.open_end));
      kinds = rw c.from.ensures (c.requires.faults _ _ ((rw (c.in_ok-read.was, c.in-Err.is) at c.next_after_flush.follows.holds-at-none).0.kind c.each.invariant.reached.open_end));
    }

pub returns-in_err-reply-in-Ok-Some-clause-write : goal.returns-in_err-reply-in-Ok-Some-clause-write
returns-in_err-reply-in-Ok-Some-clause-write g c =
    let p = err_from_is_err_and c.from_residual-in_err-reply-in-Ok-Some.result c.from_residual-in_err-reply-in-Ok-Some.ensures.1 in
    rw (p.1, p.2) (or-fault _ _ _ _ _ c.in_err-reply-in-Ok-Some.ensures.write refl (c.in_ok-read.ensures.write ∙ or-false _ ∙ c.each.invariant.unwritten))

pub returns-in-Ok-None-clause-write : goal.returns-in-Ok-None-clause-write
returns-in-Ok-None-clause-write g c = or-fault _ _ _ _ _ c.finish.ensures.write refl (c.in_ok-read.ensures.write ∙ or-false _ ∙ c.each.invariant.unwritten)

pub returns-in-Script-clause-write : goal.returns-in-Script-clause-write
returns-in-Script-clause-write g c = or-fault _ _ _ _ _ c.finish-in-Script.ensures.write refl (c.in_ok-read.ensures.write ∙ or-false _ ∙ c.each.invariant.unwritten)
