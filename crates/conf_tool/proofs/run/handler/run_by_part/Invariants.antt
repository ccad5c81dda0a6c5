use Rattle.std.proofs.Common.{◌≡◌, ◌≤◌, ◌-◌, List, length}
use Rattle.dd_file.specs.Position.{longest_input}
use Rattle.dd_file.specs.Grammar.{next_of}
use Rattle.conf_tool.specs.Answered.{WrotePrefix}
use Rattle.conf_tool.proofs.ModeInput.PositionReached.{Reached}
use Rattle.conf_tool.proofs.run.handler.run_by_part.Given as goal

-- the parts so far were read and answered, and no device failed
abbrev pub invariant-each : goal.invariant-each
invariant-each g l =
    let remaining = g.R.Source.remaining in
    let contents = g.W.Sink.contents in
    let mode = g.M.Handler in
    record {
      parts : List g.row.D-Part.Denot;
      reached : Reached (next_of g.D.Draft.first_item g.D.Draft.numbered longest_input) (remaining l.fn.reader) (remaining l.reader) l.parts parts;
      answered : mode.HasAnswered l.mode (length parts);
      wrote : WrotePrefix (mode.whole l.fn.options) (mode.left l.mode) parts (contents l.fn.writer) (contents l.writer);
      counted : l.parts.position.lines ≤ longest_input;
      unread : g.R.Source.has_failed l.reader ≡ g.R.Source.has_failed l.fn.reader;
      unwritten : g.W.Sink.has_failed l.writer ≡ g.W.Sink.has_failed l.fn.writer;
    }

-- an input has only this many lines, and each part has one
abbrev pub decreases-each : goal.decreases-each
decreases-each g l = longest_input - l.parts.position.lines
