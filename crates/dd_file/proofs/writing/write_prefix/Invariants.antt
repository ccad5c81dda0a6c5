use Rattle.std.proofs.Common.{◌≡◌, ◌≤◌, ◌-◌, [], length, take}
use Rattle.std.specs.Io.KnownBytes.{Appends}
use Rattle.dd_file.proofs.writing.write_prefix.Given as goal

-- the prefix that is written; no write failed
abbrev pub invariant-loop-written : goal.invariant-loop-written
invariant-loop-written g l = record {
  bound : l.written ≤ length l.bytes;
  bytes : Appends (g.W.Sink.contents l.fn.writer) (g.W.Sink.contents l.writer) (take l.written l.bytes);
  sound : g.W.Sink.has_failed l.writer ≡ g.W.Sink.has_failed l.fn.writer;
  nothing : l.bytes ≡ [] → l.writer ≡ l.fn.writer;
}

abbrev pub decreases-loop-written : goal.decreases-loop-written
decreases-loop-written g l = length l.bytes - l.written
