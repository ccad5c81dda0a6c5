use Rattle.std.proofs.Common.{◌≡◌, ◌+◌, ◌-◌, false, suc, length}
use Rattle.dd_file.specs.Position.{longest_input}
use Rattle.dd_file.specs.Buffered.{within_limit}
use Rattle.dd_file.specs.Draft.{DraftOf}
use Rattle.dd_file.proofs.Reading.BufferFilled.{Filled}
use Rattle.dd_file.proofs.read_ahead.read_rest.Given as goal

-- the draft has the buffered lines that end in a newline, and more of them come
abbrev pub invariant-read : goal.invariant-read
invariant-read g l = record {
  filled : Filled g.R.Source.remaining g.R.Source.has_failed l.fn.input l.input l.fn.reader l.reader;
  so_far : DraftOf g.D.Draft.first_item g.D.Draft.begun g.D.Draft.Fits l.draft l.scan (within_limit l.input);
  open_end : (g.D.Draft.begun l.draft).is_done ≡ false;
  searched : l.scan.bytes + l.scan.searched ≡ length (within_limit l.input);
}

-- the bytes that are left up to the limit
abbrev pub decreases-read : goal.decreases-read
decreases-read g l = suc longest_input - length l.input.buffered
