use Rattle.std.proofs.Common.{◌≡◌, ◌+◌, ◌-◌, ◌≤◌, false, length}
use Rattle.dd_file.specs.Draft.{DraftOf}
use Rattle.dd_file.proofs.scan.add_lines.Given as goal

-- the draft has the lines so far, and more of them come
abbrev pub invariant-lines : goal.invariant-lines
invariant-lines g l = record {
  so_far : DraftOf g.D.Draft.first_item g.D.Draft.begun g.D.Draft.Fits l.draft l.scan l.bytes;
  open_end : (g.D.Draft.begun l.draft).is_done ≡ false;
  farther : l.fn.scan.bytes + l.fn.scan.searched ≤ l.scan.bytes + l.scan.searched;
}

-- the bytes that are left
abbrev pub decreases-lines : goal.decreases-lines
decreases-lines g l = length l.bytes - l.scan.bytes
