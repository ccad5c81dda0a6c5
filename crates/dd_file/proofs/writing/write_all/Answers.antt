use Rattle.dd_file.proofs.Rewriting.KnownBytes.{prefix-part}
use Rattle.dd_file.proofs.writing.write_all.Goals as goal

pub returns-then-write_prefix-bytes-clause-err : goal.returns-then-write_prefix-bytes-clause-err
returns-then-write_prefix-bytes-clause-err g c = prefix-part _ _ _ _ c.write_prefix.ensures.bytes
