use Rattle.dd_file.proofs.Rewriting.KnownBytes.{gathered-more, gathered-part}
use Rattle.dd_file.proofs.blocks.Blocks.flush_block.Goals as goal

pub returns-then-count-total-clause-bytes : goal.returns-then-count-total-clause-bytes
returns-then-count-total-clause-bytes g c = gathered-more _ _ _ _ _ _ c.deref.ensures.value c.write_prefix-count.ensures.bytes

pub returns-then-count-total-clause-part : goal.returns-then-count-total-clause-part
returns-then-count-total-clause-part g c = gathered-part _ _ _ _ _ _ c.deref.ensures.value c.write_prefix-count.ensures.bytes
