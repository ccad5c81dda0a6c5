use Rattle.std.proofs.Common.{rules}
use Rattle.dd_file.proofs.Reading.StateByState.{adds-blank}
use Rattle.dd_file.proofs.item_draft.DraftParts.add_single.Goals as goal

pub returns-then-is_blank : goal.returns-then-is_blank
returns-then-is_blank c = adds-blank _ _ c.requires.fits (search rules)
