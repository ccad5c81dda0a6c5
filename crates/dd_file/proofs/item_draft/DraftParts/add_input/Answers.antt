use Rattle.std.proofs.Common.{rules}
use Rattle.dd_file.proofs.Reading.StateByState.{adds-separator}
use Rattle.dd_file.proofs.item_draft.DraftParts.add_input.Goals as goal

pub returns-then-is_separator : goal.returns-then-is_separator
returns-then-is_separator c = adds-separator _ _ c.requires.fits (search rules)
