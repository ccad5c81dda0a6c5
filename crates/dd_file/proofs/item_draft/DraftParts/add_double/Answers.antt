use Rattle.std.proofs.Common.{rules}
use Rattle.dd_file.proofs.Reading.StateByState.{adds-double}
use Rattle.dd_file.proofs.item_draft.DraftParts.add_double.Goals as goal

pub returns : goal.returns
returns c = adds-double _ _ _ c.requires.fits (search rules) c.in_ok-keep_output.ensures
