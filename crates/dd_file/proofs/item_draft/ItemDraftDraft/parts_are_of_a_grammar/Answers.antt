use Rattle.dd_file.proofs.Reading.BytesTaken.{next_item-grammar}
use Rattle.dd_file.proofs.Reading.NoMoreLine.{begun_item-is}
use Rattle.dd_file.proofs.item_draft.ItemDraftDraft.parts_are_of_a_grammar.Goals as goal

pub returns-clause-grammar : goal.returns-clause-grammar
returns-clause-grammar c = next_item-grammar

pub returns-clause-begun : goal.returns-clause-begun
returns-clause-begun c draft fits = begun_item-is draft fits
