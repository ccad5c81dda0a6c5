use Rattle.dd_file.proofs.Reading.BytesTaken.{next_line-grammar, begun_line-is}
use Rattle.dd_file.proofs.line.LineDraftDraft.parts_are_of_a_grammar.Goals as goal

pub returns-clause-grammar : goal.returns-clause-grammar
returns-clause-grammar c = next_line-grammar

pub returns-clause-begun : goal.returns-clause-begun
returns-clause-begun c draft fits = begun_line-is draft
