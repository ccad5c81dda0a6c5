use Rattle.std.proofs.Common.{arith}
use Rattle.std.proofs.lemmas.List.{nil_from_length}
use Rattle.dd_file.proofs.DirectiveTokens.ListedValues.{split_at_commas-last, split_at_commas-comma}
use Rattle.dd_file.proofs.values.Values.next.Goals as goal
use Rattle.dd_file.proofs.values.Values.next.Goals.{in-Some, in-None}

pub returns-after-split_first : goal.returns-after-split_first
returns-after-split_first c = grind (arith, split_at_commas-comma, split_at_commas-last, nil_from_length, c.self.view_is, c.in-Listed.is, c.position_of.ensures.position, c.trimmed.ensures, c.split_at.ensures.front, c.split_at.ensures.back, c.match-split_first.branch)
