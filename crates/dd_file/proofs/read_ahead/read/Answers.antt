use Rattle.std.proofs.Common.{◌-◌, take, sym, subst, ◌∙◌, arith}
use Rattle.std.proofs.lemmas.List.{length-take}
use Rattle.dd_file.specs.Position.{longest_input}
use Rattle.dd_file.specs.Draft.{DraftOf, finished}
use Rattle.dd_file.proofs.Reading.BufferFilled.{filled-none}
use Rattle.dd_file.proofs.Reading.LinesOfDraft.{draft-bound, draft-uncut}
use Rattle.dd_file.proofs.Reading.DraftAnswers.{item-reads, open-buffered}
use Rattle.dd_file.proofs.read_ahead.read.Goals as goal

pub pass-requires-clause-some : goal.pass-requires-clause-some
pass-requires-clause-some g c = (draft-bound c.in-Ok-true.ensures.lines).0

pub returns-in-Ok-true-clause-reads : goal.returns-in-Ok-true-clause-reads
returns-in-Ok-true-clause-reads g c =
    let input = c.args.input.now in
    let n = longest_input - input.position.bytes in
    let scan = c.add_lines.new.scan in
    let draft = c.add_lines.new.draft in
    let lines : DraftOf g.D.Draft.first_item g.D.Draft.begun g.D.Draft.Fits draft scan (take n input.buffered) = subst (DraftOf g.D.Draft.first_item g.D.Draft.begun g.D.Draft.Fits draft scan) c.within_limit.ensures c.in-Ok-true.ensures.lines in
    let bound = draft-bound lines in
    let size = length-take n input.buffered in
    let limit = c.count-first.ensures.limit in
    let ahead = c.requires.bounded c.requires.faultless in
    item-reads c.parts_are_of_a_grammar.ensures.begun draft g.D.Draft.numbered c.parts_are_of_a_grammar.ensures.grammar input input c.pass.new.self c.args.reader.now _ (finished c.finish.new.part c.finish.result) c.count-first.result c.count.result (filled-none input c.args.reader.now) c.requires.faultless c.requires.unended
    scan (draft-uncut n input.buffered lines) (sym c.in-Ok-true.ensures.done ∙ c.in-Ok-true.field-0-test) (omega (arith, bound.1, size, limit)) (omega (arith, ahead)) c.pass.ensures.passed c.pass.ensures.counted c.finish.ensures c.count-first.ensures.count c.count.ensures.count

pub returns-then-is_err-clause-buffered : goal.returns-then-is_err-clause-buffered
returns-then-is_err-clause-buffered g c buffered = grind (arith, open-buffered, c.parts_are_of_a_grammar.ensures.begun, c.within_limit.ensures, c.in-Ok-false.ensures.lines, c.in-Ok-false.ensures.done, c.in-Ok-false.ensures.none)

pub returns-else-is_err-clause-buffered : goal.returns-else-is_err-clause-buffered
returns-else-is_err-clause-buffered g c buffered = grind (arith, open-buffered, c.parts_are_of_a_grammar.ensures.begun, c.within_limit.ensures, c.in-Ok-false.ensures.lines, c.in-Ok-false.ensures.done, c.in-Ok-false.ensures.none)
