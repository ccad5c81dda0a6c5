use Rattle.std.proofs.Common.{◌≡◌, ◌+◌, ◌-◌, true, length, take, refl, subst, sym, ap, ◌∙◌, arith}
use Rattle.std.proofs.lemmas.List.{length-append, length-take, take_all}
use Rattle.dd_file.specs.Position.{longest_input}
use Rattle.dd_file.specs.Buffered.{ended, within_limit}
use Rattle.dd_file.specs.Draft.{DraftOf, DraftOfAll, finished}
use Rattle.dd_file.specs.ReaderState.{ReaderState}
use Rattle.dd_file.proofs.Reading.BufferFilled.{filled-more, filled-last, filled-none, answer-too_long, interrupted, no-memory}
use Rattle.dd_file.proofs.Reading.LinesOfDraft.{draft-bound, draft-cut, draft-more, draft-uncut}
use Rattle.dd_file.proofs.Reading.DraftAnswers.{item-reads, last-reads, item-too_long}
use Rattle.dd_file.proofs.read_ahead.read_rest.Goals as goal

pub read-init : goal.read-init
read-init g c = grind (arith, filled-none, c.requires.so_far, c.requires.open_end, c.requires.searched)

pub returns-then-is_beyond_limit : goal.returns-then-is_beyond_limit
returns-then-is_beyond_limit g c =
    let loop = c.read.invariant in
    let old = c.args.input.now in
    let now = c.read.input in
    let passes = c.is_beyond_limit.ensures.beyond c.if-is_beyond_limit.true in
    let same = ap (λ (s : ReaderState). s.position.bytes) loop.filled.same in
    let within : within_limit now ≡ take (longest_input - old.position.bytes) now.buffered = ap (λ m. take (longest_input - m) now.buffered) same in
    rw c.count-first.ensures.count (answer-too_long c.parts_are_of_a_grammar.ensures.grammar old c.requires.faultless c.requires.unended now c.args.reader.now c.read.reader (old.position.lines + 1) loop.filled
    (λ more. item-too_long c.parts_are_of_a_grammar.ensures.begun c.read.draft g.D.Draft.numbered longest_input old.position now.buffered more c.read.scan (subst (DraftOf g.D.Draft.first_item g.D.Draft.begun g.D.Draft.Fits c.read.draft c.read.scan) within loop.so_far) loop.open_end
    (loop.searched ∙ ap length within) (omega (arith, passes, same))))

pub add_lines-requires-clause-so_far : goal.add_lines-requires-clause-so_far
add_lines-requires-clause-so_far g c =
    let loop = c.read.invariant in
    let now = c.read.input in
    let new = c.fill.new.self in
    let n = longest_input - now.position.bytes in
    let filled = rw c.in-Ok-true.field-0-test at c.in-Ok-true.ensures.filled in
    let position = ap (λ (s : ReaderState). s.position.bytes) c.in-Ok-true.ensures.same in
    let size = length-take n now.buffered in
    let searched = loop.searched in
    let of = DraftOf g.D.Draft.first_item g.D.Draft.begun g.D.Draft.Fits c.read.draft c.read.scan in
    let whole : of new.buffered = subst of (sym filled.buffered) (draft-more (draft-uncut n now.buffered loop.so_far) filled.bytes_read) in
    subst of (ap (λ m. take (longest_input - m) new.buffered) (sym position) ∙ sym c.within_limit.ensures) (draft-cut whole n (omega (arith, size, searched)))

pub pass-requires-clause-some : goal.pass-requires-clause-some
pass-requires-clause-some g c = (draft-bound c.in-Ok-true-add_lines.ensures.lines).0

pub returns-in-Ok-true-add_lines : goal.returns-in-Ok-true-add_lines
returns-in-Ok-true-add_lines g c =
    let loop = c.read.invariant in
    let before = c.read.input in
    let now = c.fill.new.self in
    let n = longest_input - now.position.bytes in
    let scan = c.add_lines.new.scan in
    let draft = c.add_lines.new.draft in
    let lines : DraftOf g.D.Draft.first_item g.D.Draft.begun g.D.Draft.Fits draft scan (take n now.buffered) = subst (DraftOf g.D.Draft.first_item g.D.Draft.begun g.D.Draft.Fits draft scan) c.within_limit.ensures c.in-Ok-true-add_lines.ensures.lines in
    let bound = draft-bound lines in
    let size = length-take n now.buffered in
    let size_before = length-take (longest_input - before.position.bytes) before.buffered in
    let within = c.is_beyond_limit.ensures.within c.if-is_beyond_limit.false in
    let searched = loop.searched in
    let some = c.in-Ok-true-add_lines.ensures.some c.in-Ok-true-add_lines.field-0-test in
    let filled = rw c.in-Ok-true.field-0-test at c.in-Ok-true.ensures.filled in
    let total : length now.buffered ≡ length before.buffered + length filled.bytes_read = ap length filled.buffered ∙ length-append before.buffered filled.bytes_read in
    let ahead = filled.ahead in
    let position = ap (λ (s : ReaderState). s.position.bytes) c.in-Ok-true.ensures.same in
    item-reads c.parts_are_of_a_grammar.ensures.begun draft g.D.Draft.numbered c.parts_are_of_a_grammar.ensures.grammar c.args.input.now now c.pass.new.self c.args.reader.now c.fill.new.reader (finished c.finish.new.part c.finish.result) c.count-first.result c.count.result
    (filled-more _ before _ _ c.read.reader _ true loop.filled c.in-Ok-true.ensures.same filled c.in-Ok-true.ensures.failed) c.requires.faultless c.requires.unended
    scan (draft-uncut n now.buffered lines) (sym c.in-Ok-true-add_lines.ensures.done ∙ c.in-Ok-true-add_lines.field-0-test) (omega (arith, bound.1, size, within, position)) (omega (arith, total, ahead, some, searched, size_before, within)) c.pass.ensures.passed c.pass.ensures.counted
    c.finish.ensures c.count-first.ensures.count c.count.ensures.count

pub read-preserved : goal.read-preserved
read-preserved g c = grind (arith, filled-more, c.in-Ok-true.ensures.filled, c.read.invariant.filled, c.in-Ok-true.ensures.same, c.in-Ok-true.ensures.failed, c.within_limit.ensures, c.in-Ok-false-add_lines.ensures.lines, c.in-Ok-false-add_lines.ensures.done, c.in-Ok-false-add_lines.ensures.none)

pub returns-in-Err : goal.returns-in-Err
returns-in-Err g c =
    interrupted c.parts_are_of_a_grammar.ensures.grammar c.args.input.now c.requires.faultless c.requires.unended c.read.input c.args.reader.now c.read.reader c.fill.new.reader c.fill.new.self c.in-Err.fault c.read.invariant.filled
    c.in-Err.ensures.lost c.in-Err.ensures.same c.in-Err.ensures.failed c.in-Err.ensures.interrupted

pub returns-in-Err-add_lines : goal.returns-in-Err-add_lines
returns-in-Err-add_lines g c =
    let filled = rw c.in-Ok-true.field-0-test at c.in-Ok-true.ensures.filled in
    no-memory c.parts_are_of_a_grammar.ensures.grammar c.args.input.now c.requires.faultless c.requires.unended c.fill.new.self c.args.reader.now c.fill.new.reader c.fill.new.self
    (filled-more _ c.read.input _ _ c.read.reader _ true c.read.invariant.filled c.in-Ok-true.ensures.same filled c.in-Ok-true.ensures.failed) refl

pub returns-in-Ok : goal.returns-in-Ok
returns-in-Ok g c =
    let now = c.read.input in
    let within = c.is_beyond_limit.ensures.within c.if-is_beyond_limit.false in
    let whole : within_limit now ≡ now.buffered = take_all (longest_input - now.position.bytes) now.buffered (omega (arith, within)) in
    let last = filled-last _ now c.fill.new.self _ c.read.reader _ c.read.invariant.filled c.in-Ok-false.ensures.same (rw c.in-Ok-false.field-0-test at c.in-Ok-false.ensures.filled) c.in-Ok-false.ensures.failed in
    let all : c.within_limit-2.result.now ≡ now.buffered = c.within_limit-2.ensures ∙ ap within_limit last.0 ∙ whole in
    let few = c.in-Ok.ensures.few in
    let size = ap length all in
    last-reads c.parts_are_of_a_grammar.ensures.begun c.add_last_line.new.draft g.D.Draft.numbered c.parts_are_of_a_grammar.ensures.grammar c.args.input.now now c.end.new.self c.args.reader.now c.fill.new.reader (finished c.finish-in-Ok.new.part c.finish-in-Ok.result) c.count-first.result c.count-in-Ok.result last.1 c.requires.faultless c.requires.unended
    c.in-Ok.count (subst (DraftOfAll g.D.Draft.first_item g.D.Draft.begun g.D.Draft.Fits c.add_last_line.new.draft c.in-Ok.count) all c.in-Ok.ensures.all) (omega (arith, few, size)) last.2 within (c.end.ensures.ended ∙ ap (λ (s : ReaderState). ended s c.in-Ok.count) last.0) c.end.ensures.counted
    c.finish-in-Ok.ensures c.count-first.ensures.count c.count-in-Ok.ensures.count
