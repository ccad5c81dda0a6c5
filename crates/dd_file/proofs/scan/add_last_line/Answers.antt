use Rattle.std.proofs.lemmas.Grind.{common_steps}
use Rattle.std.proofs.Common.{subst, arith}
use Rattle.dd_file.specs.Draft.{Adds}
use Rattle.dd_file.proofs.Reading.LinesOfDraft.{draft-bound, draft-whole, draft-last}
use Rattle.dd_file.proofs.scan.add_last_line.Goals as goal

pub returns-then-scan-bytes-clause-all : goal.returns-then-scan-bytes-clause-all
returns-then-scan-bytes-clause-all g c = grind (arith, common_steps, draft-whole, c.requires.searched, c.if-scan-bytes.true, c.requires.so_far)

pub returns-then-scan-bytes-clause-few : goal.returns-then-scan-bytes-clause-few
returns-then-scan-bytes-clause-few g c =
    let bound = draft-bound c.requires.so_far in
    omega (arith, bound.0, bound.1)

pub overflow_add-result : goal.overflow_add-result
overflow_add-result g c =
    let bound = draft-bound c.requires.so_far in
    omega (arith, bound.0, bound.1, c.requires.searched, c.if-scan-bytes.false)

pub returns-clause-all : goal.returns-clause-all
returns-clause-all g c =
    draft-last c.requires.so_far c.requires.searched c.add.new.self c.split_at.result.1.now c.split_at.ensures.back
    (let searched = c.requires.searched in omega (arith, searched, c.if-scan-bytes.false)) c.in_ok-add.ensures.kept (subst (λ line. Adds (g.D.Draft.begun c.args.draft.now) line (g.D.Draft.begun c.add.new.self)) c.line_of.ensures c.in_ok-add.ensures.added)

pub returns-clause-few : goal.returns-clause-few
returns-clause-few g c =
    let bound = draft-bound c.requires.so_far in
    omega (arith, bound.0, bound.1, c.requires.searched, c.if-scan-bytes.false)
