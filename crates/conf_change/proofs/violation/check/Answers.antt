use Rattle.std.proofs.Common.{Err, sym, ap}
use Rattle.conf_change.proofs.Configurations.Violations.{broken_by, first_exactly}
use Rattle.conf_change.proofs.violation.check.Goals as goal

pub returns-in-Some-NextNotOutgoing-clause-first : goal.returns-in-Some-NextNotOutgoing-clause-first
returns-in-Some-NextNotOutgoing-clause-first g c = let is = c.in-Some-NextNotOutgoing in first_exactly c.args.config.now is.field-0 _ is.ensures.value (ap (λ v. Err (broken_by v)) (sym is.field-0-is))

pub returns-in-Some-NextAndIncoming-clause-first : goal.returns-in-Some-NextAndIncoming-clause-first
returns-in-Some-NextAndIncoming-clause-first g c = let is = c.in-Some-NextAndIncoming in first_exactly c.args.config.now is.field-0 _ is.ensures.value (ap (λ v. Err (broken_by v)) (sym is.field-0-is))

pub returns-in-Some-LearnerAndVoter-clause-first : goal.returns-in-Some-LearnerAndVoter-clause-first
returns-in-Some-LearnerAndVoter-clause-first g c = let is = c.in-Some-LearnerAndVoter in first_exactly c.args.config.now is.field-0 _ is.ensures.value (ap (λ v. Err (broken_by v)) (sym is.field-0-is))

pub returns-in-Some-NotJointButAutoLeave-clause-first : goal.returns-in-Some-NotJointButAutoLeave-clause-first
returns-in-Some-NotJointButAutoLeave-clause-first g c = let is = c.in-Some-NotJointButAutoLeave in first_exactly c.args.config.now is.field-0 _ is.ensures.value (ap (λ v. Err (broken_by v)) (sym is.field-0-is))
