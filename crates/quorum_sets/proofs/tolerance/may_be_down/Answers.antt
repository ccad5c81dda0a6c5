use Rattle.std.proofs.Common.{rules}
use Rattle.quorum_sets.proofs.Quorums.Tolerance.{IsMostDown-from_counted}
use Rattle.quorum_sets.proofs.tolerance.may_be_down.Goals as goal

pub returns-in_err-of_incoming-clause-most : goal.returns-in_err-of_incoming-clause-most
returns-in_err-of_incoming-clause-most g c = IsMostDown-from_counted _ _ _ (search rules)

pub returns-then-len-eq0-clause-most : goal.returns-then-len-eq0-clause-most
returns-then-len-eq0-clause-most g c = IsMostDown-from_counted _ _ _ (search rules)

pub returns-in_err-surplus-clause-most : goal.returns-in_err-surplus-clause-most
returns-in_err-surplus-clause-most g c = IsMostDown-from_counted _ _ _ (search rules)

pub returns-clause-most : goal.returns-clause-most
returns-clause-most g c = IsMostDown-from_counted _ _ _ (search rules)
