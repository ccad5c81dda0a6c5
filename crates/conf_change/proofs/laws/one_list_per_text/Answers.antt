use Rattle.std.proofs.Common.{arith}
use Rattle.ascii_text.specs.Tokens.{tokens_in}
use Rattle.conf_change.proofs.Texts.ChangeTokens.{changes_in_tokens-ok, AllZip-from_ok, changes_in_tokens-err, IsFirstBad-from_err}
use Rattle.conf_change.proofs.laws.one_list_per_text.Goals as goal

pub returns-clause-ok : goal.returns-clause-ok
returns-clause-ok c = λ text changes. (changes_in_tokens-ok (tokens_in text) changes, AllZip-from_ok (tokens_in text) changes)

pub returns-clause-err : goal.returns-clause-err
returns-clause-err c = grind (arith, changes_in_tokens-err, IsFirstBad-from_err)

pub returns-clause-one : goal.returns-clause-one
returns-clause-one c = grind (arith, changes_in_tokens-ok)
