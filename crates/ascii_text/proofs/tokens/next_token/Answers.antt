use Rattle.std.proofs.Common.{length, take, drop, arith}
use Rattle.std.proofs.lemmas.Bool.{true≢false}
use Rattle.std.proofs.lemmas.Bool.Decides.{nat_tests}
use Rattle.ascii_text.proofs.TokenLemmas.{tokens_in-none_at_prefix, tokens_in-at_prefix}
use Rattle.ascii_text.proofs.WhiteSpace.{length-without_leading_space}
use Rattle.ascii_text.proofs.tokens.next_token.Goals as goal

pub returns-then-is_empty-clause-none : goal.returns-then-is_empty-clause-none
returns-then-is_empty-clause-none c = grind (arith, tokens_in-none_at_prefix, nat_tests, c.token_len.ensures.count, c.without_leading_space-text.ensures)

pub returns-else-is_empty-clause-token : goal.returns-else-is_empty-clause-token
returns-else-is_empty-clause-token c = grind (arith, tokens_in-at_prefix, take, drop, nat_tests, c.token_len.ensures.count, c.without_leading_space-text.ensures, c.split_at.ensures.front, c.split_at.ensures.back)

pub returns-else-is_empty-clause-none : goal.returns-else-is_empty-clause-none
returns-else-is_empty-clause-none c = let token = returns-else-is_empty-clause-token c in (λ e. absurd (true≢false e), λ e. cc)

pub returns-else-is_empty-clause-shorter : goal.returns-else-is_empty-clause-shorter
returns-else-is_empty-clause-shorter c = grind (arith, length, length-without_leading_space, nat_tests, c.without_leading_space-text.ensures, c.split_at.ensures.back_len)
