use Rattle.std.proofs.Common.{◌≡◌, ℕ, true, sym, arith}
use Rattle.std.specs.Prelude.{Option, Some, None, IfSome, IfNone}
use Rattle.quorum_sets.specs.Ids.{Ids}
use Rattle.quorum_sets.specs.Voters.{Voters, is_quorum}
use Rattle.quorum_sets.specs.Overlap.{IsCommon, IsLeastCommon, IsCommonMember}
use Rattle.quorum_sets.proofs.Quorums.Overlap.{QuorumsMeet-from_neighbours}
use Rattle.quorum_sets.proofs.overlap.common_member.Goals as goal

shared_member : (before after : Voters) (first second : Ids) (answer : Option ℕ) → is_quorum before first ≡ true → is_quorum after second ≡ true
    → IfSome answer (IsLeastCommon first second) → IfNone answer ((id : ℕ) → ¬ IsCommon first second id) → IsCommonMember before after first second answer
shared_member before after first second None quorum_before quorum_after least none = record {
  quorums = tt;
  least = tt;
  none = λ quorums. none;
  neighbours = λ neighbours quorums. (let found = QuorumsMeet-from_neighbours before after neighbours first second quorums in absurd (none found.0 found.1));
}
shared_member before after first second (Some id) quorum_before quorum_after least none = grind arith

pub returns-then-is_quorum-2 : goal.returns-then-is_quorum-2
returns-then-is_quorum-2 g c = shared_member _ _ _ _ _ (sym c.if-is_quorum.ensures) (sym c.if-is_quorum-2.ensures) c.least_common.ensures.least c.least_common.ensures.none
