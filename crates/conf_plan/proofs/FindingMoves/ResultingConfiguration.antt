-- What the moves make of a configuration that is not joint.
use Rattle.std.proofs.Common.{◌≡◌, ℕ, Bool, true, false, not, ◌&&◌, ◌||◌, refl, arith}
use Rattle.std.specs.Prelude.{None}
use Rattle.std.proofs.lemmas.Bool.{not-false, not-true}
use Rattle.quorum_sets.specs.Ids.{Ids, has, is_empty}
use Rattle.quorum_sets.proofs.Offered.{has-no_ids, has-same_ids}
use Rattle.conf_change.specs.Configuration.{Configuration, is_joint, is_member, ValidByMember}
use Rattle.conf_change.specs.Change.{result_of}
use Rattle.conf_change.proofs.Offered.{configuration-by_members, has-incoming_after, has-learners_after, has-next_after, has-none_in_empty, outgoing-none, ValidByMember-from_is_valid}
use Rattle.conf_plan.specs.Run.{IsValidWithVoter}
use Rattle.conf_plan.specs.Planned.{kind_of_move, moves, single_with}
use Rattle.conf_plan.proofs.FindingMoves.OfEachId.{last_effective-moves}

-- ---- a configuration that is valid with a voter, and not joint
pub record IsSingle (c : Configuration) : Type 0 where
  pub valid_with_voter : IsValidWithVoter c
  pub single : is_joint c ≡ false

-- no id waits in it
pub IsSingle-no_next : (c : Configuration) → IsSingle c → (q : ℕ) → has c.learners_next q ≡ false
IsSingle-no_next c s q = grind (arith, ValidByMember-from_is_valid, has-none_in_empty, not-false)

-- it is decided by its voters and learners
pub single_with-own : (c : Configuration) → IsSingle c → single_with c.incoming c.learners ≡ c
single_with-own c single = grind (arith, configuration-by_members, outgoing-none, single, has-no_ids, IsSingle-no_next, ValidByMember-from_is_valid)

pub is_member-single_with : (voters learners : Ids) (q : ℕ) → is_member (single_with voters learners) q ≡ (has voters q || has learners q)
is_member-single_with voters learners q = grind (arith, has-no_ids q)

-- ---- voters and learners that can be wanted
pub record AreWanted (voters learners : Ids) : Type 0 where
  pub voter : is_empty voters ≡ false
  pub zero_voters : has voters 0 ≡ false
  pub zero_learners : has learners 0 ≡ false
  pub apart : (q : ℕ) → has voters q ≡ true → has learners q ≡ false

pub own-are_wanted : (c : Configuration) → IsValidWithVoter c → AreWanted c.incoming c.learners
own-are_wanted c valid_with_voter =
    let valid = ValidByMember-from_is_valid c valid_with_voter.valid in
    record {
      voter = not-true (is_empty c.incoming) valid_with_voter.voter;
      zero_voters = valid.zero_incoming;
      zero_learners = valid.zero_learners;
      apart = λ q votes. grind (arith, valid.learner_incoming q, votes);
    }

-- ---- what is made
-- it has the wanted voters, and the wanted learners, of which those wait that are outgoing voters
pub record HasWanted (made : Configuration) (voters learning : Ids) : Type 0 where
  pub incoming : made.incoming ≡ voters
  pub learners : (q : ℕ) → has made.learners q ≡ (has learning q && not (has made.outgoing q))
  pub next : (q : ℕ) → has made.learners_next q ≡ (has learning q && has made.outgoing q)

-- the configuration with these outgoing voters, which are no learners, and this flag
abbrev pub with_out : Configuration → Ids → Bool → Configuration
with_out c out flag = record c { outgoing = out; auto_leave = flag }

pub kind_of_move-zero : (c : Configuration) (voters learners : Ids) → ValidByMember c → AreWanted voters learners → kind_of_move c voters learners 0 ≡ None
kind_of_move-zero c voters learners valid wanted = rw (wanted.zero_voters, wanted.zero_learners, valid.zero_incoming, valid.zero_learners) refl

pub moves-has_wanted : (c : Configuration) (out voters learners : Ids) (flag : Bool) → IsSingle c → AreWanted voters learners
    → ((q : ℕ) → has c.learners q ≡ true → has out q ≡ false) → HasWanted (result_of (with_out c out flag) (moves c voters learners)) voters learners
moves-has_wanted c out voters learners flag single wanted apart_out =
    let start = with_out c out flag in
    let valid = ValidByMember-from_is_valid c single.valid_with_voter.valid in
    let token = λ (q : ℕ). last_effective-moves c voters learners q (kind_of_move-zero c voters learners valid wanted) in
    record {
      incoming = has-same_ids _ _ (λ q. grind (arith, has-incoming_after start (moves c voters learners) q, token q, valid.learner_incoming q));
      learners = λ q. grind (arith, has-learners_after start (moves c voters learners) q, token q, wanted.apart q, valid.learner_incoming q, apart_out q);
      next = λ q. grind (arith, has-next_after start (moves c voters learners) q, token q, IsSingle-no_next c single q, wanted.apart q, apart_out q);
    }
