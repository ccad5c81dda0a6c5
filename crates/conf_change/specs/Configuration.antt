-- Configurations (etcd's `tracker.Config`), and the invariants of a valid one.
use Rattle.std.specs.Prelude.{◌≡◌, ℕ, Bool, true, false, not, ◌&&◌, ◌||◌, List, [], ◌∷◌, ◌++◌, Option, find, nat_eq}
use Rattle.std.specs.Bool.{beq}
use Rattle.std.specs.List.{list_all}
use Rattle.quorum_sets.specs.Ids.{Ids, no_ids, has, ascending, is_empty, difference_count, union}
use Rattle.quorum_sets.specs.Voters.{Voters}
use Rattle.conf_change.specs.declared.config.Invariant.{Invariant}
use Rattle.conf_change.specs.declared.config.Invariant.TheVariants.{ZeroId, NextNotOutgoing, NextAndIncoming, LearnerAndVoter, NotJointButNext, NotJointButAutoLeave}

-- a configuration: the incoming and the outgoing voters, the learners, those that become learners when the joint
-- configuration is left, and whether it is left automatically
pub record Configuration : Type 0 where
  pub incoming : Ids
  pub outgoing : Ids
  pub learners : Ids
  pub learners_next : Ids
  pub auto_leave : Bool

-- the empty configuration
abbrev pub empty_configuration : Configuration
empty_configuration = record { incoming = no_ids; outgoing = no_ids; learners = no_ids; learners_next = no_ids; auto_leave = false }

-- both voter sets
abbrev pub voters_of : Configuration → Voters
voters_of c = record { incoming = c.incoming; outgoing = c.outgoing }

-- the configuration has outgoing voters, so that a decision needs a majority of both voter sets
abbrev pub is_joint : Configuration → Bool
is_joint c = not (is_empty c.outgoing)

-- the configuration has an incoming voter
abbrev pub has_voter : Configuration → Bool
has_voter c = not (is_empty c.incoming)

-- the members: voters of either kind, and learners; an id may occur twice
abbrev pub members : Configuration → List ℕ
members c = ascending c.incoming ++ ascending c.outgoing ++ ascending c.learners

-- the members as a set
abbrev pub member_ids : Configuration → Ids
member_ids c = union (union c.incoming c.outgoing) c.learners

-- the id is a voter of either kind, or a learner
abbrev pub is_member : Configuration → ℕ → Bool
is_member c id = has c.incoming id || has c.outgoing id || has c.learners id

-- each id of the first set is in the second
abbrev pub is_within : Ids → Ids → Bool
is_within a b = list_all (has b) (ascending a)

-- no id of the first set is in the second
abbrev pub is_apart : Ids → Ids → Bool
is_apart a b = list_all (λ id. not (has b id)) (ascending a)

-- whether the configuration keeps the invariant (etcd's `checkInvariants`; ZeroId and NextAndIncoming are own)
abbrev pub keeps : Configuration → Invariant → Bool
keeps c ZeroId = not (has c.incoming 0 || has c.outgoing 0 || has c.learners 0 || has c.learners_next 0)
keeps c NextNotOutgoing = is_within c.learners_next c.outgoing
keeps c NextAndIncoming = is_apart c.learners_next c.incoming
keeps c LearnerAndVoter = is_apart c.learners c.incoming && is_apart c.learners c.outgoing
keeps c NotJointButNext = is_joint c || is_empty c.learners_next
keeps c NotJointButAutoLeave = is_joint c || not c.auto_leave

-- the invariants, in the order in which they are checked
abbrev pub invariants : List Invariant
invariants = ZeroId ∷ NextNotOutgoing ∷ NextAndIncoming ∷ LearnerAndVoter ∷ NotJointButNext ∷ NotJointButAutoLeave ∷ []

-- the first invariant that is broken
abbrev pub first_broken : Configuration → Option Invariant
first_broken c = find (λ invariant. not (keeps c invariant)) invariants

-- no invariant is broken
abbrev pub is_valid : Configuration → Bool
is_valid c = list_all (keeps c) invariants

-- the invariants, id by id
pub record ValidByMember (c : Configuration) : Type 0 where
  pub zero_incoming : has c.incoming 0 ≡ false
  pub zero_outgoing : has c.outgoing 0 ≡ false
  pub zero_learners : has c.learners 0 ≡ false
  pub zero_next : has c.learners_next 0 ≡ false
  pub next_outgoing : (q : ℕ) → has c.learners_next q ≡ true → has c.outgoing q ≡ true
  pub next_incoming : (q : ℕ) → has c.learners_next q ≡ true → has c.incoming q ≡ false
  pub learner_incoming : (q : ℕ) → has c.learners q ≡ true → has c.incoming q ≡ false
  pub learner_outgoing : (q : ℕ) → has c.learners q ≡ true → has c.outgoing q ≡ false
  pub auto_leave : is_joint c ≡ false → c.auto_leave ≡ false

-- the configuration has an incoming voter, or is empty
abbrev pub has_voter_or_is_empty : Configuration → Bool
has_voter_or_is_empty c = has_voter c || (is_empty c.incoming && is_empty c.outgoing && is_empty c.learners && is_empty c.learners_next)

-- the configuration can be restored: it is valid, and has an incoming voter or is empty
abbrev pub is_restorable : Configuration → Bool
is_restorable c = is_valid c && has_voter_or_is_empty c

-- the sets have the same ids
abbrev pub is_same_set : Ids → Ids → Bool
is_same_set a b = nat_eq (difference_count a b) 0

-- the four sets and the flag are the same
abbrev pub is_same : Configuration → Configuration → Bool
is_same a b =
    is_same_set a.incoming b.incoming && is_same_set a.outgoing b.outgoing && is_same_set a.learners b.learners
    && is_same_set a.learners_next b.learners_next && beq a.auto_leave b.auto_leave
