-- The members for whom a wait may be: which of them are members, and that they get no more while more have caught up.
use Rattle.std.proofs.Common.{◌≡◌, ℕ, ◌*◌, ◌≤◌, ◌<◌, Bool, true, false, not, ◌||◌, List, [], ◌∷◌, refl, sym, ap, ◌∙◌, arith}
use Rattle.std.specs.Prelude.{if◌then◌else◌}
use Rattle.std.proofs.lemmas.Bool.{both_ways, or_cases, or_left, or_right}
use Rattle.quorum_sets.specs.Ids.{Ids, has, is_empty, no_ids, size}
use Rattle.quorum_sets.specs.Voters.{is_quorum}
use Rattle.quorum_sets.proofs.Offered.{has-no_ids, has-union}
use Rattle.conf_change.specs.Configuration.{Configuration, member_ids, voters_of}
use Rattle.conf_change.specs.declared.step.Step.{Step}
use Rattle.conf_change.proofs.Offered.{has-all_members}
use Rattle.conf_plan.specs.OnTheWay.{VotersLearnFirst}
use Rattle.conf_driver.specs.IdSets.{◌∪◌, ◌∩◌, ◌∖◌}
use Rattle.conf_driver.specs.Nearer.{lack, leadership_moves, needed}
use Rattle.conf_driver.specs.Rows.{needed_at_target}
use Rattle.conf_driver.specs.Situation.{Situation, after_first}
use Rattle.conf_driver.specs.View.{voter_ids}
use Rattle.conf_driver.proofs.Falling.{rest-few, rest-less, rest-size}
use Rattle.conf_driver.proofs.FirstStep.{after_first-is, voters-were_members}
use Rattle.conf_driver.proofs.IdsByMember.{in-common}
use Rattle.conf_driver.proofs.Sizes.{IsWithin}

-- ---- sets by cases
pub within-if : (test : Bool) (a b c d : Ids) → IsWithin a c → IsWithin b d → IsWithin (if test then a else b) (if test then c else d)
within-if true a b c d first second = first
within-if false a b c d first second = second

pub within-either : (test : Bool) (a b c : Ids) → IsWithin a c → IsWithin b c → IsWithin (if test then a else b) c
within-either true a b c first second = first
within-either false a b c first second = second

within-own : (a : Ids) → IsWithin a a
within-own a q here = here

within-none : (a : Ids) → IsWithin no_ids a
within-none a q here = absurd (both_ways _ (has-no_ids q) here)

pub within-union : (a b c : Ids) → IsWithin a c → IsWithin b c → IsWithin (a ∪ b) c
within-union a b c first second q here = grind (arith, or_cases, has-union)

within-grown : (a b c : Ids) → IsWithin b c → IsWithin (a ∪ b) (a ∪ c)
within-grown a b c more q here = grind (arith, or_cases, has-union, or_left, or_right)

-- a set that is left out under a test, and also under one that holds where it does
within-unless : (test other : Bool) (a : Ids) → (test ≡ true → other ≡ true) → IsWithin (if other then no_ids else a) (if test then no_ids else a)
within-unless true true a holds = within-own no_ids
within-unless true false a holds = absurd (both_ways _ refl (holds refl))
within-unless false true a holds = within-none a
within-unless false false a holds = within-own a

-- ---- members
pub voters-are_members : (c : Configuration) → IsWithin (voter_ids c) (member_ids c)
voters-are_members c q here = has-all_members c q ∙ or_left _ (has c.learners q) (sym (has-union c.incoming c.outgoing q) ∙ here)

pub incoming-are_members : (c : Configuration) → IsWithin c.incoming (member_ids c)
incoming-are_members c q here = has-all_members c q ∙ or_left _ (has c.learners q) (or_left _ (has c.outgoing q) here)

pub learners-are_members : (c : Configuration) → IsWithin c.learners (member_ids c)
learners-are_members c q here = has-all_members c q ∙ or_right (has c.incoming q || has c.outgoing q) _ here

-- the voters after the first step are members before it
pub voters_after-are_members : (now target : Configuration) (steps : List Step) → VotersLearnFirst now steps target → IsWithin (voter_ids (after_first now steps)) (member_ids now)
voters_after-are_members now target [] learn q here = voters-are_members now q here
voters_after-are_members now target (step ∷ steps) learn q here = grind (arith, after_first-is, has-all_members, voters-were_members, has-union)

-- how the sets of a situation hang together
pub record IsOfMembers (s : Situation) : Type 0 where
  pub members : s.members ≡ member_ids s.before
  pub voters : s.voters ≡ voter_ids s.before
  pub voters_after : IsWithin s.voters_after s.members

pub needed-are_members : (s : Situation) → IsOfMembers s → IsWithin (needed s) s.members
needed-are_members s sets =
    let incoming : IsWithin s.before.incoming s.members = λ q here. ap (λ m. has m q) sets.members ∙ incoming-are_members s.before q here in
    let learners : IsWithin s.before.learners s.members = λ q here. ap (λ m. has m q) sets.members ∙ learners-are_members s.before q here in
    let voters : IsWithin s.voters s.members = λ q here. ap (λ m. has m q) sets.members ∙ voters-are_members s.before q (sym (ap (λ m. has m q) sets.voters) ∙ here) in
    within-either (not (has s.voters s.lead)) _ _ s.members incoming
    (within-either s.is_pending _ _ s.members (within-none s.members)
    (within-either (leadership_moves s) _ _ s.members (λ q here. voters q (in-common s.voters s.voters_after q here).0)
    (within-either (not s.has_step) _ _ s.members
    (within-either (is_empty (s.running ∖ s.members)) _ _ s.members (within-union s.before.incoming s.before.learners s.members incoming learners) (within-own s.members))
    (within-union s.voters_after _ s.members sets.voters_after (within-either (is_quorum (voters_of s.before) s.up) _ _ s.members (within-none s.members) voters)))))

-- what members lack is at most two for each of these
pub lack-few : (s : Situation) (all : Ids) → IsWithin (needed s) all → lack s ≤ 2 * size all
lack-few s all within = omega (arith, rest-few (needed s) s.down s.up all within, rest-few (needed s) s.down s.heard all within)

-- ---- while more have caught up, no more are needed
needed-fewer : (s : Situation) (more : Ids) → (is_quorum (voters_of s.before) s.up ≡ true → is_quorum (voters_of s.before) more ≡ true) → IsWithin (needed (record s { up = more })) (needed s)
needed-fewer s more grows =
    within-if (not (has s.voters s.lead)) _ _ _ _ (within-own s.before.incoming)
    (within-if s.is_pending _ _ _ _ (within-own no_ids)
    (within-if (leadership_moves s) _ _ _ _ (within-own (s.voters ∩ s.voters_after))
    (within-if (not s.has_step) _ _ _ _ (within-own (needed_at_target s))
    (within-grown s.voters_after _ _ (within-unless (is_quorum (voters_of s.before) s.up) (is_quorum (voters_of s.before) more) s.voters grows)))))

-- who is up and who is heard from has grown
pub record HasGrown (s : Situation) (up heard : Ids) : Type 0 where
  pub quorum : is_quorum (voters_of s.before) s.up ≡ true → is_quorum (voters_of s.before) up ≡ true
  pub stay_up : (q : ℕ) → has s.up q ≡ true → has up q ≡ true
  pub stay_heard : (q : ℕ) → has s.members q ≡ true → has s.heard q ≡ true → has heard q ≡ true

-- one that was not heard from is
pub lack-less_once_heard : (s : Situation) (up heard : Ids) (id : ℕ) → IsWithin (needed s) s.members → HasGrown s up heard → has (needed s ∖ s.down ∖ s.heard) id ≡ true → has heard id ≡ true
    → lack (record s { up = up; heard = heard }) < lack s
lack-less_once_heard s up heard id within grown lacked came =
    let fewer = needed-fewer s up grown.quorum in
    let of_up = rest-size (needed s) (needed (record s { up = up })) s.down s.up up fewer (λ q here. grown.stay_up q) in
    let of_heard = rest-less (needed s) (needed (record s { up = up })) s.down s.heard heard id fewer (λ q here. grown.stay_heard q (within q here)) lacked came in
    omega (arith, of_up, of_heard)

-- one that had not caught up has
pub lack-less_once_up : (s : Situation) (up heard : Ids) (id : ℕ) → IsWithin (needed s) s.members → HasGrown s up heard → has (needed s ∖ s.down ∖ s.up) id ≡ true → has up id ≡ true
    → lack (record s { up = up; heard = heard }) < lack s
lack-less_once_up s up heard id within grown lacked came =
    let fewer = needed-fewer s up grown.quorum in
    let of_up = rest-less (needed s) (needed (record s { up = up })) s.down s.up up id fewer (λ q here. grown.stay_up q) lacked came in
    let of_heard = rest-size (needed s) (needed (record s { up = up })) s.down s.heard heard fewer (λ q here. grown.stay_heard q (within q here)) in
    omega (arith, of_up, of_heard)
