-- How far leadership is off.
use Rattle.std.proofs.Common.{◌≡◌, ◌≢◌, ℕ, ◌≤◌, ◌<◌, Bool, true, false, not, ◌&&◌, ap, arith}
use Rattle.std.specs.Prelude.{nat_eq, if◌then◌else◌}
use Rattle.std.proofs.lemmas.Bool.{and_right, ne_eqb}
use Rattle.quorum_sets.specs.Ids.{has}
use Rattle.conf_change.specs.Configuration.{is_joint}
use Rattle.conf_driver.specs.Nearer.{leader_off}
use Rattle.conf_driver.specs.View.{voter_ids}
use Rattle.conf_driver.specs.Situation.{Situation}

-- by the tests: there is none, it votes, it is an outgoing voter of a joint configuration while a change is pending, it
-- leads on
abbrev pub off_by : Bool → Bool → Bool → Bool → ℕ
off_by none votes outgoing on = if none then 4 else (if not votes then 3 else (if outgoing then 2 else (if on then 0 else 1)))

off-at_most_three : (votes outgoing on : Bool) → off_by false votes outgoing on ≤ 3
off-at_most_three true true on = omega arith
off-at_most_three true false true = omega arith
off-at_most_three true false false = omega arith
off-at_most_three false outgoing on = omega arith

-- a leader is nearer than none
pub off-of_a_leader : (s : Situation) → s.lead ≢ 0 → leader_off s ≤ 3
off-of_a_leader s some = grind (arith, off-at_most_three, not, ne_eqb)

pub off-of_none : (s : Situation) → s.lead ≡ 0 → leader_off s ≡ 4
off-of_none s none = ap (λ l. off_by (nat_eq l 0) (has s.voters l) (s.is_pending && is_joint s.before && not (has s.before.incoming l)) (has (if s.is_pending then voter_ids s.target else s.voters_after) l)) none

-- ---- leadership that moves
off-voter : (outgoing on : Bool) → off_by false true outgoing on ≤ 2
off-voter true on = omega arith
off-voter false true = omega arith
off-voter false false = omega arith

off-incoming : (on : Bool) → off_by false true false on ≤ 1
off-incoming true = omega arith
off-incoming false = omega arith

off-no_voter : (none outgoing on : Bool) → 3 ≤ off_by none false outgoing on
off-no_voter true outgoing on = omega arith
off-no_voter false outgoing on = omega arith

off-outgoing : (none votes on : Bool) → 2 ≤ off_by none votes true on
off-outgoing true votes on = omega arith
off-outgoing false true on = omega arith
off-outgoing false false on = omega arith

off-dropped : (none votes outgoing : Bool) → 1 ≤ off_by none votes outgoing false
off-dropped true votes outgoing = omega arith
off-dropped false false outgoing = omega arith
off-dropped false true true = omega arith
off-dropped false true false = omega arith

-- the tests for an id that leads
abbrev is_outgoing : Situation → ℕ → Bool
is_outgoing s id = s.is_pending && is_joint s.before && not (has s.before.incoming id)

abbrev leads_on : Situation → ℕ → Bool
leads_on s id = has (if s.is_pending then voter_ids s.target else s.voters_after) id

-- from one that does not vote to one that does
pub less-from_nonvoter : (s : Situation) (id : ℕ) → has s.voters s.lead ≡ false → id ≢ 0 → has s.voters id ≡ true → leader_off (record s { lead = id }) < leader_off s
less-from_nonvoter s id votes_not some votes = grind (arith, off-no_voter, ne_eqb, off-voter)

-- to an incoming voter, from one that is none in a joint configuration of which a change is pending
pub less-from_outgoing : (s : Situation) (id : ℕ) → is_outgoing s s.lead ≡ true → id ≢ 0 → has s.voters id ≡ true → has s.before.incoming id ≡ true → leader_off (record s { lead = id }) < leader_off s
less-from_outgoing s id outgoing some votes incoming = grind (arith, off-outgoing, false, and_right, not, ne_eqb, off-incoming)

-- from one that does not lead on to one that does
pub less-from_dropped : (s : Situation) (id : ℕ) → leads_on s s.lead ≡ false → id ≢ 0 → has s.voters id ≡ true → is_outgoing s id ≡ false → leads_on s id ≡ true → leader_off (record s { lead = id }) < leader_off s
less-from_dropped s id dropped some votes here on = grind (arith, off-dropped, ne_eqb)
