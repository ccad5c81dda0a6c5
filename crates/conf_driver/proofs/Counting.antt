-- How many may fail, by who is up and by who is down.
use Rattle.std.proofs.Common.{◌≡◌, ℕ, Bool, true, false, ◌||◌, refl, sym, ◌∙◌, arith, is_some, inl, inr}
use Rattle.std.specs.Prelude.{Option, Some, None}
use Rattle.std.proofs.lemmas.Bool.{and_parts, both_ways, cases_Bool, le-ltb, not-true}
use Rattle.quorum_sets.specs.Ids.{Ids, has, is_empty, majority_passes}
use Rattle.quorum_sets.specs.Tolerance.{IsMostDown, Tolerates, commits_without, may_be_down}
use Rattle.quorum_sets.specs.Voters.{Voters, is_quorum}
use Rattle.quorum_sets.proofs.Offered.{count_by-none, has-ascending, has-union, is_quorum-without}
use Rattle.conf_change.specs.Configuration.{Configuration, is_joint, voters_of}
use Rattle.conf_plan.specs.OnTheWay.{IsAsTolerant}
use Rattle.conf_driver.specs.IdSets.{◌∩◌, ◌∖◌}
use Rattle.conf_driver.specs.Situation.{is_less, tolerance}
use Rattle.conf_driver.specs.View.{voter_ids}
use Rattle.conf_driver.proofs.IdsByMember.{has-common, has-without, in-without, up-unless_down}

-- ---- what is said of counting
abbrev pub Fits : Type 0
Fits = (voters : Voters) (uncounted : Ids) → IsMostDown voters uncounted (may_be_down voters uncounted)

abbrev pub Commits : Type 0
Commits = (voters : Voters) (uncounted : Ids) → commits_without voters uncounted ≡ is_some (may_be_down voters uncounted)

abbrev pub FewerTolerateMore : Type 0
FewerTolerateMore = (voters : Voters) (fewer more : Ids) (k : ℕ) → ((id : ℕ) → (has voters.incoming id || has voters.outgoing id) ≡ true → has fewer id ≡ true → has more id ≡ true)
    → Tolerates voters more k → Tolerates voters fewer k

-- ---- no failure is tolerated exactly if the voters commit
tolerated : (voters : Voters) (uncounted : Ids) (most : Option ℕ) → IsMostDown voters uncounted most → is_some most ≡ true → Tolerates voters uncounted 0
tolerated voters uncounted None is some = absurd (cc)
tolerated voters uncounted (Some k) is some = λ down few. is.tolerated down (omega arith)

counted : (voters : Voters) (uncounted : Ids) (most : Option ℕ) → IsMostDown voters uncounted most → Tolerates voters uncounted 0 → is_some most ≡ true
counted voters uncounted None is tolerates = absurd (is.none tolerates)
counted voters uncounted (Some k) is tolerates = refl

pub Tolerates-from_commits : Fits → Commits → (voters : Voters) (uncounted : Ids) → commits_without voters uncounted ≡ true → Tolerates voters uncounted 0
Tolerates-from_commits fits commits voters uncounted is = tolerated voters uncounted (may_be_down voters uncounted) (fits voters uncounted) (sym (commits voters uncounted) ∙ is)

pub commits-from_Tolerates : Fits → Commits → (voters : Voters) (uncounted : Ids) → Tolerates voters uncounted 0 → commits_without voters uncounted ≡ true
commits-from_Tolerates fits commits voters uncounted tolerates = commits voters uncounted ∙ counted voters uncounted (may_be_down voters uncounted) (fits voters uncounted) tolerates

-- ---- who is up is a quorum exactly if the voters without the others commit
pub is_quorum-up : (c : Configuration) (up : Ids) → is_quorum (voters_of c) up ≡ commits_without (voters_of c) (voter_ids c ∖ up)
is_quorum-up c up = is_quorum-without (voters_of c) (voter_ids c ∖ up) up (λ q voter. grind (arith, voter, has-without (voter_ids c) up q, has-union c.incoming c.outgoing q))

pub is_quorum-not_down : (c : Configuration) (down : Ids) → is_quorum (voters_of c) (voter_ids c ∖ down) ≡ commits_without (voters_of c) down
is_quorum-not_down c down = is_quorum-without (voters_of c) down (voter_ids c ∖ down) (λ q voter. grind (arith, voter, has-without (voter_ids c) down q, has-union c.incoming c.outgoing q))

-- ---- a number that is no less
no_less : (first second : Option ℕ) (voters other_voters : Voters) (a b : Ids) (k : ℕ) → IsMostDown voters a first → IsMostDown other_voters b second → is_less first second ≡ false
    → Tolerates other_voters b k → Tolerates voters a k
no_less None None voters other_voters a b k is is_other less tolerates = absurd (is_other.none (λ down few. tolerates down (omega arith)))
no_less None (Some n) voters other_voters a b k is is_other less tolerates = absurd (cc)
no_less (Some m) None voters other_voters a b k is is_other less tolerates = absurd (is_other.none (λ down few. tolerates down (omega arith)))
no_less (Some m) (Some n) voters other_voters a b k is is_other less tolerates = grind arith

pub Tolerates-no_less : Fits → (before after : Configuration) (up : Ids) (k : ℕ) → is_less (tolerance after up) (tolerance before up) ≡ false
    → Tolerates (voters_of before) (voter_ids before ∖ up) k → Tolerates (voters_of after) (voter_ids after ∖ up) k
Tolerates-no_less fits before after up k less tolerates =
    no_less (tolerance after up) (tolerance before up) (voters_of after) (voters_of before) (voter_ids after ∖ up) (voter_ids before ∖ up) k
    (fits (voters_of after) (voter_ids after ∖ up)) (fits (voters_of before) (voter_ids before ∖ up)) less tolerates

-- ---- a step
or_right_false : (a b : Bool) → (a || b) ≡ false → b ≡ false
or_right_false true b is = absurd (cc)
or_right_false false b is = is

abbrev pub votes : Configuration → ℕ → Bool
votes c id = has c.incoming id || has c.outgoing id

-- As many may fail after a step as before it and at the target, if the voters after it that are not down and are heard
-- from are up, and all are heard from if it is joint or tolerates less.
pub Tolerates-after_step : Fits → FewerTolerateMore → (now after target : Configuration) (down heard up : Ids) → ((id : ℕ) → has up id ≡ true → has down id ≡ false)
    → ((id : ℕ) → votes after id ≡ true → has down id ≡ false → has heard id ≡ true → has up id ≡ true)
    → ((is_joint after || is_less (tolerance after up) (tolerance now up)) ≡ true → (id : ℕ) → votes after id ≡ true → has down id ≡ false → has heard id ≡ true)
    → IsAsTolerant down now target after → (k : ℕ) → Tolerates (voters_of now) (voter_ids now ∖ up) k → Tolerates (voters_of target) down k → Tolerates (voters_of after) (voter_ids after ∖ up) k
Tolerates-after_step fits fewer now after target down heard up up_not_down caught_up all_heard as_tolerant k of_now of_target =
    elim (cases_Bool (is_joint after || is_less (tolerance after up) (tolerance now up))) [
      | inl worse ↦
          fewer (voters_of after) (voter_ids after ∖ up) down k (λ id voter lacks. elim (cases_Bool (has down id)) [
            | inl is_down ↦ is_down
            | inr not_down ↦ absurd (both_ways _ (not-true _ (and_parts _ _ (sym (has-without (voter_ids after) up id) ∙ lacks)).1) (caught_up id voter not_down (all_heard worse id voter not_down)))
          ])
          (as_tolerant k (fewer (voters_of now) down (voter_ids now ∖ up) k (λ id voter is_down. elim (cases_Bool (has up id)) [
            | inl is_up ↦ absurd (both_ways _ (up_not_down id is_up) is_down)
            | inr not_up ↦ grind (arith, voter, not_up, has-without (voter_ids now) up id, has-union now.incoming now.outgoing id)
          ]) of_now) of_target)
      | inr no_worse ↦ Tolerates-no_less fits now after up k (or_right_false (is_joint after) _ no_worse) of_now
    ]

-- ---- a quorum has an incoming voter
no_majority : (test : ℕ → Bool) (ids : Ids) → ((x : ℕ) → has ids x ≡ true → test x ≡ false) → majority_passes test ids ≡ false
no_majority test ids none = grind (arith, count_by-none, has-ascending, le-ltb)

pub quorum-has_voter : (c : Configuration) (ids : Ids) → is_quorum (voters_of c) ids ≡ true → ((x : ℕ) → has c.incoming x ≡ true → has ids x ≡ false) → ⊥
quorum-has_voter c ids quorum none = both_ways _ (no_majority (has ids) c.incoming none) (and_parts _ _ quorum).0

-- where only ids that are down lack something, a quorum that is not down is up
pub quorum-grows : Fits → Commits → FewerTolerateMore → (c : Configuration) (down up : Ids) → is_empty (voter_ids c ∖ down ∖ up) ≡ true → is_quorum (voters_of c) (voter_ids c ∖ down) ≡ true
    → is_quorum (voters_of c) up ≡ true
quorum-grows fits commits fewer c down up none quorum =
    is_quorum-up c up ∙ commits-from_Tolerates fits commits (voters_of c) (voter_ids c ∖ up)
    (fewer (voters_of c) (voter_ids c ∖ up) down 0 (λ id voter here. elim (cases_Bool (has down id)) [
      | inl is_down ↦ is_down
      | inr not_down ↦ absurd (both_ways _ (in-without (voter_ids c) up id here).1 (up-unless_down (voter_ids c) down up id none (has-union c.incoming c.outgoing id ∙ voter) not_down))
    ]) (Tolerates-from_commits fits commits (voters_of c) down (sym (is_quorum-not_down c down) ∙ quorum)))

-- a quorum is one by its voters alone
pub is_quorum-of_voters : (c : Configuration) (up : Ids) → is_quorum (voters_of c) (voter_ids c ∩ up) ≡ is_quorum (voters_of c) up
is_quorum-of_voters c up =
    is_quorum-without (voters_of c) (voter_ids c ∖ up) (voter_ids c ∩ up) (λ q voter. grind (arith, voter, has-without (voter_ids c) up q, has-common (voter_ids c) up q, has-union c.incoming c.outgoing q))
    ∙ sym (is_quorum-up c up)
