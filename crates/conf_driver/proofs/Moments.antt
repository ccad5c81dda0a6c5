-- What holds at the moment after an answer, and how its parts of the number that is left compare with those before.
use Rattle.std.proofs.Common.{◌≡◌, ◌≢◌, ℕ, ◌*◌, ◌≤◌, ◌<◌, true, not, List, ◌∷◌, length, refl, sym, ap, subst, ◌∙◌, arith}
use Rattle.std.specs.Prelude.{◌↔◌, nat_eq, if◌then◌else◌}
use Rattle.std.proofs.lemmas.Bool.{cases_eq, ne_eqb, or_cases}
use Rattle.quorum_sets.specs.Ids.{Ids, size}
use Rattle.quorum_sets.specs.Tolerance.{commits_without}
use Rattle.quorum_sets.proofs.Offered.{has-union}
use Rattle.conf_change.specs.Configuration.{Configuration, member_ids, voters_of}
use Rattle.conf_change.specs.declared.step.Step.{Step}
use Rattle.conf_change.proofs.Offered.{has-all_members}
use Rattle.conf_plan.specs.OnTheWay.{HasMembersOf, IsAsTolerant}
use Rattle.conf_plan.specs.OneChangeEach.{LeadsChangeByChange}
use Rattle.conf_plan.specs.PathBy.{KeepsPromises, has_path, path_by}
use Rattle.conf_plan.specs.Run.{Gives, IsValidWithVoter}
use Rattle.conf_plan.specs.declared.strategy.Strategy.{Strategy}
use Rattle.conf_driver.specs.CarriedOut.{IsReached, IsSamePlace, IsUnderWay}
use Rattle.conf_driver.specs.IdSets.{◌∪◌}
use Rattle.conf_driver.specs.Moment.{IsMoment, Moment}
use Rattle.conf_driver.specs.Nearer.{all_members, lack, leader_off, steps_left}
use Rattle.conf_driver.specs.Next.{situation}
use Rattle.conf_driver.specs.Proposals.{CanAnswer}
use Rattle.conf_driver.specs.View.{ViewState, heard_from, up_and_caught_up}
use Rattle.conf_driver.proofs.Counted.{IsCounted}
use Rattle.conf_driver.proofs.Counting.{Tolerates-from_commits, commits-from_Tolerates}
use Rattle.conf_driver.proofs.FirstStep.{first-holds, path-tolerates, voters-learn_first}
use Rattle.conf_driver.proofs.IdsByMember.{union-left, union-right}
use Rattle.conf_driver.proofs.Needed.{IsOfMembers, lack-few, needed-are_members, voters_after-are_members}
use Rattle.conf_driver.proofs.Sizes.{IsWithin, size-within}
use Rattle.conf_driver.proofs.Ways.{AreMadeAnew, steps_to}

-- ---- what is said of paths
pub record AreKept : Type 0 where
  pub counted : IsCounted
  pub anew : AreMadeAnew
  pub leads : (strategy : Strategy) (down : Ids) (now target : Configuration) → IsValidWithVoter now → IsValidWithVoter target → has_path strategy now target ≡ true
      → LeadsChangeByChange now (path_by strategy down now target) target
  pub promises : (strategy : Strategy) (down : Ids) (now target : Configuration) → IsValidWithVoter now → IsValidWithVoter target → has_path strategy now target ≡ true
      → KeepsPromises strategy down now (path_by strategy down now target) target

-- ---- the configuration after the first step of the path
pub record IsNearer (strategy : Strategy) (target : Configuration) (down : Ids) (now after : Configuration) : Type 0 where
  pub fewer : length (steps_to strategy target down after) < length (steps_to strategy target down now)
  pub valid : IsValidWithVoter after
  pub path : has_path strategy after target ≡ true
  pub members : HasMembersOf now target after
  pub commits : commits_without (voters_of now) down ≡ true → commits_without (voters_of target) down ≡ true → commits_without (voters_of after) down ≡ true

pub IsNearer-from_first : AreKept → (strategy : Strategy) (target : Configuration) (down : Ids) (view : ViewState) (after : Configuration) (step : Step) (rest : List Step) → CanAnswer strategy target view
    → steps_to strategy target down view.conf_state ≡ step ∷ rest → Gives view.conf_state step after → IsNearer strategy target down view.conf_state after
IsNearer-from_first kept strategy target down view after step rest can first gives =
    let now = view.conf_state in
    let steps = steps_to strategy target down now in
    let counted = kept.counted in
    let leads = kept.leads strategy down now target can.valid_now can.valid_target can.path in
    let promises = kept.promises strategy down now target can.valid_now can.valid_target can.path in
    let shorter = kept.anew.shorter strategy down now after target step rest can.valid_now can.valid_target can.path first gives in
    let all : length steps ≡ length (step ∷ rest) = ap length first in
    let tolerant : IsAsTolerant down now target after =
    first-holds (λ b x d. IsAsTolerant down now target d) now target after steps rest step first gives (leads.tolerance down (path-tolerates strategy down now target (path_by strategy down now target) promises)) in
    record {
      fewer = omega (arith, shorter, all);
      valid = kept.anew.valid now after step can.valid_now gives;
      path = kept.anew.has_path strategy down now after target step rest can.path first;
      members = first-holds (λ b x d. HasMembersOf now target d) now target after steps rest step first gives leads.members;
      commits = λ of_now of_target. commits-from_Tolerates counted.fits counted.commits (voters_of after) down
          (tolerant 0 (Tolerates-from_commits counted.fits counted.commits (voters_of now) down of_now) (Tolerates-from_commits counted.fits counted.commits (voters_of target) down of_target));
    }

-- ---- the next moment is one
can-at : (strategy : Strategy) (target : Configuration) (view other : ViewState) (c : Configuration) → CanAnswer strategy target view → IsValidWithVoter c → has_path strategy c target ≡ true
    → other.conf_state ≡ c → CanAnswer strategy target other
can-at strategy target view other c can valid path is = grind (arith, valid, path)

pub moment-same : (strategy : Strategy) (target : Configuration) (now next : Moment) → IsMoment strategy target now → IsSamePlace now next → IsMoment strategy target next
moment-same strategy target now next moment same = record {
  can = can-at strategy target now.view next.view now.view.conf_state moment.can moment.can.valid_now moment.can.path same.conf_state;
  valid = subst IsValidWithVoter (sym same.becomes) moment.valid;
  path = ap (λ d. has_path strategy d target) same.becomes ∙ moment.path;
  not_pending = λ none. same.becomes ∙ moment.not_pending (same.pending.0 none) ∙ sym same.conf_state;
}

pub moment-reached : (strategy : Strategy) (target c : Configuration) (now next : Moment) → IsMoment strategy target now → IsValidWithVoter c → has_path strategy c target ≡ true → IsReached c next
    → IsMoment strategy target next
moment-reached strategy target c now next moment valid path reached = grind (arith, can-at, valid, path)

pub moment-under_way : (strategy : Strategy) (target c : Configuration) (now next : Moment) → IsMoment strategy target now → IsValidWithVoter c → has_path strategy c target ≡ true → IsUnderWay c now next
    → IsMoment strategy target next
moment-under_way strategy target c now next moment valid path under_way = grind (arith, can-at, valid, path)

-- ---- members
pub now-within_all : (target : Configuration) (now : Moment) → IsWithin (member_ids now.view.conf_state) (all_members target now)
now-within_all target now q here = union-left (member_ids now.view.conf_state ∪ member_ids now.becomes) (member_ids target) q (union-left (member_ids now.view.conf_state) (member_ids now.becomes) q here)

pub then-within_all : (target : Configuration) (now : Moment) → IsWithin (member_ids now.becomes) (all_members target now)
then-within_all target now q here = union-left (member_ids now.view.conf_state ∪ member_ids now.becomes) (member_ids target) q (union-right (member_ids now.view.conf_state) (member_ids now.becomes) q here)

target-within_all : (target : Configuration) (now : Moment) → IsWithin (member_ids target) (all_members target now)
target-within_all target now = union-right (member_ids now.view.conf_state ∪ member_ids now.becomes) (member_ids target)

-- the members of a configuration with those of the ends
pub ends-within_all : (target c : Configuration) (now : Moment) → HasMembersOf now.view.conf_state target c → IsWithin (member_ids c) (all_members target now)
ends-within_all target c now members q here = grind (arith, or_cases, members, has-all_members, now-within_all, target-within_all)

all-fewer : (target : Configuration) (now next : Moment) → IsWithin (member_ids next.view.conf_state) (all_members target now) → IsWithin (member_ids next.becomes) (all_members target now)
    → size (all_members target next) ≤ size (all_members target now)
all-fewer target now next first second = grind (arith, size-within, or_cases, has-union, target-within_all)

pub all-same : (target : Configuration) (now next : Moment) → IsSamePlace now next → size (all_members target next) ≤ size (all_members target now)
all-same target now next same = grind (arith, all-fewer, IsWithin, now-within_all, then-within_all)

pub all-reached : (target c : Configuration) (now next : Moment) → IsWithin (member_ids c) (all_members target now) → IsReached c next → size (all_members target next) ≤ size (all_members target now)
all-reached target c now next within reached = grind (arith, all-fewer, IsWithin)

pub all-under_way : (target c : Configuration) (now next : Moment) → IsWithin (member_ids c) (all_members target now) → IsUnderWay c now next → size (all_members target next) ≤ size (all_members target now)
all-under_way target c now next within under_way = grind (arith, all-fewer, IsWithin, now-within_all)

-- ---- who is needed is a member
pub IsOfMembers-from_view : AreKept → (strategy : Strategy) (target : Configuration) (down : Ids) (view : ViewState) → CanAnswer strategy target view → IsOfMembers (situation strategy target down view)
IsOfMembers-from_view kept strategy target down view can =
    let now = view.conf_state in
    let leads = kept.leads strategy down now target can.valid_now can.valid_target can.path in
    let promises = kept.promises strategy down now target can.valid_now can.valid_target can.path in
    record {
      members = refl;
      voters = refl;
      voters_after = voters_after-are_members now target (steps_to strategy target down now) (leads.ready (voters-learn_first strategy down now target (path_by strategy down now target) can.not_shortest promises));
    }

pub lack-bound : AreKept → (strategy : Strategy) (target : Configuration) (down : Ids) (now : Moment) → CanAnswer strategy target now.view → lack (situation strategy target down now.view) ≤ 2 * size (all_members target now)
lack-bound kept strategy target down now can =
    let s = situation strategy target down now.view in
    let within = needed-are_members s (IsOfMembers-from_view kept strategy target down now.view can) in
    lack-few s (all_members target now) (λ q here. now-within_all target now q (within q here))

-- ---- whether a change is pending
pub pending-same : (m n : ℕ) → ((m ≡ 0) ↔ (n ≡ 0)) → not (nat_eq m 0) ≡ not (nat_eq n 0)
pending-same m n alike = grind (arith, cases_eq, not, ne_eqb)

-- one while a change is pending, or none
abbrev pub changes_pending : ViewState → ℕ
changes_pending view = if not (nat_eq view.pending_conf_index 0) then 1 else 0

pub changes-none : (view : ViewState) → view.pending_conf_index ≡ 0 → changes_pending view ≡ 0
changes-none view none = ap (λ k. if not (nat_eq k 0) then 1 else 0) none

pub changes-one : (view : ViewState) → view.pending_conf_index ≢ 0 → changes_pending view ≡ 1
changes-one view some = ap (λ b. if not b then 1 else 0) (ne_eqb view.pending_conf_index 0 some)

pub changes-few : (view : ViewState) → changes_pending view ≤ 1
changes-few view = grind (arith, cases_eq, changes-none, changes-one)

-- ---- the parts of the number in the same place
pub steps-same : (strategy : Strategy) (target : Configuration) (down : Ids) (now next : Moment) → next.becomes ≡ now.becomes → steps_left strategy target down next ≡ steps_left strategy target down now
steps-same strategy target down now next same = ap (λ c. length (steps_to strategy target down c)) same

pub changes-same : (now next : Moment) → IsSamePlace now next → changes_pending next.view ≡ changes_pending now.view
changes-same now next same = ap (λ b. if b then 1 else 0) (pending-same next.view.pending_conf_index now.view.pending_conf_index same.pending)

-- leadership is as far off as it would be before with that leader
pub leader-same : (strategy : Strategy) (target : Configuration) (down : Ids) (now next : Moment) → IsSamePlace now next
    → leader_off (situation strategy target down next.view) ≡ leader_off (record (situation strategy target down now.view) { lead = next.view.lead })
leader-same strategy target down now next same =
    let pending = pending-same next.view.pending_conf_index now.view.pending_conf_index same.pending in
    λ i. leader_off (record (situation strategy target down (record (next.view) { conf_state = same.conf_state i })) { is_pending = pending i })

-- and members lack what they would lack before with those that are heard from and up
pub lack-same : (strategy : Strategy) (target : Configuration) (down : Ids) (now next : Moment) → IsSamePlace now next → next.view.lead ≡ now.view.lead → next.view.running ≡ now.view.running
    → lack (situation strategy target down next.view) ≡ lack (record (situation strategy target down now.view) { up = up_and_caught_up down next.view; heard = heard_from next.view })
lack-same strategy target down now next same lead running =
    let pending = pending-same next.view.pending_conf_index now.view.pending_conf_index same.pending in
    λ i. lack (record (situation strategy target down (record (next.view) { conf_state = same.conf_state i; lead = lead i; running = running i })) {
      is_pending = pending i;
      up = up_and_caught_up down next.view;
      heard = heard_from next.view;
    })
