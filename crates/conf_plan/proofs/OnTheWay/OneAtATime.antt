-- The path on which one member changes at a time leads to the target, and what holds at each of its steps.
use Rattle.std.proofs.Common.{◌≡◌, ℕ, Bool, true, false, cond, not, ◌&&◌, ◌||◌, ◌==◌, List, [], ◌∷◌, ◌++◌, refl, sym, subst, arith, eqb-true, eq-eqb}
use Rattle.std.specs.Prelude.{flat_map, option_map}
use Rattle.std.specs.Bool.{beq}
use Rattle.std.specs.List.{cons_option}
use Rattle.std.proofs.lemmas.Bool.{both_ways, cond_both, or_right}
use Rattle.std.proofs.lemmas.List.Concat.{flat_map-cons}
use Rattle.quorum_sets.specs.Ids.{Ids, no_ids, has, with_id, is_empty}
use Rattle.quorum_sets.proofs.Offered.{has-no_ids, has-same_ids, has-with_id}
use Rattle.conf_change.specs.Configuration.{Configuration, ValidByMember, is_member}
use Rattle.conf_change.specs.Progress.{keeps_progress}
use Rattle.conf_change.specs.declared.change.Kind.TheVariants.{Learner}
use Rattle.conf_change.specs.declared.step.Step.{Step}
use Rattle.conf_plan.specs.OnTheWay.{ChangesOneLearnerFirst}
use Rattle.conf_plan.specs.OneAtATime.{one_change, steps_of}
use Rattle.conf_plan.specs.Planned.{kind_by, single_with}
use Rattle.conf_plan.specs.Run.{Gives, IsRunWith}
use Rattle.conf_plan.proofs.OnTheWay.OneChange.{kind_for, one_change-leads}
use Rattle.conf_plan.proofs.OnTheWay.OrderOfIds.{AreOnce, AreOnce-first, AreOnce-rest, mixed, between, has-mixed_done, has-mixed_first}
use Rattle.conf_plan.proofs.FindingMoves.AscendingIds.{times}
use Rattle.conf_plan.proofs.BestPlan.PreservedMembers.{keeps_progress-of_member}
use Rattle.conf_plan.proofs.Runs.Chains.{IsChain-append}

-- ---- a step
-- a member after it was one before, or is one of the target
abbrev pub AddsMembersOf : Configuration → Configuration → Step → Configuration → Type 0
AddsMembersOf target before step after = (q : ℕ) → is_member after q ≡ true → (is_member before q || is_member target q) ≡ true

-- It changes one member, makes voters of learners alone, and resets no member's progress. Members of the target stay, and no others come. It leads to a configuration that is not joint and is fine, and it adds a member only to one that is calm.
pub record IsTurn (Fine Calm : Configuration → Type 0) (target before : Configuration) (step : Step) (after : Configuration) : Type 0 where
  pub learner_first : ChangesOneLearnerFirst before step after
  pub kept : (q : ℕ) → is_member before q ≡ true → is_member after q ≡ true → keeps_progress before step after q ≡ true
  pub stays : (q : ℕ) → is_member target q ≡ true → is_member before q ≡ true → is_member after q ≡ true
  pub adds : AddsMembersOf target before step after
  pub single : after.outgoing ≡ no_ids
  pub fine : Fine after
  pub calm : (joiner : ℕ) → is_member before joiner ≡ false → is_member after joiner ≡ true → Calm before

-- the id is in the set after it or not, and the others are in it as before
abbrev Becomes : Ids → ℕ → Bool → Ids → Type 0
Becomes ids id here after = (q : ℕ) → has after q ≡ cond (q == id) here (has ids q)

-- an id gets these roles, and the others keep theirs; a new voter was a learner
turn : (Fine Calm : Configuration → Type 0) (target : Configuration) (voters learners voters_after learners_after : Ids) (votes learns : Bool) (id : ℕ) → (id == 0) ≡ false
    → (votes ≡ true → learns ≡ false) → (votes ≡ true → has learners id ≡ true) → (is_member target id ≡ true → (votes || learns) ≡ true)
    → ((votes || learns) ≡ true → is_member target id ≡ true)
    → Becomes voters id votes voters_after → Becomes learners id learns learners_after → is_empty voters_after ≡ false → Fine (single_with voters_after learners_after)
    → (is_member (single_with voters learners) id ≡ false → Calm (single_with voters learners))
    → Gives (single_with voters learners) (one_change (kind_for votes learns) id) (single_with voters_after learners_after)
    × IsTurn Fine Calm target (single_with voters learners) (one_change (kind_for votes learns) id) (single_with voters_after learners_after)
turn Fine Calm target voters learners voters_after learners_after votes learns id other apart learned becomes of_target votes_at learns_at some fine calm =
    let change = one_change (kind_for votes learns) id in
    let after = single_with voters_after learners_after in (
      one_change-leads voters learners voters_after learners_after votes learns id other apart some votes_at learns_at,
      record {
        learner_first = record { one = refl; learners = λ q is_voter new. grind (arith, eqb-true q id, votes_at q, learned, is_voter, new) };
        kept = λ q was is. keeps_progress-of_member q (single_with voters learners) change after was is (grind (arith, votes_at q, learns_at q, has-no_ids q, eqb-true q id, is));
        stays = λ q in_target was. grind (arith, votes_at q, learns_at q, has-no_ids q, eqb-true q id, becomes, in_target, was);
        adds = λ q is. grind (arith, votes_at q, learns_at q, has-no_ids q, eqb-true q id, of_target, is);
        single = refl;
        fine = fine;
        calm = λ q was is. calm (grind (arith, votes_at q, learns_at q, has-no_ids q, eqb-true q id, was, is));
      },
    )

-- ---- the steps of an id
-- the steps that an id needs by its roles: in the target (voter, learner) and now
abbrev pub steps_by : Bool → Bool → Bool → Bool → ℕ → List Step
steps_by will_vote will_learn votes learns id =
    cond (will_vote && not (votes || learns)) (one_change Learner id ∷ []) []
    ++ cons_option (option_map (λ kind. one_change kind id) (kind_by will_vote will_learn votes learns)) []

-- none where its roles stay, two where a newcomer becomes a voter, and one otherwise
steps_by-cases : (will_vote will_learn votes learns : Bool) (id : ℕ) → (will_vote ≡ true → will_learn ≡ false) → (votes ≡ true → learns ≡ false)
    → steps_by will_vote will_learn votes learns id
    ≡ cond (beq will_vote votes && beq will_learn learns) []
    (cond (will_vote && not (votes || learns)) (one_change Learner id ∷ one_change (kind_for will_vote will_learn) id ∷ []) (one_change (kind_for will_vote will_learn) id ∷ []))
steps_by-cases will_vote will_learn votes learns id then now = grind arith

-- what the steps of an id need: the configuration before is fine, and the one in which a newcomer learns; before it becomes a member, it is calm
pub record IsReady (Fine Calm : Configuration → Type 0) (c target : Configuration) (id : ℕ) (left : List ℕ) : Type 0 where
  pub fine : Fine (between c target (id ∷ left))
  pub learning : (has target.incoming id && not (has c.incoming id || has c.learners id)) ≡ true
      → Fine (single_with (mixed c.incoming target.incoming (id ∷ left)) (with_id (mixed c.learners target.learners (id ∷ left)) id))
  pub calm : (has c.incoming id || has c.learners id) ≡ false → Calm (between c target (id ∷ left))

steps_of-lead : (Fine Calm : Configuration → Type 0) (c target : Configuration) (id : ℕ) (left : List ℕ) → ValidByMember c → ValidByMember target → target.outgoing ≡ no_ids → times id left ≡ 0
    → ((d : Configuration) → Fine d → is_empty d.incoming ≡ false) → IsReady Fine Calm c target id left → Fine (between c target left)
    → IsRunWith (IsTurn Fine Calm target) (between c target (id ∷ left)) (steps_of c target id) (between c target left)
steps_of-lead Fine Calm c target id left valid_c valid single once needs ready fine_after =
    let votes = has c.incoming id in
    let learns = has c.learners id in
    let will_vote = has target.incoming id in
    let will_learn = has target.learners id in
    let voters = mixed c.incoming target.incoming (id ∷ left) in
    let learners = mixed c.learners target.learners (id ∷ left) in
    let voters_after = mixed c.incoming target.incoming left in
    let learners_after = mixed c.learners target.learners left in
    let learning = with_id learners id in
    let votes_at = has-mixed_done c.incoming target.incoming id left once in
    let learns_at = has-mixed_done c.learners target.learners id left once in
    let votes_now = has-mixed_first c.incoming target.incoming id left in
    let learns_now = has-mixed_first c.learners target.learners id left in
    -- a voter is not a learner too
    let alone : will_vote ≡ true → will_learn ≡ false = λ voter. grind (arith, valid.learner_incoming id, voter) in
    let alone_now : votes ≡ true → learns ≡ false = λ voter. grind (arith, valid_c.learner_incoming id, voter) in
    let Leads : List Step → Type 0 = λ steps. IsRunWith (IsTurn Fine Calm target) (between c target (id ∷ left)) steps (between c target left) in
    -- an id that has a role is not 0
    let not_zero : (will_vote || will_learn || (votes || learns)) ≡ true → (id == 0) ≡ false =
    λ some. grind (arith, eqb-true id 0, valid.zero_incoming, valid.zero_learners, valid_c.zero_incoming, valid_c.zero_learners, some) in
    let becomes : is_member target id ≡ true → (will_vote || will_learn) ≡ true = λ member. grind (arith, single, has-no_ids id, member) in
    let of_target : (will_vote || will_learn) ≡ true → is_member target id ≡ true = λ some. grind (arith, some) in
    let some = needs (between c target (id ∷ left)) ready.fine in
    let some_after = needs (between c target left) fine_after in
    let learning_at : Becomes learners id true learning = λ q. grind (arith, has-with_id learners id q) in
    subst Leads (sym (steps_by-cases will_vote will_learn votes learns id alone alone_now))
    (cond_both (beq will_vote votes && beq will_learn learns) _ _ Leads
    (λ same.
    λ i. single_with (has-same_ids voters voters_after (λ q. grind (arith, eqb-true q id, votes_now, same, votes_at q)) i)
    (has-same_ids learners learners_after (λ q. grind (arith, eqb-true q id, learns_now, same, learns_at q)) i))
    (λ alters.
    let other = not_zero (grind (arith, alters)) in
    cond_both (will_vote && not (votes || learns)) _ _ Leads
    (λ new. (
      single_with voters learning,
      turn Fine Calm target voters learners voters learning false true id other (λ e. grind (arith, e)) (λ e. grind (arith, e)) (λ member. refl) (λ some_role. grind (arith, new))
          (λ q. grind (arith, eqb-true q id, votes_now, new)) learning_at some (ready.learning new) (λ newcomer. ready.calm (grind (arith, new))),
      (
        between c target left,
        turn Fine Calm target voters learning voters_after learners_after will_vote will_learn id other alone (λ e. grind (arith, learning_at id, eq-eqb id id refl)) becomes of_target votes_at
            (λ q. grind (arith, learning_at q, learns_at q)) some_after fine_after (λ newcomer. absurd (both_ways (is_member (single_with voters learning) id) newcomer (or_right (has voters id || has no_ids id) (has learning id) (grind (arith, learning_at id, eq-eqb id id refl))))),
        refl,
      ),
    ))
    (λ known. (
      between c target left,
      turn Fine Calm target voters learners voters_after learners_after will_vote will_learn id other alone (λ e. grind (arith, learns_now, alone, alone_now, alters, known, e)) becomes
          of_target votes_at learns_at some_after fine_after (λ newcomer. ready.calm (grind (arith, votes_now, learns_now, newcomer))),
      refl,
    ))))

-- ---- the steps of all ids
-- each id is ready when its turn comes, and the end is fine
abbrev pub AreReady : (Fine Calm : Configuration → Type 0) → Configuration → Configuration → List ℕ → Type 0
AreReady Fine Calm c target [] = Fine (between c target [])
AreReady Fine Calm c target (id ∷ left) = IsReady Fine Calm c target id left × AreReady Fine Calm c target left

AreReady-fine : (Fine Calm : Configuration → Type 0) (c target : Configuration) (left : List ℕ) → AreReady Fine Calm c target left → Fine (between c target left)
AreReady-fine Fine Calm c target [] ready = ready
AreReady-fine Fine Calm c target (id ∷ left) ready = ready.0.fine

pub steps_of-lead_on : (Fine Calm : Configuration → Type 0) (c target : Configuration) (left : List ℕ) → ValidByMember c → ValidByMember target → target.outgoing ≡ no_ids → AreOnce left
    → ((d : Configuration) → Fine d → is_empty d.incoming ≡ false) → AreReady Fine Calm c target left
    → IsRunWith (IsTurn Fine Calm target) (between c target left) (flat_map (steps_of c target) left) (between c target [])
steps_of-lead_on Fine Calm c target [] valid_c valid single once needs ready = refl
steps_of-lead_on Fine Calm c target (id ∷ left) valid_c valid single once needs ready =
    let Leads : Configuration → Step → Configuration → Type 0 = λ before step after. Gives before step after × IsTurn Fine Calm target before step after in
    let Reaches : List Step → Type 0 = λ steps. IsRunWith (IsTurn Fine Calm target) (between c target (id ∷ left)) steps (between c target []) in
    subst Reaches (sym (flat_map-cons (steps_of c target) id left))
    (IsChain-append Leads (between c target (id ∷ left)) (between c target left) (between c target []) (steps_of c target id) (flat_map (steps_of c target) left)
    (steps_of-lead Fine Calm c target id left valid_c valid single (AreOnce-first id left once) needs ready.0 (AreReady-fine Fine Calm c target left ready.1))
    (steps_of-lead_on Fine Calm c target left valid_c valid single (AreOnce-rest id left once) needs ready.1))
