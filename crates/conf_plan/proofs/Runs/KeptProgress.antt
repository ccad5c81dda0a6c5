-- Who keeps its progress when a changer takes the steps of a plan.
use Rattle.std.proofs.Common.{◌≡◌, ℕ, true, cond, not, List, [], ◌∷◌, refl, sym, ap, subst, ◌∙◌, is_some, arith}
use Rattle.std.specs.Prelude.{Option, Some, None, unwrap_or}
use Rattle.std.specs.FinMap as finite
use Rattle.std.proofs.lemmas.Bool.{true≢false, and_parts}
use Rattle.quorum_sets.specs.Ids.{has}
use Rattle.conf_change.specs.Changer.{ChangerState, IsSound, Accepts}
use Rattle.conf_change.specs.Configuration.{Configuration, is_member, is_restorable}
use Rattle.conf_change.specs.Progress.{fresh_next_of, fresh_progress, with_mark, is_replaced, keeps_progress}
use Rattle.conf_change.specs.declared.progress.Progress.{Progress}
use Rattle.conf_change.specs.declared.step.Step.{Step}
use Rattle.conf_change.proofs.Offered.{get-after, moved_to-is_sound, has-none_in_empty}
use Rattle.conf_plan.specs.Best.{Preserves}
use Rattle.conf_plan.specs.Planned.{planned}
use Rattle.conf_plan.specs.Run.{IsValidWithVoter, Takes, HasKeptProgress}
use Rattle.conf_plan.proofs.Runs.Chains.{run-is_valid, IsRun-from_IsRunWith}
use Rattle.conf_plan.proofs.BestPlan.PreservedMembers.{keeps_progress-member, planned-preserving}
use Rattle.conf_plan.proofs.Runs.TakenInOrder.{Ok-same}

-- a member has progress
entry : (a : ChangerState) (q : ℕ) → IsSound a.tracker → is_member a.tracker.config q ≡ true → (p : Progress) × (finite.get a.tracker.progress q ≡ Some p)
entry a q sound member = by (finite.get a.tracker.progress q) refl
  where
    by : (o : Option Progress) → finite.get a.tracker.progress q ≡ o → (p : Progress) × (finite.get a.tracker.progress q ≡ Some p)
    by None e = absurd (true≢false (sym member ∙ sym (sound.of_members q) ∙ ap is_some e))
    by (Some p) e = (p, e)

-- ---- over one step
accepted-is_sound : (before after : ChangerState) (step : Step) → IsSound before.tracker → Accepts before step after → IsSound after.tracker
accepted-is_sound before after step sound accepted =
    let P : ChangerState → Type 0 = λ s. IsSound s.tracker in
    subst P (sym accepted.whole) (moved_to-is_sound before step after.tracker.config sound accepted.configuration)

pub accepted-keeps : (before after : ChangerState) (step : Step) (q : ℕ) → IsSound before.tracker → Accepts before step after
    → keeps_progress before.tracker.config step after.tracker.config q ≡ true → HasKeptProgress before after q
accepted-keeps before after step q sound accepted keeps =
    let next = fresh_next_of before in
    let was = (and_parts _ (is_member after.tracker.config q) (and_parts _ (not (is_replaced step after.tracker.config q)) keeps).0).0 in
    let had = entry before q sound was in
    let marked = has after.tracker.config.learners q in
    let stays = keeps_progress-member q before.tracker.config step after.tracker.config keeps in
    record {
      had = had.0;
      kept = with_mark marked had.0;
      entry_before = had.1;
      entry_after =
          ap (λ s. finite.get s.tracker.progress q) accepted.whole ∙ get-after before step after.tracker.config q
          ∙ (λ i. cond (stays i) (Some (cond (keeps i) (with_mark marked (unwrap_or (had.1 i) (fresh_progress next marked))) (fresh_progress next marked))) None);
      same_match = refl;
      same_next = refl;
    }

-- ---- over all of them
same_entry : (a b : Progress) → ◌≡◌ {A = Option Progress} (Some a) (Some b) → a ≡ b
same_entry a b e = cc

kept_on : (a b c : ChangerState) (q : ℕ) → HasKeptProgress a b q → HasKeptProgress b c q → HasKeptProgress a c q
kept_on a b c q first rest = grind (arith, same_entry)

kept_at_once : (a : ChangerState) (q : ℕ) → IsSound a.tracker → is_member a.tracker.config q ≡ true → HasKeptProgress a a q
kept_at_once a q sound member = grind (arith, entry)

pub takes-is_sound : (a b : ChangerState) (steps : List Step) → IsSound a.tracker → Takes a steps b → IsSound b.tracker
takes-is_sound a b [] sound taken = let P : ChangerState → Type 0 = λ s. IsSound s.tracker in subst P taken sound
takes-is_sound a b (step ∷ steps) sound taken = takes-is_sound taken.0 b steps (accepted-is_sound a taken.0 step sound taken.1) taken.2

pub takes-keep : (a b : ChangerState) (steps : List Step) (target : Configuration) (q : ℕ) → IsSound a.tracker → Takes a steps b
    → Preserves a.tracker.config steps target q → HasKeptProgress a b q
takes-keep a b [] target q sound taken preserves = grind (arith, kept_at_once)
takes-keep a b (step ∷ steps) target q sound taken preserves =
    let same : preserves.1.0 ≡ taken.0.tracker.config = Ok-same _ _ (sym preserves.1.1.0 ∙ taken.1.configuration) in
    let K : Configuration → Type 0 = λ c. keeps_progress a.tracker.config step c q ≡ true in
    let P : Configuration → Type 0 = λ c. Preserves c steps target q in
    kept_on a taken.0 b q (accepted-keeps a taken.0 step q sound taken.1 (subst K same preserves.1.1.1))
    (takes-keep taken.0 b steps target q (accepted-is_sound a taken.0 step sound taken.1) taken.2
    (subst P same (keeps_progress-member q a.tracker.config step preserves.1.0 preserves.1.1.1, preserves.1.2)))

-- ---- a plan that was made for the changer
-- where there is a member there is a voter
member-is_valid : (c : Configuration) (q : ℕ) → is_restorable c ≡ true → is_member c q ≡ true → IsValidWithVoter c
member-is_valid c q ok member = grind (arith, and_parts, has-none_in_empty)

pub takes-keep_planned : (a b : ChangerState) (steps other : List Step) (target : Configuration) (q : ℕ) → IsSound a.tracker → Takes a steps b
    → steps ≡ planned a.tracker.config target → Preserves a.tracker.config other target q → HasKeptProgress a b q
takes-keep_planned a b steps other target q sound taken made preserves = grind (arith, member-is_valid, run-is_valid, IsRun-from_IsRunWith, takes-keep, planned-preserving)
