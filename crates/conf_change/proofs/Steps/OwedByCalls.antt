-- What a call owes that makes a step.
use Rattle.std.proofs.Common.{◌≡◌, ℕ, Bool, cond, not, ◌&&◌, sym, subst, ◌∙◌, arith}
use Rattle.std.specs.Prelude.{Option, Some, None, is_some, unwrap_or, Ok}
use Rattle.std.specs.Cmp.{nat_cmp_total}
use Rattle.std.specs.FinMap as finite
use Rattle.std.specs.FinMap.{nat_cmp-IsAntisymmetric}
use Rattle.quorum_sets.specs.Ids.{has}
use Rattle.conf_change.specs.Configuration.{is_member}
use Rattle.conf_change.specs.Progress.{fresh_next_of, fresh_progress, with_mark, progress_after, is_replaced}
use Rattle.conf_change.specs.TrackerEdits.{Moves}
use Rattle.conf_change.specs.Changer.{TrackerState, ChangerState, IsSound, GivesNext, changer_of}
use Rattle.conf_change.specs.declared.progress.Progress.{Progress}
use Rattle.conf_change.specs.declared.step.Step.{Step}
use Rattle.conf_change.proofs.MemberProgress.OfEachId.{get-progress_by}
use Rattle.conf_change.proofs.Steps.Soundness.{moved_to-is_sound, outcome-are_neighbours, outcome-overlaps, outcome-has_voter}

-- ---- progress
-- the entry of an id, in the terms of the step
entry_kept : (next : ℕ) (was is replaced learner : Bool) (had : Option Progress) → is_some had ≡ was
    → cond is (Some (with_mark learner (unwrap_or (cond replaced None had) (fresh_progress next learner)))) None
    ≡ cond is (Some (cond (was && is && not replaced) (with_mark learner (unwrap_or had (fresh_progress next learner))) (fresh_progress next learner))) None
entry_kept next was is replaced learner had e = grind arith

progress_made : (before : ChangerState) (step : Step) (after : TrackerState) → IsSound before.tracker → Moves (fresh_next_of before) step before.tracker after → after.progress ≡ progress_after before step after.config
progress_made before step after sound moves =
    finite.same_map nat_cmp_total nat_cmp-IsAntisymmetric after.progress (progress_after before step after.config) (λ q.
    moves.entries q
    ∙ entry_kept (fresh_next_of before) (is_member before.tracker.config q) (is_member after.config q) (is_replaced step after.config q) (has after.config.learners q) _ (sound.of_members q)
    ∙ sym (get-progress_by after.config _ q))

-- ---- made
pub GivesNext-moved : (before : ChangerState) (step : Step) (after : TrackerState) → IsSound before.tracker → Moves (fresh_next_of before) step before.tracker after
    → GivesNext before step (Ok (changer_of after before.last_index))
GivesNext-moved before step after sound moves =
    let e = moves.configuration in
    let progress = progress_made before step after sound moves in
    let Sound : TrackerState → Type 0 = IsSound in
    record {
      accepted = record {
        configuration = e;
        whole = λ i. record { tracker = record { config = after.config; progress = progress i; floor = moves.floor i }; last_index = before.last_index };
      };
      refused = tt;
      sound = sound;
      sound_after = subst Sound (λ i. record { config = after.config; progress = sym progress i; floor = sym moves.floor i }) (moved_to-is_sound before step after.config sound e);
      neighbours = outcome-are_neighbours before.tracker.config after.config step e;
      overlap = outcome-overlaps before.tracker.config after.config step e;
      voter = λ _. outcome-has_voter before.tracker.config after.config step sound.restorable e;
    }
