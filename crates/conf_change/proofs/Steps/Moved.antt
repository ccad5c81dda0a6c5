-- The tracker after a step, from the edits of its changes or from the members that leaving keeps.
use Rattle.std.proofs.Common.{◌≡◌, ◌⊎◌, inl, inr, ℕ, Bool, true, List, refl, sym, ap, subst, arith}
use Rattle.std.specs.Prelude.{Option, Ok, is_some}
use Rattle.std.proofs.lemmas.Bool.{and_parts}
use Rattle.quorum_sets.specs.Ids.{Ids}
use Rattle.quorum_sets.proofs.Offered.{has-no_ids}
use Rattle.conf_change.specs.Configuration.{Configuration, is_member}
use Rattle.conf_change.specs.Edits.{AreEdits, HasEdits, HasEditedEntries}
use Rattle.conf_change.specs.Outcome.{outcome, after_leave}
use Rattle.conf_change.specs.TrackerState.{TrackerState}
use Rattle.conf_change.specs.TrackerEdits.{KeepsMembers, Moves, entry_of, progress_kept}
use Rattle.conf_change.specs.Changer.{IsSound}
use Rattle.conf_change.specs.declared.change.Change.{Change}
use Rattle.conf_change.specs.declared.edit_list.Edit.{Edit}
use Rattle.conf_change.specs.declared.progress.Progress.{Progress}
use Rattle.conf_change.specs.declared.step.Step.TheVariants.{Simple, EnterJoint, LeaveJoint}
use Rattle.conf_change.specs.declared.step.StepKind.{StepKind}
use Rattle.conf_change.specs.declared.step.StepKind.TheVariants as kind
use Rattle.conf_change.specs.Transition.{step_of}
use Rattle.conf_change.proofs.ListsOfChanges.EditedTracker.{HasSameMembers-entering, entry-moved}
use Rattle.conf_change.proofs.Configurations.Validity.{ValidByMember, ValidByMember-from_is_valid}
use Rattle.conf_change.proofs.Steps.Acceptance.{SimpleTaken-from_outcome, EnterTaken-from_outcome, LeaveTaken-from_outcome}
use Rattle.conf_change.proofs.Steps.Soundness.{has-after_leave}

pub Moves-simple : (next_index : ℕ) (before after : TrackerState) (changes : List Change) (edits : List (ℕ × Edit)) → IsSound before → outcome before.config (Simple changes) ≡ Ok after.config
    → AreEdits changes after.config.outgoing edits → after.floor ≡ before.floor → HasEditedEntries next_index edits before.progress after.progress → Moves next_index (Simple changes) before after
Moves-simple next_index before after changes edits sound e are floor entries =
    let c = before.config in
    let made = (SimpleTaken-from_outcome c after.config changes e).made in
    let Are : Ids → Type 0 = λ out. AreEdits changes out edits in
    record {
      configuration = e;
      floor = floor;
      entries = entry-moved next_index before c.outgoing c.auto_leave changes edits after.config after.progress sound (λ q. refl) (subst Are (sym (ap (λ d. d.outgoing) made)) are) (sym made) entries;
    }

pub Moves-enter : (next_index : ℕ) (before after : TrackerState) (auto_leave : Bool) (changes : List Change) (edits : List (ℕ × Edit)) → IsSound before
    → outcome before.config (EnterJoint auto_leave changes) ≡ Ok after.config → AreEdits changes after.config.outgoing edits → after.floor ≡ before.floor → HasEditedEntries next_index edits before.progress after.progress
    → Moves next_index (EnterJoint auto_leave changes) before after
Moves-enter next_index before after auto_leave changes edits sound e are floor entries =
    let c = before.config in
    let taken = EnterTaken-from_outcome c after.config auto_leave changes e in
    let Are : Ids → Type 0 = λ out. AreEdits changes out edits in
    record {
      configuration = e;
      floor = floor;
      entries = entry-moved next_index before c.incoming auto_leave changes edits after.config after.progress sound (HasSameMembers-entering c taken.single) (subst Are (sym (ap (λ d. d.outgoing) taken.made)) are) (sym taken.made) entries;
    }

-- a step with changes
pub Moves-changed : (next_index : ℕ) (before after : TrackerState) (step : StepKind) (changes : List Change) (edits : List (ℕ × Edit)) → (step ≡ kind.Simple) ⊎ ((auto_leave : Bool) × (step ≡ kind.Enter auto_leave)) → IsSound before
    → outcome before.config (step_of step changes) ≡ Ok after.config → HasEdits step changes after.config.outgoing edits → after.floor ≡ before.floor → HasEditedEntries next_index edits before.progress after.progress
    → Moves next_index (step_of step changes) before after
Moves-changed next_index before after kind.Simple changes edits is sound e are floor entries = Moves-simple next_index before after changes edits sound e are floor entries
Moves-changed next_index before after (kind.Enter auto_leave) changes edits is sound e are floor entries = Moves-enter next_index before after auto_leave changes edits sound e are floor entries
Moves-changed next_index before after kind.Leave changes edits (inl is) sound e are floor entries = cc
Moves-changed next_index before after kind.Leave changes edits (inr is) sound e are floor entries = cc

-- who is a member after leaving was one before
was_member : (c : Configuration) (q : ℕ) → ValidByMember c → is_member (after_leave c) q ≡ true → is_member c q ≡ true
was_member c q valid m = grind (arith, has-after_leave c q, has-no_ids q, valid.next_outgoing q)

-- who has progress and keeps it needs none afresh
kept_entry : (next : ℕ) (member learner : Bool) (had : Option Progress) → (member ≡ true → is_some had ≡ true) → progress_kept member learner had ≡ entry_of next member learner had
kept_entry next member learner had some = grind arith

pub Moves-leave : (next_index : ℕ) (before after : TrackerState) → IsSound before → outcome before.config LeaveJoint ≡ Ok after.config → after.floor ≡ before.floor
    → KeepsMembers after.config before.progress after.progress → Moves next_index LeaveJoint before after
Moves-leave next_index before after sound e floor entries = grind (arith, LeaveTaken-from_outcome, ValidByMember-from_is_valid, and_parts, kept_entry, was_member)
