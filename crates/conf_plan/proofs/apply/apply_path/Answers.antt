use Rattle.std.proofs.Common.{◌≡◌, ℕ, ◌≤◌, ◌+◌, List, take, length, sym, subst}
use Rattle.std.proofs.lemmas.List.{take_all}
use Rattle.conf_change.specs.Changer.{ChangerState}
use Rattle.conf_change.specs.declared.step.Step.{Step}
use Rattle.conf_plan.specs.Run.{IsRun, Takes}
use Rattle.quorum_sets.proofs.Offered.{slice_get-not_past, slice_get-split, take-one_more}
use Rattle.conf_plan.proofs.Runs.KeptProgress.{takes-is_sound, takes-keep}
use Rattle.conf_plan.proofs.Runs.TakenInOrder.{Takes-push, Takes-to_target, Refuses-for_memory}
use Rattle.conf_plan.proofs.apply.apply_path.Goals as goal
use Rattle.conf_plan.proofs.apply.apply_path.Goals.{in-Some+in-Ok, in_default}

pub loop-index-preserved : goal.loop-index-preserved
loop-index-preserved g c = elim c.match-step.branch [
  | in-Some+in-Ok w ↦
      let path = c.args.path.now in
      let P : ChangerState → Type 0 = λ s. Takes c.args.changer.now (take (c.loop-index.index + 1) path) s in
      let Q : List Step → Type 0 = λ xs. Takes c.args.changer.now xs w.step-in-Some.new.self in
      subst P (sym w.changer-is)
      (subst Q (sym (take-one_more path c.loop-index.index w.in-Some.step.now (sym w.in-Some.ensures)))
      (Takes-push _ _ _ _ _ c.loop-index.invariant w.in-Ok.ensures.accepted))
  | in_default w ↦ slice_get-not_past c.args.path.now c.loop-index.index c.len-index-end.result w.in_default.ensures c.len-index-end.ensures c.loop-index-test.true
]

-- the whole path was taken
all_taken : (old now : ChangerState) (path : List Step) (position n : ℕ) → n ≡ length path → n ≤ position → Takes old (take position path) now → Takes old path now
all_taken old now path position n is past taken =
    let P : List Step → Type 0 = λ xs. Takes old xs now in
    subst P (take_all position path (subst (λ k. k ≤ position) is past)) taken

pub returns-clause-sound : goal.returns-clause-sound
returns-clause-sound g c = takes-is_sound _ _ _ c.tracker-tracker.ensures.sound c.loop-index.invariant

pub returns-clause-preserved : goal.returns-clause-preserved
returns-clause-preserved g c = λ id preserves_all.
    takes-keep _ _ c.args.path.now _ id c.tracker-tracker.ensures.sound
    (all_taken _ _ c.args.path.now c.loop-index.index _ c.len-index-end.ensures c.loop-index-test.false c.loop-index.invariant) preserves_all

pub returns-clause-reached : goal.returns-clause-reached
returns-clause-reached g c = λ target run.
    Takes-to_target _ _ c.args.path.now target
    (all_taken _ _ c.args.path.now c.loop-index.index _ c.len-index-end.ensures c.loop-index-test.false c.loop-index.invariant) run

pub returns-in-Err-clause-memory_alone : goal.returns-in-Err-clause-memory_alone
returns-in-Err-clause-memory_alone g c = λ target run.
    let P : List Step → Type 0 = λ xs. IsRun c.args.changer.now.tracker.config xs target in
    Refuses-for_memory _ _ _ _ _ _ target c.loop-index.invariant c.in-Err.ensures.refused
    (subst P (slice_get-split c.args.path.now c.loop-index.index c.in-Some.step.now (sym c.in-Some.ensures)) run)
