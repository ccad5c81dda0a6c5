-- The configurations that a session keeps, and that an answer keeps what holds of every session.
use Rattle.std.proofs.Common.{◌≡◌, ℕ, zero, suc, ◌-◌, ◌≤◌, Bool, true, false, cond, List, [], ◌∷◌, ◌++◌, length, take, drop, refl, sym, ap, ◌∙◌, subst, arith}
use Rattle.std.specs.Prelude.{◌↔◌, Option, Some, None, unwrap_or, Result, Ok, Err, ⊤, slice_get}
use Rattle.std.specs.List.{All}
use Rattle.std.proofs.lemmas.List.{length-append, length-take, length-drop}
use Rattle.std.proofs.lemmas.List.Elements.{All-nil, All-cons, All-head, All-tail, All-take}
use Rattle.std.proofs.lemmas.Result.{IfOk-at_ok}
use Rattle.dd_file.specs.DirectiveText.{DirectiveText}
use Rattle.dd_file.specs.DirectiveLine.{ArgumentText}
use Rattle.conf_change.specs.Acknowledgement.{ack_answer, changer_with_progress}
use Rattle.conf_change.specs.ChangerState.{ChangerState}
use Rattle.conf_change.specs.Changer.{IsSound, Accepts, moved_to, begun_with, new_changer, changer_after}
use Rattle.conf_change.specs.ConfState.{ConfStateLists, Describes, restored}
use Rattle.conf_change.specs.Configuration.{Configuration, empty_configuration, has_voter, is_valid, has_voter_or_is_empty, is_restorable}
use Rattle.conf_change.specs.Outcome.{outcome}
use Rattle.conf_change.specs.Transition.{step_of}
use Rattle.conf_change.specs.U64Lists.{HasU64Lists}
use Rattle.conf_change.specs.declared.change.Change.{Change}
use Rattle.conf_change.specs.declared.floor.Floor.{Floor}
use Rattle.conf_change.specs.declared.acknowledgement.AckFault.{AckFault}
use Rattle.conf_change.specs.declared.acknowledgement.AckFault.TheVariants.{NotMember, IndexTooLarge}
use Rattle.conf_change.specs.declared.progress.Progress.{Progress}
use Rattle.conf_change.specs.declared.refused.Refused.{Refused}
use Rattle.conf_change.specs.declared.step.Step.{Step}
use Rattle.conf_change.specs.declared.step.Step.TheVariants.{Simple as SimpleStep, EnterJoint as EnterStep, LeaveJoint as LeaveStep}
use Rattle.conf_change.specs.declared.step.StepKind.{StepKind}
use Rattle.conf_change.specs.declared.step.StepKind.TheVariants as kind
use Rattle.conf_plan.specs.Planned.{planned}
use Rattle.conf_plan.specs.PlanSteps.{HasU64Ids}
use Rattle.conf_plan.specs.Run.{IsRun, IsValidWithVoter, Takes, after_steps}
use Rattle.conf_session.specs.SessionState.{SessionState, SessionChange, Nothing, Acknowledged, Stepped, Restored, Undone, LedTo, IsSession, new_session, current, after_directive}
use Rattle.conf_session.specs.Input.{Input, read_input}
use Rattle.conf_session.specs.Values.{Values, read_arguments}
use Rattle.conf_session.specs.Reply.{Reply}
use Rattle.conf_session.specs.Undo.{IsEarlier, LeadsBack, plan_back, undo_plan_of, undone_changer}
use Rattle.conf_session.specs.Commands.{Row, row_of, step_reply, restore_reply, undo_reply, undo_last, ack_reply, if_read, reply_of, reply_by, answer, after_answers}
use Rattle.conf_session.specs.declared.undo_fault.UndoFault.{UndoFault}
use Rattle.conf_session.specs.declared.undo_fault.UndoFault.TheVariants.{NoVoterTarget}
use Rattle.conf_session.specs.declared.commands.Command.{Command}
use Rattle.conf_session.specs.declared.commands.Command.TheVariants.{Simple, EnterJoint, LeaveJoint, ConfChange, ConfState, Restore, Undo, Ack, CommitIndex, Committed, Vote, Unknown}
use Rattle.conf_session.proofs.ReadValues.{steps-some}
use Rattle.conf_session.proofs.ReplyLines.{and-first}
use Rattle.conf_session.proofs.U64Ids.{HasU64Input, HasU64Saved, NameU64, empty-u64, input-u64, leave-u64, outcome-u64, planned-u64, restored-u64}

-- ---- what the crates below say
-- laws of conf_change
pub record ChangeLaws : Type 0 where
  pub step : (before : ChangerState) (step : Step) (after : Configuration) → IsSound before.tracker → outcome before.tracker.config step ≡ Ok after → IsSound (moved_to before step after).tracker
  pub begun : (floor : Floor) (last_index : ℕ) (c : Configuration) → is_restorable c ≡ true → IsSound (begun_with floor last_index c).tracker
  pub acknowledged : (before : ChangerState) (id index : ℕ) (p : Progress) → IsSound before.tracker → ack_answer before.tracker id index ≡ Ok p → IsSound (changer_with_progress before id p).tracker
  pub accepted : (before after : ChangerState) (step : Step) → (Accepts before step after) ↔ (changer_after before step ≡ Ok after)
  pub described : (saved : ConfStateLists) (c : Configuration) → (restored saved ≡ Some c) ↔ (Describes saved c × (is_restorable c ≡ true))

-- after an accepted step from a configuration that can be restored there is a voter: a law of conf_change
abbrev pub VoterLaw : Type 0
VoterLaw = (before after : Configuration) (step : Step) → is_restorable before ≡ true → outcome before step ≡ Ok after → has_voter after ≡ true

-- the kept configurations of a session are earlier ones: this crate's own law
abbrev pub EarlierLaw : Type 0
EarlierLaw = (session : SessionState) (count : ℕ) (older : Configuration) → IsSession session → 1 ≤ count → slice_get session.kept (count - 1) ≡ Some older → IsEarlier session count older

-- that law, and laws of conf_plan
pub record PlanLaws : Type 0 where
  pub earlier : EarlierLaw
  pub back : (before after : Configuration) (steps : List Step) → IsValidWithVoter before → IsRun before steps after → IsRun after (planned after before) before
  pub taken : (before after : ChangerState) (steps : List Step) → (Takes before steps after) ↔ (after_steps before steps ≡ Some after)
  pub run : (before : ChangerState) (steps : List Step) (target : Configuration) → IsRun before.tracker.config steps target
      → (after : ChangerState) × (after_steps before steps ≡ Some after) × (after.tracker.config ≡ target)

-- ---- the kept configurations lead to the current one
run-snoc : (a b c : Configuration) (steps : List Step) (step : Step) → IsRun a steps b → outcome b step ≡ Ok c → IsRun a (steps ++ step ∷ []) c
run-snoc a b c [] step run e = (c, ap (λ d. outcome d step) run ∙ e, refl)
run-snoc a b c (s ∷ steps) step run e = (run.0, run.1, run-snoc run.0 b c steps step run.2 e)

-- a run of `count` steps from the one to the other, which can be restored
record Led (now older : Configuration) (count : ℕ) : Type 0 where
  restorable : is_restorable older ≡ true
  steps : List Step
  run : IsRun older steps now
  counted : length steps ≡ count

led-run : (now : Configuration) (kept : List Configuration) (position : ℕ) (older : Configuration) → LedTo now kept → slice_get kept position ≡ Some older → Led now older (suc position)
led-run now [] position older led e = cc
led-run now (c ∷ kept) zero older led e =
    let same : older ≡ c = cc in
    rw same (record { restorable = led.0; steps = led.1.step ∷ []; run = (now, led.1.gives, refl); counted = refl })
led-run now (c ∷ kept) (suc position) older led e =
    let rest = led-run c kept position older led.2 e in
    record {
      restorable = rest.restorable;
      steps = rest.steps ++ led.1.step ∷ [];
      run = run-snoc older c now rest.steps led.1.step rest.run led.1.gives;
      counted = let n = length-append rest.steps (led.1.step ∷ []) in let m = rest.counted in omega arith;
    }

kept-voter : VoterLaw → (now : Configuration) (kept : List Configuration) (position : ℕ) (older : Configuration) → LedTo now kept → slice_get kept position ≡ Some older → has_voter now ≡ true
kept-voter law now [] position older led e = cc
kept-voter law now (c ∷ kept) position older led e = law c now led.1.step led.0 led.1.gives

pub is-earlier : VoterLaw → EarlierLaw
is-earlier law session count older is some e =
    let led = led-run (current session) session.kept (count - 1) older is.led e in
    let n = led.counted in
    record {
      restorable = led.restorable;
      steps = led.steps;
      run = led.run;
      counted = omega arith;
      voter = kept-voter law (current session) session.kept (count - 1) older is.led e;
    }

valid : (c : Configuration) → is_restorable c ≡ true → has_voter c ≡ true → IsValidWithVoter c
valid c restorable voter = record { valid = and-first (is_valid c) (has_voter_or_is_empty c) restorable; voter = voter }

-- ---- what becomes of them
led-take : (now : Configuration) (kept : List Configuration) (n : ℕ) → LedTo now kept → LedTo now (take n kept)
led-take now [] zero led = tt
led-take now [] (suc n) led = tt
led-take now (c ∷ kept) zero led = tt
led-take now (c ∷ kept) (suc n) led = (led.0, led.1, led-take c kept n led.2)

led-drop : (now : Configuration) (kept : List Configuration) (position : ℕ) (older : Configuration) → LedTo now kept → slice_get kept position ≡ Some older → LedTo older (drop (suc position) kept)
led-drop now [] position older led e = cc
led-drop now (c ∷ kept) zero older led e = grind (arith, older)
led-drop now (c ∷ kept) (suc position) older led e = led-drop c kept position older led.2 e

-- the kept configurations after those that are dropped, and the first of them
dropped-u64 : (kept : List Configuration) (position : ℕ) (older : Configuration) → All HasU64Lists kept → slice_get kept position ≡ Some older → HasU64Lists older × All HasU64Lists (drop (suc position) kept)
dropped-u64 [] position older small e = cc
dropped-u64 (c ∷ kept) zero older small e =
    let same : c ≡ older = cc in (subst HasU64Lists same (All-head HasU64Lists c kept small), All-tail HasU64Lists c kept small)
dropped-u64 (c ∷ kept) (suc position) older small e = dropped-u64 kept position older (All-tail HasU64Lists c kept small) e

-- an update that a command may make to a session
abbrev IsDue : SessionState → SessionChange → Type 0
IsDue session Nothing = ⊤
IsDue session (Acknowledged after) = IsSound after.tracker × (after.tracker.config ≡ current session)
IsDue session (Stepped after) = (step : Step) × Accepts session.changer step after × HasU64Ids step
IsDue session (Restored after) = IsSound after.tracker × HasU64Lists after.tracker.config
IsDue session (Undone after count) = (1 ≤ count) × IsSound after.tracker × (slice_get session.kept (count - 1) ≡ Some after.tracker.config)

due-stays : ChangeLaws → (session : SessionState) (update : SessionChange) → IsSession session → IsDue session update → IsSession (after_directive session update)
due-stays laws session Nothing is due = record { sound = is.sound; few = is.few; led = is.led; u64_ids = is.u64_ids }
due-stays laws session (Acknowledged after) is due = record { sound = due.0; few = is.few; led = rw due.1 is.led; u64_ids = rw due.1 is.u64_ids }
due-stays laws session (Stepped after) is due =
    let accepts = due.1 in
    let now = current session in
    let small = All-head HasU64Lists now session.kept is.u64_ids in
    record {
      sound = rw accepts.whole (laws.step session.changer due.0 after.tracker.config is.sound accepts.configuration);
      few = let n = length-take session.history (now ∷ session.kept) in omega arith;
      led = led-take after.tracker.config (now ∷ session.kept) session.history (is.sound.restorable, record { step = due.0; gives = accepts.configuration }, is.led);
      u64_ids = All-cons HasU64Lists after.tracker.config (take session.history (now ∷ session.kept)) (outcome-u64 now after.tracker.config due.0 small due.2 accepts.configuration)
          (All-take HasU64Lists session.history (now ∷ session.kept) is.u64_ids);
    }
due-stays laws session (Restored after) is due = record { sound = due.0; few = omega arith; led = tt; u64_ids = All-cons HasU64Lists after.tracker.config [] due.1 (All-nil HasU64Lists) }
due-stays laws session (Undone after count) is due =
    let some = due.0 in
    let same : suc (count - 1) ≡ count = omega arith in
    let left = dropped-u64 session.kept (count - 1) after.tracker.config (All-tail HasU64Lists (current session) session.kept is.u64_ids) due.2 in
    record {
      sound = due.1;
      few = let n = length-drop count session.kept in let few = is.few in omega arith;
      led = rw (← same) (led-drop (current session) session.kept (count - 1) after.tracker.config is.led due.2);
      u64_ids = rw (← same) (All-cons HasU64Lists after.tracker.config (drop (suc (count - 1)) session.kept) left.0 left.1);
    }

-- ---- each command makes such an update
step-due : ChangeLaws → (session : SessionState) (step : Step) (made : Result ChangerState Refused) → HasU64Ids step → changer_after session.changer step ≡ made → IsDue session (step_reply made).update
step-due laws session step (Ok after) named e = (step, (laws.accepted session.changer after step).1 e, named)
step-due laws session step (Err refused) named e = tt

-- the step of a list has its changes, or none
step_of-u64 : (kind : StepKind) (changes : List Change) → NameU64 changes → HasU64Ids (step_of kind changes)
step_of-u64 kind.Simple changes named = named
step_of-u64 (kind.Enter auto_leave) changes named = named
step_of-u64 kind.Leave changes named = leave-u64

restored-due : ChangeLaws → (session : SessionState) (saved : ConfStateLists) (actual : Option Configuration) → HasU64Saved saved → restored saved ≡ actual → IsDue session (restore_reply session.changer actual).update
restored-due laws session saved None small e = tt
restored-due laws session saved (Some c) small e =
    (laws.begun session.changer.tracker.floor session.changer.last_index c (((laws.described saved c).0 e).1), restored-u64 saved c small e)

ack-due : ChangeLaws → (session : SessionState) (id index : ℕ) (made : Result Progress AckFault) → IsSession session → ack_answer session.changer.tracker id index ≡ made → IsDue session (ack_reply session.changer id made).update
ack-due laws session id index (Ok p) is e = (laws.acknowledged session.changer id index p is.sound e, refl)
ack-due laws session id index (Err NotMember) is e = tt
ack-due laws session id index (Err IndexTooLarge) is e = tt

-- ---- of undo
taken-sound : ChangeLaws → (before : ChangerState) (steps : List Step) (after : ChangerState) → Takes before steps after → IsSound before.tracker → IsSound after.tracker
taken-sound laws before [] after taken sound = rw (← taken) sound
taken-sound laws before (step ∷ steps) after taken sound =
    let accepts = taken.1 in
    taken-sound laws taken.0 steps after taken.2 (rw accepts.whole (laws.step before step taken.0.tracker.config sound accepts.configuration))

-- a plan that undoes changes is the one to an earlier configuration
record IsPlanBack (session : SessionState) (kept : Option Configuration) (steps : List Step) : Type 0 where
  older : Configuration
  is_kept : kept ≡ Some older
  voter : has_voter older ≡ true
  is : steps ≡ planned (current session) older

plan_back-ok : (session : SessionState) (kept : Option Configuration) (steps : List Step) → plan_back session kept ≡ Ok steps → IsPlanBack session kept steps
plan_back-ok session None steps e = cc
plan_back-ok session (Some older) steps e = at (has_voter older) refl e where
  at : (voter : Bool) → has_voter older ≡ voter → cond voter (Ok (planned (current session) older)) (Err NoVoterTarget) ≡ Ok steps → IsPlanBack session (Some older) steps
  at true voter made = record { older = older; is_kept = refl; voter = voter; is = cc }
  at false voter made = cc

-- where the plan leads
pub record Arrives (session : SessionState) (older : Configuration) : Type 0 where
  pub taken : after_steps session.changer (planned (current session) older) ≡ Some (undone_changer session (planned (current session) older))
  pub there : (undone_changer session (planned (current session) older)).tracker.config ≡ older

pub Arrives-planned : PlanLaws → (session : SessionState) (count : ℕ) (older : Configuration) → IsSession session → 1 ≤ count → slice_get session.kept (count - 1) ≡ Some older → has_voter older ≡ true → Arrives session older
Arrives-planned plans session count older is some e voter =
    let earlier = plans.earlier session count older is some e in
    let steps = planned (current session) older in
    let back = plans.back older (current session) earlier.steps (valid older earlier.restorable voter) earlier.run in
    let reached = plans.run session.changer steps older back in
    let same : undone_changer session steps ≡ reached.0 = ap (λ o. unwrap_or o session.changer) reached.1 in
    record {
      taken = reached.1 ∙ ap Some (sym same);
      there = ap (λ (c : ChangerState). c.tracker.config) same ∙ reached.2;
    }

undo-due : ChangeLaws → PlanLaws → (session : SessionState) (count : ℕ) → IsSession session → 1 ≤ count → IsDue session (undo_last session count).update
undo-due laws plans session count is some = at (undo_plan_of session count) refl where
  at : (plan : Result (List Step) UndoFault) → undo_plan_of session count ≡ plan → IsDue session (undo_reply session count plan).update
  at (Err fault) e = tt
  at (Ok steps) e =
      let made = plan_back-ok session (slice_get session.kept (count - 1)) steps e in
      let plan = planned (current session) made.older in
      let arrives = Arrives-planned plans session count made.older is some made.is_kept made.voter in
      let taken = (plans.taken session.changer (undone_changer session plan) plan).1 arrives.taken in
      let Due : List Step → Type 0 = λ s. IsDue session (Undone (undone_changer session s) count) in
      subst Due (sym made.is) (some, taken-sound laws session.changer plan (undone_changer session plan) taken is.sound, made.is_kept ∙ ap Some (sym arrives.there))

command-due : ChangeLaws → PlanLaws → (command : Command) (session : SessionState) (input : Input) (values : Values) → IsSession session → HasU64Input input → 1 ≤ values.steps →
    IsDue session (reply_of command session input values).update
command-due laws plans Simple session input values is small some = step-due laws session (SimpleStep input.changes) _ small.changes refl
command-due laws plans EnterJoint session input values is small some = step-due laws session (EnterStep values.auto_leave input.changes) _ small.changes refl
command-due laws plans LeaveJoint session input values is small some = step-due laws session LeaveStep _ leave-u64 refl
command-due laws plans ConfChange session input values is small some = grind (arith, step-due, step_of-u64)
command-due laws plans ConfState session input values is small some = tt
command-due laws plans Restore session input values is small some = restored-due laws session input.saved (restored input.saved) small.saved refl
command-due laws plans Undo session input values is small some = undo-due laws plans session values.steps is some
command-due laws plans Ack session input values is small some = ack-due laws session values.id values.index _ is refl
command-due laws plans CommitIndex session input values is small some = tt
command-due laws plans Committed session input values is small some = tt
command-due laws plans Vote session input values is small some = tt
command-due laws plans Unknown session input values is small some = tt

if_read-due : {V : Type 0} (session : SessionState) (reply : V → Reply) (read : Result V (List ℕ)) → ((v : V) → read ≡ Ok v → IsDue session (reply v).update) → IsDue session (if_read reply read).update
if_read-due session reply (Ok v) h = h v refl
if_read-due session reply (Err actual) h = tt

row-due : ChangeLaws → PlanLaws → (row : Row) (session : SessionState) (text : List ℕ) (arguments : List ArgumentText) → IsSession session → IsDue session (reply_by row session text arguments).update
row-due laws plans row session text arguments is =
    if_read-due session _ (read_input row.input text) (λ input read. if_read-due session _ (read_arguments row.parameters arguments)
    (λ values e. command-due laws plans row.command session input values is (IfOk-at_ok HasU64Input read (input-u64 row.input text)) (steps-some row.parameters arguments values e)))

pub answer-keeps : ChangeLaws → PlanLaws → (session : SessionState) (directive : DirectiveText) → IsSession session → IsSession (answer session directive).session
answer-keeps laws plans session directive is = due-stays laws session _ is (row-due laws plans (row_of directive.command) session directive.input directive.arguments is)

pub answers-keep : ((session : SessionState) (directive : DirectiveText) → IsSession session → IsSession (answer session directive).session)
    → (session : SessionState) (directives : List DirectiveText) → IsSession session → IsSession (after_answers session directives)
answers-keep keeps session [] is = is
answers-keep keeps session (directive ∷ directives) is = answers-keep keeps (answer session directive).session directives (keeps session directive is)

pub new-is_session : ((floor : Floor) (last_index : ℕ) → IsSound (new_changer floor last_index).tracker) → (history : ℕ) (floor : Floor) → IsSession (new_session history floor)
new-is_session sound history floor = record { sound = sound floor 0; few = omega arith; led = tt; u64_ids = All-cons HasU64Lists empty_configuration [] empty-u64 (All-nil HasU64Lists) }

-- ---- the plan that undoes changes
pub valid-older : (session : SessionState) (count : ℕ) (older : Configuration) → IsEarlier session count older → is_valid older ≡ true
valid-older session count older earlier = and-first (is_valid older) (has_voter_or_is_empty older) earlier.restorable

pub plan-is : (session : SessionState) (count : ℕ) (older : Configuration) (plan : List Step) → slice_get session.kept (count - 1) ≡ Some older → has_voter older ≡ true → plan ≡ planned (current session) older →
    undo_plan_of session count ≡ Ok plan
plan-is session count older plan kept voter same = grind (arith, older, voter)

-- the law of conf_plan about undoing a run
pub record UndoLaw : Type 0 where
  pub back : (before after : Configuration) (steps : List Step) → IsValidWithVoter before → IsRun before steps after → IsRun after (planned after before) before
  pub at_most_four : (before after : Configuration) (steps : List Step) → IsValidWithVoter before → IsRun before steps after → length (planned after before) ≤ 4
  pub at_most_three : (before after : Configuration) (steps : List Step) → IsValidWithVoter before → IsRun before steps after → length steps ≡ 1 → length (planned after before) ≤ 3

pub planned-leads_back : UndoLaw → EarlierLaw
    → (session : SessionState) (count : ℕ) (steps : List Step) → IsSession session → 1 ≤ count → undo_plan_of session count ≡ Ok steps → LeadsBack session count steps
planned-leads_back law earlier session count steps is some e =
    let made = plan_back-ok session (slice_get session.kept (count - 1)) steps e in
    let before = earlier session count made.older is some made.is_kept in
    let is_valid = valid made.older before.restorable made.voter in
    let now = current session in
    let Back : List Step → Type 0 = λ s. LeadsBack session count s in
    subst Back (sym made.is) (record {
      older = made.older;
      is_kept = made.is_kept;
      run = law.back made.older now before.steps is_valid before.run;
      at_most_four = law.at_most_four made.older now before.steps is_valid before.run;
      at_most_three = λ one. law.at_most_three made.older now before.steps is_valid before.run (before.counted ∙ one);
      u64_ids = planned-u64 now made.older (All-head HasU64Lists now session.kept is.u64_ids)
          (dropped-u64 session.kept (count - 1) made.older (All-tail HasU64Lists now session.kept is.u64_ids) made.is_kept).0;
    })

pub same-some : (a b : Configuration) → ◌≡◌ {A = Option Configuration} (Some a) (Some b) → a ≡ b
same-some a b e = cc
