-- From what a configuration is read, and that it is valid.
use Rattle.std.proofs.Common.{◌≡◌, ℕ, true, false, cond, List, refl, sym, ap, ◌∙◌, ◌⊎◌, inl, inr}
use Rattle.std.specs.Prelude.{Option, Some, None, Result, Ok, Err}
use Rattle.std.proofs.lemmas.Bool.{cases_Bool}
use Rattle.quorum_sets.proofs.Offered.{written_out}
use Rattle.conf_change.specs.ChangeList.{BadToken, changes_in}
use Rattle.conf_change.specs.Configuration.{Configuration, empty_configuration, is_joint, is_valid}
use Rattle.conf_change.specs.ConfState.{ConfStateLists}
use Rattle.conf_change.specs.ConfStateLine.{conf_state_in}
use Rattle.conf_change.specs.Outcome.{Outcome, after_leave, enter_outcome, outcome}
use Rattle.conf_change.specs.PrintedConfig.{config_in}
use Rattle.conf_change.specs.Violation.{unless_bad, valid_of}
use Rattle.conf_change.specs.declared.change.Change.{Change}
use Rattle.conf_change.specs.declared.configuration_line.ConfigurationFault.{ConfigurationFault}
use Rattle.conf_change.specs.declared.refused.Refused.TheVariants.{NotJoint}
use Rattle.conf_change.specs.declared.step.Step.{Step}
use Rattle.conf_change.specs.declared.step.Step.TheVariants.{EnterJoint, LeaveJoint}
use Rattle.conf_change.proofs.Offered.{ValidByMember-from_is_valid, is_valid-from_members, is_valid-from_valid_of, outcome-is_valid}
use Rattle.plan_input.specs.Changed.{after_changes, left_or_empty, when_left}
use Rattle.plan_input.specs.Form.{form_of}
use Rattle.raft_json.specs.SavedJson.{saved_in_json}
use Rattle.plan_input.specs.Input.{as_text, bad_json, bad_printed, configuration_as, current_in, target_as, target_in, target_of_changes, unless_refused, valid_or}
use Rattle.plan_input.specs.Refusal.{list_refusal}
use Rattle.plan_input.specs.declared.form.Form.{Form}
use Rattle.plan_input.specs.declared.form.Form.TheVariants.{Json, ConfStateLine, Printed, Other}
use Rattle.plan_input.specs.declared.text_fault.TextFault.{TextFault}

-- ---- after changes
step-valid : (c after : Configuration) (step : Step) → is_valid c ≡ true → outcome c step ≡ Ok after → is_valid after ≡ true
step-valid c after step valid is = is_valid-from_members after (outcome-is_valid c after step (ValidByMember-from_is_valid c valid) is)

when_left-valid : (c : Configuration) → is_valid c ≡ true → is_valid (when_left c) ≡ true
when_left-valid c valid = elim (cases_Bool (is_joint c)) [
  | inl is ↦ rw is (step-valid c (after_leave c) LeaveJoint valid (ap (λ joint. cond {A = Outcome} joint (Ok (after_leave c)) (Err NotJoint)) is))
  | inr is ↦ rw is valid
]

empty-valid : is_valid empty_configuration ≡ true
empty-valid = simp written_out refl

pub after_changes-valid : (now : Configuration) (changes : List Change) → is_valid now ≡ true → is_valid (after_changes now changes) ≡ true
after_changes-valid now changes valid = by_outcome (enter_outcome (when_left now) false changes) refl where
  by_outcome : (o : Outcome) → enter_outcome (when_left now) false changes ≡ o → is_valid (left_or_empty o) ≡ true
  by_outcome (Ok joint) is = when_left-valid joint (step-valid (when_left now) joint (EnterJoint false changes) (when_left-valid now valid) is)
  by_outcome (Err why) is = empty-valid

-- ---- in each form
abbrev Text : Type 0
Text = Result Configuration TextFault

-- the text denotes the saved configuration in one of the forms
abbrev pub IsSavedIn : List ℕ → ConfStateLists → Type 0
IsSavedIn text saved = (saved_in_json text ≡ Some saved) ⊎ ((conf_state_in text ≡ Some saved) ⊎ (config_in text ≡ Some saved))

-- it is the valid configuration that a saved one of the text describes
pub record IsReadFrom (text : List ℕ) (c : Configuration) : Type 0 where
  pub saved : ConfStateLists
  pub denoted : IsSavedIn text saved
  pub made : valid_of saved ≡ Ok c

as_text-ok : (text : List ℕ) (read : Result Configuration ConfigurationFault) (c : Configuration) → ◌≡◌ {A = Text} (as_text text read) (Ok c) → read ≡ Ok c
as_text-ok text (Ok d) c e = let same : d ≡ c = cc in ap Ok same
as_text-ok text (Err fault) c e = cc

valid_or-read : (text : List ℕ) (fault : TextFault) (read : Option ConfStateLists) (c : Configuration) → ((saved : ConfStateLists) → read ≡ Some saved → IsSavedIn text saved) →
    ◌≡◌ {A = Text} (valid_or text fault read) (Ok c) → IsReadFrom text c
valid_or-read text fault None c denotes e = let wrong : ⊥ = cc in absurd wrong
valid_or-read text fault (Some saved) c denotes e = record { saved = saved; denoted = denotes saved refl; made = as_text-ok text (valid_of saved) c e }

unless_bad-read : (text : List ℕ) (read : Option ConfStateLists) (c : Configuration) → conf_state_in text ≡ read → ◌≡◌ {A = Text} (as_text text (unless_bad read)) (Ok c) → IsReadFrom text c
unless_bad-read text None c is e = let wrong : ⊥ = cc in absurd wrong
unless_bad-read text (Some saved) c is e = record { saved = saved; denoted = inr (inl is); made = as_text-ok text (valid_of saved) c e }

configuration_as-read : (form : Form) (text : List ℕ) (c : Configuration) → ◌≡◌ {A = Text} (configuration_as form text) (Ok c) → IsReadFrom text c
configuration_as-read Json text c e = valid_or-read text (bad_json text) (saved_in_json text) c (λ saved is. inl is) e
configuration_as-read ConfStateLine text c e = unless_bad-read text (conf_state_in text) c refl e
configuration_as-read Printed text c e = valid_or-read text (bad_printed text) (config_in text) c (λ saved is. inr (inr is)) e
configuration_as-read Other text c e = let wrong : ⊥ = cc in absurd wrong

pub current_in-read : (text : List ℕ) (c : Configuration) → ◌≡◌ {A = Text} (current_in text) (Ok c) → IsReadFrom text c
current_in-read text c e = configuration_as-read (form_of text) text c e

-- ---- the target
-- it is the configuration after the changes that the text denotes
pub record IsChangedBy (now : Configuration) (text : List ℕ) (c : Configuration) : Type 0 where
  pub changes : List Change
  pub denoted : changes_in text ≡ Ok changes
  pub made : after_changes now changes ≡ c

unless_refused-made : (now : Configuration) (changes : List Change) (why : Option TextFault) (c : Configuration) → ◌≡◌ {A = Text} (unless_refused now changes why) (Ok c) → after_changes now changes ≡ c
unless_refused-made now changes None c e = cc
unless_refused-made now changes (Some why) c e = cc

of_changes-read : (now : Configuration) (text : List ℕ) (read : Result (List Change) BadToken) (c : Configuration) → changes_in text ≡ read → ◌≡◌ {A = Text} (target_of_changes now read) (Ok c) → IsChangedBy now text c
of_changes-read now text (Ok changes) c is e = record { changes = changes; denoted = is; made = unless_refused-made now changes (list_refusal now changes) c e }
of_changes-read now text (Err bad) c is e = let wrong : ⊥ = cc in absurd wrong

target_as-read : (now : Configuration) (form : Form) (text : List ℕ) (c : Configuration) → ◌≡◌ {A = Text} (target_as now form text) (Ok c) → IsReadFrom text c ⊎ IsChangedBy now text c
target_as-read now Other text c e = inr (of_changes-read now text (changes_in text) c refl e)
target_as-read now form text c e = inl (configuration_as-read form text c e)

pub target_in-read : (now : Configuration) (text : List ℕ) (c : Configuration) → ◌≡◌ {A = Text} (target_in now text) (Ok c) → IsReadFrom text c ⊎ IsChangedBy now text c
target_in-read now text c e = target_as-read now (form_of text) text c e

-- ---- so it is valid
read-valid : (text : List ℕ) (c : Configuration) → IsReadFrom text c → is_valid c ≡ true
read-valid text c read = is_valid-from_valid_of read.saved c read.made

pub current_in-valid : (text : List ℕ) (c : Configuration) → ◌≡◌ {A = Text} (current_in text) (Ok c) → is_valid c ≡ true
current_in-valid text c e = read-valid text c (current_in-read text c e)

pub target_in-valid : (now : Configuration) (text : List ℕ) (c : Configuration) → is_valid now ≡ true → ◌≡◌ {A = Text} (target_in now text) (Ok c) → is_valid c ≡ true
target_in-valid now text c valid e = elim (target_in-read now text c e) [
  | inl read ↦ read-valid text c read
  | inr changed ↦ sym (ap is_valid changed.made) ∙ after_changes-valid now changed.changes valid
]
