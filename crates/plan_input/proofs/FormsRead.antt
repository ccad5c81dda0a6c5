-- What is read of a text that denotes something in a form.
use Rattle.std.proofs.Common.{◌≡◌, ℕ, List, refl, ap, ◌∙◌, arith}
use Rattle.std.specs.Prelude.{◌↔◌, Some, Ok}
use Rattle.conf_change.specs.ChangeList.{Denotes, changes_in}
use Rattle.conf_change.specs.Configuration.{Configuration}
use Rattle.conf_change.specs.ConfState.{ConfStateLists}
use Rattle.conf_change.specs.ConfStateLine.{DenotesConfState, conf_state_in}
use Rattle.conf_change.specs.PrintedConfig.{DenotesConfig, config_in}
use Rattle.conf_change.specs.Violation.{unless_bad, valid_of}
use Rattle.conf_change.specs.declared.change.Change.{Change}
use Rattle.plan_input.specs.Denoted.{DenotesIn}
use Rattle.plan_input.specs.Form.{form_of}
use Rattle.plan_input.specs.Input.{as_text, bad_json, bad_printed, configuration_as, current_in, target_as, target_in, target_of_changes, unless_refused, valid_or}
use Rattle.plan_input.specs.Refusal.{list_refusal}
use Rattle.plan_input.specs.declared.form.Form.{Form}
use Rattle.plan_input.specs.declared.form.Form.TheVariants.{Json, ConfStateLine, Printed, Other}
use Rattle.plan_input.proofs.Forms.{form-changes, form-line, form-printed}
use Rattle.plan_input.proofs.JsonForm.{form-json}

pub form-denoted : (form : Form) (text : List ℕ) (saved : ConfStateLists) → DenotesIn form text saved → form_of text ≡ form
form-denoted Json text saved h = form-json text saved h
form-denoted ConfStateLine text saved h = form-line text saved h
form-denoted Printed text saved h = form-printed text saved h
form-denoted Other text saved h = absurd h

-- what the laws of conf_change say of ConfState lines, and of printed configurations
abbrev pub LinesAreRead : Type 0
LinesAreRead = (text : List ℕ) (saved : ConfStateLists) → (DenotesConfState text saved) ↔ (conf_state_in text ≡ Some saved)

abbrev pub PrintedAreRead : Type 0
PrintedAreRead = (text : List ℕ) (saved : ConfStateLists) → (DenotesConfig text saved) ↔ (config_in text ≡ Some saved)

configuration_as-denoted : LinesAreRead → PrintedAreRead → (form : Form) (text : List ℕ) (saved : ConfStateLists) → DenotesIn form text saved → configuration_as form text ≡ as_text text (valid_of saved)
configuration_as-denoted lines printed Json text saved h = ap (valid_or text (bad_json text)) h
configuration_as-denoted lines printed ConfStateLine text saved h = ap (λ read. as_text text (unless_bad read)) ((lines text saved).0 h)
configuration_as-denoted lines printed Printed text saved h = ap (valid_or text (bad_printed text)) ((printed text saved).0 h)
configuration_as-denoted lines printed Other text saved h = absurd h

pub current-denoted : LinesAreRead → PrintedAreRead → (form : Form) (text : List ℕ) (saved : ConfStateLists) → DenotesIn form text saved → current_in text ≡ as_text text (valid_of saved)
current-denoted lines printed form text saved h = grind (arith, form-denoted, configuration_as-denoted)

target_as-denoted : (form : Form) (now : Configuration) (text : List ℕ) (saved : ConfStateLists) → DenotesIn form text saved → target_as now form text ≡ configuration_as form text
target_as-denoted Other now text saved h = absurd h
target_as-denoted form now text saved h = refl

pub target-denoted : LinesAreRead → PrintedAreRead → (form : Form) (now : Configuration) (text : List ℕ) (saved : ConfStateLists) → DenotesIn form text saved → target_in now text ≡ as_text text (valid_of saved)
target-denoted lines printed form now text saved h = grind (arith, form-denoted, target_as-denoted, configuration_as-denoted)

-- a text of changes is read by them
pub target-changes : (now : Configuration) (text : List ℕ) (changes : List Change) → Denotes text changes → changes_in text ≡ Ok changes
    → target_in now text ≡ unless_refused now changes (list_refusal now changes)
target-changes now text changes h read = ap (λ (f : Form). target_as now f text) (form-changes text changes h) ∙ ap (target_of_changes now) read
