-- What a text denotes in a form, by the definition of that form.
use Rattle.std.specs.Prelude.{◌≡◌, ℕ, List, Some}
use Rattle.conf_change.specs.ConfState.{ConfStateLists}
use Rattle.conf_change.specs.ConfStateLine.{DenotesConfState}
use Rattle.conf_change.specs.PrintedConfig.{DenotesConfig}
use Rattle.raft_json.specs.SavedJson.{saved_in_json}
use Rattle.plan_input.specs.declared.form.Form.{Form}
use Rattle.plan_input.specs.declared.form.Form.TheVariants.{Json, ConfStateLine, Printed, Other}

-- the text denotes the saved configuration in this form
abbrev pub DenotesIn : Form → List ℕ → ConfStateLists → Type 0
DenotesIn Json text saved = saved_in_json text ≡ Some saved
DenotesIn ConfStateLine text saved = DenotesConfState text saved
DenotesIn Printed text saved = DenotesConfig text saved
DenotesIn Other text saved = ⊥
