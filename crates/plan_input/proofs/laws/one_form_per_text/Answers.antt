use Rattle.std.proofs.Common.{◌≡◌, ℕ, List, sym, ◌∙◌}
use Rattle.conf_change.specs.ConfState.{ConfStateLists}
use Rattle.conf_change.specs.ConfStateLine.{DenotesConfState}
use Rattle.conf_change.specs.PrintedConfig.{DenotesConfig}
use Rattle.plan_input.specs.Denoted.{DenotesIn}
use Rattle.plan_input.specs.declared.form.Form.{Form}
use Rattle.plan_input.specs.declared.form.Form.TheVariants.{Json, ConfStateLine, Printed, Other}
use Rattle.plan_input.proofs.Forms.{form-changes}
use Rattle.plan_input.proofs.FormsRead.{form-denoted}
use Rattle.plan_input.proofs.laws.one_form_per_text.Goals as goal

pub returns-clause-form : goal.returns-clause-form
returns-clause-form c = form-denoted

pub returns-clause-changes : goal.returns-clause-changes
returns-clause-changes c = form-changes

one : ((text : List ℕ) (a b : ConfStateLists) → DenotesConfState text a → DenotesConfState text b → a ≡ b) → ((text : List ℕ) (a b : ConfStateLists) → DenotesConfig text a → DenotesConfig text b → a ≡ b) →
    (form : Form) (text : List ℕ) (a b : ConfStateLists) → DenotesIn form text a → DenotesIn form text b → a ≡ b
one lines printed Json text a b first second = let same = sym first ∙ second in cc
one lines printed ConfStateLine text a b first second = lines text a b first second
one lines printed Printed text a b first second = printed text a b first second
one lines printed Other text a b first second = absurd first

pub returns-clause-one : goal.returns-clause-one
returns-clause-one c = one c.one_conf_state_per_text.ensures.one c.one_config_per_text.ensures.one
