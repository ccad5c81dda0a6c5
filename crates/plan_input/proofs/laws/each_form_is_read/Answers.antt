use Rattle.std.proofs.Common.{[], ap, cond, ◌∙◌}
use Rattle.std.specs.Prelude.{None, option_and_then}
use Rattle.std.proofs.lemmas.Str.{is_utf8-from_IsUtf8}
use Rattle.serde_json.specs.Read.{read}
use Rattle.conf_change.specs.ConfState.{lists_of}
use Rattle.conf_change.specs.ConfStateLine.{conf_state_text}
use Rattle.conf_change.specs.Text.{config_text}
use Rattle.raft_json.specs.SavedJson.{saved_of_json}
use Rattle.plan_input.specs.Input.{as_text, unless_refused}
use Rattle.plan_input.specs.declared.form.Form.TheVariants.{Json, ConfStateLine, Printed}
use Rattle.plan_input.proofs.FormsRead.{current-denoted, target-changes, target-denoted}
use Rattle.plan_input.proofs.Refusals.{list_refusal-none, list_refusal-some}
use Rattle.plan_input.proofs.laws.each_form_is_read.Goals as goal

pub returns-clause-current : goal.returns-clause-current
returns-clause-current c = current-denoted c.one_conf_state_per_text.ensures.some c.one_config_per_text.ensures.some

pub returns-clause-target : goal.returns-clause-target
returns-clause-target c = target-denoted c.one_conf_state_per_text.ensures.some c.one_config_per_text.ensures.some

pub returns-clause-changes : goal.returns-clause-changes
returns-clause-changes c = λ now text changes denotes some none.
    target-changes now text changes denotes ((c.one_list_per_text.ensures.ok text changes).0 denotes)
    ∙ ap (unless_refused now changes) (list_refusal-none now changes some none)

pub returns-clause-refused : goal.returns-clause-refused
returns-clause-refused c = λ now text changes why denotes first.
    target-changes now text changes denotes ((c.one_list_per_text.ensures.ok text changes).0 denotes)
    ∙ ap (unless_refused now changes) (list_refusal-some now changes why first)

pub returns-clause-blank : goal.returns-clause-blank
returns-clause-blank c = λ now text denotes. target-changes now text [] denotes ((c.one_list_per_text.ensures.ok text []).0 denotes)

pub returns-clause-printed : goal.returns-clause-printed
returns-clause-printed c = λ configuration valid small.
    returns-clause-current c Printed (config_text configuration) (lists_of configuration) (c.one_config_per_text.ensures.printed configuration small)
    ∙ ap (as_text (config_text configuration)) ((c.valid_is_described.ensures (lists_of configuration) configuration).1 (c.conf_state_describes.ensures.own configuration, valid))

pub returns-clause-json : goal.returns-clause-json
returns-clause-json c = λ configuration text valid utf8 is.
    returns-clause-current c Json text (lists_of configuration) (ap (option_and_then saved_of_json) (ap (λ b. cond b (read text) None) (is_utf8-from_IsUtf8 text utf8) ∙ is) ∙ c.conf_state_json_reads_back.ensures (lists_of configuration))
    ∙ ap (as_text text) ((c.valid_is_described.ensures (lists_of configuration) configuration).1 (c.conf_state_describes.ensures.own configuration, valid))

pub returns-clause-line : goal.returns-clause-line
returns-clause-line c = λ configuration valid small.
    returns-clause-current c ConfStateLine (conf_state_text (lists_of configuration)) (lists_of configuration) (c.one_conf_state_per_text.ensures.printed configuration small)
    ∙ ap (as_text (conf_state_text (lists_of configuration))) ((c.valid_is_described.ensures (lists_of configuration) configuration).1 (c.conf_state_describes.ensures.own configuration, valid))
