-- Whether a text is a list of members, as etcdctl prints it.
use Rattle.std.specs.Prelude.{ℕ, Bool, false, List, codes, is_some, option_and_then}
use Rattle.serde_json.specs.Find.{get}
use Rattle.plan_input.specs.Form.{form_of}
use Rattle.raft_json.specs.JsonText.{json_in}
use Rattle.plan_input.specs.declared.form.Form.{Form}
use Rattle.plan_input.specs.declared.form.Form.TheVariants.{Json}

-- the text is JSON of an object with the key members
abbrev pub has_members : List ℕ → Bool
has_members text = is_some (option_and_then (get (codes "members")) (json_in text))

-- a text in this form is a list of members
abbrev pub is_member_list_as : Form → List ℕ → Bool
is_member_list_as Json text = has_members text
is_member_list_as form text = false

-- the text is a list of members: such JSON is read as one, and any other as a ConfState
abbrev pub is_member_list : List ℕ → Bool
is_member_list text = is_member_list_as (form_of text) text
