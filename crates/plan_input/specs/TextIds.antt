-- JSON in which an id is a text, as in {"voters":["1"]} and {"members":[{"ID":"1"}]}.
use Rattle.std.specs.Prelude.{ℕ, Bool, false, ◌||◌, List, codes, Option, Some, None, is_some, option_and_then}
use Rattle.serde_json.specs.Data.{Data, Items, no_items, item}
use Rattle.serde_json.specs.Find.{as_array, as_str, get}
use Rattle.raft_json.specs.JsonText.{json_in}

-- there is a value, and it passes the test
abbrev pub passes : {X : Type 0} → (X → Bool) → Option X → Bool
passes test None = false
passes test (Some x) = test x

-- an item passes the test
abbrev pub any_item : (Data → Bool) → Items → Bool
any_item test no_items = false
any_item test (item d ds) = test d || any_item test ds

-- the value is a text
abbrev pub is_text : Data → Bool
is_text d = is_some (as_str d)

-- the value at the key ID is a text
abbrev pub has_text_id : Data → Bool
has_text_id d = passes is_text (get (codes "ID") d)

-- the value at a key is a list with an item that passes the test
abbrev pub any_at : (Data → Bool) → List ℕ → Data → Bool
any_at test key d = passes (any_item test) (option_and_then as_array (get key d))

-- an id of a member, or in one of the lists of a ConfState, is a text
abbrev pub has_text_ids : Data → Bool
has_text_ids d =
    any_at has_text_id (codes "members") d || any_at is_text (codes "voters") d || any_at is_text (codes "voters_outgoing") d
    || any_at is_text (codes "learners") d || any_at is_text (codes "learners_next") d

-- the text is JSON with such an id
abbrev pub has_text_ids_in : List ℕ → Bool
has_text_ids_in text = passes has_text_ids (json_in text)
