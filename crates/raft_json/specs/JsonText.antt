-- Texts that are JSON.
use Rattle.std.specs.Prelude.{ℕ, List, Option, None, if◌then◌else◌}
use Rattle.std.specs.Str.{is_utf8}
use Rattle.serde_json.specs.Data.{Data}
use Rattle.serde_json.specs.Read.{read}

-- the value of a text, if it is JSON
abbrev pub json_in : List ℕ → Option Data
json_in text = if is_utf8 text then read text else None
