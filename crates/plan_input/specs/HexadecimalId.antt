-- Hexadecimal ids. Ids are decimal, but etcdctl's tables and etcd's logs show them in hexadecimal.
use Rattle.std.specs.Prelude.{ℕ, Bool, not, ◌&&◌, ◌==◌, List, [], ◌++◌, length, drop, find, nat_le, codes, Option, Some, None, option_map}
use Rattle.std.specs.Char.{is_ascii_digit, is_ascii_hexdigit}
use Rattle.std.specs.List.{list_all, position_or_len, slice_split}
use Rattle.plan_input.specs.ShortToken.{short_token, short_token_text}
use Rattle.plan_input.specs.declared.id_hint.IdHint.{IdHint}
use Rattle.plan_input.specs.declared.short_token.ShortToken.{ShortToken}

-- a run of hexadecimal digits is an id: etcd's ids are random numbers below 2^64, which nearly always have 13 to 16
-- digits, and a letter among them
abbrev pub is_hexadecimal_id : List ℕ → Bool
is_hexadecimal_id run = nat_le 13 (length run) && nat_le (length run) 16 && not (list_all is_ascii_digit run)

-- the first hexadecimal id of a text
abbrev pub hexadecimal_id_in : List ℕ → Option (List ℕ)
hexadecimal_id_in text = find is_hexadecimal_id (slice_split (λ b. not (is_ascii_hexdigit b)) text)

-- the hint for a text
abbrev pub id_hint : List ℕ → IdHint
id_hint text = record { id = option_map short_token (hexadecimal_id_in text) }

-- a shell command that prints this id in decimal, if there is one
abbrev pub decimal_hint : Option ShortToken → List ℕ
decimal_hint None = []
decimal_hint (Some id) = codes "; ids are decimal: printf '%u\\n' 0x" ++ short_token_text id

-- how the hint is shown
abbrev pub id_hint_text : IdHint → List ℕ
id_hint_text hint = decimal_hint hint.id

-- the byte is [
abbrev pub is_bracket : ℕ → Bool
is_bracket b = b == 91

-- a text from its first bracket on: in JSON, the ids of members are in a list, and other ids, as that of the cluster, are
-- before it
abbrev pub from_bracket : List ℕ → List ℕ
from_bracket text = drop (position_or_len is_bracket text) text
