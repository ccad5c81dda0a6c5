-- A list of ids with commas between them, as the value of the option `--down`: `4,6`.
use Rattle.std.specs.Prelude.{ℕ, Bool, ◌&&◌, not, List, [], ◌∷◌, Option, Some, None, is_some, option_and_then, codes, drop, find, length, nat_eq, nat_lt, if◌then◌else◌}
use Rattle.std.specs.Char.{is_ascii_digit, is_ascii_hexdigit}
use Rattle.std.specs.List.{list_all, slice_split, starts_with}
use Rattle.dd_file.specs.DirectiveLine.{is_comma}
use Rattle.conf_change.specs.ConfStateLine.{and_number}
use Rattle.conf_session.specs.Parameter.{id_in}

-- the ids that the parts denote, if each part is an id
abbrev pub ids_in_parts : List (List ℕ) → Option (List ℕ)
ids_in_parts [] = Some []
ids_in_parts (part ∷ parts) = and_number (id_in part) (ids_in_parts parts)

-- the ids that a text denotes if it is split at each comma, if each part is an id; an empty part is not
abbrev pub ids_listed : List ℕ → Option (List ℕ)
ids_listed text = ids_in_parts (slice_split is_comma text)

-- ---- hexadecimal ids, as etcd shows them
-- a text is 1 to 16 hexadecimal digits
abbrev pub is_hexadecimal : List ℕ → Bool
is_hexadecimal digits = nat_lt 0 (length digits) && nat_lt (length digits) 17 && list_all is_ascii_hexdigit digits

-- the digits of a hexadecimal number, which begins with 0x or has a letter among its digits
abbrev pub hexadecimal_in : List ℕ → Option (List ℕ)
hexadecimal_in text =
    if starts_with nat_eq text (codes "0x") then (if is_hexadecimal (drop 2 text) then Some (drop 2 text) else None)
    else (if is_hexadecimal text && not (list_all is_ascii_digit text) then Some text else None)

-- the digits of the first part that is not an id, if it is a hexadecimal number
abbrev pub hexadecimal_listed : List ℕ → Option (List ℕ)
hexadecimal_listed text =
    option_and_then hexadecimal_in (find (λ part. not (is_some (id_in part))) (slice_split is_comma text))
