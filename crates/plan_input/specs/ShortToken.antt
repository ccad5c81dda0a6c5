-- What an error keeps of a token, its first 24 bytes and its length, and how it shows them.
use Rattle.std.specs.Prelude.{ℕ, ◌-◌, List, [], ◌++◌, length, take, map, min, replicate, nat_lt, codes, if◌then◌else◌}
use Rattle.std.specs.Char.{is_ascii_graphic}
use Rattle.plan_input.specs.declared.short_token.ShortToken.{ShortToken}

-- what is kept of a token: if it is shorter, spaces fill up the bytes
abbrev pub short_token : List ℕ → ShortToken
short_token token = record { bytes = take 24 token ++ replicate (24 - length token) 32; len = length token }

-- the character that shows a byte: itself if it is a visible one of ASCII, or else ?
abbrev pub visible : ℕ → ℕ
visible b = if is_ascii_graphic b then b else 63

-- how an error shows a token: the bytes that are kept, and .. if it is longer
abbrev pub short_token_text : ShortToken → List ℕ
short_token_text token = map visible (take (min token.len 24) token.bytes) ++ (if nat_lt 24 token.len then codes ".." else [])
