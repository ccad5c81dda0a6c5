-- How the bytes of a token are shown.
use Rattle.std.proofs.lemmas.Grind.{common_steps}
use Rattle.std.proofs.Common.{◌≡◌, ◌<◌, ◌≤◌, ◌+◌, ℕ, List, [], ◌++◌, map, take, length, get_or, encode_utf8, nat_lt, codes, if◌then◌else◌, min, append-nil, arith}
use Rattle.std.proofs.lemmas.List.{map_more}
use Rattle.std.proofs.lemmas.Str.{encode_ascii}
use Rattle.plan_input.specs.ShortToken.{visible, short_token_text}
use Rattle.plan_input.specs.declared.short_token.ShortToken.{ShortToken}

-- the character that shows a byte is one of ASCII
visible-ascii : (b : ℕ) → visible b < 128
visible-ascii b = grind arith

-- one more byte is shown
pub visible-next : (bytes : List ℕ) (i shown : ℕ) → i < length bytes → shown ≡ visible (get_or bytes i 0) → map visible (take i bytes) ++ encode_utf8 shown ≡ map visible (take (i + 1) bytes)
visible-next bytes i shown within is = grind (arith, common_steps, encode_ascii, visible-ascii, map_more)

dots : (len : ℕ) → 24 < len → (if nat_lt 24 len then codes ".." else []) ≡ codes ".."
dots len longer = grind arith

no-dots : (len : ℕ) → len ≤ 24 → (if nat_lt 24 len then codes ".." else []) ≡ []
no-dots len short = grind arith

-- all bytes that are kept are shown, and .. after them
pub text-cut : (token : ShortToken) (i : ℕ) → i ≡ min token.len 24 → 24 < token.len → map visible (take i token.bytes) ++ codes ".." ≡ short_token_text token
text-cut token i is longer = grind (arith, dots)

-- .. or nothing
pub text-whole : (token : ShortToken) (i : ℕ) → i ≡ min token.len 24 → token.len ≤ 24 → map visible (take i token.bytes) ≡ short_token_text token
text-whole token i is short = grind (arith, append-nil, no-dots)
