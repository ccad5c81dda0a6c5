-- Numbers in a text: one or more decimal digits, leading zeros allowed, whose value is below 2 ^ 64.
use Rattle.std.specs.Prelude.{◌≡◌, ℕ, ◌<◌, ◌^◌, ◌&&◌, List, Option, Some, None, nat_lt, if◌then◌else◌}
use Rattle.std.specs.Str.{all_ascii_digits}
use Rattle.std.specs.Str.Parse.{IsNumeral, digits_value}
use Rattle.ascii_text.specs.Tokens.{has_bytes}

-- the bytes are decimal digits whose value is this number
pub record ParsesToNumber (digits : List ℕ) (number : ℕ) : Type 0 where
  pub numeral : IsNumeral 10 digits
  pub value : digits_value 10 digits ≡ number
  pub in_range : number < 2 ^ 64

-- the number that the bytes parse to, if any
abbrev pub number_in : List ℕ → Option ℕ
number_in digits =
    if has_bytes digits && all_ascii_digits digits && nat_lt (digits_value 10 digits) (2 ^ 64)
    then Some (digits_value 10 digits) else None
