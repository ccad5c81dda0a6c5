-- The function that reads a number, against the relation.
use Rattle.std.proofs.Common.{◌≡◌, ℕ, ◌+◌, ◌*◌, ◌<◌, ◌≤◌, ◌^◌, ◌-◌, true, false, ltb, leb, List, length, take, get_or, Some, None, sym, ap, subst, ◌∙◌, arith}
use Rattle.std.specs.Char.{is_ascii_digit}
use Rattle.std.specs.Int.{IsInRange}
use Rattle.std.specs.Str.{all_ascii_digits}
use Rattle.std.specs.Str.Parse.{AllDigits, digits_value}
use Rattle.std.proofs.lemmas.Bool.{lt-ltb, ltb-true, le-leb, leb-true, and_parts, and_from, true≢false}
use Rattle.std.proofs.lemmas.List.{take_all}
use Rattle.std.proofs.lemmas.Option.{cond_some}
use Rattle.std.proofs.lemmas.Str.Parse.{IsNumeralModel, numerals_by_value, tells_all_ascii_digits, digits_value-take-le, digit_at}
use Rattle.std.proofs.lemmas.Int.Digits.{digits_value_more, digits_more}
use Rattle.std.proofs.lemmas.Str.{digit_value_digit}
use Rattle.ascii_text.specs.Number.{ParsesToNumber, number_in}

model : IsNumeralModel (λ ds. all_ascii_digits ds ≡ true) (digits_value 10)
model = numerals_by_value _ tells_all_ascii_digits

pub number_in-ok : (digits : List ℕ) (number : ℕ) → ParsesToNumber digits number → number_in digits ≡ Some number
number_in-ok digits number h = grind (arith, lt-ltb, length, model)

pub ParsesToNumber-from_some : (digits : List ℕ) (number : ℕ) → number_in digits ≡ Some number → ParsesToNumber digits number
ParsesToNumber-from_some digits number e = grind (arith, cond_some, ltb, and_parts, ltb-true, length, model)

pub number_in-none : (digits : List ℕ) → ((number : ℕ) → ¬ (ParsesToNumber digits number)) → number_in digits ≡ None
number_in-none digits none = grind (arith, ParsesToNumber-from_some)

-- a byte that is no digit
pub number_in-none_at : (digits : List ℕ) (i : ℕ) → i < length digits → is_ascii_digit (get_or digits i 0) ≡ false → number_in digits ≡ None
number_in-none_at digits i within other = grind (arith, number_in-none, digit_at, get_or, true≢false, and_from, leb, le-leb)

-- ---- digits that are read one after another
-- the first i bytes are digits whose value is n
pub record IsRead (digits : List ℕ) (i n : ℕ) : Type 0 where
  pub all_digits : AllDigits 10 (take i digits)
  pub value : n ≡ digits_value 10 (take i digits)

pub IsRead-more : (digits : List ℕ) (i n : ℕ) → IsRead digits i n → i < length digits → is_ascii_digit (get_or digits i 0) ≡ true → IsRead digits (i + 1) (n * 10 + (get_or digits i 0 - 48))
IsRead-more digits i n read within digit =
    let range = and_parts (leb 48 (get_or digits i 0)) (leb (get_or digits i 0) 57) digit in
    let in_range : IsInRange 48 57 (get_or digits i 0) = (leb-true 48 _ range.0, leb-true _ 57 range.1) in
    let value = digit_value_digit (get_or digits i 0) in_range in
    record {
      all_digits = digits_more 10 digits i within read.all_digits (omega (arith, in_range.1, value));
      value = omega (arith, read.value, value, digits_value_more 10 digits i within);
    }

pub IsRead-whole : (digits : List ℕ) (i n : ℕ) → IsRead digits i n → length digits ≤ i → 0 < length digits → n < 2 ^ 64 → Some n ≡ number_in digits
IsRead-whole digits i n read end some below =
    let whole = take_all i digits end in
    sym (number_in-ok digits n (record { numeral = (some, subst (AllDigits 10) whole read.all_digits); value = sym (read.value ∙ ap (digits_value 10) whole); in_range = below }))

-- one digit more, and the value is too large
pub number_in-none_more : (digits : List ℕ) (i n : ℕ) → IsRead digits i n → i < length digits → is_ascii_digit (get_or digits i 0) ≡ true → 2 ^ 64 ≤ n * 10 + (get_or digits i 0 - 48) → None ≡ number_in digits
number_in-none_more digits i n read within digit large =
    sym (number_in-none digits (λ number h. omega (arith, large, h.value, h.in_range, (IsRead-more digits i n read within digit).value, digits_value-take-le 10 digits (i + 1) (omega arith))))
