-- The grammar of a directive line, which is own: a command and its arguments, separated by white space and read from left
-- to right.
use Rattle.std.specs.Prelude.{ℕ, zero, suc, Bool, true, not, ◌&&◌, ◌||◌, List, [], ◌∷◌, ◌==◌, length, take, drop, map, Option, Some, None, option_map, if◌then◌else◌, codes, bytes_eq}
use Rattle.std.specs.List.{list_all, list_any, prefix_len}
use Rattle.std.specs.Char.{is_ascii_alphanumeric}
use Rattle.ascii_text.specs.WhiteSpace.{is_space, is_blank, trimmed, without_leading_space}

-- an argument: a key and its values
pub record ArgumentText : Type 0 where
  pub key : List ℕ
  pub values : List (List ℕ)

-- a command and its arguments
pub record CommandText : Type 0 where
  pub name : List ℕ
  pub arguments : List ArgumentText

-- an empty name without arguments
abbrev pub no_command : CommandText
no_command = record { name = []; arguments = [] }

-- what a text begins with, and the text after it
pub record Leading (A : Type 0) : Type 0 where
  pub value : A
  pub rest : List ℕ

-- what a text begins with, by its parts
abbrev pub leading : {A : Type 0} → A → List ℕ → Leading A
leading value rest = record { value = value; rest = rest }

-- the bytes before the first one that does not pass the test
abbrev pub bytes_while : (ℕ → Bool) → List ℕ → Leading (List ℕ)
bytes_while test text = leading (take (prefix_len test text) text) (drop (prefix_len test text) text)

-- the byte is (
abbrev pub is_opening : ℕ → Bool
is_opening b = b == 40

-- the byte is )
abbrev pub is_closing : ℕ → Bool
is_closing b = b == 41

-- the byte is =
abbrev pub is_equals : ℕ → Bool
is_equals b = b == 61

-- the byte is ,
abbrev pub is_comma : ℕ → Bool
is_comma b = b == 44

-- whether a key may contain the byte: an ASCII letter, a digit, or one of - _ / , .
abbrev pub is_key_byte : ℕ → Bool
is_key_byte b = is_ascii_alphanumeric b || list_any (λ c. b == c) (codes "-_/,.")

-- a key: one or more key bytes
abbrev pub is_key : List ℕ → Bool
is_key token = not (length token == 0) && list_all is_key_byte token

-- whether a plain value, one that is not a list, may contain the byte: any but white space and parentheses
abbrev pub is_plain_byte : ℕ → Bool
is_plain_byte b = not (is_space b || (is_opening b || is_closing b))

-- one byte before the parts: a separator begins a new, empty part, and any other byte is added to the first part
abbrev pub split_or_prepend : Bool → ℕ → List (List ℕ) → List (List ℕ)
split_or_prepend true b parts = [] ∷ parts
split_or_prepend other b [] = (b ∷ []) ∷ []
split_or_prepend other b (part ∷ parts) = (b ∷ part) ∷ parts

-- the text split at each comma
abbrev pub split_at_commas : List ℕ → List (List ℕ)
split_at_commas [] = [] ∷ []
split_at_commas (b ∷ bs) = split_or_prepend (is_comma b) b (split_at_commas bs)

-- the values between parentheses, split at commas and trimmed; there are none if the text is blank
abbrev pub list_values : List ℕ → List (List ℕ)
list_values text = if is_blank text then [] else map trimmed (split_at_commas text)

-- the values of a list, given the text before the first closing parenthesis and the text from there on; none if it is not
-- closed
abbrev pub closed_at : List ℕ → List ℕ → Option (Leading (List (List ℕ)))
closed_at inside [] = None
closed_at inside (b ∷ rest) = Some (leading (list_values inside) rest)

-- the values of a list, after its opening parenthesis
abbrev pub listed_at : List ℕ → Option (Leading (List (List ℕ)))
listed_at text = let inside = bytes_while (λ b. not (is_closing b)) text in closed_at inside.value inside.rest

-- one plain value, which may be empty
abbrev pub plain_at : List ℕ → Leading (List (List ℕ))
plain_at text = let plain = bytes_while is_plain_byte text in leading (plain.value ∷ []) plain.rest

-- the values that a text after = begins with: a list in parentheses, or one plain value
abbrev pub values_at : List ℕ → Option (Leading (List (List ℕ)))
values_at [] = Some (plain_at [])
values_at (b ∷ bs) = if is_opening b then listed_at bs else Some (plain_at (b ∷ bs))

-- the argument with this key and these values
abbrev pub with_key : List ℕ → List (List ℕ) → ArgumentText
with_key key values = record { key = key; values = values }

-- the argument with this key, given the text after the key: a key alone, or a key, = and values
abbrev pub after_key : List ℕ → List ℕ → Option (Leading ArgumentText)
after_key key [] = Some (leading (with_key key []) [])
after_key key (b ∷ rest) =
    if is_equals b then option_map (λ values. leading (with_key key values.value) values.rest) (values_at rest) else Some (leading (with_key key []) (b ∷ rest))

-- whether a token ends before this text: it is empty or begins with white space
abbrev pub ends_token : List ℕ → Bool
ends_token [] = true
ends_token (b ∷ bs) = is_space b

-- what a text begins with, if that is a whole token
abbrev pub as_token : {A : Type 0} → Option (Leading A) → Option (Leading A)
as_token None = None
as_token (Some found) = if ends_token found.rest then Some found else None

-- the argument that a text begins with
abbrev pub argument_at : List ℕ → Option (Leading ArgumentText)
argument_at text = let key = bytes_while is_key_byte text in if length key.value == 0 then None else as_token (after_key key.value key.rest)

-- an argument, if there is one, before those of the text after it
abbrev pub before_others : (List ℕ → Option (List ArgumentText)) → Option (Leading ArgumentText) → Option (List ArgumentText)
before_others others None = None
before_others others (Some found) = option_map (λ arguments. found.value ∷ arguments) (others found.rest)

-- the arguments of a text that does not begin with white space, given those of the text after the first one
abbrev pub from_token : (List ℕ → Option (List ArgumentText)) → List ℕ → Option (List ArgumentText)
from_token others [] = Some []
from_token others (b ∷ bs) = before_others others (argument_at (b ∷ bs))

-- the arguments of a text, if there are at most count of them and all are valid
abbrev pub arguments_within : ℕ → List ℕ → Option (List ArgumentText)
arguments_within zero text = Some []
arguments_within (suc count) text = from_token (arguments_within count) (without_leading_space text)

-- the arguments of a text, if all are valid; there are no more of them than bytes
abbrev pub arguments_of : List ℕ → Option (List ArgumentText)
arguments_of text = arguments_within (length text) text

-- the key of each argument is a key of the grammar
abbrev pub has_keys : List ArgumentText → Bool
has_keys arguments = list_all (λ argument. is_key argument.key) arguments

-- the name that a text begins with: the leading key bytes, which are a whole token other than `subtest`
abbrev pub is_name : Leading (List ℕ) → Bool
is_name found = not (length found.value == 0) && (ends_token found.rest && not (bytes_eq found.value (codes "subtest")))

-- the command with this name and the arguments in the text after it
abbrev pub with_name : Leading (List ℕ) → Option CommandText
with_name found = if is_name found then option_map (λ arguments. record { name = found.value; arguments = arguments }) (arguments_of found.rest) else None

-- the command that a directive line denotes, if it is valid
abbrev pub command_of : List ℕ → Option CommandText
command_of text = with_name (bytes_while is_key_byte (without_leading_space text))
