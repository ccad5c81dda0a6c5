-- The keys of the arguments that a text and the items of a script have.
use Rattle.std.proofs.Common.{◌≡◌, ℕ, zero, suc, ◌+◌, Bool, true, false, cond, ◌&&◌, List, [], ◌∷◌, length, refl, sym, ◌∙◌, ap, arith}
use Rattle.std.specs.Prelude.{◌==◌, Option, Some, None, option_map}
use Rattle.std.specs.List.{list_all, prefix_len}
use Rattle.ascii_text.specs.WhiteSpace.{without_leading_space}
use Rattle.dd_file.specs.DirectiveLine.{ArgumentText, CommandText, Leading, leading, bytes_while, with_key, is_key_byte, is_key, is_equals, values_at, after_key, as_token, argument_at, before_others, from_token, arguments_within, arguments_of, has_keys, is_name, command_of}
use Rattle.dd_file.specs.Script.{joined}
use Rattle.dd_file.specs.Laws.{AreWellFormed, item_has_keys}
use Rattle.dd_file.specs.Items.{Item}
use Rattle.dd_file.proofs.ScriptGrammar.LinesOfItem.{ReadItem, ReadComment, ReadBlank, ReadBlankHead, ReadDirective, given-read}

-- the leading bytes pass
leading-all : (test : ℕ → Bool) (text : List ℕ) → list_all test (bytes_while test text).value ≡ true
leading-all test [] = refl
leading-all test (x ∷ xs) = let one : 1 + prefix_len test xs ≡ suc (prefix_len test xs) = omega arith in rw one (grind (arith, leading-all test xs))

-- an argument has the key that was read
after_key-key : (key rest : List ℕ) (found : Leading ArgumentText) → as_token (after_key key rest) ≡ Some found → found.value.key ≡ key
after_key-key key [] found is = grind arith
after_key-key key (b ∷ rest) found is = at (is_equals b) (values_at rest) is where
  at : (c : Bool) (values : Option (Leading (List (List ℕ)))) →
      as_token (cond c (option_map (λ v. leading (with_key key v.value) v.rest) values) (Some (leading (with_key key []) (b ∷ rest)))) ≡ Some found → found.value.key ≡ key
  at c values e = grind arith

argument_at-key : (text : List ℕ) (found : Leading ArgumentText) → argument_at text ≡ Some found → is_key found.value.key ≡ true
argument_at-key text found is = at (length key.value == 0) refl is where
  key : Leading (List ℕ)
  key = bytes_while is_key_byte text

  at : (c : Bool) → (length key.value == 0) ≡ c → cond c None (as_token (after_key key.value key.rest)) ≡ Some found → is_key found.value.key ≡ true
  at c is e = grind (arith, after_key-key key.value key.rest found, leading-all is_key_byte text)

-- the arguments of a text
before_others-keys : (others : List ℕ → Option (List ArgumentText)) (begun : List ℕ) (found : Option (Leading ArgumentText)) (arguments : List ArgumentText) → ((text : List ℕ) (rest : List ArgumentText) → others text ≡ Some rest → has_keys rest ≡ true) →
    argument_at begun ≡ found → before_others others found ≡ Some arguments → has_keys arguments ≡ true
before_others-keys others begun None arguments keys one is = cc
before_others-keys others begun (Some found) arguments keys one is = at (others found.rest) refl is where
  at : (more : Option (List ArgumentText)) → others found.rest ≡ more → option_map (λ rest. found.value ∷ rest) more ≡ Some arguments → has_keys arguments ≡ true
  at None e k = cc
  at (Some rest) e k = let same : found.value ∷ rest ≡ arguments = cc in ap has_keys (sym same) ∙ ap (λ b. b && has_keys rest) (argument_at-key begun found one) ∙ keys found.rest rest e

from_token-keys : (others : List ℕ → Option (List ArgumentText)) (begun : List ℕ) (arguments : List ArgumentText) → ((text : List ℕ) (rest : List ArgumentText) → others text ≡ Some rest → has_keys rest ≡ true) →
    from_token others begun ≡ Some arguments → has_keys arguments ≡ true
from_token-keys others [] arguments keys is = let same : [] ≡ arguments = cc in ap has_keys (sym same)
from_token-keys others (b ∷ bs) arguments keys is = before_others-keys others (b ∷ bs) (argument_at (b ∷ bs)) arguments keys refl is

arguments_within-keys : (count : ℕ) (text : List ℕ) (arguments : List ArgumentText) → arguments_within count text ≡ Some arguments → has_keys arguments ≡ true
arguments_within-keys zero text arguments is = let same : [] ≡ arguments = cc in ap has_keys (sym same)
arguments_within-keys (suc count) text arguments is = from_token-keys (arguments_within count) (without_leading_space text) arguments (arguments_within-keys count) is

pub arguments_of-keys : (text : List ℕ) (arguments : List ArgumentText) → arguments_of text ≡ Some arguments → has_keys arguments ≡ true
arguments_of-keys text = arguments_within-keys (length text) text

-- the arguments of a command
command_of-keys : (text : List ℕ) (command : CommandText) → command_of text ≡ Some command → has_keys command.arguments ≡ true
command_of-keys text command is = at (is_name name) (arguments_of name.rest) refl is where
  name : Leading (List ℕ)
  name = bytes_while is_key_byte (without_leading_space text)

  at : (c : Bool) (found : Option (List ArgumentText)) → arguments_of name.rest ≡ found →
      cond c (option_map (λ arguments. record { name = name.value; arguments = arguments }) found) None ≡ Some command → has_keys command.arguments ≡ true
  at true (Some arguments) e k = grind (arith, name, arguments_of-keys)
  at true None e k = cc
  at false found e k = cc

-- the arguments of an item that was read
read-keys : (item : Item) → ReadItem item → item_has_keys item ≡ true
read-keys item (ReadComment line are comment) = refl
read-keys item (ReadBlank line are comment blank) = refl
read-keys item (ReadBlankHead line rest is are blank) = refl
read-keys item (ReadDirective n command line rest input expected is parses command_is none are) = command_of-keys (joined (line ∷ rest)) command command_is

pub items-keys : (items : List Item) → AreWellFormed items → list_all item_has_keys items ≡ true
items-keys [] are = refl
items-keys (item ∷ items) are = ap (λ b. b && list_all item_has_keys items) (read-keys item (given-read item are.0)) ∙ items-keys items are.1
