-- The JSON of a saved configuration begins with a brace.
use Rattle.std.proofs.Common.{◌≡◌, ℕ, Bool, true, false, ◌&&◌, cond, List, [], ◌∷◌, length, drop, refl, ap, ◌∙◌, arith}
use Rattle.std.specs.Prelude.{Option, Some, None, option_and_then, option_map, ◌==◌, nat_eq}
use Rattle.std.specs.List.{starts_with}
use Rattle.std.proofs.lemmas.Bool.{eqb-true}
use Rattle.std.proofs.lemmas.Bool.Decides.{nat_tests}
use Rattle.json.specs.Ascii as ascii
use Rattle.json.specs.Json as json
use Rattle.json.specs.Json.{if_last, parse_map, value}
use Rattle.json.specs.Lex.{Class, quote, backslash, operator, space, other, Lexeme, token, comma, colon, between, class, fresh, lex, lex_byte, punctuate, string_token, tokens}
use Rattle.json.specs.Text.{content, plain}
use Rattle.json.specs.Token.{Token, begin_object, end_object, begin_array, end_array, number, boolean, null, bad}
use Rattle.json.specs.Word as words
use Rattle.json.specs.Word.{after_number, number_before, word}
use Rattle.serde_json.specs.Data as values
use Rattle.serde_json.specs.Read.{max_depth, number_of, of_items, of_json, read}
use Rattle.ascii_text.specs.WhiteSpace.{is_space, without_leading_space}
use Rattle.conf_change.specs.ConfState.{ConfStateLists}
use Rattle.raft_json.specs.SavedJson.{saved_in_json, saved_of_json}
use Rattle.plan_input.specs.Form.{form_of}
use Rattle.plan_input.specs.declared.form.Form.TheVariants.{Json}
use Rattle.plan_input.proofs.Forms.{form-after_space}

-- ---- only an object denotes a saved configuration
no_array : (saved : ConfStateLists) (items : Option values.Items) → option_and_then saved_of_json (option_map values.array items) ≡ Some saved → ⊥
no_array saved items e = grind arith

no_number : (saved : ConfStateLists) (n : Option values.Num) → option_and_then saved_of_json (option_map values.number n) ≡ Some saved → ⊥
no_number saved n e = grind arith

-- the value of a text that was read, if nothing is after it
abbrev saved_in_read : Option (json.Json × List Token) → Option ConfStateLists
saved_in_read read = option_and_then saved_of_json (option_and_then of_json (option_and_then (λ p. if_last p.0 p.1) read))

no_array_read : (saved : ConfStateLists) (read : Option (json.Items × List Token)) → saved_in_read (parse_map json.array read) ≡ Some saved → ⊥
no_array_read saved None e = cc
no_array_read saved (Some (items, [])) e = no_array saved (of_items items) e
no_array_read saved (Some (items, t ∷ ts)) e = cc

object-first : (saved : ConfStateLists) (ts : List Token) → saved_in_read (value max_depth ts) ≡ Some saved → (rest : List Token) × (ts ≡ begin_object ∷ rest)
unfolding value
object-first saved [] e = absurd cc
object-first saved (begin_array ∷ ts) e = absurd (no_array_read saved (json.items (value 126) (length ts) ts) e)
object-first saved (number s ∷ []) e = absurd (no_number saved (number_of s) e)
object-first saved (t ∷ ts) e = (ts, grind arith)

-- ---- an object begins with a brace
-- the first lexeme is the brace
brace-lexeme : (l : Lexeme) (ls : List Lexeme) (rest : List Token) → punctuate fresh (l ∷ ls) ≡ begin_object ∷ rest → l ≡ token begin_object
unfolding punctuate
brace-lexeme l ls rest e = grind arith

no_string : (s : Option (List ℕ)) → token (string_token s) ≡ token begin_object → ⊥
no_string s e = grind arith

no_number_before : (text : List ℕ) (rest : Option (List ℕ)) → number_before text rest ≡ begin_object → ⊥
no_number_before text rest e = grind arith

no_cond : (b : Bool) (t u : Token) → (t ≡ begin_object → ⊥) → (u ≡ begin_object → ⊥) → cond b t u ≡ begin_object → ⊥
no_cond b t u not_t not_u e = grind (arith, not_t, not_u)

no_literal : (name text : List ℕ) (t u : Token) (begins : Bool) → (t ≡ begin_object → ⊥) → (u ≡ begin_object → ⊥) → cond begins (words.literal name t text) u ≡ begin_object → ⊥
no_literal name text t u begins not_t not_u e = no_cond begins _ u (no_cond (starts_with nat_eq text name && words.ends_word (drop (length name) text)) t bad not_t (λ f. cc)) not_u e

no_word : (text : List ℕ) → word text ≡ begin_object → ⊥
unfolding word
no_word text e =
    let first = words.head text in
    no_literal ascii.true_text text (boolean true) _ (first == ascii.lower_t) (λ f. cc)
    (no_literal ascii.false_text text (boolean false) _ (first == ascii.lower_f) (λ f. cc)
    (no_literal ascii.null_text text null _ (first == ascii.lower_n) (λ f. cc) (no_number_before text (after_number text)))) e

brace-operator : (a b c d e : Bool) → cond a (token begin_object) (cond b (token end_object) (cond c (token begin_array) (cond d (token end_array) (cond e comma colon)))) ≡ token begin_object → a ≡ true
brace-operator a b c d e is = grind arith

space-class : (a b c d : Bool) → cond a quote (cond b backslash (cond c operator (cond d space other))) ≡ space → d ≡ true
space-class a b c d is = grind arith

white : (x : ℕ) → words.is_space x ≡ true → is_space x ≡ true
white x is = grind (arith, nat_tests)

no_lexeme : (rest : List Token) → punctuate fresh [] ≡ begin_object ∷ rest → ⊥
unfolding punctuate
no_lexeme rest e = cc

brace-first : (text : List ℕ) (rest : List Token) → tokens text ≡ begin_object ∷ rest → (more : List ℕ) × (without_leading_space text ≡ 123 ∷ more)
unfolding lex
brace-first [] rest e = absurd (no_lexeme rest e)
brace-first (x ∷ xs) rest e = by_class (class x) refl e (brace-first xs rest) where
  by_class : (c : Class) → class x ≡ c → punctuate fresh (lex_byte between c x xs (λ next. lex next xs)) ≡ begin_object ∷ rest →
      (tokens xs ≡ begin_object ∷ rest → (more : List ℕ) × (without_leading_space xs ≡ 123 ∷ more)) → (more : List ℕ) × (without_leading_space (x ∷ xs) ≡ 123 ∷ more)
  by_class quote is f later = absurd (no_string (content plain xs) (brace-lexeme _ _ rest f))
  by_class backslash is f later = let same = brace-lexeme _ _ rest f in absurd cc
  by_class operator is f later =
      let brace : x ≡ 123 = eqb-true x 123 (brace-operator _ _ _ _ _ (brace-lexeme _ _ rest f)) in
      (xs, ap (λ b. without_leading_space (b ∷ xs)) brace)
  by_class space is f later =
      let found = later f in
      (found.0, ap (λ b. cond b (without_leading_space xs) (x ∷ xs)) (white x (space-class _ _ _ _ is)) ∙ found.1)
  by_class other is f later = let same = brace-lexeme _ _ rest f in absurd (no_word (x ∷ xs) cc)

of_utf8 : (saved : ConfStateLists) (utf8 : Bool) (d : Option values.Data) → option_and_then saved_of_json (cond utf8 d None) ≡ Some saved → option_and_then saved_of_json d ≡ Some saved
of_utf8 saved true d h = h
of_utf8 saved false d h = cc

pub form-json : (text : List ℕ) (saved : ConfStateLists) → saved_in_json text ≡ Some saved → form_of text ≡ Json
form-json text saved h =
    let object = object-first saved (tokens text) (of_utf8 saved _ (read text) h) in
    let first = brace-first text object.0 object.1 in
    form-after_space text _ first.1
