-- The tokens of a text, one by one.
use Rattle.std.proofs.Common.{◌≡◌, ℕ, ◌+◌, ◌<◌, true, not, cond, List, [], ◌∷◌, ◌++◌, length, take, drop, get_or, filter, refl, sym, ap, ◌∙◌, arith, inl, inr}
use Rattle.std.specs.List.{slice_split, onto_first, position_or_len, after_first}
use Rattle.std.proofs.lemmas.Bool.{lt-ltb, cases_lt, cases_Bool, and_parts}
use Rattle.std.proofs.lemmas.List.{append-nil, take_all, take-append-drop, drop_all, drop_more, length-take}
use Rattle.std.proofs.lemmas.List.Elements.{filter-append}
use Rattle.std.proofs.lemmas.List.Sums.{prefix_len-le-length, fails_before_first, passes_at_first}
use Rattle.std.proofs.lemmas.List.Splits.{slice_split_first, slice_split_none, length-slice_split}
use Rattle.ascii_text.specs.WhiteSpace.{is_space, is_blank, without_leading_space, without_trailing_space}
use Rattle.ascii_text.specs.Tokens.{has_bytes, tokens_in}
use Rattle.ascii_text.proofs.WhiteSpace.{ends-tail}

-- white space parts the tokens on its two sides
onto_first-append : (b : ℕ) (ps qs : List (List ℕ)) → 0 < length ps → onto_first b (ps ++ qs) ≡ onto_first b ps ++ qs
onto_first-append b [] qs h = absurd (omega (arith, h))
onto_first-append b (p ∷ ps) qs h = refl

split-at_space : (prefix : List ℕ) (b : ℕ) (back : List ℕ) → is_space b ≡ true → slice_split is_space (prefix ++ b ∷ back) ≡ slice_split is_space prefix ++ slice_split is_space back
split-at_space [] b back h = ap (λ c. cond c ([] ∷ slice_split is_space back) (onto_first b (slice_split is_space back))) h
split-at_space (x ∷ prefix) b back h = grind (arith, onto_first-append, length-slice_split, split-at_space prefix b back h)

pub tokens_in-at_space : (prefix : List ℕ) (b : ℕ) (back : List ℕ) → is_space b ≡ true → tokens_in (prefix ++ b ∷ back) ≡ tokens_in prefix ++ tokens_in back
tokens_in-at_space prefix b back h = ap (filter has_bytes) (split-at_space prefix b back h) ∙ filter-append has_bytes (slice_split is_space prefix) (slice_split is_space back)

tokens_in-blank : (bytes : List ℕ) → is_blank bytes ≡ true → tokens_in bytes ≡ []
tokens_in-blank [] h = refl
tokens_in-blank (b ∷ bs) h = let both = and_parts (is_space b) (is_blank bs) h in tokens_in-at_space [] b bs both.0 ∙ tokens_in-blank bs both.1

tokens_in-before_blank : (prefix back : List ℕ) → is_blank back ≡ true → tokens_in (prefix ++ back) ≡ tokens_in prefix
tokens_in-before_blank prefix [] h = ap tokens_in (append-nil prefix)
tokens_in-before_blank prefix (b ∷ back) h = grind (arith, and_parts, tokens_in-at_space, tokens_in-blank, append-nil)

-- so white space at the end changes no tokens
pub tokens_in-ends : (bytes : List ℕ) → tokens_in bytes ≡ tokens_in (without_trailing_space bytes)
tokens_in-ends bytes = let t = ends-tail bytes in ap tokens_in t.whole ∙ tokens_in-before_blank (without_trailing_space bytes) t.tail t.blank

-- white space before the first token
tokens_in-without_leading_space : (text : List ℕ) → tokens_in (without_leading_space text) ≡ tokens_in text
tokens_in-without_leading_space [] = refl
tokens_in-without_leading_space (b ∷ bs) = grind (arith, cases_Bool, cond, tokens_in-at_space, tokens_in-without_leading_space bs)

filter-cons_yes : (full_line : List ℕ) (full_lines : List (List ℕ)) → 0 < length full_line → filter has_bytes (full_line ∷ full_lines) ≡ full_line ∷ filter has_bytes full_lines
filter-cons_yes full_line full_lines some = rw (lt-ltb 0 (length full_line) some) refl

-- a first token is before the first white space
tokens_first : (text : List ℕ) → 0 < position_or_len is_space text → tokens_in text ≡ take (position_or_len is_space text) text ∷ tokens_in (drop (position_or_len is_space text) text)
tokens_first text some =
    let n = position_or_len is_space text in
    elim (cases_lt n (length text)) [
      | inl within ↦
          let full_line : 0 < length (take n text) = omega (arith, length-take n text) in
          let rest : tokens_in (drop n text) ≡ tokens_in (after_first is_space text) = ap tokens_in (drop_more text n 0 within) ∙ tokens_in-at_space [] (get_or text n 0) (drop (n + 1) text) (passes_at_first is_space text 0 within) in
          ap (filter has_bytes) (slice_split_first is_space text 0 within) ∙ filter-cons_yes (take n text) (slice_split is_space (after_first is_space text)) full_line ∙ ap (λ others. take n text ∷ others) (sym rest)
      | inr past ↦
          let full_line : 0 < length text = omega (arith, prefix_len-le-length (λ b. not (is_space b)) text) in
          rw (take_all n text past, drop_all n text past)
          (ap (filter has_bytes) (slice_split_none is_space text (λ k d h. fails_before_first is_space text k d (omega arith))) ∙ filter-cons_yes text [] full_line)
    ]

-- a text without white space before it begins with another byte, or is empty
empty_from_no_token : (text : List ℕ) → position_or_len is_space (without_leading_space text) ≡ 0 → without_leading_space text ≡ []
empty_from_no_token [] none = refl
empty_from_no_token (b ∷ bs) none = grind (arith, none, empty_from_no_token bs)

-- what is up to the next white space, in a text without white space before it, is the first token; where that is empty, there is none
pub tokens_in-none_at_prefix : (text : List ℕ) → position_or_len is_space (without_leading_space text) ≡ 0 → tokens_in text ≡ []
tokens_in-none_at_prefix text none = sym (tokens_in-without_leading_space text) ∙ ap tokens_in (empty_from_no_token text none)

pub tokens_in-at_prefix : (text token rest : List ℕ) (n : ℕ) → n ≡ position_or_len is_space (without_leading_space text) → token ≡ take n (without_leading_space text) → rest ≡ drop n (without_leading_space text) → 0 < n → tokens_in text ≡ token ∷ tokens_in rest
tokens_in-at_prefix text token rest n n_is token_is rest_is some =
    rw (token_is, rest_is, n_is) (sym (tokens_in-without_leading_space text) ∙ tokens_first (without_leading_space text) (omega arith))

-- the first token is where the white space before it ends, and a text without tokens is white space
pub leads-first_token : (text token : List ℕ) (others : List (List ℕ)) → tokens_in text ≡ token ∷ others → (more : List ℕ) × (without_leading_space text ≡ token ++ more)
leads-first_token text token others e =
    let beginning = without_leading_space text in
    let n = position_or_len is_space beginning in
    elim (cases_lt 0 n) [
      | inl some ↦
          let f = sym e ∙ tokens_in-at_prefix text (take n beginning) (drop n beginning) n refl refl refl some in
          let same : take n beginning ≡ token = cc in
          (drop n beginning, sym (take-append-drop n beginning) ∙ ap (λ t. t ++ drop n beginning) same)
      | inr none ↦ let f = sym e ∙ tokens_in-none_at_prefix text (omega arith) in absurd cc
    ]

pub leads-no_token : (text : List ℕ) → tokens_in text ≡ [] → without_leading_space text ≡ []
leads-no_token text e = grind (arith, cases_lt, tokens_in-at_prefix, take, drop, empty_from_no_token)
