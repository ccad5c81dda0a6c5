-- What is printed of a configuration denotes the configuration.
use Rattle.std.proofs.Common.{◌≡◌, ℕ, ◌<◌, ◌≤◌, ◌^◌, Bool, false, not, List, [], ◌∷◌, ◌++◌, length, map, refl, sym, ap, ◌∙◌, append_assoc, arith}
use Rattle.std.specs.Prelude.{codes, decimal, flat_map, nat_eq, All, if◌then◌else◌}
use Rattle.std.proofs.lemmas.Bool.{ne_eqb, lt-ltb}
use Rattle.std.proofs.lemmas.Bool.Decides.{nat_tests}
use Rattle.std.proofs.lemmas.Fmt.{decimal_is_IsNumeral}
use Rattle.std.proofs.lemmas.List.Concat.{flat_map-append}
use Rattle.std.proofs.lemmas.List.Elements.{All-head, All-tail}
use Rattle.std.proofs.lemmas.List.Splits.{slice_split_none}
use Rattle.ascii_text.specs.WhiteSpace.{is_space}
use Rattle.ascii_text.specs.Tokens.{tokens_in}
use Rattle.ascii_text.proofs.Offered.{tokens_in-at_space}
use Rattle.quorum_sets.specs.Ids.{ascending, is_empty}
use Rattle.conf_change.specs.Configuration.{Configuration, is_joint}
use Rattle.conf_change.specs.ConfState.{lists_of}
use Rattle.conf_change.specs.PrintedConfig.{bracketed, config_tokens, config_tokens_in, DenotesConfig, is_mark, part_tokens, spaced_mark}
use Rattle.conf_change.specs.Text.{config_text, set_text, spaced_numbers, text_if}
use Rattle.conf_change.specs.U64Lists.{HasU64Lists}
use Rattle.conf_change.proofs.Texts.ConfStateLine.{digits-fail, parsed-decimal}
use Rattle.conf_change.proofs.Texts.PrintedConfig.{config_tokens-grouped}

-- the number has 64 bits
abbrev IsU64 : ℕ → Type 0
IsU64 n = n < 2 ^ 64

-- ---- a byte that is a token by itself, and a space
tokens-at_mark : (text : List ℕ) (mark : ℕ) (more : List ℕ) → spaced_mark mark ≡ 32 ∷ mark ∷ 32 ∷ [] → tokens_in (mark ∷ []) ≡ (mark ∷ []) ∷ [] →
    config_tokens_in (text ++ mark ∷ more) ≡ config_tokens_in text ++ ((mark ∷ []) ∷ config_tokens_in more)
tokens-at_mark text mark more spaced alone = grind (arith, flat_map-append, tokens_in-at_space)

tokens-at_space : (text more : List ℕ) → config_tokens_in (text ++ 32 ∷ more) ≡ config_tokens_in text ++ config_tokens_in more
tokens-at_space text more = ap tokens_in (flat_map-append spaced_mark text (32 ∷ more)) ∙ tokens_in-at_space (flat_map spaced_mark text) 32 (flat_map spaced_mark more) refl

-- ---- numbers
no_mark : (b : ℕ) → 48 ≤ b → b ≤ 57 → is_mark b ≡ false
no_mark b low high = rw (ne_eqb b 40 (λ same. omega arith), ne_eqb b 41 (λ same. omega arith), ne_eqb b 61 (λ same. omega arith)) refl

no_space : (b : ℕ) → 48 ≤ b → b ≤ 57 → is_space b ≡ false
no_space b low high = grind (arith, nat_tests)

spaced-none : (bytes : List ℕ) → All (λ b. is_mark b ≡ false) bytes → flat_map spaced_mark bytes ≡ bytes
spaced-none [] none = refl
spaced-none (b ∷ bytes) none =
    let here = All-head (λ c. is_mark c ≡ false) b bytes none in
    rw here (ap (λ t. b ∷ t) (spaced-none bytes (All-tail (λ c. is_mark c ≡ false) b bytes none)))

tokens-one : (bytes : List ℕ) → 0 < length bytes → All (λ b. is_space b ≡ false) bytes → tokens_in bytes ≡ bytes ∷ []
tokens-one bytes some none = rw (slice_split_none is_space bytes none, lt-ltb 0 (length bytes) some) refl

tokens-number : (n : ℕ) → IsU64 n → config_tokens_in (decimal n) ≡ decimal n ∷ []
tokens-number n small =
    let numeral = (decimal_is_IsNumeral n small).0 in
    ap tokens_in (spaced-none (decimal n) (digits-fail is_mark (decimal n) numeral.1 no_mark))
    ∙ tokens-one (decimal n) numeral.0 (digits-fail is_space (decimal n) numeral.1 no_space)

tokens-numbers : (numbers : List ℕ) → All IsU64 numbers → config_tokens_in (spaced_numbers numbers) ≡ map decimal numbers
tokens-numbers [] small = refl
tokens-numbers (n ∷ []) small = tokens-number n (All-head IsU64 n [] small)
tokens-numbers (n ∷ next ∷ numbers) small = grind (arith, tokens-at_space, tokens-number, All-head, All-tail, tokens-numbers (next ∷ numbers) (All-tail IsU64 n (next ∷ numbers) small))

-- ---- sets
-- a set as it is printed, by its ids
abbrev list_text : List ℕ → List ℕ
list_text ids = codes "(" ++ spaced_numbers ids ++ codes ")"

tokens-set : (text : List ℕ) (ids : List ℕ) (more : List ℕ) → All IsU64 ids →
    config_tokens_in (text ++ (list_text ids ++ more)) ≡ config_tokens_in text ++ (bracketed (map decimal ids) ++ config_tokens_in more)
tokens-set text ids more small = grind (arith, tokens-at_mark, append_assoc, tokens-numbers)

-- a part that is left out if it is empty, after this text, which has these tokens
tokens-part : (before : List ℕ) (tokens : List (List ℕ)) → config_tokens_in before ≡ tokens → (ids : List ℕ) → All IsU64 ids → (more : List ℕ) →
    config_tokens_in (text_if (not (nat_eq (length ids) 0)) (before ++ list_text ids) ++ more) ≡ part_tokens tokens (map decimal ids) ++ config_tokens_in more
tokens-part before tokens is [] small more = refl
tokens-part before tokens is (id ∷ ids) small more =
    rw (ne_eqb (length (id ∷ ids)) 0 (λ none. omega (arith, none)))
    (ap config_tokens_in (append_assoc before (list_text (id ∷ ids)) more) ∙ tokens-set before (id ∷ ids) more small
    ∙ ap (λ t. t ++ (bracketed (map decimal (id ∷ ids)) ++ config_tokens_in more)) is
    ∙ sym (append_assoc tokens (bracketed (map decimal (id ∷ ids))) (config_tokens_in more)))

tokens-flag : (auto_leave : Bool) → config_tokens_in (text_if auto_leave (codes " autoleave")) ≡ (if auto_leave then codes "autoleave" ∷ [] else [])
tokens-flag auto_leave = grind arith

-- ---- the whole text
-- the parts, grouped from the last
text-grouped : (name voters outgoing learners next flag : List ℕ) → name ++ voters ++ outgoing ++ learners ++ next ++ flag ≡ name ++ (voters ++ (outgoing ++ (learners ++ (next ++ flag))))
text-grouped name voters outgoing learners next flag = simp append_assoc

tokens-config : (c : Configuration) → HasU64Lists c →
    config_tokens_in (config_text c) ≡ config_tokens (map decimal (ascending c.incoming)) (map decimal (ascending c.outgoing)) (map decimal (ascending c.learners)) (map decimal (ascending c.learners_next)) c.auto_leave
tokens-config c small =
    let flag = text_if c.auto_leave (codes " autoleave") in
    let next = text_if (not (is_empty c.learners_next)) (codes " learners_next=" ++ set_text c.learners_next) in
    let learners = text_if (not (is_empty c.learners)) (codes " learners=" ++ set_text c.learners) in
    let outgoing = text_if (is_joint c) (codes "&&" ++ set_text c.outgoing) in
    ap config_tokens_in (text-grouped (codes "voters=") (set_text c.incoming) outgoing learners next flag)
    ∙ tokens-set (codes "voters=") (ascending c.incoming) (outgoing ++ (learners ++ (next ++ flag))) small.incoming
    ∙ ap (λ t. codes "voters" ∷ codes "=" ∷ (bracketed (map decimal (ascending c.incoming)) ++ t))
    (tokens-part (codes "&&") (codes "&&" ∷ []) refl (ascending c.outgoing) small.outgoing (learners ++ (next ++ flag))
    ∙ ap (λ t. part_tokens (codes "&&" ∷ []) (map decimal (ascending c.outgoing)) ++ t)
    (tokens-part (codes " learners=") (codes "learners" ∷ codes "=" ∷ []) refl (ascending c.learners) small.learners (next ++ flag)
    ∙ ap (λ t. part_tokens (codes "learners" ∷ codes "=" ∷ []) (map decimal (ascending c.learners)) ++ t)
    (tokens-part (codes " learners_next=") (codes "learners_next" ∷ codes "=" ∷ []) refl (ascending c.learners_next) small.learners_next flag
    ∙ ap (λ t. part_tokens (codes "learners_next" ∷ codes "=" ∷ []) (map decimal (ascending c.learners_next)) ++ t) (tokens-flag c.auto_leave))))
    ∙ sym (config_tokens-grouped (map decimal (ascending c.incoming)) (map decimal (ascending c.outgoing)) (map decimal (ascending c.learners)) (map decimal (ascending c.learners_next)) c.auto_leave)

pub DenotesConfig-printed : (c : Configuration) → HasU64Lists c → DenotesConfig (config_text c) (lists_of c)
DenotesConfig-printed c small = grind (arith, tokens-config, parsed-decimal)
