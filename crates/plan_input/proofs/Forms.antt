-- How the texts of each form begin.
use Rattle.std.proofs.Common.{◌≡◌, ℕ, Bool, true, false, cond, List, [], ◌∷◌, ◌++◌, refl, sym, ap, ◌∙◌, arith, inl, inr}
use Rattle.std.specs.Prelude.{codes, flat_map, nat_eq}
use Rattle.std.specs.List.{AllZip}
use Rattle.std.specs.Str.Parse.{IsNumeral}
use Rattle.std.proofs.lemmas.Bool.{cases_Bool, ne_eqb, true≢false}
use Rattle.std.proofs.lemmas.Bool.Decides.{nat_tests}
use Rattle.std.proofs.lemmas.Str.Parse.{digit_at}
use Rattle.ascii_text.specs.Tokens.{tokens_in}
use Rattle.ascii_text.specs.WhiteSpace.{is_blank, is_space, without_leading_space, without_trailing_space}
use Rattle.ascii_text.proofs.Offered.{leads-ends, leads-first_token, leads-no_token}
use Rattle.conf_change.specs.ChangeList.{Denotes, ParsesTo, letter_of}
use Rattle.conf_change.specs.ConfState.{ConfStateLists}
use Rattle.conf_change.specs.ConfStateLine.{DenotesConfState}
use Rattle.conf_change.specs.PrintedConfig.{DenotesConfig, is_mark, spaced_mark}
use Rattle.conf_change.specs.declared.change.Change.{Change}
use Rattle.conf_change.specs.declared.change.Kind.{Kind}
use Rattle.conf_change.specs.declared.change.Kind.TheVariants.{Voter, Learner, Remove, Update}
use Rattle.plan_input.specs.Form.{form_of, form_of_trimmed}
use Rattle.plan_input.specs.declared.form.Form.TheVariants.{ConfStateLine, Printed, Other}

-- white space at the ends of a text does not alter its form
pub form-after_space : (text bytes : List ℕ) → without_leading_space text ≡ bytes → form_of text ≡ form_of_trimmed (without_trailing_space bytes)
form-after_space text bytes is = ap form_of_trimmed (leads-ends text ∙ ap without_trailing_space is)

-- ---- changes
-- a letter with a digit after it begins no other form
form-change : (kind : Kind) (number more : List ℕ) → IsNumeral 10 number → form_of_trimmed (without_trailing_space (letter_of kind ∷ number ++ more)) ≡ Other
form-change kind [] more numeral = absurd (omega (arith, numeral.0))
form-change Learner (digit ∷ digits) more numeral = refl
form-change Remove (digit ∷ digits) more numeral = refl
form-change Update (digit ∷ digits) more numeral = refl
form-change Voter (digit ∷ digits) more numeral =
    let range = digit_at (digit ∷ digits) 0 numeral.1 numeral.0 in
    by_blank (is_blank (digit ∷ digits ++ more)) (ne_eqb 111 digit (λ same. omega (arith, range))) where
      by_blank : (blank : Bool) → nat_eq 111 digit ≡ false → form_of_trimmed (118 ∷ cond blank [] (digit ∷ without_trailing_space (digits ++ more))) ≡ Other
      by_blank blank other = grind arith

pub form-changes : (text : List ℕ) (changes : List Change) → Denotes text changes → form_of text ≡ Other
form-changes text changes h = by_tokens (tokens_in text) changes refl h where
  by_tokens : (tokens : List (List ℕ)) (changes : List Change) → tokens_in text ≡ tokens → AllZip ParsesTo tokens changes → form_of text ≡ Other
  by_tokens [] [] is parsed = form-after_space text [] (leads-no_token text is)
  by_tokens [] (change ∷ changes) is parsed = absurd parsed
  by_tokens (token ∷ tokens) [] is parsed = absurd parsed
  by_tokens (token ∷ tokens) (change ∷ changes) is parsed =
      let first = leads-first_token text token tokens is in
      form-after_space text _ (first.1 ∙ ap (λ t. t ++ first.0) parsed.0.letter_first) ∙ form-change change.kind parsed.0.number first.0 parsed.0.id_after.numeral

-- ---- ConfState lines
pub form-line : (text : List ℕ) (saved : ConfStateLists) → DenotesConfState text saved → form_of text ≡ ConfStateLine
form-line text saved h = ap form_of_trimmed h.line

-- ---- printed configurations
no_mark : (b : ℕ) → is_space b ≡ true → is_mark b ≡ false
no_mark b space = grind (arith, nat_tests)

-- no byte is white space
abbrev IsBlack : List ℕ → Type 0
IsBlack [] = Unit {0}
IsBlack (b ∷ bytes) = (is_space b ≡ false) × IsBlack bytes

-- a text whose marks are spaced begins as the text does
unspaced-name : (name more text : List ℕ) → IsBlack name → flat_map spaced_mark text ≡ name ++ more → (after : List ℕ) × (text ≡ name ++ after)
unspaced-name [] more text black e = (text, refl)
unspaced-name (c ∷ name) more [] black e = absurd cc
unspaced-name (c ∷ name) more (b ∷ bytes) black e = elim (cases_Bool (is_mark b)) [
  | inl is ↦
      let f = rw is at e in
      let same : 32 ≡ c = cc in
      absurd (true≢false (ap is_space same ∙ black.0))
  | inr is ↦
      let f = rw is at e in
      let same : b ≡ c = cc in
      let rest : flat_map spaced_mark bytes ≡ name ++ more = cc in
      let found = unspaced-name name more bytes black.1 rest in
      (found.0, ap (λ t. t ∷ bytes) same ∙ ap (λ t. c ∷ t) found.1)
]

unspaced-leads : (c : ℕ) (name more text : List ℕ) → is_mark c ≡ false → IsBlack (c ∷ name) →
    without_leading_space (flat_map spaced_mark text) ≡ c ∷ name ++ more → (after : List ℕ) × (without_leading_space text ≡ c ∷ name ++ after)
unspaced-leads c name more [] unmarked black e = absurd cc
unspaced-leads c name more (b ∷ bytes) unmarked black e = elim (cases_Bool (is_space b)) [
  | inl is ↦ rw is (unspaced-leads c name more bytes unmarked black (rw (no_mark b is, is) at e))
  | inr is ↦ elim (cases_Bool (is_mark b)) [
    | inl marked ↦
        let f = rw (marked, is) at e in
        let same : b ≡ c = cc in
        absurd (true≢false (sym marked ∙ ap is_mark same ∙ unmarked))
    | inr other ↦ rw is (unspaced-name (c ∷ name) more (b ∷ bytes) black (let f = rw (other, is) at e in rw other f))
  ]
]

pub form-printed : (text : List ℕ) (saved : ConfStateLists) → DenotesConfig text saved → form_of text ≡ Printed
form-printed text saved h =
    let first = leads-first_token (flat_map spaced_mark text) (codes "voters") _ h.printed in
    let begins = unspaced-leads 118 (codes "oters") first.0 text refl (refl, (refl, (refl, (refl, (refl, (refl, tt)))))) first.1 in
    form-after_space text _ begins.1
