-- The function that reads change lists, against the relation.
use Rattle.std.proofs.Common.{◌≡◌, ◌≢◌, ℕ, ◌<◌, List, [], ◌∷◌, ◌++◌, length, Option, Some, None, Result, Ok, Err, refl, ap, ◌∙◌, arith}
use Rattle.std.specs.List.{AllZip}
use Rattle.std.proofs.lemmas.Bool.Decides.{nat_tests}
use Rattle.ascii_text.specs.Number.{ParsesToNumber, number_in}
use Rattle.conf_change.specs.ChangeList.{letter_of, ParsesTo, BadToken, unknown_token, unknown_input, bad_number, token_of, HasReason, IsFirstBad, kind_in, with_kind, change_in, changes_in_tokens}
use Rattle.conf_change.specs.declared.change.Change.{Change}
use Rattle.conf_change.specs.declared.change.Kind.{Kind}
use Rattle.conf_change.specs.declared.change.Kind.TheVariants.{Voter, Learner, Remove, Update}
use Rattle.ascii_text.proofs.Offered.{number_in-ok, ParsesToNumber-from_some, number_in-none}

-- changes that were read, before what the rest denotes
abbrev pub onto : List Change → Result (List Change) BadToken → Result (List Change) BadToken
onto done (Ok more) = Ok (done ++ more)
onto done (Err bad) = Err bad

pub kind_in-letter_of : (kind : Kind) → kind_in (letter_of kind) ≡ Some kind
kind_in-letter_of kind = grind arith

letter_from_kind : (byte : ℕ) (kind : Kind) → kind_in byte ≡ Some kind → byte ≡ letter_of kind
letter_from_kind byte kind e = grind (arith, nat_tests)

kind_in-none : (byte : ℕ) → ((kind : Kind) → byte ≢ letter_of kind) → kind_in byte ≡ None
kind_in-none byte none = grind (arith, nat_tests, none Voter, none Learner, none Remove, none Update)

change_in-some : (letter digit id : ℕ) (rest : List ℕ) (kind : Kind) → kind_in letter ≡ Some kind → number_in (digit ∷ rest) ≡ Some id → change_in (letter ∷ digit ∷ rest) ≡ Ok (record { kind = kind; id = id })
change_in-some letter digit id rest kind is_kind is_number = rw (is_kind, is_number) refl

change_in-ok : (token : List ℕ) (change : Change) → ParsesTo token change → change_in token ≡ Ok change
change_in-ok token change h = go h.number h.letter_first h.id_after where
  go : (number : List ℕ) → token ≡ letter_of change.kind ∷ number → ParsesToNumber number change.id → change_in token ≡ Ok change
  go [] is parsed = absurd (omega (arith, parsed.numeral.0))
  go (digit ∷ rest) is parsed = ap change_in is ∙ change_in-some (letter_of change.kind) digit change.id rest change.kind (kind_in-letter_of change.kind) (number_in-ok (digit ∷ rest) change.id parsed)

-- a change that was read has the kind of its letter and the number after it
parsed_parts : (token rest : List ℕ) (kind : Option Kind) (change : Change) → with_kind token kind rest ≡ Ok change → (kind ≡ Some change.kind) × (number_in rest ≡ Some change.id)
parsed_parts token rest kind change e = (grind arith, grind arith)

ParsesTo-from_ok : (token : List ℕ) (change : Change) → change_in token ≡ Ok change → ParsesTo token change
ParsesTo-from_ok [] change e = absurd cc
ParsesTo-from_ok (letter ∷ []) change e = absurd cc
ParsesTo-from_ok (letter ∷ digit ∷ rest) change e =
    let both = parsed_parts (letter ∷ digit ∷ rest) (digit ∷ rest) (kind_in letter) change e in
    record {
      number = digit ∷ rest;
      letter_first = ap (λ first. first ∷ digit ∷ rest) (letter_from_kind letter change.kind both.0);
      id_after = ParsesToNumber-from_some (digit ∷ rest) change.id both.1;
    }

not_parsed : (number : List ℕ) → number_in number ≡ None → (id : ℕ) → ¬ (ParsesToNumber number id)
not_parsed number none id h = let some = number_in-ok number id h in cc

not_letter : (byte : ℕ) → kind_in byte ≡ None → (kind : Kind) → byte ≢ letter_of kind
not_letter byte none kind is = let some = ap kind_in is ∙ kind_in-letter_of kind in cc

-- the bad token is the token itself, and its reason is true
abbrev Blames : List ℕ → BadToken → Type 0
Blames token bad = (token ≡ token_of bad) × HasReason bad

Blames-from_err : (token : List ℕ) (bad : BadToken) → change_in token ≡ Err bad → Blames token bad
Blames-from_err [] bad e = let is : bad ≡ unknown_token [] = cc in rw is (refl, omega arith)
Blames-from_err (letter ∷ []) bad e = let is : bad ≡ unknown_token (letter ∷ []) = cc in rw is (refl, omega arith)
Blames-from_err (letter ∷ digit ∷ rest) bad e = go (kind_in letter) (number_in (digit ∷ rest)) refl refl where
  go : (k : Option Kind) (n : Option ℕ) → kind_in letter ≡ k → number_in (digit ∷ rest) ≡ n → Blames (letter ∷ digit ∷ rest) bad
  go None n is_kind is_number =
      let f = rw is_kind at e in
      let is : bad ≡ unknown_input (letter ∷ digit ∷ rest) = cc in
      rw is (refl, (omega arith, not_letter letter is_kind))
  go (Some kind) None is_kind is_number =
      let f = rw (is_kind, is_number) at e in
      let is : bad ≡ bad_number (letter ∷ digit ∷ rest) = cc in
      rw is (refl, (kind, digit ∷ rest, omega arith, ap (λ first. first ∷ digit ∷ rest) (letter_from_kind letter kind is_kind), not_parsed (digit ∷ rest) is_number))
  go (Some kind) (Some id) is_kind is_number = let f = rw (is_kind, is_number) at e in absurd cc

change_in-err : (bad : BadToken) → HasReason bad → change_in (token_of bad) ≡ Err bad
change_in-err (unknown_token []) reason = refl
change_in-err (unknown_token (letter ∷ [])) reason = refl
change_in-err (unknown_token (letter ∷ digit ∷ rest)) reason = absurd (omega arith)
change_in-err (unknown_input []) reason = absurd (omega (arith, reason.0))
change_in-err (unknown_input (letter ∷ [])) reason = absurd (omega (arith, reason.0))
change_in-err (unknown_input (letter ∷ digit ∷ rest)) reason = rw (kind_in-none letter reason.1) refl
change_in-err (bad_number token) reason = go reason.1 reason.2 reason.3 reason.4 where
  go : (rest : List ℕ) → 1 < length token → token ≡ letter_of reason.0 ∷ rest → ((id : ℕ) → ¬ (ParsesToNumber rest id)) → change_in token ≡ Err (bad_number token)
  go [] long is none = absurd (omega (arith, ap length is))
  go (digit ∷ rest) long is none = rw is (rw (kind_in-letter_of reason.0, number_in-none (digit ∷ rest) none) refl)

-- the tokens of a text, one after another
pub changes_in_tokens-ok : (tokens : List (List ℕ)) (changes : List Change) → AllZip ParsesTo tokens changes → changes_in_tokens tokens ≡ Ok changes
changes_in_tokens-ok [] [] h = refl
changes_in_tokens-ok [] (change ∷ changes) h = absurd h
changes_in_tokens-ok (token ∷ tokens) [] h = absurd h
changes_in_tokens-ok (token ∷ tokens) (change ∷ changes) h = rw (change_in-ok token change h.0, changes_in_tokens-ok tokens changes h.1) refl

pub AllZip-from_ok : (tokens : List (List ℕ)) (changes : List Change) → changes_in_tokens tokens ≡ Ok changes → AllZip ParsesTo tokens changes
AllZip-from_ok [] [] e = tt
AllZip-from_ok [] (change ∷ changes) e = absurd cc
AllZip-from_ok (token ∷ tokens) [] e = absurd (grind arith)
AllZip-from_ok (token ∷ tokens) (change ∷ changes) e = (ParsesTo-from_ok token change (grind arith), AllZip-from_ok tokens changes (grind arith))

pub IsFirstBad-from_err : (tokens : List (List ℕ)) (bad : BadToken) → changes_in_tokens tokens ≡ Err bad → IsFirstBad tokens bad
IsFirstBad-from_err [] bad e = absurd cc
IsFirstBad-from_err (token ∷ tokens) bad e = elim (change_in token) as (λ first. change_in token ≡ first → IsFirstBad (token ∷ tokens) bad) [
  | Err found ↦ λ is_first.
      let blames = Blames-from_err token bad (grind (arith, e, is_first)) in
      record { before = []; after = tokens; changes = []; position = ap (λ t. t ∷ tokens) blames.0; parsed = tt; reason = blames.1 }
  | Ok change ↦ λ is_first.
      let later = IsFirstBad-from_err tokens bad (grind (arith, e, is_first)) in
      record {
        before = token ∷ later.before;
        after = later.after;
        changes = change ∷ later.changes;
        position = ap (λ ts. token ∷ ts) later.position;
        parsed = (ParsesTo-from_ok token change is_first, later.parsed);
        reason = later.reason;
      }
] refl

pub changes_in_tokens-err : (before : List (List ℕ)) (changes : List Change) (bad : BadToken) (after : List (List ℕ)) → AllZip ParsesTo before changes → HasReason bad → changes_in_tokens (before ++ token_of bad ∷ after) ≡ Err bad
changes_in_tokens-err [] changes bad after parsed reason = rw (change_in-err bad reason) refl
changes_in_tokens-err (token ∷ before) [] bad after parsed reason = absurd parsed
changes_in_tokens-err (token ∷ before) (change ∷ changes) bad after parsed reason =
    rw (change_in-ok token change parsed.0, changes_in_tokens-err before changes bad after parsed.1 reason) refl
