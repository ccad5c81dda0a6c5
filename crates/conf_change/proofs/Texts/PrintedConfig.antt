-- The function that reads a printed configuration, against the relation.
use Rattle.std.proofs.Common.{◌≡◌, ℕ, Bool, true, false, List, [], ◌∷◌, ◌++◌, Option, Some, None, ◌<◌, length, refl, sym, ap, ◌∙◌, append_assoc, arith}
use Rattle.std.specs.Prelude.{codes, option_and_then, bytes_eq, if◌then◌else◌}
use Rattle.std.specs.List.{AllZip}
use Rattle.std.proofs.lemmas.Bool.{false_from_ne_true}
use Rattle.std.proofs.lemmas.Option.{cond_some, option_and_then_some, same_Some}
use Rattle.std.proofs.lemmas.Slice.Eq.{bytes_eq-Decides}
use Rattle.ascii_text.specs.Number.{ParsesToNumber}
use Rattle.ascii_text.proofs.Offered.{number_in-ok, ParsesToNumber-from_some}
use Rattle.conf_change.specs.ConfState.{ConfStateLists}
use Rattle.conf_change.specs.PrintedConfig.{after_name, after_token, auto_leave_at_end, bracketed, config_in, config_tokens, config_tokens_in, DenotesConfig, numbers_to_close, part_in, part_tokens, set_in, with_numbers}

-- numbers and the tokens after them
abbrev Read : Type 0
Read = List ℕ × List (List ℕ)

-- ---- a set that is read is denoted
-- a number is not a closing bracket
number-not_close : (token : List ℕ) (number : ℕ) → ParsesToNumber token number → bytes_eq token (codes ")") ≡ false
number-not_close token number parsed = grind (arith, false_from_ne_true, bytes_eq-Decides, number_in-ok, parsed)

numbers_to_close-ok : (ids : List (List ℕ)) (numbers : List ℕ) (rest : List (List ℕ)) → AllZip ParsesToNumber ids numbers → numbers_to_close (ids ++ codes ")" ∷ rest) ≡ Some (numbers, rest)
numbers_to_close-ok [] [] rest parsed = refl
numbers_to_close-ok [] (number ∷ numbers) rest parsed = absurd parsed
numbers_to_close-ok (id ∷ ids) [] rest parsed = absurd parsed
numbers_to_close-ok (id ∷ ids) (number ∷ numbers) rest parsed =
    rw (number-not_close id number parsed.0, number_in-ok id number parsed.0, numbers_to_close-ok ids numbers rest parsed.1) refl

set_in-ok : (ids : List (List ℕ)) (numbers : List ℕ) (rest : List (List ℕ)) → AllZip ParsesToNumber ids numbers → set_in (bracketed ids ++ rest) ≡ Some (numbers, rest)
set_in-ok ids numbers rest parsed = ap numbers_to_close (append_assoc ids (codes ")" ∷ []) rest) ∙ numbers_to_close-ok ids numbers rest parsed

-- ---- the parts that may be left out, from the last
abbrev last_tokens : Bool → List (List ℕ)
last_tokens auto_leave = if auto_leave then codes "autoleave" ∷ [] else []

abbrev next_tokens : List (List ℕ) → Bool → List (List ℕ)
next_tokens next auto_leave = part_tokens (codes "learners_next" ∷ codes "=" ∷ []) next ++ last_tokens auto_leave

abbrev learner_tokens : List (List ℕ) → List (List ℕ) → Bool → List (List ℕ)
learner_tokens learners next auto_leave = part_tokens (codes "learners" ∷ codes "=" ∷ []) learners ++ next_tokens next auto_leave

abbrev outgoing_tokens : List (List ℕ) → List (List ℕ) → List (List ℕ) → Bool → List (List ℕ)
outgoing_tokens outgoing learners next auto_leave = part_tokens (codes "&&" ∷ []) outgoing ++ learner_tokens learners next auto_leave

auto_leave-ok : (auto_leave : Bool) → auto_leave_at_end (last_tokens auto_leave) ≡ Some auto_leave
auto_leave-ok auto_leave = grind arith

-- a part that is there or left out, before others
part-ok : (before : List (List ℕ)) (begins : List (List ℕ) → Option (List (List ℕ))) (ids : List (List ℕ)) (numbers : List ℕ) (rest : List (List ℕ)) → AllZip ParsesToNumber ids numbers
    → begins rest ≡ None → ((more : List (List ℕ)) → begins (before ++ more) ≡ Some more)
    → part_in (begins (part_tokens before ids ++ rest)) (part_tokens before ids ++ rest) ≡ Some (numbers, rest)
part-ok before begins [] [] rest parsed none some = ap (λ begun. part_in begun rest) none
part-ok before begins [] (number ∷ numbers) rest parsed none some = absurd parsed
part-ok before begins (id ∷ ids) [] rest parsed none some = absurd parsed
part-ok before begins (id ∷ ids) (number ∷ numbers) rest parsed none some =
    ap (λ begun. part_in begun (part_tokens before (id ∷ ids) ++ rest)) (ap begins (append_assoc before (bracketed (id ∷ ids)) rest) ∙ some (bracketed (id ∷ ids) ++ rest))
    ∙ ap (option_and_then with_numbers) (set_in-ok (id ∷ ids) (number ∷ numbers) rest parsed)

next-none : (auto_leave : Bool) → after_name (codes "learners_next") (last_tokens auto_leave) ≡ None
next-none auto_leave = grind arith

learners-none : (next : List (List ℕ)) (auto_leave : Bool) → after_name (codes "learners") (next_tokens next auto_leave) ≡ None
learners-none next auto_leave = grind arith

outgoing-none : (learners next : List (List ℕ)) (auto_leave : Bool) → after_token (codes "&&") (learner_tokens learners next auto_leave) ≡ None
outgoing-none learners next auto_leave = grind arith

-- the parts, grouped from the last
pub config_tokens-grouped : (voters outgoing learners next : List (List ℕ)) (auto_leave : Bool) →
    config_tokens voters outgoing learners next auto_leave ≡ codes "voters" ∷ codes "=" ∷ (bracketed voters ++ outgoing_tokens outgoing learners next auto_leave)
config_tokens-grouped voters outgoing learners next auto_leave = simp append_assoc

pub config_in-ok : (text : List ℕ) (saved : ConfStateLists) → DenotesConfig text saved → config_in text ≡ Some saved
config_in-ok text saved h =
    rw (h.printed ∙ config_tokens-grouped h.voters h.voters_outgoing h.learners h.learners_next saved.auto_leave)
    (rw (set_in-ok h.voters saved.voters (outgoing_tokens h.voters_outgoing h.learners h.learners_next saved.auto_leave) h.parsed_voters)
    (rw (part-ok (codes "&&" ∷ []) (after_token (codes "&&")) h.voters_outgoing saved.voters_outgoing (learner_tokens h.learners h.learners_next saved.auto_leave) h.parsed_voters_outgoing
    (outgoing-none h.learners h.learners_next saved.auto_leave) (λ more. refl))
    (rw (part-ok (codes "learners" ∷ codes "=" ∷ []) (after_name (codes "learners")) h.learners saved.learners (next_tokens h.learners_next saved.auto_leave) h.parsed_learners
    (learners-none h.learners_next saved.auto_leave) (λ more. refl))
    (rw (part-ok (codes "learners_next" ∷ codes "=" ∷ []) (after_name (codes "learners_next")) h.learners_next saved.learners_next (last_tokens saved.auto_leave) h.parsed_learners_next
    (next-none saved.auto_leave) (λ more. refl))
    (rw (auto_leave-ok saved.auto_leave) refl)))))

-- ---- a set that is denoted is read
after_token-is : (expected : List ℕ) (tokens rest : List (List ℕ)) → after_token expected tokens ≡ Some rest → tokens ≡ expected ∷ rest
after_token-is expected [] rest e = absurd cc
after_token-is expected (token ∷ tokens) rest e = grind (arith, cond_some, bytes_eq-Decides)

after_name-is : (name : List ℕ) (tokens rest : List (List ℕ)) → after_name name tokens ≡ Some rest → tokens ≡ name ∷ codes "=" ∷ rest
after_name-is name tokens rest e = grind (arith, option_and_then_some, after_token-is)

-- the tokens are those of ids, with others after them
record Begins (parts : List (List ℕ) → List (List ℕ)) (tokens : List (List ℕ)) (read : Read) : Type 0 where
  ids : List (List ℕ)
  whole : tokens ≡ parts ids ++ read.1
  parsed : AllZip ParsesToNumber ids read.0

abbrev closed : List (List ℕ) → List (List ℕ)
closed ids = ids ++ codes ")" ∷ []

Begins-close : (tokens : List (List ℕ)) (numbers : List ℕ) (rest : List (List ℕ)) → numbers_to_close tokens ≡ Some (numbers, rest) → Begins closed tokens (numbers, rest)
Begins-close [] numbers rest e = absurd cc
Begins-close (token ∷ tokens) [] rest e =
    let close : bytes_eq token (codes ")") ≡ true = grind arith in
    let end : tokens ≡ rest = grind arith in
    record { ids = []; whole = λ i. (bytes_eq-Decides token (codes ")")).0 close i ∷ end i; parsed = tt }
Begins-close (token ∷ tokens) (number ∷ numbers) rest e =
    let more = Begins-close tokens numbers rest (grind arith) in
    record { ids = token ∷ more.ids; whole = ap (λ ts. token ∷ ts) more.whole; parsed = (ParsesToNumber-from_some token number (grind arith), more.parsed) }

Begins-set : (tokens : List (List ℕ)) (read : Read) → set_in tokens ≡ Some read → Begins bracketed tokens read
Begins-set tokens read e =
    option_and_then_some numbers_to_close (after_token (codes "(") tokens) read e (λ opened is closes.
    let rest = Begins-close opened read.0 read.1 closes in
    record { ids = rest.ids; whole = after_token-is (codes "(") tokens opened is ∙ ap (λ ts. codes "(" ∷ ts) rest.whole; parsed = rest.parsed })

-- a part that begins after these tokens
set_parts : (set : Option Read) (numbers : List ℕ) (rest : List (List ℕ)) → option_and_then with_numbers set ≡ Some (numbers, rest) → (set ≡ Some (numbers, rest)) × (0 < length numbers)
set_parts set numbers rest e = (grind arith, grind arith)

Begins-part : (before : List (List ℕ)) (begun : Option (List (List ℕ))) (tokens : List (List ℕ)) (read : Read) →
    ((rest : List (List ℕ)) → begun ≡ Some rest → tokens ≡ before ++ rest) → part_in begun tokens ≡ Some read → Begins (part_tokens before) tokens read
Begins-part before None tokens read is e = let same : ([], tokens) ≡ read = cc in rw (sym same) (record { ids = []; whole = refl; parsed = tt })
Begins-part before (Some rest) tokens read is e =
    let parts = set_parts (set_in rest) read.0 read.1 e in
    let set = Begins-set rest read parts.0 in
    by_ids set.ids read.0 parts.1 set.whole set.parsed where
      by_ids : (ids : List (List ℕ)) (numbers : List ℕ) → 0 < length numbers → rest ≡ bracketed ids ++ read.1 → AllZip ParsesToNumber ids numbers → Begins (part_tokens before) tokens (numbers, read.1)
      by_ids ids [] some whole parsed = absurd (omega (arith, some))
      by_ids [] (number ∷ numbers) some whole parsed = absurd parsed
      by_ids (id ∷ ids) (number ∷ numbers) some whole parsed = record {
        ids = id ∷ ids;
        whole = is rest refl ∙ ap (λ ts. before ++ ts) whole ∙ sym (append_assoc before (bracketed (id ∷ ids)) read.1);
        parsed = parsed;
      }

auto_leave-is : (tokens : List (List ℕ)) (auto_leave : Bool) → auto_leave_at_end tokens ≡ Some auto_leave → tokens ≡ last_tokens auto_leave
auto_leave-is [] auto_leave e = let same : auto_leave ≡ false = cc in rw same refl
auto_leave-is (token ∷ []) auto_leave e = grind (arith, cond_some, bytes_eq-Decides)
auto_leave-is (token ∷ next ∷ tokens) auto_leave e = absurd cc

-- a part that was read, and what was made of it and the tokens after it
part-then : (before : List (List ℕ)) (begins : List (List ℕ) → Option (List (List ℕ))) (tokens : List (List ℕ)) (more : Read → Option ConfStateLists) (saved : ConfStateLists)
    → ((rest : List (List ℕ)) → begins tokens ≡ Some rest → tokens ≡ before ++ rest) → option_and_then more (part_in (begins tokens) tokens) ≡ Some saved
    → (read : Read) × Begins (part_tokens before) tokens read × (more read ≡ Some saved)
part-then before begins tokens more saved is e =
    option_and_then_some more (part_in (begins tokens) tokens) saved e (λ read found rest. (read, Begins-part before (begins tokens) tokens read is found, rest))

pub DenotesConfig-from_some : (text : List ℕ) (saved : ConfStateLists) → config_in text ≡ Some saved → DenotesConfig text saved
DenotesConfig-from_some text saved e =
    let tokens = config_tokens_in text in
    option_and_then_some _ (option_and_then set_in (after_name (codes "voters") tokens)) saved e (λ first is_first e2.
    option_and_then_some set_in (after_name (codes "voters") tokens) first is_first (λ named is_named is_set.
    let voters = Begins-set named first is_set in
    let outgoing = part-then (codes "&&" ∷ []) (after_token (codes "&&")) first.1 _ saved (after_token-is (codes "&&") first.1) e2 in
    let learners = part-then (codes "learners" ∷ codes "=" ∷ []) (after_name (codes "learners")) outgoing.0.1 _ saved (after_name-is (codes "learners") outgoing.0.1) outgoing.2 in
    let next = part-then (codes "learners_next" ∷ codes "=" ∷ []) (after_name (codes "learners_next")) learners.0.1 _ saved (after_name-is (codes "learners_next") learners.0.1) learners.2 in
    option_and_then_some _ (auto_leave_at_end next.0.1) saved next.2 (λ flag is_flag same. rw (sym (same_Some _ saved same)) (record {
      voters = voters.ids;
      voters_outgoing = outgoing.1.ids;
      learners = learners.1.ids;
      learners_next = next.1.ids;
      printed =
          after_name-is (codes "voters") tokens named is_named
          ∙ ap (λ ts. codes "voters" ∷ codes "=" ∷ ts) (voters.whole ∙ ap (λ ts. bracketed voters.ids ++ ts) (outgoing.1.whole ∙ ap (λ ts. part_tokens (codes "&&" ∷ []) outgoing.1.ids ++ ts)
          (learners.1.whole ∙ ap (λ ts. part_tokens (codes "learners" ∷ codes "=" ∷ []) learners.1.ids ++ ts)
          (next.1.whole ∙ ap (λ ts. part_tokens (codes "learners_next" ∷ codes "=" ∷ []) next.1.ids ++ ts) (auto_leave-is next.0.1 flag is_flag)))))
          ∙ sym (config_tokens-grouped voters.ids outgoing.1.ids learners.1.ids next.1.ids flag);
      parsed_voters = voters.parsed;
      parsed_voters_outgoing = outgoing.1.parsed;
      parsed_learners = learners.1.parsed;
      parsed_learners_next = next.1.parsed;
    }))))

pub DenotesConfig-same : (text : List ℕ) (a b : ConfStateLists) → DenotesConfig text a → DenotesConfig text b → a ≡ b
DenotesConfig-same text a b first second = same_Some a b (sym (config_in-ok text a first) ∙ config_in-ok text b second)

-- ---- the tokens, one by one
-- the numbers so far, before those of the rest
abbrev pub onto_read : List ℕ → Option Read → Option Read
onto_read numbers None = None
onto_read numbers (Some read) = Some (numbers ++ read.0, read.1)
