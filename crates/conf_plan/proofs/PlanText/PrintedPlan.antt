-- The printed lines of a path denote its steps.
use Rattle.std.proofs.Common.{◌≡◌, ℕ, ◌<◌, ◌≤◌, ◌^◌, ◌==◌, Bool, true, false, not, List, [], ◌∷◌, ◌++◌, length, get_or, map, Ok, refl, ◌∙◌, arith, inl, inr}
use Rattle.std.specs.Prelude.{codes, decimal, flat_map}
use Rattle.std.specs.List.{All, AllByRecursion, AllZip, list_all, join_with_byte}
use Rattle.std.specs.Str.Parse.{AllDigits}
use Rattle.std.proofs.lemmas.Bool.{lt-ltb, not-true, and_from}
use Rattle.std.proofs.lemmas.Bool.Decides.{nat_tests}
use Rattle.std.proofs.lemmas.Fmt.{decimal_is_IsNumeral}
use Rattle.std.proofs.lemmas.List.{append_assoc, length-append, append-nil}
use Rattle.std.proofs.lemmas.List.Elements.{All-from_get_or, All-weaker, recursion_from_All}
use Rattle.std.proofs.lemmas.List.Folds.{list_all-append}
use Rattle.std.proofs.lemmas.List.Sums.{AllPass-from_list_all, list_all-from_AllPass}
use Rattle.std.proofs.lemmas.List.Splits.{slice_split_none}
use Rattle.std.proofs.lemmas.Str.Parse.{digit_at}
use Rattle.ascii_text.specs.Lines.{full_lines}
use Rattle.ascii_text.specs.WhiteSpace.{is_space}
use Rattle.ascii_text.specs.Tokens.{has_bytes, tokens_in}
use Rattle.ascii_text.proofs.Offered.{tokens_in-at_space}
use Rattle.conf_change.specs.ChangeList.{letter_of, ParsesTo, Denotes}
use Rattle.conf_change.specs.declared.change.Change.{Change}
use Rattle.conf_change.specs.declared.change.Kind.{Kind}
use Rattle.conf_change.specs.declared.step.Step.{Step}
use Rattle.conf_change.specs.declared.step.Step.TheVariants.{Simple, EnterJoint, LeaveJoint}
use Rattle.conf_change.specs.Step.{changes_of}
use Rattle.conf_plan.specs.PlanSteps.{HasU64Ids, IsPlan}
use Rattle.conf_plan.specs.PlanText.{command_tokens, change_text, line_text, line_and_newline, plan_text, IsLineOf, ParsesToPath, ParsesToPlan}
use Rattle.conf_plan.specs.PlanCode.{path_in}
use Rattle.conf_plan.proofs.PlanText.PlanFromLines.{path_in-is_exact}
use Rattle.conf_plan.proofs.PlanText.ReadSoFar.{plan_lines-full}

-- ---- tokens
-- each byte passes the test
abbrev IsAll : (ℕ → Bool) → List ℕ → Type 0
IsAll test bytes = list_all test bytes ≡ true

abbrev is_black : ℕ → Bool
is_black byte = not (is_space byte)

-- a token has a byte and no white space
abbrev IsToken : List ℕ → Type 0
IsToken token = (has_bytes token ≡ true) × IsAll is_black token

tokens_in-one : (token : List ℕ) → IsToken token → tokens_in token ≡ token ∷ []
tokens_in-one token is = grind (arith, All-weaker, true, false, not-true, AllPass-from_list_all, slice_split_none)

-- the tokens of tokens with one space between
tokens_in-join : (tokens : List (List ℕ)) → AllByRecursion IsToken tokens → tokens_in (join_with_byte 32 tokens) ≡ tokens
tokens_in-join [] h = refl
tokens_in-join (token ∷ []) h = tokens_in-one token h.0
tokens_in-join (token ∷ next ∷ more) h =
    tokens_in-at_space token 32 (join_with_byte 32 (next ∷ more)) refl ∙ (λ i. tokens_in-one token h.0 i ++ tokens_in-join (next ∷ more) h.1 i)

-- there is no newline among them
abbrev is_no_newline : ℕ → Bool
is_no_newline byte = not (byte == 10)

no_newline-black : (bytes : List ℕ) → IsAll is_black bytes → IsAll is_no_newline bytes
no_newline-black [] h = refl
no_newline-black (byte ∷ bytes) h = grind (arith, nat_tests, no_newline-black bytes)

no_newline-join : (tokens : List (List ℕ)) → AllByRecursion IsToken tokens → IsAll is_no_newline (join_with_byte 32 tokens)
no_newline-join [] h = refl
no_newline-join (token ∷ []) h = no_newline-black token h.0.1
no_newline-join (token ∷ next ∷ more) h = grind (arith, list_all-append, and_from, no_newline-black, no_newline-join (next ∷ more) h.1)

-- ---- the tokens of a step
abbrev IsU64 : Change → Type 0
IsU64 change = change.id < 2 ^ 64

is_black-digit : (byte : ℕ) → 48 ≤ byte → byte ≤ 57 → is_black byte ≡ true
is_black-digit byte low high = grind (arith, nat_tests)

is_black-letter : (kind : Kind) → is_black (letter_of kind) ≡ true
is_black-letter kind = grind arith

IsToken-change : (change : Change) → IsU64 change → IsToken (change_text change)
IsToken-change change small =
    let digits = decimal change.id in
    let all : AllDigits 10 digits = (decimal_is_IsNumeral change.id small).0.1 in
    let black = All-from_get_or (λ byte. is_black byte ≡ true) digits 0 (λ i within. let range = digit_at digits i all within in is_black-digit (get_or digits i 0) range.0 range.1) in
    (lt-ltb 0 (length (change_text change)) (omega arith), and_from _ _ (is_black-letter change.kind) (list_all-from_AllPass is_black digits black))

changes_are_tokens : (changes : List Change) → AllByRecursion IsU64 changes → AllByRecursion IsToken (map change_text changes)
changes_are_tokens [] h = tt
changes_are_tokens (change ∷ changes) h = (IsToken-change change h.0, changes_are_tokens changes h.1)

parsed-printed : (changes : List Change) → AllByRecursion IsU64 changes → AllZip ParsesTo (map change_text changes) changes
parsed-printed [] h = tt
parsed-printed (change ∷ changes) h =
    let printed = decimal_is_IsNumeral change.id h.0 in
    (record { number = decimal change.id; letter_first = refl; id_after = record { numeral = printed.0; value = printed.1; in_range = h.0 } }, parsed-printed changes h.1)

-- so are read the changes of a step
pub Denotes-printed : (changes : List Change) → All IsU64 changes → Denotes (join_with_byte 32 (map change_text changes)) changes
Denotes-printed changes h = grind (arith, recursion_from_All, tokens_in-join, map, changes_are_tokens, parsed-printed)

-- the tokens of a line are its command and its changes
abbrev all_tokens : Step → List (List ℕ)
all_tokens step = command_tokens step ++ map change_text (changes_of step)

all_are_tokens : (step : Step) → AllByRecursion IsU64 (changes_of step) → AllByRecursion IsToken (all_tokens step)
all_are_tokens (Simple changes) h = ((refl, refl), changes_are_tokens changes h)
all_are_tokens (EnterJoint true changes) h = ((refl, refl), ((refl, refl), changes_are_tokens changes h))
all_are_tokens (EnterJoint false changes) h = ((refl, refl), ((refl, refl), changes_are_tokens changes h))
all_are_tokens LeaveJoint h = ((refl, refl), tt)

step_tokens : (step : Step) → HasU64Ids step → AllByRecursion IsToken (all_tokens step)
step_tokens step h = all_are_tokens step (recursion_from_All IsU64 (changes_of step) h)

IsLineOf-printed : (step : Step) → HasU64Ids step → IsLineOf (line_and_newline step) step
IsLineOf-printed step h = grind (arith, map, tokens_in-at_space, append-nil, tokens_in-join, step_tokens, parsed-printed, recursion_from_All)

-- ---- the lines
full_lines-line : (line rest : List ℕ) → IsAll is_no_newline line → full_lines (line ++ 10 ∷ rest) ≡ (line ++ 10 ∷ []) ∷ full_lines rest
full_lines-line [] rest h = refl
full_lines-line (byte ∷ line) rest h = grind (arith, full_lines-line line rest)

full_lines-printed : (steps : List Step) → AllByRecursion HasU64Ids steps → full_lines (flat_map line_and_newline steps) ≡ map line_and_newline steps
full_lines-printed [] h = refl
full_lines-printed (step ∷ steps) h = grind (arith, append_assoc, full_lines-line, no_newline-join, step_tokens, full_lines-printed steps h.1)

lines-printed : (steps : List Step) → AllByRecursion HasU64Ids steps → AllZip IsLineOf (map line_and_newline steps) steps
lines-printed [] h = tt
lines-printed (step ∷ steps) h = (IsLineOf-printed step h.0, lines-printed steps h.1)

pub ParsesToPath-printed : (steps : List Step) → All HasU64Ids steps → ParsesToPath (plan_text steps) steps
ParsesToPath-printed [] h = inl (refl, record { line = codes "nothing to do\n"; alone = refl; line_tokens = refl })
ParsesToPath-printed (step ∷ steps) h =
    let small = recursion_from_All HasU64Ids (step ∷ steps) h in
    let rest = flat_map line_and_newline steps in
    let some : 0 < length (plan_text (step ∷ steps)) = omega (arith, length-append (line_and_newline step) rest, length-append (line_text step) (codes "\n")) in
    inr (rw (plan_lines-full (plan_text (step ∷ steps)) some ∙ full_lines-printed (step ∷ steps) small) (lines-printed (step ∷ steps) small))

pub path_in-printed : (steps : List Step) → All HasU64Ids steps → path_in (plan_text steps) ≡ Ok steps
path_in-printed steps h = (path_in-is_exact (plan_text steps)).ok steps (ParsesToPath-printed steps h)

pub ParsesToPlan-printed : (steps : List Step) → IsPlan steps → ParsesToPlan (plan_text steps) steps
ParsesToPlan-printed steps h = record { at_most_four = h.at_most_four; path = ParsesToPath-printed steps h.u64_ids }

pub ruleset printed_laws = (ParsesToPath-printed, path_in-printed)
