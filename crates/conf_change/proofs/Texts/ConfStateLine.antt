-- The function that reads the line of a saved configuration, against the relation.
use Rattle.std.proofs.Common.{◌≡◌, ℕ, ◌<◌, ◌≤◌, ◌^◌, Bool, true, false, cond, List, [], ◌∷◌, ◌++◌, length, take, drop, get_or, map, Option, Some, None, refl, sym, ap, ◌∙◌, arith}
use Rattle.std.specs.Prelude.{codes, decimal, option_map, option_and_then, bytes_eq}
use Rattle.std.specs.List.{All, AllZip, before_first, join_with_byte, slice_split, position_or_len}
use Rattle.std.specs.Str.Parse.{AllDigits}
use Rattle.std.proofs.lemmas.Bool.{ne_eqb, lt-ltb}
use Rattle.std.proofs.lemmas.List.{append_assoc, take_at, drop_at, get_or_at, get_or_append_left, take-append-drop, length-append}
use Rattle.std.proofs.lemmas.List.Elements.{All-nil, All-append, All-cons, All-head, All-tail, All-from_get_or}
use Rattle.std.proofs.lemmas.List.Splits.{slice_split_none, slice_split_at, join_with_byte-slice_split}
use Rattle.std.proofs.lemmas.List.Sums.{position_or_len_is}
use Rattle.std.proofs.lemmas.Option.{option_and_then_some, same_Some}
use Rattle.std.proofs.lemmas.Fmt.{decimal_is_IsNumeral}
use Rattle.std.proofs.lemmas.Str.Parse.{digit_at}
use Rattle.std.proofs.lemmas.Slice.Eq.{bytes_eq-Decides}
use Rattle.ascii_text.specs.WhiteSpace.{trimmed}
use Rattle.ascii_text.specs.Number.{ParsesToNumber}
use Rattle.conf_change.specs.Text.{spaced_numbers}
use Rattle.conf_change.specs.ConfState.{ConfStateLists}
use Rattle.conf_change.specs.ConfStateLine.{truth_text, bracketed_line, conf_state_text, ParsesToNumbers, DenotesConfState, after_prefix, numbers_in_tokens, is_space_byte, numbers_in, is_close, field_in, auto_leave_in, conf_state_in}
use Rattle.ascii_text.proofs.Offered.{without_trailing_space-other, number_in-ok, ParsesToNumber-from_some}

-- a test that fails for each digit fails for each byte of a number
pub digits-fail : (test : ℕ → Bool) (digits : List ℕ) → AllDigits 10 digits → ((b : ℕ) → 48 ≤ b → b ≤ 57 → test b ≡ false) → All (λ b. test b ≡ false) digits
digits-fail test digits h fails = All-from_get_or (λ b. test b ≡ false) digits 0 (λ i within. let range = digit_at digits i h within in fails (get_or digits i 0) range.0 range.1)

no_space : (token : List ℕ) (number : ℕ) → ParsesToNumber token number → All (λ b. is_space_byte b ≡ false) token
no_space token number h = digits-fail is_space_byte token h.numeral.1 (λ b low high. ne_eqb b 32 (λ same. omega arith))

no_close : (token : List ℕ) (number : ℕ) → ParsesToNumber token number → All (λ b. is_close b ≡ false) token
no_close token number h = digits-fail is_close token h.numeral.1 (λ b low high. ne_eqb b 93 (λ same. omega arith))

no_close-join : (tokens : List (List ℕ)) (numbers : List ℕ) → AllZip ParsesToNumber tokens numbers → All (λ b. is_close b ≡ false) (join_with_byte 32 tokens)
no_close-join [] numbers h = All-nil (λ b. is_close b ≡ false)
no_close-join (token ∷ tokens) [] h = absurd h
no_close-join (token ∷ []) (number ∷ numbers) h = no_close token number h.0
no_close-join (token ∷ next ∷ tokens) (number ∷ numbers) h =
    All-append (λ b. is_close b ≡ false) token (32 ∷ join_with_byte 32 (next ∷ tokens)) (no_close token number h.0)
    (All-cons (λ b. is_close b ≡ false) 32 (join_with_byte 32 (next ∷ tokens)) refl (no_close-join (next ∷ tokens) numbers h.1))

-- ---- numbers with one space between
slice_split-join : (token : List ℕ) (tokens : List (List ℕ)) (numbers : List ℕ) → AllZip ParsesToNumber (token ∷ tokens) numbers → slice_split is_space_byte (join_with_byte 32 (token ∷ tokens)) ≡ token ∷ tokens
slice_split-join token tokens [] h = absurd h
slice_split-join token [] (number ∷ numbers) h = slice_split_none is_space_byte token (no_space token number h.0)
slice_split-join token (next ∷ tokens) (number ∷ numbers) h =
    slice_split_at is_space_byte token 32 (join_with_byte 32 (next ∷ tokens)) (no_space token number h.0) refl ∙ ap (λ ps. token ∷ ps) (slice_split-join next tokens numbers h.1)

length-join : (token : List ℕ) (tokens : List (List ℕ)) → 0 < length token → 0 < length (join_with_byte 32 (token ∷ tokens))
length-join token [] some = some
length-join token (next ∷ tokens) some = omega (arith, length-append token (32 ∷ join_with_byte 32 (next ∷ tokens)))

numbers_in_tokens-ok : (tokens : List (List ℕ)) (numbers : List ℕ) → AllZip ParsesToNumber tokens numbers → numbers_in_tokens tokens ≡ Some numbers
numbers_in_tokens-ok [] [] h = refl
numbers_in_tokens-ok [] (number ∷ numbers) h = absurd h
numbers_in_tokens-ok (token ∷ tokens) [] h = absurd h
numbers_in_tokens-ok (token ∷ tokens) (number ∷ numbers) h = rw (number_in-ok token number h.0, numbers_in_tokens-ok tokens numbers h.1) refl

AllZip-from_some : (tokens : List (List ℕ)) (numbers : List ℕ) → numbers_in_tokens tokens ≡ Some numbers → AllZip ParsesToNumber tokens numbers
AllZip-from_some [] [] e = tt
AllZip-from_some [] (number ∷ numbers) e = absurd cc
AllZip-from_some (token ∷ tokens) [] e = absurd (grind arith)
AllZip-from_some (token ∷ tokens) (number ∷ numbers) e = (ParsesToNumber-from_some token number (grind arith), AllZip-from_some tokens numbers (grind arith))

numbers_in-not_empty : (text : List ℕ) → 0 < length text → numbers_in text ≡ numbers_in_tokens (slice_split is_space_byte text)
numbers_in-not_empty text some = rw (lt-ltb 0 (length text) some) refl

numbers_in-ok : (text : List ℕ) (numbers : List ℕ) → ParsesToNumbers text numbers → numbers_in text ≡ Some numbers
numbers_in-ok text numbers h = go h.tokens numbers h.spaced h.parsed where
  go : (tokens : List (List ℕ)) (numbers : List ℕ) → text ≡ join_with_byte 32 tokens → AllZip ParsesToNumber tokens numbers → numbers_in text ≡ Some numbers
  go [] [] is parsed = ap numbers_in is
  go [] (number ∷ numbers) is parsed = absurd parsed
  go (token ∷ tokens) [] is parsed = absurd parsed
  go (token ∷ tokens) (number ∷ numbers) is parsed =
      ap numbers_in is ∙ numbers_in-not_empty (join_with_byte 32 (token ∷ tokens)) (length-join token tokens parsed.0.numeral.0)
      ∙ ap numbers_in_tokens (slice_split-join token tokens (number ∷ numbers) parsed) ∙ numbers_in_tokens-ok (token ∷ tokens) (number ∷ numbers) parsed

ParsesToNumbers-from_some : (text : List ℕ) (numbers : List ℕ) → numbers_in text ≡ Some numbers → ParsesToNumbers text numbers
ParsesToNumbers-from_some [] numbers e = let same : numbers ≡ [] = cc in rw same (record { tokens = []; spaced = refl; parsed = tt })
ParsesToNumbers-from_some (b ∷ bs) numbers e = record {
  tokens = slice_split is_space_byte (b ∷ bs);
  spaced = sym (join_with_byte-slice_split 32 (b ∷ bs));
  parsed = AllZip-from_some (slice_split is_space_byte (b ∷ bs)) numbers (sym (numbers_in-not_empty (b ∷ bs) (omega arith)) ∙ e);
}

pub parsed-decimal : (numbers : List ℕ) → All (λ n. n < 2 ^ 64) numbers → AllZip ParsesToNumber (map decimal numbers) numbers
parsed-decimal [] h = tt
parsed-decimal (n ∷ ns) h =
    let small = All-head (λ m. m < 2 ^ 64) n ns h in
    let printed = decimal_is_IsNumeral n small in
    (record { numeral = printed.0; value = printed.1; in_range = small }, parsed-decimal ns (All-tail (λ m. m < 2 ^ 64) n ns h))

pub ParsesToNumbers-spaced : (numbers : List ℕ) → All (λ n. n < 2 ^ 64) numbers → ParsesToNumbers (spaced_numbers numbers) numbers
ParsesToNumbers-spaced numbers h = record { tokens = map decimal numbers; spaced = refl; parsed = parsed-decimal numbers h }

-- ---- one field
after_prefix-append : (prefix body : List ℕ) → after_prefix prefix (prefix ++ body) ≡ Some body
after_prefix-append prefix body = grind (arith, take_at, drop_at, bytes_eq-Decides)

position_or_len-close : (inside rest : List ℕ) → All (λ b. is_close b ≡ false) inside → position_or_len is_close (inside ++ 93 ∷ rest) ≡ length inside
position_or_len-close inside rest none =
    position_or_len_is is_close (inside ++ 93 ∷ rest) (length inside) 0 (omega (arith, length-append inside (93 ∷ rest)))
    (λ k within. ap is_close (get_or_append_left inside (93 ∷ rest) 0 k within) ∙ none k 0 within)
    (λ _. ap is_close (get_or_at inside 93 rest 0 (length inside) refl))

field_in-ok : (prefix inside rest : List ℕ) (numbers : List ℕ) → ParsesToNumbers inside numbers → field_in prefix (prefix ++ (inside ++ 93 ∷ rest)) ≡ Some (numbers, 93 ∷ rest)
field_in-ok prefix inside rest numbers h =
    let none : All (λ b. is_close b ≡ false) inside = rw h.spaced (no_close-join h.tokens numbers h.parsed) in
    rw (after_prefix-append prefix (inside ++ 93 ∷ rest))
    (rw (position_or_len-close inside rest none, take_at inside (93 ∷ rest) (length inside) refl, drop_at inside (93 ∷ rest) (length inside) refl, numbers_in-ok inside numbers h) refl)

-- a field that was read, and what the rest gave
record Field (prefix text : List ℕ) (read : List ℕ × List ℕ) : Type 0 where
  inside : List ℕ
  whole : text ≡ prefix ++ (inside ++ read.1)
  parsed : ParsesToNumbers inside read.0

field_parts : (begins : Bool) (body : List ℕ) (numbers : List ℕ → Option (List ℕ)) (rest : List ℕ → List ℕ) (read : List ℕ × List ℕ)
    → option_and_then (λ b. option_map (λ ns. (ns, rest b)) (numbers b)) (cond begins (Some body) None) ≡ Some read → (begins ≡ true) × (numbers body ≡ Some read.0) × (rest body ≡ read.1)
field_parts begins body numbers rest read e = (grind arith, grind arith, grind arith)

Field-from_some : (prefix text : List ℕ) (read : List ℕ × List ℕ) → field_in prefix text ≡ Some read → Field prefix text read
Field-from_some prefix text read e =
    let n = length prefix in
    let body = drop n text in
    let inside = before_first is_close body in
    let parts = field_parts (bytes_eq (take n text) prefix) body (λ b. numbers_in (before_first is_close b)) (λ b. drop (position_or_len is_close b) b) read e in
    record {
      inside = inside;
      whole =
          sym (take-append-drop n text) ∙ ap (λ t. t ++ body) ((bytes_eq-Decides (take n text) prefix).0 parts.0)
          ∙ ap (λ t. prefix ++ t) (sym (take-append-drop (position_or_len is_close body) body) ∙ ap (λ t. inside ++ t) parts.2);
      parsed = ParsesToNumbers-from_some inside read.0 parts.1;
    }

-- a field that was read, and what was made of it and the text after it
field-then : (prefix text : List ℕ) (more : List ℕ × List ℕ → Option ConfStateLists) (saved : ConfStateLists) → option_and_then more (field_in prefix text) ≡ Some saved
    → (read : List ℕ × List ℕ) × Field prefix text read × (more read ≡ Some saved)
field-then prefix text more saved e = option_and_then_some more (field_in prefix text) saved e (λ read is rest. (read, Field-from_some prefix text read is, rest))

-- ---- the flag
auto_leave_in-text : (flag : Bool) → auto_leave_in (codes "] AutoLeave:" ++ truth_text flag) ≡ Some flag
auto_leave_in-text flag = grind arith

text-flag_in : (text : List ℕ) (flag : Bool) → auto_leave_in text ≡ Some flag → text ≡ codes "] AutoLeave:" ++ truth_text flag
text-flag_in text true e = (bytes_eq-Decides text (codes "] AutoLeave:true")).0 (grind arith)
text-flag_in text false e = (bytes_eq-Decides text (codes "] AutoLeave:false")).0 (grind arith)

-- ---- the line
-- the line, part by part from its end
abbrev line_of : List ℕ → List ℕ → List ℕ → List ℕ → Bool → List ℕ
line_of a b c d flag =
    codes "Voters:[" ++ (a ++ (codes "] VotersOutgoing:[" ++ (b ++ (codes "] Learners:[" ++ (c ++ (codes "] LearnersNext:[" ++ (d ++ (codes "] AutoLeave:" ++ truth_text flag))))))))

line_text-parts : (a b c d : List ℕ) (flag : Bool) → bracketed_line a b c d flag ≡ line_of a b c d flag
line_text-parts a b c d flag = simp append_assoc

pub conf_state_in-ok : (text : List ℕ) (saved : ConfStateLists) → DenotesConfState text saved → conf_state_in text ≡ Some saved
conf_state_in-ok text saved h =
    rw (h.line ∙ line_text-parts h.voters h.voters_outgoing h.learners h.learners_next saved.auto_leave)
    (rw (field_in-ok (codes "Voters:[") h.voters _ saved.voters h.parsed_voters)
    (rw (field_in-ok (codes "] VotersOutgoing:[") h.voters_outgoing _ saved.voters_outgoing h.parsed_voters_outgoing)
    (rw (field_in-ok (codes "] Learners:[") h.learners _ saved.learners h.parsed_learners)
    (rw (field_in-ok (codes "] LearnersNext:[") h.learners_next _ saved.learners_next h.parsed_learners_next)
    (rw (auto_leave_in-text saved.auto_leave) refl)))))

joined : (text a after_a b after_b c after_c d after_d : List ℕ) (flag : Bool)
    → text ≡ codes "Voters:[" ++ (a ++ after_a) → after_a ≡ codes "] VotersOutgoing:[" ++ (b ++ after_b) → after_b ≡ codes "] Learners:[" ++ (c ++ after_c)
    → after_c ≡ codes "] LearnersNext:[" ++ (d ++ after_d) → after_d ≡ codes "] AutoLeave:" ++ truth_text flag → text ≡ bracketed_line a b c d flag
joined text a after_a b after_b c after_c d after_d flag is_text is_a is_b is_c is_d = is_text ∙ rw (is_a, is_b, is_c, is_d) (sym (line_text-parts a b c d flag))

pub DenotesConfState-from_some : (text : List ℕ) (saved : ConfStateLists) → conf_state_in text ≡ Some saved → DenotesConfState text saved
DenotesConfState-from_some text saved e =
    let voters = field-then (codes "Voters:[") (trimmed text) _ saved e in
    let outgoing = field-then (codes "] VotersOutgoing:[") voters.0.1 _ saved voters.2 in
    let learners = field-then (codes "] Learners:[") outgoing.0.1 _ saved outgoing.2 in
    let next = field-then (codes "] LearnersNext:[") learners.0.1 _ saved learners.2 in
    option_and_then_some _ (auto_leave_in next.0.1) saved next.2 (λ flag is same. rw (sym (same_Some _ saved same)) (record {
      voters = voters.1.inside;
      voters_outgoing = outgoing.1.inside;
      learners = learners.1.inside;
      learners_next = next.1.inside;
      line = joined (trimmed text) voters.1.inside voters.0.1 outgoing.1.inside outgoing.0.1 learners.1.inside learners.0.1 next.1.inside next.0.1 flag voters.1.whole outgoing.1.whole learners.1.whole next.1.whole (text-flag_in next.0.1 flag is);
      parsed_voters = voters.1.parsed;
      parsed_voters_outgoing = outgoing.1.parsed;
      parsed_learners = learners.1.parsed;
      parsed_learners_next = next.1.parsed;
    }))

-- ---- the printed line
trimmed-from_first : (text more beginning : List ℕ) → text ≡ 86 ∷ more → text ≡ beginning ++ 101 ∷ [] → trimmed text ≡ text
trimmed-from_first text more beginning first last = grind (arith, without_trailing_space-other)

-- the line but for the truth value
abbrev line_start : List ℕ → List ℕ → List ℕ → List ℕ → List ℕ
line_start a b c d = codes "Voters:[" ++ a ++ codes "] VotersOutgoing:[" ++ b ++ codes "] Learners:[" ++ c ++ codes "] LearnersNext:[" ++ d ++ codes "] AutoLeave:"

pub trimmed-bracketed_line : (a b c d : List ℕ) (flag : Bool) → trimmed (bracketed_line a b c d flag) ≡ bracketed_line a b c d flag
trimmed-bracketed_line a b c d true =
    trimmed-from_first (bracketed_line a b c d true) _ (line_start a b c d ++ codes "tru") (line_text-parts a b c d true) (sym (append_assoc (line_start a b c d) (codes "tru") (101 ∷ [])))
trimmed-bracketed_line a b c d false =
    trimmed-from_first (bracketed_line a b c d false) _ (line_start a b c d ++ codes "fals") (line_text-parts a b c d false) (sym (append_assoc (line_start a b c d) (codes "fals") (101 ∷ [])))

pub DenotesConfState-printed : (saved : ConfStateLists) → ParsesToNumbers (spaced_numbers saved.voters) saved.voters → ParsesToNumbers (spaced_numbers saved.voters_outgoing) saved.voters_outgoing → ParsesToNumbers (spaced_numbers saved.learners) saved.learners → ParsesToNumbers (spaced_numbers saved.learners_next) saved.learners_next
    → DenotesConfState (conf_state_text saved) saved
DenotesConfState-printed saved voters voters_outgoing learners learners_next = grind (arith, trimmed-bracketed_line)

pub line_grouped : (old p a q b r c s d t f : List ℕ) → old ++ (p ++ a) ++ (q ++ b) ++ (r ++ c) ++ (s ++ d) ++ t ++ f ≡ old ++ (p ++ a ++ q ++ b ++ r ++ c ++ s ++ d ++ t ++ f)
line_grouped old p a q b r c s d t f = simp append_assoc

-- ---- the parts, one by one
-- numbers that were read, before those of the parts that are left
abbrev pub onto_numbers : List ℕ → Option (List ℕ) → Option (List ℕ)
onto_numbers done (Some more) = Some (done ++ more)
onto_numbers done None = None
