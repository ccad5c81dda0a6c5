-- Which texts are reply lines.
use Rattle.std.proofs.lemmas.Grind.{common_steps}
use Rattle.std.proofs.Common.{◌≡◌, ℕ, zero, suc, ◌/◌, ◌%◌, ◌≤◌, Bool, true, false, cond, not, ◌&&◌, List, [], ◌∷◌, ◌++◌, map, refl, sym, ap, ◌∙◌, arith}
use Rattle.std.specs.Prelude.{◌==◌, ◌||◌, codes, decimal, flat_map}
use Rattle.std.specs.List.{AllZip, list_all, list_any, join_with_byte}
use Rattle.std.specs.Fmt.{digit_glyph, digits_onto, digits}
use Rattle.std.specs.FinMap as finite
use Rattle.std.specs.Str.Parse.{AllDigits}
use Rattle.std.proofs.lemmas.List.{append-nil, length-append}
use Rattle.std.proofs.lemmas.List.Concat.{flat_map-append}
use Rattle.std.proofs.lemmas.List.Folds.{flat_map-map, list_all-append, list_any-append}
use Rattle.std.proofs.lemmas.Bool.Decides.{nat_tests}
use Rattle.std.proofs.lemmas.Slice.Eq.{bytes_eq-Decides}
use Rattle.std.proofs.lemmas.Str.Parse.{digit_at}
use Rattle.quorum_sets.specs.Ids.{Ids, ascending, is_empty}
use Rattle.ascii_text.specs.WhiteSpace.{is_space, is_blank, trimmed}
use Rattle.ascii_text.specs.Lines.{text_of}
use Rattle.dd_file.specs.Script.{is_dashes}
use Rattle.conf_change.specs.Configuration.{Configuration, is_joint}
use Rattle.conf_change.specs.ConfState.{ConfStateLists}
use Rattle.ascii_text.specs.Number.{ParsesToNumber}
use Rattle.conf_change.specs.TrackerState.{TrackerState}
use Rattle.conf_change.specs.Text.{text_if, spaced_numbers, set_text, config_text, progress_text, refused_text}
use Rattle.conf_change.specs.ConfStateLine.{truth_text, bracketed_line, conf_state_text, ParsesToNumbers, DenotesConfState}
use Rattle.conf_change.specs.declared.progress.Progress.{Progress}
use Rattle.conf_change.specs.declared.refused.Refused.{Refused}
use Rattle.conf_change.specs.ChangeList.{letter_of}
use Rattle.conf_change.specs.declared.change.Change.{Change}
use Rattle.conf_change.specs.declared.change.Kind.{Kind}
use Rattle.conf_change.specs.declared.step.Step.{Step}
use Rattle.conf_change.specs.declared.step.Step.TheVariants.{Simple, EnterJoint, LeaveJoint}
use Rattle.conf_plan.specs.PlanText.{change_text, flag_token, plan_text, line_text as step_text}
use Rattle.conf_session.specs.Undo.{undo_fault_text}
use Rattle.conf_session.specs.declared.undo_fault.UndoFault.{UndoFault}
use Rattle.conf_session.specs.declared.undo_fault.UndoFault.TheVariants.{NotKept, NoVoterTarget, NoMemory as NoMemoryToUndo}
use Rattle.conf_session.specs.ReplyTexts.{line, tracker_text}
use Rattle.conf_session.specs.ReplyLines.{is_line_byte, is_reply_line, IsReplyText}

pub and-first : (a b : Bool) → (a && b) ≡ true → a ≡ true
and-first a b e = grind arith

pub and-second : (a b : Bool) → (a && b) ≡ true → b ≡ true
and-second a b e = grind arith

pub and-both : (a b : Bool) → a ≡ true → b ≡ true → (a && b) ≡ true
and-both a b p q = grind arith

pub all-append : {X : Type 0} (p : X → Bool) (xs ys : List X) → list_all p xs ≡ true → list_all p ys ≡ true → list_all p (xs ++ ys) ≡ true
all-append p xs ys h k = list_all-append p xs ys ∙ and-both _ _ h k

pub all-weaker : {X : Type 0} (p q : X → Bool) → ((x : X) → p x ≡ true → q x ≡ true) → (xs : List X) → list_all p xs ≡ true → list_all q xs ≡ true
all-weaker p q weaker [] h = refl
all-weaker p q weaker (x ∷ xs) h = and-both _ _ (weaker x (and-first _ _ h)) (all-weaker p q weaker xs (and-second _ _ h))

abbrev pub IsBytes : List ℕ → Type 0
IsBytes text = list_all is_line_byte text ≡ true

pub reply_line-bytes : (text : List ℕ) → is_reply_line text ≡ true → list_all is_line_byte text ≡ true
reply_line-bytes text h = and-second (not (is_blank text || is_dashes text)) _ h

-- a byte that makes a line neither blank nor dashes
abbrev pub is_mark : ℕ → Bool
is_mark b = not (is_space b || b == 45)

any-prefix : {X : Type 0} (p : X → Bool) (xs ys : List X) → list_any p xs ≡ true → list_any p (xs ++ ys) ≡ true
any-prefix p xs ys h = list_any-append p xs ys ∙ ap (λ found. found || list_any p ys) h

no_blank : (bytes : List ℕ) → list_any is_mark bytes ≡ true → is_blank bytes ≡ false
no_blank [] h = cc
no_blank (b ∷ bs) h = grind (arith, no_blank bs)

no_dashes-if : (bytes : List ℕ) (dashes : Bool) → is_dashes bytes ≡ dashes → list_any is_mark bytes ≡ true → dashes ≡ false
no_dashes-if bytes true e h = grind (arith, bytes, bytes_eq-Decides)
no_dashes-if bytes false e h = refl

pub marked-in_lines : (text : List ℕ) → list_any is_mark text ≡ true → IsBytes text → is_reply_line text ≡ true
marked-in_lines text h k = grind (arith, and-both, no_blank, no_dashes-if)

pub reply_line-append : (front back : List ℕ) → list_any is_mark front ≡ true → IsBytes front → IsBytes back → is_reply_line (front ++ back) ≡ true
reply_line-append front back h k l = marked-in_lines (front ++ back) (any-prefix is_mark front back h) (all-append is_line_byte front back k l)

where-bytes : (there : Bool) (text : List ℕ) → IsBytes text → IsBytes (text_if there text)
where-bytes there text h = grind arith

-- ---- a line, and what may follow its first bytes
pub record IsLine (text : List ℕ) : Type 0 where
  pub mark : list_any is_mark text ≡ true
  pub bytes : list_all is_line_byte text ≡ true

pub record IsTail (text : List ℕ) : Type 0 where
  pub tail : list_all is_line_byte text ≡ true

pub IsLine-from_mark : (text : List ℕ) → list_any is_mark text ≡ true → IsBytes text → IsLine text
IsLine-from_mark text h k = record { mark = h; bytes = k }

pub IsLine-in_lines : {text : List ℕ} → IsLine text → is_reply_line text ≡ true
IsLine-in_lines {text} h = marked-in_lines text h.mark h.bytes

pub IsTail-from_bytes : (text : List ℕ) → IsBytes text → IsTail text
IsTail-from_bytes text h = record { tail = h }

infixl 60 ◌▸◌
pub ◌▸◌ : {front back : List ℕ} → IsLine front → IsTail back → IsLine (front ++ back)
◌▸◌ {front} {back} h k = record { mark = any-prefix is_mark front back h.mark; bytes = all-append is_line_byte front back h.bytes k.tail }

infixl 61 ◌▹◌
pub ◌▹◌ : {front back : List ℕ} → IsTail front → IsTail back → IsTail (front ++ back)
◌▹◌ {front} {back} h k = record { tail = all-append is_line_byte front back h.tail k.tail }

-- ---- numbers
glyph-line : (d : ℕ) → IsLine (digit_glyph false d ∷ [])
glyph-line d = record { mark = grind (arith, nat_tests); bytes = grind (arith, nat_tests) }

either-line : (b : Bool) (xs ys : List ℕ) → IsLine xs → IsLine ys → IsLine (cond b xs ys)
either-line b xs ys h k = grind arith

digits_onto-line : (k n : ℕ) (bs : List ℕ) → IsLine bs → IsLine (digits_onto k 10 false n bs)
digits_onto-line zero n bs h = h
digits_onto-line (suc k) n bs h =
    let more : IsLine (digit_glyph false (n % 10) ∷ bs) = glyph-line (n % 10) ▸ IsTail-from_bytes bs h.bytes in
    either-line (n / 10 == 0) _ _ more (digits_onto-line k (n / 10) (digit_glyph false (n % 10) ∷ bs) more)

pub decimal-line : (n : ℕ) → IsLine (decimal n)
unfolding digits
decimal-line n = either-line (n / 10 == 0) _ _ (glyph-line (n % 10)) (digits_onto-line 63 (n / 10) (digit_glyph false (n % 10) ∷ []) (glyph-line (n % 10)))

decimal-bytes : (n : ℕ) → IsBytes (decimal n)
decimal-bytes n = (decimal-line n).bytes

pub spaced-bytes : (numbers : List ℕ) → IsBytes (spaced_numbers numbers)
spaced-bytes [] = refl
spaced-bytes (n ∷ []) = decimal-bytes n
spaced-bytes (n ∷ m ∷ numbers) = all-append is_line_byte (decimal n) (32 ∷ spaced_numbers (m ∷ numbers)) (decimal-bytes n) (spaced-bytes (m ∷ numbers))

-- ---- the texts of a configuration, of a member, of a refusal and of a saved form
pub IsTail-number : (n : ℕ) → IsTail (decimal n)
IsTail-number n = IsTail-from_bytes (decimal n) (decimal-bytes n)

numbers : (ns : List ℕ) → IsTail (spaced_numbers ns)
numbers ns = IsTail-from_bytes (spaced_numbers ns) (spaced-bytes ns)

set : (ids : Ids) → IsTail (set_text ids)
set ids = IsTail-from_bytes (codes "(") refl ▹ numbers (ascending ids) ▹ IsTail-from_bytes (codes ")") refl

named : (there : Bool) (name : List ℕ) (ids : Ids) → IsBytes name → IsTail (text_if there (name ++ set_text ids))
named there name ids h = IsTail-from_bytes _ (where-bytes there (name ++ set_text ids) (all-append is_line_byte name (set_text ids) h (set ids).tail))

config-line : (c : Configuration) → IsLine (config_text c)
config-line c =
    IsLine-from_mark (codes "voters=") refl refl ▸ set c.incoming
    ▸ named (is_joint c) (codes "&&") c.outgoing refl
    ▸ named (not (is_empty c.learners)) (codes " learners=") c.learners refl
    ▸ named (not (is_empty c.learners_next)) (codes " learners_next=") c.learners_next refl
    ▸ IsTail-from_bytes (text_if c.auto_leave (codes " autoleave")) (where-bytes c.auto_leave (codes " autoleave") refl)

pub config-in_lines : (c : Configuration) → is_reply_line (config_text c) ≡ true
config-in_lines c = IsLine-in_lines (config-line c)

progress-line : (id : ℕ) (p : Progress) → IsLine (progress_text id p)
progress-line id p = grind (arith, common_steps, decimal-line, IsTail-from_bytes, IsTail-number, where-bytes)

pub progress-in_lines : (id : ℕ) (p : Progress) → is_reply_line (progress_text id p) ≡ true
progress-in_lines id p = IsLine-in_lines (progress-line id p)

pub refused-in_lines : (refused : Refused) → is_reply_line (refused_text refused) ≡ true
refused-in_lines refused = grind arith

pub undo_fault-in_lines : (fault : UndoFault) → is_reply_line (undo_fault_text fault) ≡ true
undo_fault-in_lines (NotKept kept) = IsLine-in_lines (IsLine-from_mark (codes "no plan: ") refl refl ▸ IsTail-number kept ▸ IsTail-from_bytes (codes " earlier configurations are kept") refl)
undo_fault-in_lines NoVoterTarget = refl
undo_fault-in_lines NoMemoryToUndo = refl

truth-bytes : (truth : Bool) → IsBytes (truth_text truth)
truth-bytes truth = grind arith

saved-line : (a b c d : List ℕ) (auto_leave : Bool) → IsTail a → IsTail b → IsTail c → IsTail d → IsLine (bracketed_line a b c d auto_leave)
saved-line a b c d auto_leave voters voters_outgoing learners learners_next =
    IsLine-from_mark (codes "Voters:[") refl refl ▸ voters ▸ IsTail-from_bytes (codes "] VotersOutgoing:[") refl ▸ voters_outgoing
    ▸ IsTail-from_bytes (codes "] Learners:[") refl ▸ learners ▸ IsTail-from_bytes (codes "] LearnersNext:[") refl ▸ learners_next
    ▸ IsTail-from_bytes (codes "] AutoLeave:") refl ▸ IsTail-from_bytes (truth_text auto_leave) (truth-bytes auto_leave)

pub conf_state-in_lines : (saved : ConfStateLists) → is_reply_line (conf_state_text saved) ≡ true
conf_state-in_lines saved = grind (arith, IsLine-in_lines, saved-line, numbers)

-- numbers that were read, with any zeros before them
byte-from_zero : (b : ℕ) → 48 ≤ b → is_line_byte b ≡ true
byte-from_zero b h = grind (arith, nat_tests)

digits-bytes : (parsed : List ℕ) → AllDigits 10 parsed → IsBytes parsed
digits-bytes [] h = refl
digits-bytes (b ∷ bs) h = and-both _ _ (byte-from_zero b (digit_at (b ∷ bs) 0 h (omega arith)).0) (digits-bytes bs h.1)

joined-bytes : (parts : List (List ℕ)) (ns : List ℕ) → AllZip ParsesToNumber parts ns → IsBytes (join_with_byte 32 parts)
joined-bytes [] ns h = refl
joined-bytes (part ∷ parts) [] h = absurd h
joined-bytes (part ∷ []) (n ∷ ns) h = digits-bytes part h.0.numeral.1
joined-bytes (part ∷ next ∷ parts) (n ∷ ns) h = grind (arith, all-append, digits-bytes, joined-bytes (next ∷ parts) ns h.1)

parsed-tail : (text ns : List ℕ) → ParsesToNumbers text ns → IsTail text
parsed-tail text ns h = IsTail-from_bytes text (ap (list_all is_line_byte) h.spaced ∙ joined-bytes h.tokens ns h.parsed)

-- the text of a saved configuration is one line
pub saved-bytes : (text : List ℕ) (saved : ConfStateLists) → DenotesConfState text saved → list_all is_line_byte (trimmed text) ≡ true
saved-bytes text saved h =
    let whole : IsLine (bracketed_line h.voters h.voters_outgoing h.learners h.learners_next saved.auto_leave) = saved-line _ _ _ _ saved.auto_leave
    (parsed-tail _ _ h.parsed_voters) (parsed-tail _ _ h.parsed_voters_outgoing) (parsed-tail _ _ h.parsed_learners) (parsed-tail _ _ h.parsed_learners_next) in
    ap (list_all is_line_byte) h.line ∙ whole.bytes

-- ---- texts of such lines
pub line-in_lines : (text : List ℕ) → is_reply_line text ≡ true → IsReplyText (line text)
line-in_lines text h = record { lines = text ∷ []; some = omega arith; whole = sym (append-nil (line text)); valid = and-both _ _ h refl }

-- a first line, and then a line for each element
pub rows-in_lines : {X : Type 0} (head : List ℕ) (row : X → List ℕ) (xs : List X) → is_reply_line head ≡ true → ((x : X) → is_reply_line (row x) ≡ true) → IsReplyText (line head ++ flat_map (λ x. line (row x)) xs)
rows-in_lines head row xs first each = record {
  lines = head ∷ map row xs;
  some = omega arith;
  whole = ap (λ rest. line head ++ rest) (sym (flat_map-map line row xs));
  valid = and-both _ _ first (valid xs);
} where
  valid : (xs : List _) → list_all is_reply_line (map row xs) ≡ true
  valid [] = refl
  valid (x ∷ xs) = and-both _ _ (each x) (valid xs)

pub tracker-in_lines : (tracker : TrackerState) → IsReplyText (tracker_text tracker)
tracker-in_lines tracker =
    rows-in_lines (config_text tracker.config) (λ (member : ℕ × Progress). progress_text member.0 member.1) (finite.entries tracker.progress) (config-in_lines tracker.config) (λ member. progress-in_lines member.0 member.1)

-- one text after another
pub reply_text-append : (a b : List ℕ) → IsReplyText a → IsReplyText b → IsReplyText (a ++ b)
reply_text-append a b h k = record {
  lines = h.lines ++ k.lines;
  some = let n = length-append h.lines k.lines in let some = h.some in omega arith;
  whole = ap (λ text. text ++ b) h.whole ∙ ap (λ text. text_of h.lines ++ text) k.whole ∙ sym (flat_map-append line h.lines k.lines);
  valid = all-append is_reply_line h.lines k.lines h.valid k.valid;
}

-- ---- the lines of a plan
kind-bytes : (kind : Kind) → IsBytes (letter_of kind ∷ [])
kind-bytes kind = grind arith

change-bytes : (change : Change) → IsBytes (change_text change)
change-bytes change = all-append is_line_byte (letter_of change.kind ∷ []) (decimal change.id) (kind-bytes change.kind) (decimal-bytes change.id)

-- tokens with one space between
pub spaced-tokens_in : (tokens : List (List ℕ)) → list_all (λ token. list_all is_line_byte token) tokens ≡ true → IsBytes (join_with_byte 32 tokens)
spaced-tokens_in [] h = refl
spaced-tokens_in (token ∷ []) h = and-first _ _ h
spaced-tokens_in (token ∷ next ∷ tokens) h = all-append is_line_byte token (32 ∷ join_with_byte 32 (next ∷ tokens)) (and-first _ _ h) (spaced-tokens_in (next ∷ tokens) (and-second _ _ h))

pub changes-tokens_in : (changes : List Change) → list_all (λ token. list_all is_line_byte token) (map change_text changes) ≡ true
changes-tokens_in [] = refl
changes-tokens_in (change ∷ changes) = and-both _ _ (change-bytes change) (changes-tokens_in changes)

-- a token, and others after it
tokens_in-line : (token : List ℕ) (tokens : List (List ℕ)) → IsLine token → list_all (λ w. list_all is_line_byte w) tokens ≡ true → IsLine (join_with_byte 32 (token ∷ tokens))
tokens_in-line token [] h k = h
tokens_in-line token (next ∷ tokens) h k = h ▸ IsTail-from_bytes (32 ∷ join_with_byte 32 (next ∷ tokens)) (spaced-tokens_in (next ∷ tokens) k)

flag-bytes : (auto_leave : Bool) → IsBytes (flag_token auto_leave)
flag-bytes auto_leave = grind arith

step-line : (step : Step) → IsLine (step_text step)
step-line (Simple changes) = tokens_in-line (codes "simple") (map change_text changes) (IsLine-from_mark (codes "simple") refl refl) (changes-tokens_in changes)
step-line (EnterJoint auto_leave changes) =
    tokens_in-line (codes "enter-joint") (flag_token auto_leave ∷ map change_text changes) (IsLine-from_mark (codes "enter-joint") refl refl)
    (and-both _ _ (flag-bytes auto_leave) (changes-tokens_in changes))
step-line LeaveJoint = tokens_in-line (codes "leave-joint") [] (IsLine-from_mark (codes "leave-joint") refl refl) refl

pub plan-in_lines : (steps : List Step) → IsReplyText (plan_text steps)
plan-in_lines [] = line-in_lines (codes "nothing to do") refl
plan-in_lines (step ∷ steps) = rows-in_lines (step_text step) step_text steps (IsLine-in_lines (step-line step)) (λ s. IsLine-in_lines (step-line s))
