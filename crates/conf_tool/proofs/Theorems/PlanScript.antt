-- That the scripts of the pairs of an input are one script, which checks clean.
use Rattle.std.proofs.Common.{◌≡◌, ◌≤◌, ◌⊎◌, ℕ, ◌+◌, Bool, true, false, cond, ◌&&◌, List, [], ◌∷◌, ◌++◌, map, length, refl, sym, ◌∙◌, ap, subst, arith, inl, inr, rules}
use Rattle.std.specs.Prelude.{⊤, Option, Some, None, Result, Ok, Err, codes, nat_eq, if◌then◌else◌}
use Rattle.std.specs.List.{list_all, ends_with}
use Rattle.std.proofs.lemmas.List.{append_assoc, append-nil}
use Rattle.quorum_sets.specs.Ids.{Ids, ascending}
use Rattle.quorum_sets.specs.Tolerance.{commits_without}
use Rattle.ascii_text.specs.Lines.{newline}
use Rattle.ascii_text.proofs.Offered.{list-by_last}
use Rattle.dd_file.specs.DirectiveText.{DirectiveText}
use Rattle.dd_file.specs.Position.{longest_input}
use Rattle.dd_file.specs.Rewritten.{entry_text, kept_text, output_text, has_blank_line, opening, closing, rewritten_text, without_double_end}
use Rattle.dd_file.specs.Laws.{is_line, IsWellFormed, DirectiveIsWellFormed, WrittenScript, item_has_keys}
use Rattle.dd_file.specs.Items.{Item, Blank, Directive}
use Rattle.dd_file.proofs.Offered.{double_end-after, double_end-pushed, ends_with-append}
use Rattle.conf_change.specs.Configuration.{Configuration, has_voter, voters_of}
use Rattle.conf_change.specs.ConfState.{lists_of}
use Rattle.conf_change.specs.ConfStateLine.{conf_state_text}
use Rattle.conf_change.specs.Text.{spaced_numbers}
use Rattle.conf_change.specs.declared.floor.Floor.TheVariants.{One}
use Rattle.conf_change.specs.declared.step.Step.{Step}
use Rattle.conf_plan.specs.PathBy.{has_path, path_by, ids_down}
use Rattle.conf_session.specs.SessionState.{SessionState}
use Rattle.conf_session.specs.Commands.{answer}
use Rattle.conf_session.specs.ReplyLines.{is_line_byte}
use Rattle.conf_session.proofs.Offered.{all-append, and-both, conf_state-in_lines, reply_line-bytes, spaced-bytes}
use Rattle.plan_output.specs.Stages.{stalls}
use Rattle.conf_tool.specs.Laws.{pair_before, pairs_in, pairs_in_texts, texts_from, separated_by}
use Rattle.conf_tool.specs.Outputs.{ends, pair_then, separator, checked, planned_output, planned_texts}
use Rattle.conf_tool.specs.Pairs.{Pair, pair_of_texts}
use Rattle.plan_output.specs.Steps.{stall_text, stall_note}
use Rattle.conf_tool.specs.PlanAnswer.{text_as, no_plan_comment, no_plan_text, path_between, plan_text_between, reply_text, session_as, session_with, session_between}
use Rattle.conf_tool.specs.PlanScript.{note_items, restore_command, restore_directive, script_items, default_session, script_text}
use Rattle.conf_tool.specs.Reports.{session_after_all, answered_entries, answered_text}
use Rattle.conf_tool.specs.UndoScript.{comment, step_directive, step_items}
use Rattle.conf_tool.specs.declared.plan_input_fault.PlanInputFault.{PlanInputFault}
use Rattle.conf_tool.specs.declared.plan_options.PlanOptions.{PlanOptions}
use Rattle.conf_tool.specs.declared.plan_options.PlanOutput.TheVariants.{Script}
use Rattle.conf_tool.specs.declared.status.Status.TheVariants.{Clean}
use Rattle.conf_tool.proofs.ModeOutput.AppendedItems.{session-append, text-append}
use Rattle.conf_tool.proofs.Theorems.JoinedScript.{bytes-line, comment-read, step-keys, steps-read}
use Rattle.conf_tool.proofs.Theorems.PairByPair.{planned-text}
use Rattle.conf_tool.proofs.Theorems.RewrittenScript.{ActualIsValid, CanBeRead, read-append, written-clean}

abbrev pub Answered : Type 0
Answered = Result (List Step) (List ℕ)

-- ---- the items of the scripts
-- the items of a pair: its script, or a comment that there is no path
abbrev pub items_with : Option Ids → Configuration → Answered → List Item
items_with down now (Ok steps) = script_items (stall_note down now steps) now steps
items_with down now (Err why) = comment (codes "no plan: " ++ why) ∷ []

abbrev pub pair_items : PlanOptions → Pair → List Item
pair_items options pair = items_with options.down pair.current (path_between options pair)

-- The empty line before the next pair is an item where the items end in a comment. Where they end in a directive, it
-- is the end of that.
abbrev pub gap_with : Answered → List Item
gap_with (Err why) = Blank ([] ∷ []) ∷ []
gap_with (Ok []) = Blank ([] ∷ []) ∷ []
gap_with (Ok (step ∷ steps)) = []

abbrev pub gap : PlanOptions → Pair → List Item
gap options pair = gap_with (path_between options pair)

-- the items of all pairs
abbrev pub all_items : PlanOptions → List Pair → List Item
all_items options [] = []
all_items options (pair ∷ []) = pair_items options pair
all_items options (pair ∷ next ∷ pairs) = (pair_items options pair ++ gap options pair) ++ all_items options (next ∷ pairs)

-- a pair has a path, or one of three reasons why it has none
pub path_between-cases : (options : PlanOptions) (pair : Pair) (P : Answered → Type 0) → ((steps : List Step) → P (Ok steps)) →
    P (Err (codes "the current configuration has no voter")) → P (Err (codes "the target has no voter")) → P (Err (codes "the target is joint")) → P (path_between options pair)
path_between-cases options pair P path no_now no_target joint = by (has_voter pair.current) (has_voter pair.target) (has_path pair.strategy pair.current pair.target)
  where
    steps : List Step
    steps = path_by pair.strategy (ids_down options.down) pair.current pair.target

    by : (a b c : Bool) → P (if a then (if b then (if c then Ok steps else Err (codes "the target is joint")) else Err (codes "the target has no voter")) else Err (codes "the current configuration has no voter"))
    by false b c = no_now
    by true false c = no_target
    by true true false = joint
    by true true true = path steps

-- ---- they can be written and read again
restore-line : (c : Configuration) → is_line (conf_state_text (lists_of c)) ≡ true
restore-line c = bytes-line (conf_state_text (lists_of c)) (reply_line-bytes (conf_state_text (lists_of c)) (conf_state-in_lines (lists_of c)))

restore-given : DirectiveIsWellFormed → (c : Configuration) → IsWellFormed (restore_directive c)
unfolding restore_directive
restore-given given c =
    let whole : list_all is_line (conf_state_text (lists_of c) ∷ []) ≡ true = and-both _ _ (restore-line c) refl in
    given 1 (codes "restore") (conf_state_text (lists_of c) ∷ []) restore_command refl refl refl refl refl whole

restore-read : DirectiveIsWellFormed → (c : Configuration) → CanBeRead (restore_directive c ∷ [])
unfolding restore_directive
restore-read given c = record { given = (restore-given given c, tt); keys = refl; short = refl }

stall_text-bytes : (now : Configuration) (down : Ids) → list_all is_line_byte (stall_text now down) ≡ true
stall_text-bytes now down = by (commits_without (voters_of now) down)
  where
    by : (b : Bool) → list_all is_line_byte (if b then codes "stalls with " ++ spaced_numbers (ascending down) ++ codes " down"
        else codes "no quorum with " ++ spaced_numbers (ascending down) ++ codes " down: no step can be made") ≡ true
    by true =
        all-append is_line_byte (codes "stalls with ") (spaced_numbers (ascending down) ++ codes " down") refl
        (all-append is_line_byte (spaced_numbers (ascending down)) (codes " down") (spaced-bytes (ascending down)) refl)
    by false =
        all-append is_line_byte (codes "no quorum with ") (spaced_numbers (ascending down) ++ codes " down: no step can be made") refl
        (all-append is_line_byte (spaced_numbers (ascending down)) (codes " down: no step can be made") (spaced-bytes (ascending down)) refl)

note-read : (down : Option Ids) (now : Configuration) (steps : List Step) → CanBeRead (note_items (stall_note down now steps))
note-read None now steps = record { given = tt; keys = refl; short = refl }
note-read (Some down) now steps = by (stalls now steps down)
  where
    by : (b : Bool) → CanBeRead (note_items (if b then Some (stall_text now down) else None))
    by true = comment-read (stall_text now down) (stall_text-bytes now down)
    by false = record { given = tt; keys = refl; short = refl }

script-read : DirectiveIsWellFormed → (down : Option Ids) (now : Configuration) (steps : List Step) → CanBeRead (script_items (stall_note down now steps) now steps)
script-read given down now steps = grind (arith, read-append, note-read, restore-read, steps-read)

pair-read : DirectiveIsWellFormed → (options : PlanOptions) (pair : Pair) → CanBeRead (pair_items options pair)
pair-read given options pair = grind (arith, path_between-cases, script-read, comment-read)

blank-read : CanBeRead (Blank ([] ∷ []) ∷ [])
blank-read = record { given = (record { number = 1; lines = [] ∷ []; are_lines = refl; first = Blank ([] ∷ []); is_first = refl; is = refl }, tt); keys = refl; short = refl }

gap-read : (path : Answered) → CanBeRead (gap_with path)
gap-read (Err why) = blank-read
gap-read (Ok []) = blank-read
gap-read (Ok (step ∷ steps)) = record { given = tt; keys = refl; short = refl }

pub all-read : DirectiveIsWellFormed → (options : PlanOptions) (pairs : List Pair) → CanBeRead (all_items options pairs)
all-read given options [] = record { given = tt; keys = refl; short = refl }
all-read given options (pair ∷ []) = pair-read given options pair
all-read given options (pair ∷ next ∷ pairs) = grind (arith, read-append, pair-read, gap-read, all-read given options (next ∷ pairs))

-- ---- what is written of a pair
-- the text of the items of a pair, as a script of its own
abbrev own_text : SessionState → List Item → List ℕ
own_text session items = rewritten_text (answered_entries session items)

reply-script : (options : PlanOptions) (session : SessionState) (number : ℕ) (pair : Pair) → options.output ≡ Script →
    reply_text options session number pair.current (path_between options pair) ≡ own_text session (items_with options.down pair.current (path_between options pair))
unfolding script_text
reply-script options session number pair script =
    path_between-cases options pair (λ path. reply_text options session number pair.current path ≡ own_text session (items_with options.down pair.current path))
    (λ steps. ap (λ output. text_as output session number options.down pair.current steps) script)
    (none (codes "the current configuration has no voter")) (none (codes "the target has no voter")) (none (codes "the target is joint"))
  where
    none : (why : List ℕ) → no_plan_text options.output number why ≡ no_plan_comment why
    none why = ap (λ output. no_plan_text output number why) script

pub session-script : (options : PlanOptions) (session : SessionState) (pair : Pair) → options.output ≡ Script → session_between options session pair ≡ session_after_all session (pair_items options pair)
session-script options session pair script = by (path_between options pair)
  where
    by : (path : Answered) → session_with options session pair.current path ≡ session_after_all session (items_with options.down pair.current path)
    by (Ok steps) = ap (λ output. session_as output session options.down pair.current steps) script
    by (Err why) = refl

-- the text of an item with this output
abbrev answered_line : Item → List ℕ → List ℕ
answered_line item actual = entry_text item actual

-- a text that ends in a newline and another one, without the latter
dropped : (front : List ℕ) → without_double_end ((front ++ newline) ++ newline) ++ newline ≡ (front ++ newline) ++ newline
dropped front = ap (λ t. t ++ newline) (double_end-pushed front 10)

comment-line : (text : List ℕ) → answered_line (comment text) [] ≡ (codes "# " ++ text) ++ newline
comment-line text = append-nil (((codes "# " ++ text) ++ newline) ++ []) ∙ append-nil ((codes "# " ++ text) ++ newline)

-- a comment after other items
after-comment : (session : SessionState) (items : List Item) (text : List ℕ) (last : ℕ) → nat_eq 10 last ≡ false →
    own_text session (items ++ comment (text ++ last ∷ []) ∷ []) ++ newline ≡ answered_text session ((items ++ comment (text ++ last ∷ []) ∷ []) ++ Blank ([] ∷ []) ∷ [])
after-comment session items text last other =
    let front = answered_text session items ++ (codes "# " ++ text) in
    let whole : answered_text session (items ++ comment (text ++ last ∷ []) ∷ []) ≡ (front ++ last ∷ []) ++ newline =
    text-append session items (comment (text ++ last ∷ []) ∷ [])
    ∙ ap (λ t. answered_text session items ++ t) (append-nil (answered_line (comment (text ++ last ∷ [])) []) ∙ comment-line (text ++ last ∷ []))
    ∙ sym (append_assoc (answered_text session items) ((codes "# " ++ text) ++ last ∷ []) newline)
    ∙ ap (λ t. t ++ newline) (sym (append_assoc (answered_text session items) (codes "# " ++ text) (last ∷ []))) in
    ap (λ t. without_double_end t ++ newline) whole
    ∙ ap (λ t. t ++ newline) (double_end-pushed front last ∙ ap (λ b. cond b (front ++ last ∷ []) ((front ++ last ∷ []) ++ newline)) other)
    ∙ ap (λ t. t ++ newline) (sym whole)
    ∙ sym (text-append session (items ++ comment (text ++ last ∷ []) ∷ []) (Blank ([] ∷ []) ∷ []))

-- what is written of an output ends in an empty line
record IsEnded (text : List ℕ) : Type 0 where
  front : List ℕ
  is : text ≡ (front ++ newline) ++ newline

output-ended : (text : List ℕ) → ends_with nat_eq text newline ≡ true → IsEnded (output_text text)
output-ended text ends = by_last (list-by_last text)
  where
    from : (front : List ℕ) (double : Bool) → text ≡ front ++ newline → IsEnded ((opening double ++ text) ++ closing double)
    from front true is = record {
      front = (opening true ++ text) ++ codes "----\n----";
      is = sym (append_assoc (opening true ++ text) (codes "----\n----" ++ newline) newline)
          ∙ ap (λ t. t ++ newline) (sym (append_assoc (opening true ++ text) (codes "----\n----") newline));
    }
    from front false is = record { front = opening false ++ front; is = ap (λ t. (opening false ++ t) ++ newline) is ∙ ap (λ t. t ++ newline) (sym (append_assoc (opening false) front newline)) }

    last-newline : (prefix : List ℕ) (last : ℕ) → text ≡ prefix ++ last ∷ [] → last ≡ 10
    last-newline prefix last is =
        let tested : (nat_eq 10 last && true) ≡ true = sym (ends_with-append prefix (last ∷ []) newline refl) ∙ sym (ap (λ t. ends_with nat_eq t newline) is) ∙ ends in
        search rules

    by_last : (text ≡ []) ⊎ ((prefix : List ℕ) × (last : ℕ) × (text ≡ prefix ++ last ∷ [])) → IsEnded (output_text text)
    by_last (inl none) = let wrong : false ≡ true = sym (ap (λ t. ends_with nat_eq t newline) none) ∙ ends in cc
    by_last (inr p) = from p.0 (has_blank_line text) (p.2 ∙ ap (λ last. p.0 ++ last ∷ []) (last-newline p.0 p.1 p.2))

-- a directive after other items
after-directive : ActualIsValid → (session : SessionState) (items : List Item) (directive : DirectiveText) → item_has_keys (Directive directive) ≡ true →
    own_text session (items ++ Directive directive ∷ []) ++ newline ≡ answered_text session (items ++ Directive directive ∷ [])
after-directive holds session items directive keys =
    let at = session_after_all session items in
    let actual = (answer at directive).actual in
    let ended = output-ended actual (holds at directive keys).ended in
    let text = answered_text session items in
    let kept = kept_text (Directive directive) in
    let whole : answered_text session (items ++ Directive directive ∷ []) ≡ ((text ++ (kept ++ ended.front)) ++ newline) ++ newline =
    text-append session items (Directive directive ∷ [])
    ∙ ap (λ t. text ++ t) (append-nil (kept ++ output_text actual) ∙ ap (λ t. kept ++ t) ended.is
    ∙ sym (append_assoc kept (ended.front ++ newline) newline) ∙ ap (λ t. t ++ newline) (sym (append_assoc kept ended.front newline)))
    ∙ sym (append_assoc text ((kept ++ ended.front) ++ newline) newline)
    ∙ ap (λ t. t ++ newline) (sym (append_assoc text (kept ++ ended.front) newline)) in
    ap (λ t. without_double_end t ++ newline) whole ∙ dropped (text ++ (kept ++ ended.front)) ∙ sym whole

last-step : ActualIsValid → (session : SessionState) (items : List Item) (step : Step) → own_text session (items ++ step_directive step ∷ []) ++ newline ≡ answered_text session (items ++ step_directive step ∷ [])
last-step holds session items step = after-directive holds session items _ (step-keys step)

-- the last of some steps is a directive
steps-then : ActualIsValid → (session : SessionState) (items : List Item) (step : Step) (steps : List Step) →
    own_text session (items ++ map step_directive (step ∷ steps)) ++ newline ≡ answered_text session (items ++ map step_directive (step ∷ steps))
steps-then holds session items step [] = last-step holds session items step
steps-then holds session items step (next ∷ steps) = grind (arith, append_assoc, steps-then holds session (items ++ step_directive step ∷ []) next steps)

-- so the empty line after the script of a pair is that after its items
pair-then : ActualIsValid → (options : PlanOptions) (session : SessionState) (pair : Pair) → own_text session (pair_items options pair) ++ newline ≡ answered_text session (pair_items options pair ++ gap options pair)
pair-then holds options session pair =
    path_between-cases options pair (λ path. own_text session (items_with options.down pair.current path) ++ newline ≡ answered_text session (items_with options.down pair.current path ++ gap_with path))
    by_path refl refl refl
  where
    front : List Step → List Item
    front steps = note_items (stall_note options.down pair.current steps) ++ restore_directive pair.current ∷ []

    by_path : (steps : List Step) → own_text session (items_with options.down pair.current (Ok steps)) ++ newline ≡ answered_text session (items_with options.down pair.current (Ok steps) ++ gap_with (Ok steps))
    by_path [] =
        subst (λ all. own_text session all ++ newline ≡ answered_text session (all ++ Blank ([] ∷ []) ∷ []))
        (append_assoc (note_items (stall_note options.down pair.current [])) (restore_directive pair.current ∷ []) (step_items []))
        (after-comment session (front []) (codes "nothing to d") 111 refl)
    by_path (step ∷ steps) =
        subst (λ all. own_text session all ++ newline ≡ answered_text session (all ++ []))
        (append_assoc (note_items (stall_note options.down pair.current (step ∷ steps))) (restore_directive pair.current ∷ []) (step_items (step ∷ steps)))
        (steps-then holds session (front (step ∷ steps)) step steps ∙ ap (answered_text session) (sym (append-nil (front (step ∷ steps) ++ step_items (step ∷ steps)))))

-- ---- the text of all pairs
-- a text of two bytes at least
abbrev IsLong : List ℕ → Type 0
IsLong [] = ⊥
IsLong (a ∷ []) = ⊥
IsLong (a ∷ b ∷ text) = ⊤

length-long : (text : List ℕ) → IsLong text → 2 ≤ length text
length-long [] long = absurd long
length-long (a ∷ []) long = absurd long
length-long (a ∷ b ∷ text) long = omega arith

script-long : (session : SessionState) (note : Option (List ℕ)) (now : Configuration) (steps : List Step) (more : List Item) → IsLong (answered_text session (script_items note now steps ++ more))
unfolding restore_directive
script-long session None now steps more = tt
script-long session (Some note) now steps more = tt

pair-long : (options : PlanOptions) (session : SessionState) (pair : Pair) (more : List Item) → IsLong (answered_text session (pair_items options pair ++ more))
pair-long options session pair more = grind (arith, path_between-cases, script-long)

all-long : (options : PlanOptions) (session : SessionState) (pair : Pair) (pairs : List Pair) → IsLong (answered_text session (all_items options (pair ∷ pairs)))
all-long options session pair [] = subst (λ items. IsLong (answered_text session items)) (append-nil (pair_items options pair)) (pair-long options session pair [])
all-long options session pair (next ∷ pairs) =
    subst (λ items. IsLong (answered_text session items)) (sym (append_assoc (pair_items options pair) (gap options pair) (all_items options (next ∷ pairs))))
    (pair-long options session pair (gap options pair ++ all_items options (next ∷ pairs)))

gap-after : (session : SessionState) (path : Answered) → session_after_all session (gap_with path) ≡ session
gap-after session path = grind arith

texts-script : ActualIsValid → (options : PlanOptions) → options.output ≡ Script → (session : SessionState) (number : ℕ) (pairs : List Pair) →
    separated_by newline (texts_from options session number pairs) ≡ own_text session (all_items options pairs)
texts-script holds options script session number [] = refl
texts-script holds options script session number (pair ∷ []) = reply-script options session number pair script
texts-script holds options script session number (pair ∷ next ∷ pairs) =
    let items = pair_items options pair in
    let between = gap options pair in
    let after = session_after_all session items in
    let more = all_items options (next ∷ pairs) in
    let moved = session-script options session pair script in
    let rest = texts-script holds options script (session_between options session pair) (number + 1) (next ∷ pairs) ∙ ap (λ s. own_text s more) moved in
    let same = session-append session items between ∙ gap-after after (path_between options pair) in
    (λ i. reply-script options session number pair script i ++ (newline ++ rest i))
    ∙ sym (append_assoc (own_text session items) newline (own_text after more))
    ∙ ap (λ t. t ++ own_text after more) (pair-then holds options session pair)
    ∙ sym (double_end-after (answered_text session (items ++ between)) (answered_text after more) (length-long (answered_text after more) (all-long options after next pairs)))
    ∙ ap (λ s. without_double_end (answered_text session (items ++ between) ++ answered_text s more)) (sym same)
    ∙ ap without_double_end (sym (text-append session (items ++ between) more))

pub planned-script : ActualIsValid → (options : PlanOptions) (input : List ℕ) → options.output ≡ Script →
    (planned_output options input).text ≡ rewritten_text (answered_entries default_session (all_items options (pairs_in options input)))
planned-script holds options input script =
    planned-text options input ∙ ap (λ output. separated_by (separator output) (texts_from options default_session 1 (pairs_in options input))) script
    ∙ texts-script holds options script default_session 1 (pairs_in options input)

-- the text for the values of --from and --to
pub texts_of_pair-script : (options : PlanOptions) (from to : List ℕ) → options.output ≡ Script →
    (planned_texts options from to).text ≡ rewritten_text (answered_entries default_session (all_items options (pairs_in_texts options from to)))
unfolding planned_texts
texts_of_pair-script options from to script = by (pair_of_texts options from to)
  where
    by : (read : Result Pair PlanInputFault) → (pair_then options default_session 1 read (ends (Ok Clean))).text ≡ own_text default_session (all_items options (pair_before read []))
    by (Err bad) = refl
    by (Ok pair) = append-nil (plan_text_between options default_session 1 pair) ∙ reply-script options default_session 1 pair script

-- ---- it checks clean
pub script-clean : WrittenScript → DirectiveIsWellFormed → ActualIsValid → (options : PlanOptions) (pairs : List Pair) (text : List ℕ) →
    text ≡ rewritten_text (answered_entries default_session (all_items options pairs)) → length text ≤ longest_input → (checked text 100 One).outcome ≡ Ok Clean
unfolding default_session
script-clean written given holds options pairs text is fits = grind (arith, written-clean, all-read)
