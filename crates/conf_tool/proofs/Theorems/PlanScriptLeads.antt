-- That a session which runs the script of the pairs takes the steps of each path.
use Rattle.std.proofs.Common.{◌≡◌, ◌≤◌, ℕ, Bool, true, false, List, [], ◌∷◌, ◌++◌, map, length, refl, sym, ◌∙◌, ap, subst, arith}
use Rattle.std.specs.Prelude.{Option, Some, Ok, Err, codes, if◌then◌else◌, ◌↔◌}
use Rattle.std.specs.List.{All}
use Rattle.std.proofs.lemmas.List.{append-nil}
use Rattle.std.proofs.lemmas.List.Elements.{All-head, All-tail}
use Rattle.quorum_sets.specs.Ids.{Ids}
use Rattle.ascii_text.specs.Lines.{text_of}
use Rattle.ascii_text.specs.WhiteSpace.{trimmed}
use Rattle.ascii_text.proofs.Offered.{ends-before_blank}
use Rattle.dd_file.specs.DirectiveText.{DirectiveText}
use Rattle.dd_file.specs.Position.{longest_input}
use Rattle.dd_file.specs.Grammar.{script_of}
use Rattle.dd_file.specs.Rewritten.{rewritten_text}
use Rattle.dd_file.specs.Laws.{DirectiveIsWellFormed, WrittenScript, directives_of}
use Rattle.dd_file.specs.Items.{Item, Comment, Blank, Directive}
use Rattle.conf_change.specs.Changer.{begun_with}
use Rattle.conf_change.specs.Configuration.{Configuration, has_voter, is_restorable}
use Rattle.conf_change.specs.ConfState.{ConfStateLists, Describes, lists_of, restored}
use Rattle.conf_change.specs.ConfStateLine.{conf_state_text, conf_state_in}
use Rattle.conf_change.proofs.Offered.{DenotesConfState-printed, ParsesToNumbers-spaced, conf_state_in-ok, trimmed-bracketed_line}
use Rattle.conf_change.specs.Text.{spaced_numbers}
use Rattle.conf_change.specs.declared.step.Step.{Step}
use Rattle.conf_plan.specs.PathBy.{has_path, path_by, ids_down}
use Rattle.conf_plan.specs.PlanSteps.{HasU64Ids}
use Rattle.conf_plan.specs.Run.{IsRun}
use Rattle.conf_session.specs.SessionState.{SessionState, current}
use Rattle.conf_session.specs.Commands.{Answer, answer, answered, after_answers, if_read, reply_of, restore_reply, row_of}
use Rattle.conf_session.specs.Input.{conf_state_read}
use Rattle.conf_session.specs.Reply.{restored_with}
use Rattle.conf_session.specs.Values.{read_arguments}
use Rattle.conf_change.specs.U64Lists.{HasU64Lists}
use Rattle.plan_output.specs.Steps.{stall_note}
use Rattle.conf_tool.specs.Laws.{IsScriptOf, LeadsThrough, NoPair, WithPath, WithoutPath, PlanScriptLeads, pairs_in, pairs_in_texts}
use Rattle.conf_tool.specs.Outputs.{planned_output, planned_texts}
use Rattle.conf_tool.specs.PlanAnswer.{path_between}
use Rattle.conf_tool.specs.PlanScript.{note_items, restore_directive, script_items, default_session}
use Rattle.conf_tool.specs.Reports.{answered_entries}
use Rattle.conf_tool.specs.UndoScript.{TakesSteps}
use Rattle.conf_tool.specs.Pairs.{Pair}
use Rattle.conf_tool.specs.declared.plan_options.PlanOptions.{PlanOptions}
use Rattle.conf_tool.proofs.Theorems.PairByPair.{AreValid, HoldsOfPairs, all-pairs, pair-read, pair-valid, texts-pairs}
use Rattle.conf_tool.proofs.Theorems.PlanScript.{Answered, items_with, gap_with, all_items, all-read, planned-script, script-clean, texts_of_pair-script}
use Rattle.conf_tool.proofs.Theorems.RewrittenScript.{ActualIsValid, AreAgain, read-again}
use Rattle.conf_tool.proofs.Theorems.PromisedPaths.{PathsAreRuns}
use Rattle.conf_tool.proofs.Theorems.U64Paths.{path_by-u64}
use Rattle.conf_tool.proofs.Theorems.U64Texts.{PrintedIsRead, current_in-u64, target_in-u64}
use Rattle.conf_tool.proofs.Theorems.UndoneScript.{ChangesAreRead, directive_for, directives-items, run-comes, takes-again}

-- ---- the directive that restores a configuration
abbrev restore_for : Configuration → DirectiveText
restore_for c = record {
  line = 1;
  command = codes "restore";
  arguments = [];
  input = trimmed (text_of (conf_state_text (lists_of c) ∷ []));
  expected = [];
  raw_lines = codes "restore" ∷ conf_state_text (lists_of c) ∷ [];
}

restore-is : (c : Configuration) → restore_directive c ≡ Directive (restore_for c)
unfolding restore_directive
restore-is c = refl

-- its input is the line of the configuration
trimmed-line : (saved : ConfStateLists) → trimmed (conf_state_text saved) ≡ conf_state_text saved
trimmed-line saved = trimmed-bracketed_line (spaced_numbers saved.voters) (spaced_numbers saved.voters_outgoing) (spaced_numbers saved.learners) (spaced_numbers saved.learners_next) saved.auto_leave

input-line : (saved : ConfStateLists) → trimmed (text_of (conf_state_text saved ∷ [])) ≡ conf_state_text saved
input-line saved = grind (arith, append-nil, ends-before_blank, trimmed-line)

line-read : (c : Configuration) → HasU64Lists c → conf_state_in (trimmed (text_of (conf_state_text (lists_of c) ∷ []))) ≡ Some (lists_of c)
line-read c small =
    ap conf_state_in (input-line (lists_of c))
    ∙ conf_state_in-ok (conf_state_text (lists_of c)) (lists_of c)
    (DenotesConfState-printed (lists_of c) (ParsesToNumbers-spaced _ small.incoming) (ParsesToNumbers-spaced _ small.outgoing) (ParsesToNumbers-spaced _ small.learners) (ParsesToNumbers-spaced _ small.learners_next))

abbrev IsRestored : Type 0
IsRestored = (saved : ConfStateLists) (c : Configuration) → ((restored saved ≡ Some c) ↔ (Describes saved c × (is_restorable c ≡ true)))

abbrev DescribesOwn : Type 0
DescribesOwn = (c : Configuration) → Describes (lists_of c) c

-- the answer to a row whose input is a saved configuration that is read so
abbrev answer_read : SessionState → Option ConfStateLists → Answer
answer_read session read =
    let row = row_of (codes "restore") in
    answered session (if_read (λ input. if_read (λ values. reply_of row.command session input values) (read_arguments row.parameters [])) (conf_state_read read))

restore-answer : IsRestored → DescribesOwn → (session : SessionState) (c : Configuration) → HasU64Lists c → is_restorable c ≡ true →
    answer session (restore_for c) ≡ answered session (restored_with (begun_with session.changer.tracker.floor session.changer.last_index c))
restore-answer restored_is own session c small restorable =
    let made : restored (lists_of c) ≡ Some c = (restored_is (lists_of c) c).1 (own c, restorable) in
    ap (answer_read session) (line-read c small) ∙ ap (λ r. answered session (restore_reply session.changer r)) made

restored-current : IsRestored → DescribesOwn → (session : SessionState) (c : Configuration) → HasU64Lists c → is_restorable c ≡ true → current (answer session (restore_for c)).session ≡ c
restored-current restored_is own session c small restorable = ap (λ (a : Answer). current a.session) (restore-answer restored_is own session c small restorable)

-- ---- the directives of all pairs
abbrev directives_with : Configuration → Answered → List DirectiveText
directives_with now (Err why) = []
directives_with now (Ok steps) = restore_for now ∷ map directive_for steps

abbrev own_directives : PlanOptions → List Pair → List DirectiveText
own_directives options [] = []
own_directives options (pair ∷ pairs) = directives_with pair.current (path_between options pair) ++ own_directives options pairs

directives-append : (xs ys : List Item) → directives_of (xs ++ ys) ≡ directives_of xs ++ directives_of ys
directives-append [] ys = refl
directives-append (Comment lines ∷ xs) ys = directives-append xs ys
directives-append (Blank lines ∷ xs) ys = directives-append xs ys
directives-append (Directive directive ∷ xs) ys = ap (λ ds. directive ∷ ds) (directives-append xs ys)

directives-note : (note : Option (List ℕ)) → directives_of (note_items note) ≡ []
directives-note note = grind arith

directives-script : (note : Option (List ℕ)) (now : Configuration) (steps : List Step) → directives_of (script_items note now steps) ≡ restore_for now ∷ map directive_for steps
directives-script _ now steps = grind (arith, directives-append, directives-note, restore-is, directives-items)

directives-pair : (down : Option Ids) (now : Configuration) (path : Answered) → directives_of (items_with down now path) ≡ directives_with now path
directives-pair down now (Err why) = refl
directives-pair down now (Ok steps) = directives-script (stall_note down now steps) now steps

directives-gap : (path : Answered) → directives_of (gap_with path) ≡ []
directives-gap path = grind arith

directives-all : (options : PlanOptions) (pairs : List Pair) → directives_of (all_items options pairs) ≡ own_directives options pairs
directives-all options [] = refl
directives-all options (pair ∷ []) = directives-pair options.down pair.current (path_between options pair) ∙ sym (append-nil (directives_with pair.current (path_between options pair)))
directives-all options (pair ∷ next ∷ pairs) = grind (arith, directives-append, directives-gap, append-nil, directives-pair, directives-all options (next ∷ pairs))

-- ---- they lead through the pairs
-- what is known of a pair that was read
record IsKnown (pair : Pair) : Type 0 where
  valid : AreValid pair
  now : HasU64Lists pair.current
  target : HasU64Lists pair.target

pair-known : PrintedIsRead → (options : PlanOptions) → HoldsOfPairs options IsKnown
pair-known printed options from to first second pair e =
    let read = pair-read options from to first second pair e in
    let now = current_in-u64 printed first pair.current read.current in
    record { valid = pair-valid options from to first second pair e; now = now; target = target_in-u64 printed pair.current second pair.target now read.target }

-- steps that lead from the one configuration of a pair, which can be restored, to the other
record LeadOn (pair : Pair) (steps : List Step) : Type 0 where
  restorable : is_restorable pair.current ≡ true
  run : IsRun pair.current steps pair.target
  u64_ids : All HasU64Ids steps

abbrev PathsLeadOn : Type 0
PathsLeadOn = (options : PlanOptions) (pair : Pair) (steps : List Step) → IsKnown pair → path_between options pair ≡ Ok steps → LeadOn pair steps

own-leads : IsRestored → DescribesOwn → ChangesAreRead → PathsLeadOn → (options : PlanOptions) (session : SessionState) (pairs : List Pair) → All IsKnown pairs →
    LeadsThrough options session (own_directives options pairs) pairs
own-leads restored_is own read paths options session [] known = NoPair session
own-leads restored_is own read paths options session (pair ∷ pairs) known =
    by_path (path_between options pair) refl (λ after. own-leads restored_is own read paths options after pairs (All-tail IsKnown pair pairs known))
  where
    this : IsKnown pair
    this = All-head IsKnown pair pairs known

    by_path : (path : Answered) → path_between options pair ≡ path → ((after : SessionState) → LeadsThrough options after (own_directives options pairs) pairs) →
        LeadsThrough options session (directives_with pair.current path ++ own_directives options pairs) (pair ∷ pairs)
    by_path (Err why) is rest = WithoutPath session (own_directives options pairs) pair pairs why is (rest session)
    by_path (Ok steps) is rest =
        let path = paths options pair steps this is in
        let first = restore_for pair.current in
        let restored_to = restored-current restored_is own session pair.current this.now path.restorable in
        let comes = run-comes read (answer session first).session steps pair.target path.u64_ids (subst (λ c. IsRun c steps pair.target) (sym restored_to) path.run) in
        WithPath session first (map directive_for steps) (own_directives options pairs) pair pairs steps is
        (record { command = refl; restored = restored_to; taken = comes.taken; there = comes.there })
        (rest (after_answers session (first ∷ map directive_for steps)))

-- ---- and so do those that are read again
-- directives that are read again, in two parts
record AreParts (session : SessionState) (xs ys again : List DirectiveText) : Type 0 where
  first : List DirectiveText
  second : List DirectiveText
  whole : again ≡ first ++ second
  same_first : AreAgain session xs first
  same_second : AreAgain (after_answers session xs) ys second

parts-of : (session : SessionState) (xs ys again : List DirectiveText) → AreAgain session (xs ++ ys) again → AreParts session xs ys again
parts-of session [] ys again same = record { first = []; second = again; whole = refl; same_first = tt; same_second = same }
parts-of session (x ∷ xs) ys [] same = absurd same
parts-of session (x ∷ xs) ys (z ∷ again) same =
    let rest = parts-of (answer session x).session xs ys again same.1 in
    record { first = z ∷ rest.first; second = rest.second; whole = ap (λ ds. z ∷ ds) rest.whole; same_first = (same.0, rest.same_first); same_second = rest.same_second }

leads-again : (options : PlanOptions) (session : SessionState) (directives again : List DirectiveText) (pairs : List Pair) → AreAgain session directives again →
    LeadsThrough options session directives pairs → LeadsThrough options session again pairs
leads-again options session [] [] pairs same (NoPair at) = NoPair session
leads-again options session [] (other ∷ again) pairs same (NoPair at) = absurd same
leads-again options session directives [] pairs same (WithPath at first others more pair rest steps path takes leads) = absurd same
leads-again options session directives (other ∷ again) pairs same (WithPath at first others more pair rest steps path takes leads) =
    let parts = parts-of (answer session first).session others more again same.1 in
    let answers = same.0.answers session in
    let after = ap (λ (a : Answer). a.session) answers in
    let taken = takes-again (answer session first).session others parts.first steps parts.same_first takes.taken in
    let moved = subst (λ s. TakesSteps s parts.first steps × (after_answers s parts.first ≡ after_answers session (first ∷ others))) (sym after) (taken.taken, taken.after) in
    let left = leads-again options (after_answers session (first ∷ others)) more parts.second rest parts.same_second leads in
    subst (λ ds. LeadsThrough options session (other ∷ ds) (pair ∷ rest)) (sym parts.whole)
    (WithPath session other parts.first parts.second pair rest steps path
    (record { command = same.0.command ∙ takes.command; restored = ap (λ (a : Answer). current a.session) answers ∙ takes.restored; taken = moved.0; there = ap current moved.1 ∙ takes.there })
    (subst (λ s. LeadsThrough options s parts.second rest) (sym moved.1) left))
leads-again options session directives again pairs same (WithoutPath at own pair rest why path leads) = WithoutPath session again pair rest why path (leads-again options session directives again rest same leads)

-- ---- each path leads on
between-leads_on : PathsAreRuns → PathsLeadOn
between-leads_on runs options pair steps known is = by (has_voter pair.current) (has_voter pair.target) (has_path pair.strategy pair.current pair.target) refl refl refl is
  where
    path : List Step
    path = path_by pair.strategy (ids_down options.down) pair.current pair.target

    by : (a b c : Bool) → has_voter pair.current ≡ a → has_voter pair.target ≡ b → has_path pair.strategy pair.current pair.target ≡ c →
        ◌≡◌ {A = Answered} (if a then (if b then (if c then Ok path else Err (codes "the target is joint")) else Err (codes "the target has no voter")) else Err (codes "the current configuration has no voter")) (Ok steps) →
        LeadOn pair steps
    by false b c x y z e = let wrong : ⊥ = cc in absurd wrong
    by true false c x y z e = let wrong : ⊥ = cc in absurd wrong
    by true true false x y z e = let wrong : ⊥ = cc in absurd wrong
    by true true true x y z e =
        let same : path ≡ steps = cc in
        let valid = known.valid in
        subst (LeadOn pair) same (record {
          restorable = simp (valid.now, x) refl;
          run = runs pair.strategy (ids_down options.down) pair.current pair.target (record { valid = valid.now; voter = x }) (record { valid = valid.target; voter = y }) z;
          u64_ids = path_by-u64 pair.strategy (ids_down options.down) pair.current pair.target known.now known.target;
        })

-- what a text says that is the script of pairs
text-leads : WrittenScript → DirectiveIsWellFormed → ActualIsValid → IsRestored → DescribesOwn → ChangesAreRead → PathsAreRuns → (options : PlanOptions) (pairs : List Pair) (text : List ℕ) →
    All IsKnown pairs → text ≡ rewritten_text (answered_entries default_session (all_items options pairs)) → length text ≤ longest_input → IsScriptOf options pairs text
text-leads written given holds restored_is own read runs options pairs text known is fits =
    let items = all_items options pairs in
    let again = directives_of (script_of (rewritten_text (answered_entries default_session items))).items in
    let back = read-again written holds default_session items (all-read given options pairs) (subst (λ t. length t ≤ longest_input) is fits) in
    let leads = own-leads restored_is own read (between-leads_on runs) options default_session pairs known in
    record {
      clean = script-clean written given holds options pairs text is fits;
      leads = subst (λ t. LeadsThrough options default_session (directives_of (script_of t).items) pairs) (sym is)
          (leads-again options default_session (own_directives options pairs) again pairs (subst (λ ds. AreAgain default_session ds again) (directives-all options pairs) back.1) leads);
    }

pub script-leads : WrittenScript → DirectiveIsWellFormed → ActualIsValid → IsRestored → DescribesOwn → ChangesAreRead → PathsAreRuns → PrintedIsRead → PlanScriptLeads
script-leads written given holds restored_is own read runs printed = record {
  each = λ options input script fits.
      (text-leads written given holds restored_is own read runs options (pairs_in options input) (planned_output options input).text (all-pairs options IsKnown (pair-known printed options) input)
      (planned-script holds options input script) fits);
  texts = λ options from to script fits.
      (text-leads written given holds restored_is own read runs options (pairs_in_texts options from to) (planned_texts options from to).text (texts-pairs options IsKnown (pair-known printed options) from to)
      (texts_of_pair-script options from to script) fits);
}
