-- Of the mode `plan`: what each line leaves of its output.
use Rattle.std.proofs.Common.{◌≡◌, ℕ, Bool, ◌||◌, ◌+◌, ◌<◌, ◌≤◌, true, false, List, [], ◌∷◌, ◌++◌, refl, sym, ◌∙◌, ap, subst, arith, inl, inr, lt-ltb, le-ltb}
use Rattle.std.specs.Prelude.{Option, Some, None, Result, Ok, Err, IfSome, IfErr, IsOkUnless, nat_lt}
use Rattle.std.proofs.Math.Bool.{or-false}
use Rattle.std.proofs.lemmas.List.{append-nil}
use Rattle.dd_file.specs.Grammar.{Script}
use Rattle.dd_file.specs.declared.fault.FileFault.{FileFault}
use Rattle.conf_change.specs.Configuration.{Configuration, is_valid}
use Rattle.conf_session.specs.SessionState.{SessionState}
use Rattle.plan_input.specs.Input.{target_in}
use Rattle.conf_tool.specs.Answered.{script, prepended, with_prefix, HasPlanned, pairs_within, pairs_left, with_status, plan_left}
use Rattle.conf_tool.specs.Outputs.{Output, ends, pair_text, worse_of, pair_then, session_after_pair, ends_within, planned_pairs, planned_script, planned_texts}
use Rattle.conf_tool.specs.Pairs.{Pair, NumberedLine, numbered, is_skipped, configuration_lines, current_at, current_written, paired, pair_between, pair_from, pair_to, with_target, written_at, pair_of_texts, IsFaultOf}
use Rattle.conf_tool.specs.Run.{Means, Wrote, IsStop, is_read_failure, is_write_failure}
use Rattle.conf_tool.specs.declared.mode.Mode.TheVariants.{Plan as OfPlan}
use Rattle.conf_tool.specs.declared.origin.Origin.{Origin}
use Rattle.conf_tool.specs.declared.origin.Origin.TheVariants.{From, To}
use Rattle.conf_tool.specs.PlanAnswer.{plan_status, session_between}
use Rattle.conf_tool.specs.PlanScript.{default_session}
use Rattle.conf_tool.specs.declared.pair.Current.{Current}
use Rattle.conf_tool.specs.declared.plan_input_fault.PlanInputFault.{PlanInputFault}
use Rattle.conf_tool.specs.declared.plan_input_fault.PlanInputFault.TheVariants.{NotTwoLines, NoTarget}
use Rattle.conf_tool.specs.declared.plan_options.PlanOptions.{PlanOptions}
use Rattle.conf_tool.specs.declared.status.Status.{Status}
use Rattle.conf_tool.specs.declared.status.Status.TheVariants.{Clean, Different}
use Rattle.conf_tool.specs.declared.tool_fault.ToolFault.{ToolFault}
use Rattle.conf_tool.specs.declared.tool_fault.ToolFault.TheVariants.{Script as ScriptFault, Configurations, NoMemory}
use Rattle.conf_tool.proofs.ModeOutput.FirstParts.{appends-nothing, part-nothing}

-- ---- statuses
worse_of-twice : (a b c : Status) (outcome : Result Status ToolFault) → ◌≡◌ {A = Result Status ToolFault} (Ok c) (worse_of a (Ok b)) → worse_of a (worse_of b outcome) ≡ worse_of c outcome
worse_of-twice a b c (Err fault) e = refl
worse_of-twice Clean Clean c (Ok later) e = let same : Clean ≡ c = cc in ap (λ s. worse_of s (Ok later)) same
worse_of-twice Clean Different c (Ok later) e = let same : Different ≡ c = cc in ap (λ s. worse_of s (Ok later)) same
worse_of-twice Different Clean c (Ok later) e = let same : Different ≡ c = cc in ap (λ s. worse_of s (Ok later)) same
worse_of-twice Different Different c (Ok later) e = let same : Different ≡ c = cc in ap (λ s. worse_of s (Ok later)) same

worse_of-begin : (outcome : Result Status ToolFault) → worse_of Clean outcome ≡ outcome
worse_of-begin outcome = grind arith

worse_of-clean : (status : Status) → worse_of status (Ok Clean) ≡ Ok status
worse_of-clean status = grind arith

-- ---- the lines that are not passed over
configuration_lines-passed : (line : NumberedLine) (lines : List NumberedLine) → is_skipped line.text ≡ true → configuration_lines (line ∷ lines) ≡ configuration_lines lines
configuration_lines-passed line lines passed = simp passed refl

configuration_lines-kept : (line : NumberedLine) (lines : List NumberedLine) → is_skipped line.text ≡ false → configuration_lines (line ∷ lines) ≡ line ∷ configuration_lines lines
configuration_lines-kept line lines kept = simp kept refl

-- ---- what a line leaves
pub plan_left-passed : (options : PlanOptions) (session : SessionState) (count number : ℕ) (now : Option Current) (status : Status) (line : List ℕ) → is_skipped line ≡ true → (rest : Script (List ℕ)) →
    plan_left options session count number now status (prepended (line ∷ []) rest) ≡ with_prefix [] (plan_left options session (count + 1) number now status rest)
plan_left-passed options session count number now status line passed rest =
    ap (λ lines. with_status status (pairs_left options session number now lines rest.fault)) (configuration_lines-passed (record { number = count + 1; text = line }) (numbered (count + 1 + 1) rest.items) passed)

-- what is left with a pair that these two lines gave
abbrev pair_with : PlanOptions → SessionState → ℕ → Result Pair PlanInputFault → List NumberedLine → Option FileFault → Output
pair_with options session number pair lines fault = pair_then options session number pair (planned_pairs options (session_after_pair options session pair) (number + 1) lines fault)

pairs-first : (options : PlanOptions) (session : SessionState) (number : ℕ) (line : NumberedLine) (first : Result Current PlanInputFault) (lines : List NumberedLine) (fault : Option FileFault) → current_at options line ≡ first →
    planned_pairs options session number (line ∷ lines) fault ≡ pairs_within options session number first lines fault
pairs-first options session number line first [] fault is = ap (λ actual. ends_within actual fault) is
pairs-first options session number line first (second ∷ lines) fault is = ap (λ actual. pairs_within options session number actual (second ∷ lines) fault) is

pairs_within-bad : (options : PlanOptions) (session : SessionState) (number : ℕ) (bad : PlanInputFault) (lines : List NumberedLine) (fault : Option FileFault) → pairs_within options session number (Err bad) lines fault ≡ ends (Err (Configurations bad))
pairs_within-bad options session number bad lines fault = grind arith

-- the first line of a pair
pub plan_left-first : (options : PlanOptions) (session : SessionState) (count number : ℕ) (status : Status) (line : List ℕ) (first : Current) →
    is_skipped line ≡ false → current_at options (record { number = count + 1; text = line }) ≡ Ok first → (rest : Script (List ℕ)) →
    plan_left options session count number None status (prepended (line ∷ []) rest) ≡ with_prefix [] (plan_left options session (count + 1) number (Some first) status rest)
plan_left-first options session count number status line first kept is rest =
    let at : NumberedLine = record { number = count + 1; text = line } in
    let lines = numbered (count + 1 + 1) rest.items in
    ap (λ ls. with_status status (planned_pairs options session number ls rest.fault)) (configuration_lines-kept at lines kept)
    ∙ ap (with_status status) (pairs-first options session number at (Ok first) (configuration_lines lines) rest.fault is)

-- .. and the second
pub plan_left-second : (options : PlanOptions) (session : SessionState) (count number : ℕ) (current : Current) (pair : Pair) (status after : Status) (line : List ℕ) →
    is_skipped line ≡ false → pair_to options (record { number = count + 1; text = line }) current ≡ Ok pair → ◌≡◌ {A = Result Status ToolFault} (Ok after) (worse_of status (Ok (plan_status options pair))) → (rest : Script (List ℕ)) →
    plan_left options session count number (Some current) status (prepended (line ∷ []) rest) ≡ with_prefix (pair_text options session number pair) (plan_left options (session_between options session pair) (count + 1) (number + 1) None after rest)
plan_left-second options session count number current pair status after line kept is worse rest =
    let at : NumberedLine = record { number = count + 1; text = line } in
    let lines = numbered (count + 1 + 1) rest.items in
    let left = planned_pairs options (session_between options session pair) (number + 1) (configuration_lines lines) rest.fault in
    ap (λ ls. with_status status (pairs_within options session number (Ok current) ls rest.fault)) (configuration_lines-kept at lines kept)
    ∙ ap (λ actual. with_status status (pair_with options session number actual (configuration_lines lines) rest.fault)) is
    ∙ ap (λ outcome. record { text = pair_text options session number pair ++ left.text; outcome = outcome }) (worse_of-twice status (plan_status options pair) after left.outcome worse)

-- .. where these are the values after the reply
pub plan_left-pair : (options options_after : PlanOptions) (session session_after : SessionState) (count count_after number number_after : ℕ) (now now_after : Option Current) (status status_after : Status) (line text : List ℕ) (current : Current) (pair : Pair) →
    now ≡ Some current → is_skipped line ≡ false → pair_to options (record { number = count + 1; text = line }) current ≡ Ok pair →
    options_after ≡ options → session_after ≡ session_between options session pair → count_after ≡ count + 1 → number_after ≡ number + 1 → now_after ≡ None →
    ◌≡◌ {A = Result Status ToolFault} (Ok status_after) (worse_of status (Ok (plan_status options pair))) → text ≡ pair_text options session number pair → (rest : Script (List ℕ)) →
    plan_left options session count number now status (prepended (line ∷ []) rest) ≡ with_prefix text (plan_left options_after session_after count_after number_after now_after status_after rest)
plan_left-pair options options_after session session_after count count_after number number_after now now_after status status_after line text current pair there kept is same moved next following none worse made rest =
    rw (there, same, moved, next, following, none, made) (plan_left-second options session count number current pair status status_after line kept is worse rest)

-- a line with an error ends the output: the first of a pair
pub plan_left-bad_current : (options : PlanOptions) (session : SessionState) (count number : ℕ) (status : Status) (line : List ℕ) (bad : PlanInputFault) →
    is_skipped line ≡ false → current_at options (record { number = count + 1; text = line }) ≡ Err bad → (rest : Script (List ℕ)) →
    plan_left options session count number None status (prepended (line ∷ []) rest) ≡ ends (Err (Configurations bad))
plan_left-bad_current options session count number status line bad kept is rest =
    let at : NumberedLine = record { number = count + 1; text = line } in
    let lines = numbered (count + 1 + 1) rest.items in
    ap (λ ls. with_status status (planned_pairs options session number ls rest.fault)) (configuration_lines-kept at lines kept)
    ∙ ap (with_status status) (pairs-first options session number at (Err bad) (configuration_lines lines) rest.fault is ∙ pairs_within-bad options session number bad (configuration_lines lines) rest.fault)

-- .. and the second
pub plan_left-bad_target : (options : PlanOptions) (session : SessionState) (count number : ℕ) (current : Current) (status : Status) (line : List ℕ) (bad : PlanInputFault) →
    is_skipped line ≡ false → pair_to options (record { number = count + 1; text = line }) current ≡ Err bad → (rest : Script (List ℕ)) →
    plan_left options session count number (Some current) status (prepended (line ∷ []) rest) ≡ ends (Err (Configurations bad))
plan_left-bad_target options session count number current status line bad kept is rest =
    let at : NumberedLine = record { number = count + 1; text = line } in
    let lines = numbered (count + 1 + 1) rest.items in
    ap (λ ls. with_status status (pairs_within options session number (Ok current) ls rest.fault)) (configuration_lines-kept at lines kept)
    ∙ ap (λ actual. with_status status (pair_with options session number actual (configuration_lines lines) rest.fault)) is

-- the end of the input
pub plan_left-fault : (options : PlanOptions) (session : SessionState) (count number : ℕ) (now : Option Current) (status : Status) (fault : FileFault) →
    plan_left options session count number now status (script [] (Some fault)) ≡ ends (Err (ScriptFault fault))
plan_left-fault options session count number now status fault = grind arith

pub plan_left-within : (options : PlanOptions) (session : SessionState) (count number : ℕ) (now : Option Current) (current : Current) (status : Status) → now ≡ Some current →
    plan_left options session count number now status (script [] None) ≡ ends (Err (Configurations (NoTarget current.origin)))
plan_left-within options session count number now current status is = ap (λ at. plan_left options session count number at status (script [] None)) is

pub plan_left-no_pair : (options : PlanOptions) (session : SessionState) (count number : ℕ) (now : Option Current) (status : Status) → now ≡ None → number ≤ 1 →
    plan_left options session count number now status (script [] None) ≡ ends (Err (Configurations NotTwoLines))
plan_left-no_pair options session count number now status none few =
    let none_yet : nat_lt 1 number ≡ false = le-ltb 1 number few in
    ap (λ at. plan_left options session count number at status (script [] None)) none ∙ simp none_yet refl

pub plan_left-ended : (options : PlanOptions) (session : SessionState) (count number : ℕ) (now : Option Current) (status : Status) → now ≡ None → 1 < number →
    plan_left options session count number now status (script [] None) ≡ ends (Ok status)
plan_left-ended options session count number now status none some =
    let one : nat_lt 1 number ≡ true = lt-ltb 1 number some in
    ap (λ at. plan_left options session count number at status (script [] None)) none ∙ simp one (ap ends (worse_of-clean status))

-- before the first line
pub plan_left-begin : (options : PlanOptions) (session : SessionState) (count number : ℕ) (now : Option Current) (status : Status) → session ≡ default_session → count ≡ 0 → number ≡ 1 → now ≡ None → status ≡ Clean →
    (rest : Script (List ℕ)) → plan_left options session count number now status rest ≡ planned_script options rest
plan_left-begin options session count number now status begins none first empty clean rest =
    rw (begins, none, first, empty, clean) (ap (λ o. record { text = (planned_script options rest).text; outcome = o }) (worse_of-begin (planned_script options rest).outcome))

-- ---- how many pairs there are
pub planned-part : (lines lines_after number number_after count : ℕ) (now now_after : Option Current) → HasPlanned lines number now count → lines_after ≡ lines + 1 → number_after ≤ number + 1 →
    IfSome now_after (λ current. is_valid current.config ≡ true) → HasPlanned lines_after number_after now_after (count + 1)
planned-part lines lines_after number number_after count now now_after planned next few valid = record {
  counted = omega (arith, planned.counted, next);
  few = omega (arith, planned.few, few);
  valid = valid;
}

-- ---- a line with an error stops the run
stop-at : {A : Type 0} (read : Result A PlanInputFault) (stop : ToolFault) (left : Script (List ℕ) → Output) → ((bad : PlanInputFault) → read ≡ Err bad → (rest : Script (List ℕ)) → left rest ≡ ends (Err (Configurations bad))) →
    IsFaultOf read stop → IsStop OfPlan stop ((rest : Script (List ℕ)) → left rest ≡ ends (Err stop))
stop-at read stop left ended (inl memory) = subst (λ s. IsStop OfPlan s ((rest : Script (List ℕ)) → left rest ≡ ends (Err s))) (sym memory) tt
stop-at read stop left ended (inr bad) = subst (λ s. IsStop OfPlan s ((rest : Script (List ℕ)) → left rest ≡ ends (Err s))) (sym bad.1) (tt, ended bad.0 bad.2)

-- .. the first line of a pair
pub stop-at_current : (options : PlanOptions) (session : SessionState) (count number : ℕ) (status : Status) (line : List ℕ) (stop : ToolFault) →
    is_skipped line ≡ false → IsFaultOf (current_at options (record { number = count + 1; text = line })) stop →
    IsStop OfPlan stop ((rest : Script (List ℕ)) → plan_left options session count number None status (prepended (line ∷ []) rest) ≡ ends (Err stop))
stop-at_current options session count number status line stop kept =
    stop-at (current_at options (record { number = count + 1; text = line })) stop (λ rest. plan_left options session count number None status (prepended (line ∷ []) rest))
    (λ bad read. plan_left-bad_current options session count number status line bad kept read)

-- .. or the second
pub stop-at_target : (options : PlanOptions) (session : SessionState) (count number : ℕ) (current : Current) (status : Status) (line : List ℕ) (stop : ToolFault) →
    is_skipped line ≡ false → IsFaultOf (pair_to options (record { number = count + 1; text = line }) current) stop →
    IsStop OfPlan stop ((rest : Script (List ℕ)) → plan_left options session count number (Some current) status (prepended (line ∷ []) rest) ≡ ends (Err stop))
stop-at_target options session count number current status line stop kept =
    stop-at (pair_to options (record { number = count + 1; text = line }) current) stop (λ rest. plan_left options session count number (Some current) status (prepended (line ∷ []) rest))
    (λ bad read. plan_left-bad_target options session count number current status line bad kept read)

-- .. and no write has failed
pub stop-unwritten : (X : Type 0) {A : Type 0} (read : Result A PlanInputFault) (stop : ToolFault) (mark : Bool) → IsFaultOf read stop → mark ≡ (mark || is_write_failure {X = X} (Err stop))
stop-unwritten X read stop mark (inl memory) = subst (λ s. mark ≡ (mark || is_write_failure {X = X} (Err s))) (sym memory) (sym (or-false mark))
stop-unwritten X read stop mark (inr bad) = subst (λ s. mark ≡ (mark || is_write_failure {X = X} (Err s))) (sym bad.1) (sym (or-false mark))

-- ---- the pair of a current configuration and the target that is written there
-- what is wrong with the target is wrong with the pair
pub pair-bad : (options : PlanOptions) (origin : Origin) (text : List ℕ) (current : Current) (fault : ToolFault) →
    IsFaultOf (written_at origin (target_in current.config text)) fault → IsFaultOf (pair_from options origin text current) fault
pair-bad options origin text current fault (inl memory) = inl memory
pair-bad options origin text current fault (inr bad) = inr (bad.0, bad.1, ap (paired options origin current) bad.2)

-- ---- the pair of two texts
pub texts-from : (options : PlanOptions) (from to : List ℕ) (fault : ToolFault) → IsFaultOf (current_written options From from) fault → IsFaultOf (pair_of_texts options from to) fault
texts-from options from to fault (inl memory) = inl memory
texts-from options from to fault (inr bad) = inr (bad.0, bad.1, ap (with_target (pair_from options To to)) bad.2)

pub texts-to : (options : PlanOptions) (from to : List ℕ) (current : Current) (fault : ToolFault) → current_written options From from ≡ Ok current → IsFaultOf (pair_from options To to current) fault →
    IsFaultOf (pair_of_texts options from to) fault
texts-to options from to current fault is (inl memory) = inl memory
texts-to options from to current fault is (inr bad) = inr (bad.0, bad.1, ap (with_target (pair_from options To to)) is ∙ bad.2)

-- a text with an error stops the run
pub texts-stop : (options : PlanOptions) (from to : List ℕ) (fault : ToolFault) (buffered : Option (List ℕ)) → IsFaultOf (pair_of_texts options from to) fault → Means (planned_texts options from to) (Err fault) buffered buffered
unfolding planned_texts
texts-stop options from to fault buffered (inl memory) =
    subst (λ f. Means (planned_texts options from to) (Err f) buffered buffered) (sym memory) (part-nothing buffered (planned_texts options from to).text)
texts-stop options from to fault buffered (inr bad) =
    subst (λ f. Means (planned_texts options from to) (Err f) buffered buffered) (sym bad.1)
    (subst (λ pair. Wrote (pair_then options default_session 1 pair (ends (Ok Clean))) (Err (Configurations bad.0)) buffered buffered) (sym bad.2) (refl, appends-nothing buffered))

-- the output for two texts that are a pair
pub texts-planned : (options : PlanOptions) (from to : List ℕ) (pair : Pair) → ◌≡◌ {A = Result Pair PlanInputFault} (pair_of_texts options from to) (Ok pair) →
    planned_texts options from to ≡ record { text = pair_text options default_session 1 pair; outcome = Ok (plan_status options pair) }
unfolding planned_texts
texts-planned options from to pair is =
    ap (λ (read : Result Pair PlanInputFault). pair_then options default_session 1 read (ends (Ok Clean))) is
    ∙ ap (λ (text : List ℕ). record { text = text; outcome = worse_of (plan_status options pair) (Ok Clean) }) (append-nil (pair_text options default_session 1 pair))
    ∙ ap (λ (outcome : Result Status ToolFault). record { text = pair_text options default_session 1 pair; outcome = outcome }) (worse_of-clean (plan_status options pair))

-- .. of a current configuration and a target that were read
pub texts-paired : (options : PlanOptions) (from to : List ℕ) (current : Current) (target : Configuration) → current_written options From from ≡ Ok current → pair_from options To to current ≡ Ok (pair_between current target) →
    planned_texts options from to ≡ record { text = pair_text options default_session 1 (pair_between current target); outcome = Ok (plan_status options (pair_between current target)) }
texts-paired options from to current target first second = texts-planned options from to (pair_between current target) (ap (with_target (pair_from options To to)) first ∙ second)

-- .. and no read has failed
pub texts-unread : (read : Result Pair PlanInputFault) (stop : ToolFault) → IsFaultOf read stop → is_read_failure {X = Status} (Err stop) ≡ false
texts-unread read stop (inl memory) = subst (λ s. is_read_failure {X = Status} (Err s) ≡ false) (sym memory) refl
texts-unread read stop (inr bad) = subst (λ s. is_read_failure {X = Status} (Err s) ≡ false) (sym bad.1) refl

-- a reply fails only if memory runs out
pub texts-memory : {X : Type 0} (result : Result X ToolFault) (read : Result Pair PlanInputFault) → IsOkUnless result NoMemory → IfErr result (IsFaultOf read)
texts-memory (Ok x) read memory = tt
texts-memory (Err fault) read memory = inl memory
