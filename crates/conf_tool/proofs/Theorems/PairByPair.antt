-- That `plan` prints the texts of its pairs in turn, and that each pair is of valid configurations.
use Rattle.std.proofs.Common.{◌≡◌, ℕ, ◌+◌, ◌≤◌, ◌||◌, Bool, true, false, cond, List, [], ◌∷◌, ◌++◌, refl, sym, ◌∙◌, ap, subst, arith, lt-ltb, eqb-true, ◌==◌}
use Rattle.std.specs.Prelude.{Option, Some, None, Result, Ok, Err, find, not, nat_lt, if◌then◌else◌}
use Rattle.std.specs.List.{All, list_any}
use Rattle.std.proofs.lemmas.List.Elements.{All-nil, All-cons, All-head, All-tail}
use Rattle.std.proofs.lemmas.List.{append_assoc, append-nil}
use Rattle.dd_file.specs.Grammar.{listing_of}
use Rattle.dd_file.specs.declared.fault.FileFault.{FileFault}
use Rattle.quorum_sets.specs.Ids.{Ids, ascending, has}
use Rattle.quorum_sets.proofs.Offered.{has-ascending, has-no_ids}
use Rattle.conf_change.specs.Configuration.{Configuration, is_member, is_valid}
use Rattle.conf_plan.specs.PathBy.{ids_down}
use Rattle.conf_plan.specs.declared.strategy.Strategy.{Strategy}
use Rattle.conf_session.specs.SessionState.{SessionState}
use Rattle.plan_input.specs.Input.{current_in, target_in}
use Rattle.plan_input.specs.Nonmember.{first_nonmember}
use Rattle.plan_input.specs.declared.text_fault.TextFault.{TextFault}
use Rattle.plan_input.proofs.Offered.{current_in-valid, target_in-valid}
use Rattle.conf_tool.specs.Laws.{EachInTurn, IsAsked, PairsAreAsked, PrintsEach, PrintsPair, pair_before, named_pairs, pairs_in, pairs_in_texts, texts_from, separated_by}
use Rattle.conf_tool.specs.Outputs.{Output, separator, pair_text, pair_then, session_after_pair, ends_within, planned_pairs, planned_output}
use Rattle.plan_input.specs.MemberList.{is_member_list}
use Rattle.conf_tool.specs.Pairs.{Pair, NumberedLine, numbered, configuration_lines, current_at, pair_at, pair_of_texts, pair_from, pair_written, begun, of_members, paired, strategy_from, with_target, written_at}
use Rattle.conf_tool.specs.PlanAnswer.{plan_text_between, session_between}
use Rattle.conf_tool.specs.PlanScript.{default_session}
use Rattle.conf_tool.specs.declared.origin.Origin.{Origin}
use Rattle.conf_tool.specs.declared.origin.Origin.TheVariants.{Line, From, To}
use Rattle.conf_tool.specs.declared.pair.Current.{Current}
use Rattle.conf_tool.specs.declared.plan_input_fault.PlanInputFault.{PlanInputFault}
use Rattle.conf_tool.specs.declared.plan_options.PlanOptions.{PlanOptions}
use Rattle.conf_tool.proofs.Modes.Plan.{texts-planned}

-- ---- what is known of a pair that was read
pub record WasRead (options : PlanOptions) (first second : List ℕ) (pair : Pair) : Type 0 where
  pub current : current_in first ≡ Ok pair.current
  pub target : target_in pair.current second ≡ Ok pair.target
  pub strategy : pair.strategy ≡ strategy_from options.strategy (is_member_list first)
  pub members : first_nonmember options.down pair.current pair.target ≡ None

pub pair-read : (options : PlanOptions) (from to : Origin) (first second : List ℕ) (pair : Pair) → pair_written options from first to second ≡ Ok pair → WasRead options first second pair
pair-read options from to first second pair e = by_first (current_in first) refl e
  where
    strategy : Strategy
    strategy = strategy_from options.strategy (is_member_list first)

    by_member : (now target : Configuration) → current_in first ≡ Ok now → target_in now second ≡ Ok target → (nonmember : Option ℕ) → first_nonmember options.down now target ≡ nonmember →
        of_members to nonmember (record { current = now; target = target; strategy = strategy }) ≡ Ok pair → WasRead options first second pair
    by_member now target now_is target_is (Some id) is e = let wrong : ⊥ = cc in absurd wrong
    by_member now target now_is target_is None is e =
        let same : ◌≡◌ {A = Pair} (record { current = now; target = target; strategy = strategy }) pair = cc in
        subst (WasRead options first second) same (record { current = now_is; target = target_is; strategy = refl; members = is })

    by_second : (now : Configuration) → current_in first ≡ Ok now → (read : Result Configuration TextFault) → target_in now second ≡ read →
        paired options to (record { origin = from; config = now; strategy = strategy }) (written_at to read) ≡ Ok pair → WasRead options first second pair
    by_second now now_is (Err bad) is e = let wrong : ⊥ = cc in absurd wrong
    by_second now now_is (Ok target) is e = by_member now target now_is is (first_nonmember options.down now target) refl e

    by_first : (read : Result Configuration TextFault) → current_in first ≡ read → with_target (pair_from options to second) (begun from strategy (written_at from read)) ≡ Ok pair → WasRead options first second pair
    by_first (Err bad) is e = let wrong : ⊥ = cc in absurd wrong
    by_first (Ok now) is e = by_second now is (target_in now second) refl e

-- ---- it is of valid configurations
pub record AreValid (pair : Pair) : Type 0 where
  pub now : is_valid pair.current ≡ true
  pub target : is_valid pair.target ≡ true

pub pair-valid : (options : PlanOptions) (from to : Origin) (first second : List ℕ) (pair : Pair) → pair_written options from first to second ≡ Ok pair → AreValid pair
pair-valid options from to first second pair e =
    let read = pair-read options from to first second pair e in
    let valid = current_in-valid first pair.current read.current in
    record { now = valid; target = target_in-valid pair.current second pair.target valid read.target }

-- ---- it is asked for
-- no id of a list passes the test
none-passes : (test : ℕ → Bool) (xs : List ℕ) (q : ℕ) → find test xs ≡ None → list_any (λ x. q == x) xs ≡ true → test q ≡ false
none-passes test [] q none there = let wrong : ⊥ = cc in absurd wrong
none-passes test (x ∷ xs) q none there = by (test x) refl none (q == x) refl there (none-passes test xs q)
  where
    by : (b : Bool) → test x ≡ b → cond b (Some x) (find test xs) ≡ None → (same : Bool) → (q == x) ≡ same → (same || list_any (λ y. q == y) xs) ≡ true →
        (find test xs ≡ None → list_any (λ y. q == y) xs ≡ true → test q ≡ false) → test q ≡ false
    by true is none same same_is there rest = let wrong : ⊥ = cc in absurd wrong
    by false is none true same_is there rest = ap test (eqb-true q x same_is) ∙ is
    by false is none false same_is there rest = rest none there

not-false : (b : Bool) → not b ≡ false → b ≡ true
not-false true e = refl
not-false false e = sym e

-- each id that is down is a member, if the least one that is not is none
all-members : (down : Option Ids) (now target : Configuration) → first_nonmember down now target ≡ None → (id : ℕ) → has (ids_down down) id ≡ true → (is_member now id || is_member target id) ≡ true
all-members None now target none id there =
    let empty = has-no_ids id in
    let wrong : ⊥ = cc in
    absurd wrong
all-members (Some ids) now target none id there =
    not-false (is_member now id || is_member target id) (none-passes (λ x. not (is_member now x || is_member target x)) (ascending ids) id none (sym (has-ascending ids id) ∙ there))

pair-asked : (options : PlanOptions) (from to : Origin) (first second : List ℕ) (pair : Pair) → pair_written options from first to second ≡ Ok pair → IsAsked options first pair
pair-asked options from to first second pair e =
    let read = pair-read options from to first second pair e in
    record { strategy = read.strategy; members = all-members options.down pair.current pair.target read.members }

pub pairs-asked : PairsAreAsked
pairs-asked = record {
  lines = λ options first second pair. (pair-asked options (Line first.number) (Line second.number) first.text second.text pair);
  texts = λ options from to pair. (pair-asked options From To from to pair);
}

-- what holds of each pair of two texts that is read
abbrev pub HoldsOfPairs : PlanOptions → (Pair → Type 0) → Type 0
HoldsOfPairs options Holds = (from to : Origin) (first second : List ℕ) (pair : Pair) → pair_written options from first to second ≡ Ok pair → Holds pair

named-pairs : (options : PlanOptions) (Holds : Pair → Type 0) → HoldsOfPairs options Holds → (lines : List NumberedLine) → All Holds (named_pairs options lines)
named-pairs options Holds holds [] = All-nil Holds
named-pairs options Holds holds (line ∷ []) = All-nil Holds
named-pairs options Holds holds (first ∷ second ∷ lines) = by_pair (pair_at options first second) refl (named-pairs options Holds holds lines)
  where
    by_pair : (read : Result Pair PlanInputFault) → pair_at options first second ≡ read → All Holds (named_pairs options lines) → All Holds (pair_before read (named_pairs options lines))
    by_pair (Err bad) is rest = All-nil Holds
    by_pair (Ok pair) is rest = All-cons Holds pair (named_pairs options lines) (holds (Line first.number) (Line second.number) first.text second.text pair is) rest

-- .. holds of each pair that an input denotes
pub all-pairs : (options : PlanOptions) (Holds : Pair → Type 0) → HoldsOfPairs options Holds → (input : List ℕ) → All Holds (pairs_in options input)
all-pairs options Holds holds input = named-pairs options Holds holds (configuration_lines (numbered 1 (listing_of input).items))

-- .. and of the pair of the values of --from and --to
pub texts-pairs : (options : PlanOptions) (Holds : Pair → Type 0) → HoldsOfPairs options Holds → (from to : List ℕ) → All Holds (pairs_in_texts options from to)
texts-pairs options Holds holds from to = by (pair_of_texts options from to) refl
  where
    by : (read : Result Pair PlanInputFault) → pair_of_texts options from to ≡ read → All Holds (pair_before read [])
    by (Err bad) is = All-nil Holds
    by (Ok pair) is = All-cons Holds pair [] (holds From To from to pair is) (All-nil Holds)

-- what holds of each pair of valid configurations, and of its text
abbrev pub HoldsOfText : PlanOptions → (SessionState → ℕ → Pair → List ℕ → Type 0) → Type 0
HoldsOfText options Holds = (session : SessionState) (number : ℕ) (pair : Pair) → AreValid pair → Holds session number pair (plan_text_between options session number pair)

-- .. holds of pairs in turn
each-in_turn : (options : PlanOptions) (Holds : SessionState → ℕ → Pair → List ℕ → Type 0) → HoldsOfText options Holds → (session : SessionState) (number : ℕ) (pairs : List Pair) → All AreValid pairs →
    EachInTurn options Holds session number pairs (texts_from options session number pairs)
each-in_turn options Holds holds session number [] valid = tt
each-in_turn options Holds holds session number (pair ∷ pairs) valid = (
  holds session number pair (All-head AreValid pair pairs valid),
  each-in_turn options Holds holds (session_between options session pair) (number + 1) pairs (All-tail AreValid pair pairs valid),
)

-- ---- the text of the whole output
-- texts after others, if the first has a number above 1
abbrev suffix : List ℕ → ℕ → List (List ℕ) → List ℕ
suffix part number [] = []
suffix part number (text ∷ texts) = (if nat_lt 1 number then part else []) ++ separated_by part (text ∷ texts)

then-suffix : (part prefix text : List ℕ) (number : ℕ) (texts : List (List ℕ)) → 1 ≤ number → (prefix ++ text) ++ suffix part (number + 1) texts ≡ prefix ++ separated_by part (text ∷ texts)
then-suffix part prefix text number [] some = append-nil (prefix ++ text)
then-suffix part prefix text number (next ∷ texts) some =
    let second : nat_lt 1 (number + 1) ≡ true = lt-ltb 1 (number + 1) (omega (arith, some)) in
    ap (λ b. (prefix ++ text) ++ (cond b part [] ++ separated_by part (next ∷ texts))) second ∙ append_assoc prefix text (part ++ separated_by part (next ∷ texts))

half-text : (first : Result Current PlanInputFault) (fault : Option FileFault) → (ends_within first fault).text ≡ []
half-text first fault = grind arith

pairs-text : (options : PlanOptions) (session : SessionState) (number : ℕ) (lines : List NumberedLine) (fault : Option FileFault) → 1 ≤ number →
    (planned_pairs options session number lines fault).text ≡ suffix (separator options.output) number (texts_from options session number (named_pairs options lines))
pairs-text options session number [] None some = refl
pairs-text options session number [] (Some fault) some = refl
pairs-text options session number (line ∷ []) fault some = half-text (current_at options line) fault
pairs-text options session number (first ∷ second ∷ lines) fault some =
    by_pair (pair_at options first second) (λ after. pairs-text options after (number + 1) lines fault (omega (arith, some)))
  where
    by_pair : (read : Result Pair PlanInputFault) →
        ((after : SessionState) → (planned_pairs options after (number + 1) lines fault).text ≡ suffix (separator options.output) (number + 1) (texts_from options after (number + 1) (named_pairs options lines))) →
        (pair_then options session number read (planned_pairs options (session_after_pair options session read) (number + 1) lines fault)).text
        ≡ suffix (separator options.output) number (texts_from options session number (pair_before read (named_pairs options lines)))
    by_pair (Err bad) rest = refl
    by_pair (Ok pair) rest =
        ap (λ t. pair_text options session number pair ++ t) (rest (session_between options session pair))
        ∙ then-suffix (separator options.output) (if nat_lt 1 number then separator options.output else []) (plan_text_between options session number pair) number
        (texts_from options (session_between options session pair) (number + 1) (named_pairs options lines)) some

from-first : (part : List ℕ) (texts : List (List ℕ)) → suffix part 1 texts ≡ separated_by part texts
from-first part texts = grind arith

pub planned-text : (options : PlanOptions) (input : List ℕ) → (planned_output options input).text ≡ separated_by (separator options.output) (texts_from options default_session 1 (pairs_in options input))
planned-text options input =
    pairs-text options default_session 1 (configuration_lines (numbered 1 (listing_of input).items)) (listing_of input).fault (omega arith)
    ∙ from-first (separator options.output) (texts_from options default_session 1 (pairs_in options input))

-- what holds of each pair and its text holds of what is printed
pub each-printed : (options : PlanOptions) (Holds : SessionState → ℕ → Pair → List ℕ → Type 0) → HoldsOfText options Holds → (input : List ℕ) → PrintsEach options input Holds
each-printed options Holds holds input =
    (texts_from options default_session 1 (pairs_in options input), planned-text options input, each-in_turn options Holds holds default_session 1 (pairs_in options input) (all-pairs options AreValid (pair-valid options) input))

-- .. and of the text for the values of --from and --to
pub pair-printed : (options : PlanOptions) (Holds : SessionState → ℕ → Pair → List ℕ → Type 0) → HoldsOfText options Holds → (from to : List ℕ) → PrintsPair options from to Holds
pair-printed options Holds holds from to pair is =
    subst (λ (output : Output). Holds default_session 1 pair output.text) (sym (texts-planned options from to pair is)) (holds default_session 1 pair (pair-valid options From To from to pair is))
