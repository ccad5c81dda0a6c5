-- Arrays of configurations, written and read again.
use Rattle.std.proofs.Common.{◌≡◌, ℕ, ◌+◌, ◌-◌, Bool, true, false, cond, ◌==◌, List, ◌++◌, length, take, drop, refl, sym, ap, ◌∙◌, arith, eq-eqb, length-append}
use Rattle.std.specs.Prelude.{Result, Ok, Err, nat_le}
use Rattle.std.specs.List.{slice_range}
use Rattle.std.proofs.Math.Seq.{take-append_seam, drop-append_seam}
use Rattle.std.proofs.lemmas.Bool.{and_from, le-leb}
use Rattle.std.proofs.lemmas.List.{append_assoc, drop-drop}
use Rattle.conf_change.specs.Configuration.{Configuration, has_voter_or_is_empty, member_ids}
use Rattle.conf_change.specs.ConfState.{ConfStateLists}
use Rattle.conf_change.specs.Outcome.{Outcome, outcome}
use Rattle.conf_change.specs.Transition.{step_of}
use Rattle.conf_change.specs.Violation.{valid_of}
use Rattle.conf_change.specs.declared.change.Change.{Change}
use Rattle.conf_change.specs.declared.step.StepKind.{StepKind}
use Rattle.conf_plan.specs.OnTheWay.{catching_up}
use Rattle.conf_change.specs.declared.configuration_line.ConfigurationFault.{ConfigurationFault}
use Rattle.confscript_c.specs.Answer.{status_answer}
use Rattle.confscript_c.specs.Numbers.{flag_number, array_of, counted, has_form, outgoing_at, learners_at, learners_next_at, catching_up_at, lists_in, valid_or_answer, with_voter_or_answer, configuration_of, numbers_of, restored_array, restore_result}
use Rattle.confscript_c.specs.Stepped.{array_after, changes_from, step_kind_at, step_result, step_result_of, stepped}
use Rattle.confscript_c.specs.declared.answer.Answer.{Answer}
use Rattle.confscript_c.specs.declared.status.Status.TheVariants.{NoVoter, DifferentLengths}
use Rattle.confscript_c.specs.declared.stepping.NumberedChange.{NumberedChange}

-- the ids of an array
abbrev ids_in : ConfStateLists → List ℕ → List ℕ
ids_in saved catching_up = saved.voters ++ saved.voters_outgoing ++ saved.learners ++ saved.learners_next ++ catching_up

-- those of each part, and the others
in_turn : (a b c d e : List ℕ) → a ++ b ++ c ++ d ++ e ≡ a ++ (b ++ (c ++ (d ++ e)))
in_turn a b c d e = append_assoc (a ++ b ++ c) d e ∙ append_assoc (a ++ b) c (d ++ e) ∙ append_assoc a b (c ++ (d ++ e))

-- ---- the parts
pub record Part (numbers mine after : List ℕ) (from to : ℕ) : Type 0 where
  pub here : slice_range numbers from to ≡ mine
  pub rest : drop to numbers ≡ after

part : (numbers mine after : List ℕ) (from to : ℕ) → drop from numbers ≡ mine ++ after → to ≡ from + length mine → Part numbers mine after from to
part numbers mine after from to is ends =
    let long : to - from ≡ length mine = omega arith in
    record {
      here = (λ i. take (long i) (is i)) ∙ take-append_seam mine after;
      rest = ap (λ n. drop n numbers) ends ∙ sym (drop-drop (length mine) from numbers) ∙ ap (drop (length mine)) is ∙ drop-append_seam mine after;
    }

flag_is : (b : Bool) → (flag_number b == 1) ≡ b
flag_is b = grind arith

pub lists_in-array_of : (saved : ConfStateLists) (catching_up : List ℕ) → lists_in (array_of saved catching_up) ≡ saved
lists_in-array_of saved catching_up =
    let numbers = array_of saved catching_up in
    let voters =
    part numbers saved.voters (saved.voters_outgoing ++ (saved.learners ++ (saved.learners_next ++ catching_up))) 6 (outgoing_at numbers)
    (in_turn saved.voters saved.voters_outgoing saved.learners saved.learners_next catching_up) refl in
    let outgoing = part numbers saved.voters_outgoing (saved.learners ++ (saved.learners_next ++ catching_up)) (outgoing_at numbers) (learners_at numbers) voters.rest refl in
    let learners = part numbers saved.learners (saved.learners_next ++ catching_up) (learners_at numbers) (learners_next_at numbers) outgoing.rest refl in
    let next = part numbers saved.learners_next catching_up (learners_next_at numbers) (catching_up_at numbers) learners.rest refl in
    λ i. record {
      voters = voters.here i;
      voters_outgoing = outgoing.here i;
      learners = learners.here i;
      learners_next = next.here i;
      auto_leave = flag_is saved.auto_leave i;
    }

small_flag : (b : Bool) → nat_le (flag_number b) 1 ≡ true
small_flag b = grind arith

pub has_form-array_of : (saved : ConfStateLists) (catching_up : List ℕ) → has_form (array_of saved catching_up) ≡ true
has_form-array_of saved catching_up =
    let numbers = array_of saved catching_up in
    let ids = ids_in saved catching_up in
    let many : length ids ≡ length saved.voters + length saved.voters_outgoing + length saved.learners + length saved.learners_next + length catching_up =
    simp length-append (omega arith) in
    let long : length numbers ≡ 6 + counted numbers = omega arith in
    and_from _ _ (and_from _ _ (le-leb 6 (length numbers) (omega arith)) (small_flag saved.auto_leave)) (eq-eqb (length numbers) (6 + counted numbers) long)

-- ---- the configuration
pub configuration_of-valid : (numbers : List ℕ) (c : Configuration) → has_form numbers ≡ true → valid_of (lists_in numbers) ≡ Ok c → has_voter_or_is_empty c ≡ true → configuration_of numbers ≡ Ok c
configuration_of-valid numbers c form valid voter = rw (form, valid, voter) refl

pub record IsRead (numbers : List ℕ) (c : Configuration) : Type 0 where
  pub form : has_form numbers ≡ true
  pub valid : valid_of (lists_in numbers) ≡ Ok c
  pub voter : has_voter_or_is_empty c ≡ true

pub IsRead-from_configuration_of : (numbers : List ℕ) (c : Configuration) → configuration_of numbers ≡ Ok c → IsRead numbers c
IsRead-from_configuration_of numbers c e = by_form (has_form numbers) refl e
  where
    by_voter : (d : Configuration) (b : Bool) → has_voter_or_is_empty d ≡ b → valid_of (lists_in numbers) ≡ Ok d → has_form numbers ≡ true → cond b (Ok d) (Err (status_answer NoVoter 0)) ≡ Ok c → IsRead numbers c
    by_voter d true voter valid form e = let same : d ≡ c = cc in record { form = form; valid = valid ∙ ap Ok same; voter = ap has_voter_or_is_empty (sym same) ∙ voter }
    by_voter d false voter valid form e = cc

    by_valid : (r : Result Configuration ConfigurationFault) → valid_of (lists_in numbers) ≡ r → has_form numbers ≡ true → with_voter_or_answer (valid_or_answer r) ≡ Ok c → IsRead numbers c
    by_valid (Ok d) valid form e = by_voter d (has_voter_or_is_empty d) refl valid form e
    by_valid (Err why) valid form e = cc

    by_form : (b : Bool) → has_form numbers ≡ b → with_voter_or_answer (cond b (valid_or_answer (valid_of (lists_in numbers))) (Err (status_answer DifferentLengths 0))) ≡ Ok c → IsRead numbers c
    by_form true form e = by_valid (valid_of (lists_in numbers)) refl form e
    by_form false form e = cc

-- ---- what the calls write
pub record IsRestored (numbers out : List ℕ) : Type 0 where
  pub c : Configuration
  pub read : configuration_of numbers ≡ Ok c
  pub written : out ≡ numbers_of c (member_ids c)

pub IsRestored-from_result : (numbers out : List ℕ) → restore_result numbers ≡ Ok out → IsRestored numbers out
IsRestored-from_result numbers out e = by_read (configuration_of numbers) refl e
  where
    by_read : (r : Result Configuration Answer) → configuration_of numbers ≡ r → restored_array r ≡ Ok out → IsRestored numbers out
    by_read (Ok c) read e = record { c = c; read = read; written = cc }
    by_read (Err why) read e = cc

pub record IsStepped (numbers : List ℕ) (number : ℕ) (changes : List NumberedChange) (out : List ℕ) : Type 0 where
  pub before : Configuration
  pub made : List Change
  pub kind : StepKind
  pub after : Configuration
  pub begins : configuration_of numbers ≡ Ok before
  pub changes_read : changes_from 1 changes ≡ Ok made
  pub kind_read : step_kind_at number made ≡ Ok kind
  pub taken : outcome before (step_of kind made) ≡ Ok after
  pub written : out ≡ numbers_of after (catching_up before (step_of kind made) after)

pub IsStepped-from_result : (numbers out : List ℕ) (number : ℕ) (changes : List NumberedChange) → step_result numbers number changes ≡ Ok out → IsStepped numbers number changes out
IsStepped-from_result numbers out number changes e = by_read (configuration_of numbers) (changes_from 1 changes) refl refl e
  where
    by_outcome : (before : Configuration) (made : List Change) (kind : StepKind) (o : Outcome) → configuration_of numbers ≡ Ok before → changes_from 1 changes ≡ Ok made → step_kind_at number made ≡ Ok kind
        → outcome before (step_of kind made) ≡ o → array_after before (step_of kind made) o ≡ Ok out → IsStepped numbers number changes out
    by_outcome before made kind (Ok after) begins changes_read kind_read taken e =
        record { before = before; made = made; kind = kind; after = after; begins = begins; changes_read = changes_read; kind_read = kind_read; taken = taken; written = cc }
    by_outcome before made kind (Err why) begins changes_read kind_read taken e = cc

    by_kind : (before : Configuration) (made : List Change) (k : Result StepKind Answer) → configuration_of numbers ≡ Ok before → changes_from 1 changes ≡ Ok made → step_kind_at number made ≡ k
        → stepped before made k ≡ Ok out → IsStepped numbers number changes out
    by_kind before made (Ok kind) begins changes_read kind_read e = by_outcome before made kind (outcome before (step_of kind made)) begins changes_read kind_read refl e
    by_kind before made (Err why) begins changes_read kind_read e = cc

    by_read : (r : Result Configuration Answer) (m : Result (List Change) Answer) → configuration_of numbers ≡ r → changes_from 1 changes ≡ m → step_result_of number r m ≡ Ok out → IsStepped numbers number changes out
    by_read (Ok before) (Ok made) begins changes_read e = by_kind before made (step_kind_at number made) begins changes_read refl e
    by_read (Ok before) (Err why) begins changes_read e = cc
    by_read (Err why) m begins changes_read e = cc
