-- The functions that read the lines of a path and of a plan, against the relations.
use Rattle.std.proofs.Common.{◌≡◌, ℕ, zero, suc, ◌+◌, ◌<◌, ◌≤◌, true, ◌⊎◌, inl, inr, List, [], ◌∷◌, ◌++◌, length, take, Option, Some, None, Result, Ok, Err, leb, refl, sym, ap, ◌∙◌, subst, arith}
use Rattle.std.specs.Prelude.{MatchResult}
use Rattle.std.specs.List.{AllZip}
use Rattle.std.proofs.lemmas.Bool.{leb-true, leb-false, cond-false, cond_both, true≢false, false_from_ne_true}
use Rattle.std.proofs.lemmas.List.{length-append, take-append-le}
use Rattle.std.proofs.lemmas.Slice.Eq.{bytes_eq-Decides, slice_eq-Decides}
use Rattle.std.proofs.lemmas.Slice.Zip.{AllZip-long}
use Rattle.ascii_text.specs.Tokens.{tokens_in}
use Rattle.conf_change.specs.declared.step.Step.{Step}
use Rattle.conf_plan.specs.PlanText.{plan_lines, IsLineOf, IsNothingToDo, IsFirstBadLine, IsTooLong, ParsesToPath, ParsesToPlan, HasPathFault, HasPlanFault}
use Rattle.conf_plan.specs.PlanCode.{step_in, and_steps, steps_in, is_nothing, is_nothing_to_do, path_in, at_most_four, plan_in}
use Rattle.conf_plan.specs.declared.text.PlanTextFault.{PlanTextFault}
use Rattle.conf_plan.specs.declared.text.PlanTextFault.TheVariants.{BadLine, TooManySteps, NoMemory}
use Rattle.conf_plan.proofs.PlanText.StepFromTokens.{step_in-some, IsLineOf-from_some, IsLineOf-none, step_in-none}

-- ---- from the relations to the function
steps_in-ok : (lines : List (List ℕ)) (steps : List Step) → AllZip IsLineOf lines steps → steps_in lines ≡ Ok steps
steps_in-ok [] [] h = refl
steps_in-ok [] (step ∷ steps) h = absurd h
steps_in-ok (line ∷ lines) [] h = absurd h
steps_in-ok (line ∷ lines) (step ∷ steps) h = rw (step_in-some line step h.0, steps_in-ok lines steps h.1) refl

steps_in-bad : (lines : List (List ℕ)) (steps : List Step) (line : List ℕ) (after : List (List ℕ)) → AllZip IsLineOf lines steps → ((step : Step) → ¬ (IsLineOf line step))
    → steps_in (lines ++ line ∷ after) ≡ Err (BadLine (length lines + 1))
steps_in-bad [] [] line after h bad = rw (step_in-none line bad) refl
steps_in-bad [] (step ∷ steps) line after h bad = absurd h
steps_in-bad (first ∷ lines) [] line after h bad = absurd h
steps_in-bad (first ∷ lines) (step ∷ steps) line after h bad =
    rw (step_in-some first step h.0, steps_in-bad lines steps line after h.1 bad) (ap (λ n. Err (BadLine n)) (omega arith))

-- ---- from the function to the relations
-- what an answer states of lines
abbrev IsAnswerOfLines : List (List ℕ) → Result (List Step) PlanTextFault → Type 0
IsAnswerOfLines lines (Ok steps) = AllZip IsLineOf lines steps
IsAnswerOfLines lines (Err (BadLine number)) = IsFirstBadLine lines number
IsAnswerOfLines lines (Err TooManySteps) = ⊥
IsAnswerOfLines lines (Err NoMemory) = ⊥

with_step : (line : List ℕ) (lines : List (List ℕ)) (step : Step) (rest : Result (List Step) PlanTextFault) → IsLineOf line step → IsAnswerOfLines lines rest
    → IsAnswerOfLines (line ∷ lines) (and_steps (Some step) rest)
with_step line lines step (Ok steps) is h = (is, h)
with_step line lines step (Err (BadLine number)) is h = record {
  before = line ∷ h.before;
  line = h.line;
  after = h.after;
  steps = step ∷ h.steps;
  position = ap (λ ls. line ∷ ls) h.position;
  counted = omega (arith, h.counted);
  parsed = (is, h.parsed);
  bad = h.bad;
}
with_step line lines step (Err TooManySteps) is h = h
with_step line lines step (Err NoMemory) is h = h

IsAnswerOfLines-steps_in : (lines : List (List ℕ)) → IsAnswerOfLines lines (steps_in lines)
IsAnswerOfLines-steps_in [] = tt
IsAnswerOfLines-steps_in (line ∷ lines) = go (step_in (tokens_in line)) refl (IsAnswerOfLines-steps_in lines) where
  go : (found : Option Step) → step_in (tokens_in line) ≡ found → IsAnswerOfLines lines (steps_in lines) → IsAnswerOfLines (line ∷ lines) (and_steps found (steps_in lines))
  go None is later = record { before = []; line = line; after = lines; steps = []; position = refl; counted = refl; parsed = tt; bad = IsLineOf-none line is }
  go (Some step) is later = with_step line lines step (steps_in lines) (IsLineOf-from_some line step is) later

-- ---- the line that states that there is nothing to do
IsNothingToDo-from_true : (text : List ℕ) → is_nothing_to_do (plan_lines text) ≡ true → IsNothingToDo text
IsNothingToDo-from_true text e = go (plan_lines text) refl e where
  go : (lines : List (List ℕ)) → plan_lines text ≡ lines → is_nothing_to_do lines ≡ true → IsNothingToDo text
  go [] are e = cc
  go (line ∷ []) are e = record { line = line; alone = are; line_tokens = (slice_eq-Decides bytes_eq-Decides (tokens_in line) _ (is_nothing (tokens_in line)) refl).0 e }
  go (line ∷ next ∷ lines) are e = cc

is_nothing_to_do-true : (text : List ℕ) → IsNothingToDo text → is_nothing_to_do (plan_lines text) ≡ true
is_nothing_to_do-true text h = ap is_nothing_to_do h.alone ∙ ap is_nothing h.line_tokens

-- ---- answers of a function that is exact for two relations
pub record IsExact (Means : List Step → Type 0) (Refuses : PlanTextFault → Type 0) (answer : Result (List Step) PlanTextFault) : Type 0 where
  pub ok : (steps : List Step) → Means steps → answer ≡ Ok steps
  pub err : (fault : PlanTextFault) → Refuses fault → answer ≡ Err fault
  pub is : MatchResult answer Means Refuses

pub means-or_refuses : (Means : List Step → Type 0) (Refuses : PlanTextFault → Type 0) (answer : Result (List Step) PlanTextFault) → MatchResult answer Means Refuses
    → ((steps : List Step) × Means steps) ⊎ ((fault : PlanTextFault) × Refuses fault)
means-or_refuses Means Refuses (Ok steps) h = inl (steps, h)
means-or_refuses Means Refuses (Err fault) h = inr (fault, h)

-- ---- paths
path_in-steps : (text : List ℕ) → ¬ (IsNothingToDo text) → path_in text ≡ steps_in (plan_lines text)
path_in-steps text none = cond-false (is_nothing_to_do (plan_lines text)) _ _ (false_from_ne_true _ (λ e. none (IsNothingToDo-from_true text e)))

steps_are_something : (text : List ℕ) (steps : List Step) → AllZip IsLineOf (plan_lines text) steps → ¬ (IsNothingToDo text)
steps_are_something text steps lines h = go steps (rw h.alone at lines) where
  go : (steps : List Step) → AllZip IsLineOf (h.line ∷ []) steps → ⊥
  go [] none = none
  go (step ∷ steps) is = let some = sym (step_in-some h.line step is.0) ∙ ap step_in h.line_tokens in cc

path_in-ok : (text : List ℕ) (steps : List Step) → ParsesToPath text steps → path_in text ≡ Ok steps
path_in-ok text steps (inl nothing) = rw (is_nothing_to_do-true text nothing.1) (ap (λ all. Ok all) (sym nothing.0))
path_in-ok text steps (inr lines) = path_in-steps text (steps_are_something text steps lines) ∙ steps_in-ok (plan_lines text) steps lines

path_in-fault : (text : List ℕ) (fault : PlanTextFault) → HasPathFault text fault → path_in text ≡ Err fault
path_in-fault text (BadLine number) h = grind (arith, path_in-steps, steps_in-bad, Err)
path_in-fault text TooManySteps h = absurd h
path_in-fault text NoMemory h = absurd h

of_lines : (text : List ℕ) → ¬ (IsNothingToDo text) → (answer : Result (List Step) PlanTextFault) → IsAnswerOfLines (plan_lines text) answer → MatchResult answer (ParsesToPath text) (HasPathFault text)
of_lines text something answer h = grind (arith, something, h)

pub path_in-is_exact : (text : List ℕ) → IsExact (ParsesToPath text) (HasPathFault text) (path_in text)
path_in-is_exact text = record { ok = path_in-ok text; err = path_in-fault text; is = is } where
  is : MatchResult (path_in text) (ParsesToPath text) (HasPathFault text)
  is = cond_both (is_nothing_to_do (plan_lines text)) _ _ (λ read. MatchResult read (ParsesToPath text) (HasPathFault text))
      (λ e. inl (refl, IsNothingToDo-from_true text e))
      (λ e. of_lines text (λ h. true≢false (sym (is_nothing_to_do-true text h) ∙ e)) (steps_in (plan_lines text)) (IsAnswerOfLines-steps_in (plan_lines text)))

-- ---- at most four lines
AllZip-take : (n : ℕ) (lines : List (List ℕ)) (steps : List Step) → AllZip IsLineOf lines steps → AllZip IsLineOf (take n lines) (take n steps)
AllZip-take zero lines steps h = tt
AllZip-take (suc n) [] [] h = tt
AllZip-take (suc n) [] (step ∷ steps) h = absurd h
AllZip-take (suc n) (line ∷ lines) [] h = absurd h
AllZip-take (suc n) (line ∷ lines) (step ∷ steps) h = (h.0, AllZip-take n lines steps h.1)

-- a bad line is not among those that are parsed
bad_is_later : (n : ℕ) (before : List (List ℕ)) (line : List ℕ) (after : List (List ℕ)) (steps : List Step) → ((step : Step) → ¬ (IsLineOf line step))
    → AllZip IsLineOf (take n (before ++ line ∷ after)) steps → n ≤ length before
bad_is_later zero before line after steps bad h = omega arith
bad_is_later (suc n) [] line after [] bad h = absurd h
bad_is_later (suc n) [] line after (step ∷ steps) bad h = absurd (bad step h.0)
bad_is_later (suc n) (first ∷ before) line after [] bad h = absurd h
bad_is_later (suc n) (first ∷ before) line after (step ∷ steps) bad h = let rest = bad_is_later n before line after steps bad h.1 in omega (arith, rest)

is_long : (text : List ℕ) → IsTooLong text → (answer : Result (List Step) PlanTextFault) → MatchResult answer (ParsesToPath text) (HasPathFault text) → at_most_four answer ≡ Err TooManySteps
is_long text long (Ok steps) (inl nothing) = let one = ap length nothing.1.alone in grind (arith, long.fifth, one)
is_long text long (Ok steps) (inr lines) = grind (arith, long.fifth, AllZip-long IsLineOf (plan_lines text) steps lines)
is_long text long (Err (BadLine number)) h =
    let first = h.1 in
    let four = bad_is_later 4 first.before first.line first.after long.steps first.bad (subst (λ lines. AllZip IsLineOf (take 4 lines) long.steps) first.position long.parsed) in
    grind (arith, four, first.counted)
is_long text long (Err TooManySteps) h = absurd h
is_long text long (Err NoMemory) h = absurd h

plan_in-ok : (text : List ℕ) (steps : List Step) → ParsesToPlan text steps → plan_in text ≡ Ok steps
plan_in-ok text steps h = ap at_most_four (path_in-ok text steps h.path) ∙ grind (arith, h.at_most_four)

plan_in-fault : (text : List ℕ) (fault : PlanTextFault) → HasPlanFault text fault → plan_in text ≡ Err fault
plan_in-fault text (BadLine number) h = ap at_most_four (path_in-fault text (BadLine number) h.1) ∙ grind (arith, h.0)
plan_in-fault text TooManySteps h = is_long text h (path_in text) (path_in-is_exact text).is
plan_in-fault text NoMemory h = absurd h

long-from_steps : (text : List ℕ) (steps : List Step) → ParsesToPath text steps → 4 < length steps → IsTooLong text
long-from_steps text steps (inl nothing) many = let none = ap length nothing.0 in absurd (omega (arith, none, many))
long-from_steps text steps (inr lines) many = record {
  steps = take 4 steps;
  parsed = AllZip-take 4 (plan_lines text) steps lines;
  fifth = omega (arith, many, AllZip-long IsLineOf (plan_lines text) steps lines);
}

long-from_bad : (text : List ℕ) (number : ℕ) → IsFirstBadLine (plan_lines text) number → 4 < number → IsTooLong text
long-from_bad text number h late = record {
  steps = take 4 h.steps;
  parsed = subst (λ lines. AllZip IsLineOf lines (take 4 h.steps)) (sym (ap (take 4) h.position ∙ take-append-le 4 h.before (h.line ∷ h.after) (omega (arith, h.counted, late))))
      (AllZip-take 4 h.before h.steps h.parsed);
  fifth = omega (arith, h.counted, late, ap length h.position, length-append h.before (h.line ∷ h.after));
}

of_path : (text : List ℕ) (answer : Result (List Step) PlanTextFault) → MatchResult answer (ParsesToPath text) (HasPathFault text)
    → MatchResult (at_most_four answer) (ParsesToPlan text) (HasPlanFault text)
of_path text (Ok steps) h = grind (arith, cond_both, leb, length, leb-true, long-from_steps, leb-false)
of_path text (Err (BadLine number)) h =
    cond_both (leb number 4) _ _ (λ read. MatchResult read (ParsesToPlan text) (HasPlanFault text))
    (λ early. (leb-true number 4 early, h)) (λ late. long-from_bad text number h.1 (leb-false number 4 late))
of_path text (Err TooManySteps) h = absurd h
of_path text (Err NoMemory) h = absurd h

pub plan_in-is_exact : (text : List ℕ) → IsExact (ParsesToPlan text) (HasPlanFault text) (plan_in text)
plan_in-is_exact text = record { ok = plan_in-ok text; err = plan_in-fault text; is = of_path text (path_in text) (path_in-is_exact text).is }

pub plan_in-from_path : (text : List ℕ) (read result : Result (List Step) PlanTextFault) → (read ≡ path_in text) ⊎ (read ≡ Err NoMemory) → result ≡ at_most_four read
    → (result ≡ plan_in text) ⊎ (result ≡ Err NoMemory)
plan_in-from_path text read result (inl same) is = inl (is ∙ ap at_most_four same)
plan_in-from_path text read result (inr none) is = inr (is ∙ ap at_most_four none)
