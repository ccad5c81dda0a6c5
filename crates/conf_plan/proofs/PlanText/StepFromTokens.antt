-- The function that reads a step from the tokens of a line, against the relation.
use Rattle.std.proofs.Common.{◌≡◌, ℕ, ◌<◌, ◌^◌, true, false, List, [], ◌∷◌, ◌++◌, drop, Some, None, refl, ap, ◌∙◌, arith}
use Rattle.std.specs.Prelude.{Option, codes, bytes_eq, option_map, option_and_then, if◌then◌else◌}
use Rattle.std.specs.List.{All, AllZip}
use Rattle.std.proofs.lemmas.List.Elements.{All-nil, All-cons}
use Rattle.std.proofs.lemmas.Slice.Eq.{bytes_eq-Decides}
use Rattle.ascii_text.specs.Tokens.{tokens_in}
use Rattle.conf_change.specs.ChangeList.{ParsesTo}
use Rattle.conf_change.specs.declared.change.Change.{Change}
use Rattle.conf_change.specs.declared.step.Step.{Step}
use Rattle.conf_change.specs.declared.step.Step.TheVariants.{Simple, EnterJoint, LeaveJoint}
use Rattle.conf_change.proofs.Offered.{changes_in_tokens-ok, AllZip-from_ok}
use Rattle.conf_change.specs.Step.{changes_of}
use Rattle.conf_plan.specs.PlanSteps.{HasU64Ids}
use Rattle.conf_plan.specs.PlanText.{command_tokens, IsLineOf}
use Rattle.conf_plan.specs.PlanCode.{list_in, flag_of_token, step_in}

step_in-tokens_in : (step : Step) (tokens : List (List ℕ)) → AllZip ParsesTo tokens (changes_of step) → step_in (command_tokens step ++ tokens) ≡ Some step
step_in-tokens_in (Simple changes) tokens h = rw (changes_in_tokens-ok tokens changes h) refl
step_in-tokens_in (EnterJoint true changes) tokens h = rw (changes_in_tokens-ok tokens changes h) refl
step_in-tokens_in (EnterJoint false changes) tokens h = rw (changes_in_tokens-ok tokens changes h) refl
step_in-tokens_in LeaveJoint [] h = refl
step_in-tokens_in LeaveJoint (token ∷ tokens) h = absurd h

pub step_in-some : (line : List ℕ) (step : Step) → IsLineOf line step → step_in (tokens_in line) ≡ Some step
step_in-some line step h = ap step_in h.line_tokens ∙ step_in-tokens_in step h.tokens h.parsed

-- ---- what the tokens are, where a step was read from them
-- the tokens after the step's command
abbrev rest_of : Step → List (List ℕ) → List (List ℕ)
rest_of (Simple _) tokens = drop 1 tokens
rest_of (EnterJoint _ _) tokens = drop 2 tokens
rest_of LeaveJoint tokens = drop 1 tokens

-- the changes of tokens are the same whatever reads them
found : (read : List (List ℕ) → Option (List Change)) (command flag : List ℕ) (rest : List (List ℕ)) (step : Step)
    → (if bytes_eq command (codes "simple") then option_map Simple (read (flag ∷ rest))
    else (if bytes_eq command (codes "enter-joint") then option_and_then (λ auto_leave. option_map (EnterJoint auto_leave) (read rest)) (flag_of_token flag)
    else (if bytes_eq command (codes "leave-joint") then None else None))) ≡ Some step
    → (command ∷ flag ∷ rest ≡ command_tokens step ++ rest_of step (command ∷ flag ∷ rest)) × (read (rest_of step (command ∷ flag ∷ rest)) ≡ Some (changes_of step))
found read command flag rest step e = grind (arith, bytes_eq-Decides, true, false)

tokens-from_some : (tokens : List (List ℕ)) (step : Step) → step_in tokens ≡ Some step
    → (tokens ≡ command_tokens step ++ rest_of step tokens) × (list_in (rest_of step tokens) ≡ Some (changes_of step))
tokens-from_some [] step e = absurd cc
tokens-from_some (command ∷ []) step e = grind (arith, bytes_eq-Decides)
tokens-from_some (command ∷ flag ∷ rest) step e = found list_in command flag rest step e

pub IsLineOf-from_some : (line : List ℕ) (step : Step) → step_in (tokens_in line) ≡ Some step → IsLineOf line step
IsLineOf-from_some line step e =
    let are = tokens-from_some (tokens_in line) step e in
    let rest = rest_of step (tokens_in line) in
    record { tokens = rest; line_tokens = are.0; parsed = AllZip-from_ok rest (changes_of step) (grind (arith, are.1)) }

-- ---- lines of no step
pub IsLineOf-none : (line : List ℕ) → step_in (tokens_in line) ≡ None → (step : Step) → ¬ (IsLineOf line step)
IsLineOf-none line none step h = let some = step_in-some line step h in cc

pub step_in-none : (line : List ℕ) → ((step : Step) → ¬ (IsLineOf line step)) → step_in (tokens_in line) ≡ None
step_in-none line none =
    elim (step_in (tokens_in line)) as (λ o. step_in (tokens_in line) ≡ o → o ≡ None) [
      | None ↦ λ _. refl
      | Some step ↦ λ e. absurd (none step (IsLineOf-from_some line step e))
    ] refl

-- ---- ids that were spelled are numbers of 64 bits
pub All-from_zip : {A B : Type 0} (Q : A → B → Type 0) (P : B → Type 0) (xs : List A) (ys : List B) → ((x : A) (y : B) → Q x y → P y) → AllZip Q xs ys → All P ys
All-from_zip Q P [] [] each h = All-nil P
All-from_zip Q P [] (y ∷ ys) each h = absurd h
All-from_zip Q P (x ∷ xs) [] each h = absurd h
All-from_zip Q P (x ∷ xs) (y ∷ ys) each h = All-cons P y ys (each x y h.0) (All-from_zip Q P xs ys each h.1)

pub HasU64Ids-from_line : (line : List ℕ) (step : Step) → IsLineOf line step → HasU64Ids step
HasU64Ids-from_line line step h = All-from_zip ParsesTo (λ change. change.id < 2 ^ 64) h.tokens (changes_of step) (λ token change parsed. parsed.id_after.in_range) h.parsed
