-- The steps that were read of a path's text, and the lines that are left.
use Rattle.std.proofs.Common.{◌≡◌, ℕ, ◌+◌, ◌<◌, List, ◌++◌, length, Result, Ok, Err, inl, inr}
use Rattle.std.specs.List.{All}
use Rattle.std.proofs.lemmas.Bool.{lt-ltb, cond-true}
use Rattle.std.proofs.lemmas.List.Elements.{All-nil}
use Rattle.std.proofs.lemmas.Result.{MatchResult-at_ok}
use Rattle.ascii_text.specs.Lines.{full_lines}
use Rattle.ascii_text.specs.Tokens.{has_bytes}
use Rattle.conf_change.specs.declared.step.Step.{Step}
use Rattle.conf_plan.specs.PlanSteps.{HasU64Ids}
use Rattle.conf_plan.specs.PlanText.{plan_lines, IsLineOf, ParsesToPath}
use Rattle.conf_plan.specs.PlanCode.{path_in}
use Rattle.conf_plan.specs.declared.text.PlanTextFault.{PlanTextFault}
use Rattle.conf_plan.specs.declared.text.PlanTextFault.TheVariants.{BadLine, TooManySteps, NoMemory}
use Rattle.conf_plan.proofs.PlanText.PlanFromLines.{path_in-is_exact}
use Rattle.conf_plan.proofs.PlanText.StepFromTokens.{All-from_zip, HasU64Ids-from_line}

pub plan_lines-full : (text : List ℕ) → 0 < length text → plan_lines text ≡ full_lines text
plan_lines-full text some = cond-true (has_bytes text) _ _ (lt-ltb 0 (length text) some)

-- what is read of lines, with these steps of the lines before them
abbrev pub after_read : List Step → Result (List Step) PlanTextFault → Result (List Step) PlanTextFault
after_read steps (Ok more) = Ok (steps ++ more)
after_read steps (Err (BadLine number)) = Err (BadLine (length steps + number))
after_read steps (Err TooManySteps) = Err TooManySteps
after_read steps (Err NoMemory) = Err NoMemory

pub HasU64Ids-from_path : (text : List ℕ) (steps : List Step) → ParsesToPath text steps → All HasU64Ids steps
HasU64Ids-from_path text steps (inl nothing) = rw nothing.0 (All-nil HasU64Ids)
HasU64Ids-from_path text steps (inr lines) = All-from_zip IsLineOf HasU64Ids (plan_lines text) steps HasU64Ids-from_line lines

pub HasU64Ids-from_ok : (text : List ℕ) (steps : List Step) → path_in text ≡ Ok steps → All HasU64Ids steps
HasU64Ids-from_ok text steps e = HasU64Ids-from_path text steps (MatchResult-at_ok _ _ steps e (path_in-is_exact text).is)
