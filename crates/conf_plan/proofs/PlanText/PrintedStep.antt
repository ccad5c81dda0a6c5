-- The line of a step, in the parts in which it is appended.
use Rattle.std.proofs.Common.{arith}
use Rattle.std.proofs.Common.{◌≡◌, ℕ, List, [], ◌∷◌, ◌++◌, map, sym, ap}
use Rattle.std.specs.Prelude.{codes, decimal, flat_map}
use Rattle.std.specs.List.{join_with_byte}
use Rattle.std.proofs.lemmas.List.{append_assoc, append-nil}
use Rattle.conf_change.specs.ChangeList.{letter_of}
use Rattle.conf_change.specs.declared.change.Change.{Change}
use Rattle.conf_change.specs.declared.step.Step.{Step}
use Rattle.conf_change.specs.declared.step.Step.TheVariants.{Simple, EnterJoint, LeaveJoint}
use Rattle.conf_change.specs.Step.{changes_of}
use Rattle.conf_plan.specs.PlanText.{command_tokens, spaced_change, line_and_newline}

-- a change, with any names for ids
abbrev named : (ℕ → List ℕ) → Change → List ℕ
named name change = letter_of change.kind ∷ name change.id

abbrev spaced : (ℕ → List ℕ) → List Change → List ℕ
spaced name changes = flat_map (λ change. 32 ∷ named name change) changes

pub join-changes : (name : ℕ → List ℕ) (token : List ℕ) (changes : List Change) → join_with_byte 32 (token ∷ map (named name) changes) ≡ token ++ spaced name changes
join-changes name token [] = sym (append-nil token)
join-changes name token (change ∷ changes) = ap (λ rest. token ++ 32 ∷ rest) (join-changes name (named name change) changes)

pub line-parts : (name : ℕ → List ℕ) (step : Step) → join_with_byte 32 (command_tokens step ++ map (named name) (changes_of step)) ≡ join_with_byte 32 (command_tokens step) ++ spaced name (changes_of step)
line-parts name (Simple changes) = join-changes name (codes "simple") changes
line-parts name (EnterJoint auto_leave changes) = grind (arith, join-changes, append_assoc)
line-parts name LeaveJoint = sym (append-nil (codes "leave-joint"))

pub line_and_newline-appended : (old : List ℕ) (step : Step) → old ++ join_with_byte 32 (command_tokens step) ++ flat_map spaced_change (changes_of step) ++ 10 ∷ [] ≡ old ++ line_and_newline step
line_and_newline-appended old step = rw (line-parts decimal step) (simp append_assoc)
