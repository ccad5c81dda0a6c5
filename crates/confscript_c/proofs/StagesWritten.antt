-- The stages of a path, written one after another.
use Rattle.std.proofs.Common.{◌≡◌, ℕ, ◌+◌, ◌<◌, suc, zero, List, [], ◌∷◌, ◌++◌, length, drop, get_or, refl, sym, ap, ◌∙◌, arith, append_assoc, add-one}
use Rattle.std.proofs.lemmas.List.{drop_more, get_or_default}
use Rattle.quorum_sets.specs.Ids.{Ids}
use Rattle.conf_change.specs.Configuration.{Configuration}
use Rattle.conf_change.specs.declared.step.Step.{Step}
use Rattle.plan_output.specs.Stages.{StageState, configuration_after_step, stage_after, stages_after}
use Rattle.confscript_c.specs.Stages.{stage_numbers, stages_numbers}

-- as many stages as steps
pub length-stages_after : (before : Configuration) (steps : List Step) → length (stages_after before steps) ≡ length steps
length-stages_after before [] = refl
length-stages_after before (step ∷ steps) = ap (λ n. suc n) (length-stages_after (configuration_after_step before step) steps)

-- the stage after the one at an index
next_stage : (first : StageState) (steps : List Step) (i : ℕ) (step : Step) (d e : StageState) → i < length steps → step ≡ get_or steps i step
    → get_or (first ∷ stages_after first.config steps) (suc i) e ≡ stage_after (get_or (first ∷ stages_after first.config steps) i d).config step
next_stage first [] i step d e within is = absurd (omega arith)
next_stage first (x ∷ xs) zero step d e within is = ap (stage_after first.config) (sym is)
next_stage first (x ∷ xs) (suc i) step d e within is = next_stage (stage_after first.config x) xs i step d e (omega arith) is

-- one more stage, and those after it
pub stages_numbers-next : (down : Ids) (first : StageState) (steps : List Step) (i : ℕ) (step : Step) (before after : StageState) (so_far : List ℕ)
    → i < length steps → step ≡ get_or steps i step → before ≡ get_or (first ∷ stages_after first.config steps) i before
    → after ≡ get_or (first ∷ stages_after first.config steps) (i + 1) after
    → (so_far ++ stage_numbers down before step after) ++ stages_numbers down (get_or (first ∷ stages_after first.config steps) (i + 1) first) (drop (i + 1) steps)
    ≡ so_far ++ stages_numbers down (get_or (first ∷ stages_after first.config steps) i first) (drop i steps)
stages_numbers-next down first steps i step before after so_far within step_is before_is after_is =
    append_assoc so_far (stage_numbers down before step after) (stages_numbers down (get_or all (i + 1) first) (drop (i + 1) steps))
    ∙ ap (λ more. so_far ++ more)
    ((λ k. stage_numbers down (here k) step (there k) ++ stages_numbers down (rest k) (drop (i + 1) steps))
    ∙ ap (stages_numbers down (get_or all i first)) (sym (drop_more steps i step within ∙ ap (λ s. s ∷ drop (i + 1) steps) (sym step_is))))
  where
    all : List StageState
    all = first ∷ stages_after first.config steps

    long : length all ≡ length steps + 1
    long = omega (arith, length-stages_after first.config steps)

    here : before ≡ get_or all i first
    here = before_is ∙ get_or_default all i before first (omega (arith, long))

    next : (e : StageState) → get_or all (i + 1) e ≡ stage_after (get_or all i first).config step
    next e = ap (λ n. get_or all n e) (add-one i) ∙ next_stage first steps i step first e within step_is

    there : after ≡ stage_after (get_or all i first).config step
    there = after_is ∙ next after

    rest : get_or all (i + 1) first ≡ stage_after (get_or all i first).config step
    rest = next first
