-- The steps that are proposed on the way to a target, one after another.
use Rattle.std.proofs.Common.{◌≡◌, ◌≢◌, ◌+◌, ◌≤◌, true, List, [], ◌∷◌, length, refl, sym, ap, subst, ◌∙◌, arith, inl, inr, ◌⊎◌}
use Rattle.std.proofs.lemmas.Bool.{cases_Bool, cond-false, cond-true}
use Rattle.quorum_sets.specs.Ids.{Ids}
use Rattle.conf_change.specs.Configuration.{Configuration, is_joint, is_same}
use Rattle.conf_change.specs.Outcome.{after_leave}
use Rattle.conf_change.specs.declared.step.Step.{Step}
use Rattle.conf_change.specs.declared.step.Step.TheVariants.{LeaveJoint}
use Rattle.conf_change.proofs.Offered.{LeaveTaken-from_outcome, is_same-is_equality}
use Rattle.conf_plan.specs.OneChangeEach.{one_change_each}
use Rattle.conf_plan.specs.PathBy.{from_single_by, has_path, path_by}
use Rattle.conf_plan.specs.Run.{Gives, IsRun, IsValidWithVoter}
use Rattle.conf_plan.specs.declared.strategy.Strategy.{Strategy}
use Rattle.conf_driver.specs.Next.{situation}
use Rattle.conf_driver.specs.WayToTarget.{IsLeft, IsProposedIn, IsWay}
use Rattle.conf_driver.proofs.Proposed.{IsProposed-from_answer, first_step}

-- the steps of the path, each change a step of its own
abbrev pub steps_to : Strategy → Configuration → Ids → Configuration → List Step
steps_to strategy target down now = one_change_each (path_by strategy down now target)

-- ---- what is said of paths that are made anew
pub record AreMadeAnew : Type 0 where
  pub shorter : (strategy : Strategy) (down : Ids) (now next target : Configuration) (step : Step) (rest : List Step) → IsValidWithVoter now → IsValidWithVoter target → has_path strategy now target ≡ true
      → steps_to strategy target down now ≡ step ∷ rest → Gives now step next → length (steps_to strategy target down next) ≤ length rest
  pub has_path : (strategy : Strategy) (down : Ids) (now next target : Configuration) (step : Step) (rest : List Step) → has_path strategy now target ≡ true
      → steps_to strategy target down now ≡ step ∷ rest → has_path strategy next target ≡ true
  pub valid : (now next : Configuration) (step : Step) → IsValidWithVoter now → Gives now step next → IsValidWithVoter next

-- ---- the step is the first of the path
pub proposed-first : (strategy : Strategy) (target : Configuration) (down : Ids) (before : Configuration) (step : Step) (after : Configuration) → IsProposedIn strategy target down before step after
    → (rest : List Step) × (steps_to strategy target down before ≡ step ∷ rest)
proposed-first strategy target down before step after is =
    let steps = steps_to strategy target down is.view.conf_state in
    let first = first_step steps step (IsProposed-from_answer (situation strategy target down is.view) steps step is.answer).last in
    (first.0, ap (steps_to strategy target down) (sym is.before_is) ∙ first.1)

left-first : (strategy : Strategy) (target : Configuration) (down : Ids) (before after : Configuration) → before ≢ target → Gives before LeaveJoint after
    → (rest : List Step) × (steps_to strategy target down before ≡ LeaveJoint ∷ rest)
left-first strategy target down before after other gives =
    let more = from_single_by strategy down (after_leave before) target in
    let joint = (LeaveTaken-from_outcome before after gives).joint in
    elim (cases_Bool (is_same before target)) [
      | inl same ↦ absurd (other ((is_same-is_equality before target).0 same))
      | inr differs ↦ (one_change_each more, ap one_change_each (cond-false (is_same before target) _ _ differs ∙ cond-true (is_joint before) (LeaveJoint ∷ more) (from_single_by strategy down before target) joint))
    ]

pub first-of_way : (strategy : Strategy) (target : Configuration) (down : Ids) (before : Configuration) (step : Step) (after : Configuration)
    → IsProposedIn strategy target down before step after ⊎ IsLeft target before step after → (rest : List Step) × (steps_to strategy target down before ≡ step ∷ rest) × Gives before step after
first-of_way strategy target down before step after (inl is) = let first = proposed-first strategy target down before step after is in (first.0, first.1, is.gives)
first-of_way strategy target down before step after (inr is) =
    let first = left-first strategy target down before after is.other is.gives in
    (first.0, first.1 ∙ ap (λ taken. taken ∷ first.0) (sym is.step_is), subst (λ taken. Gives before taken after) (sym is.step_is) is.gives)

-- ---- the steps of a way, and those that are left
pub at_most : AreMadeAnew → (strategy : Strategy) (target : Configuration) (down : Ids) (now after : Configuration) (steps : List Step) → IsValidWithVoter now → IsValidWithVoter target
    → has_path strategy now target ≡ true → IsWay strategy target down now steps after → length steps + length (steps_to strategy target down after) ≤ length (steps_to strategy target down now)
at_most anew strategy target down now after [] valid valid_target path way =
    let same : length (steps_to strategy target down now) ≡ length (steps_to strategy target down after) = ap (λ c. length (steps_to strategy target down c)) way in
    omega (arith, same)
at_most anew strategy target down now after (step ∷ steps) valid valid_target path way =
    let first = first-of_way strategy target down now step way.0 way.1 in
    let fewer = anew.shorter strategy down now way.0 target step first.0 valid valid_target path first.1 first.2 in
    let more = at_most anew strategy target down way.0 after steps (anew.valid now way.0 step valid first.2) valid_target (anew.has_path strategy down now way.0 target step first.0 path first.1) way.2 in
    let all : length (steps_to strategy target down now) ≡ length (step ∷ first.0) = ap length first.1 in
    omega (arith, fewer, more, all)

-- ---- what is kept by each step is kept by a way
pub along : AreMadeAnew → (Keeps : Configuration → Configuration → Type 0) → ((c : Configuration) → Keeps c c) → ((a b d : Configuration) → Keeps a b → Keeps b d → Keeps a d)
    → (strategy : Strategy) (target : Configuration) (down : Ids) → IsValidWithVoter target
    → ((now next : Configuration) (step : Step) (rest : List Step) → IsValidWithVoter now → has_path strategy now target ≡ true → steps_to strategy target down now ≡ step ∷ rest → Gives now step next → Keeps now next)
    → (now after : Configuration) (steps : List Step) → IsValidWithVoter now → has_path strategy now target ≡ true → IsWay strategy target down now steps after → Keeps now after
along anew Keeps own joined strategy target down valid_target by_step now after [] valid path way = subst (λ c. Keeps now c) way (own now)
along anew Keeps own joined strategy target down valid_target by_step now after (step ∷ steps) valid path way =
    let first = first-of_way strategy target down now step way.0 way.1 in
    let more = along anew Keeps own joined strategy target down valid_target by_step way.0 after steps (anew.valid now way.0 step valid first.2) (anew.has_path strategy down now way.0 target step first.0 path first.1) way.2 in
    joined now way.0 after (by_step now way.0 step first.0 valid path first.1 first.2) more

-- ---- the end of a way
no_item : {X : Type 0} (xs : List X) → length xs ≡ 0 → xs ≡ []
no_item [] none = refl
no_item (x ∷ xs) none = absurd (cc)

-- where no step is left, the target is reached
pub arrived : AreMadeAnew → (strategy : Strategy) (target : Configuration) (down : Ids) (now after : Configuration) (steps : List Step) → IsValidWithVoter now → IsValidWithVoter target
    → has_path strategy now target ≡ true → IsWay strategy target down now steps after → IsRun after (steps_to strategy target down after) target
    → length steps ≡ length (steps_to strategy target down now) → after ≡ target
arrived anew strategy target down now after steps valid valid_target path way leads whole = grind (arith, at_most, valid, no_item)

-- ---- what is valid, and has a path
pub along-can : AreMadeAnew → (strategy : Strategy) (target : Configuration) (down : Ids) (now after : Configuration) (steps : List Step) → IsValidWithVoter now → IsValidWithVoter target
    → has_path strategy now target ≡ true → IsWay strategy target down now steps after → IsValidWithVoter after × (has_path strategy after target ≡ true)
along-can anew strategy target down now after [] valid valid_target path way = (subst IsValidWithVoter way valid, ap (λ c. has_path strategy c target) (sym way) ∙ path)
along-can anew strategy target down now after (step ∷ steps) valid valid_target path way =
    let first = first-of_way strategy target down now step way.0 way.1 in
    along-can anew strategy target down way.0 after steps (anew.valid now way.0 step valid first.2) valid_target (anew.has_path strategy down now way.0 target step first.0 path first.1) way.2
