-- What holds along a run, and of runs one after another.
use Rattle.std.proofs.Common.{arith}
use Rattle.std.proofs.Common.{◌≡◌, true, List, [], ◌∷◌, ◌++◌, refl, sym, subst}
use Rattle.std.specs.Prelude.{Ok}
use Rattle.std.proofs.lemmas.Bool.{and_parts, and_from, or_left}
use Rattle.conf_change.specs.Configuration.{Configuration, is_valid, has_voter, is_restorable}
use Rattle.conf_change.specs.Outcome.{outcome}
use Rattle.conf_change.specs.declared.step.Step.{Step}
use Rattle.conf_change.proofs.Offered.{outcome-is_restorable, outcome-has_voter}
use Rattle.conf_plan.specs.Run.{IsValidWithVoter, IsChain, IsRun, IsRunWith}
use Rattle.conf_plan.specs.Planned.{configuration_after}

outcome-is_valid : (c after : Configuration) (step : Step) → IsValidWithVoter c → outcome c step ≡ Ok after → IsValidWithVoter after
outcome-is_valid c after step valid_with_voter e =
    let restorable : is_restorable c ≡ true = and_from (is_valid c) _ valid_with_voter.valid (or_left (has_voter c) _ valid_with_voter.voter) in
    record { valid = (and_parts (is_valid after) _ (outcome-is_restorable c after step restorable e)).0; voter = outcome-has_voter c after step restorable e }

pub run-is_valid : (before after : Configuration) (steps : List Step) → IsValidWithVoter before → IsRun before steps after → IsValidWithVoter after
run-is_valid before after [] valid_with_voter run = subst IsValidWithVoter run valid_with_voter
run-is_valid before after (step ∷ steps) valid_with_voter run = run-is_valid run.0 after steps (outcome-is_valid before run.0 step valid_with_voter run.1) run.2

-- one chain after another
pub IsChain-append : {S : Type 0} (Leads : S → Step → S → Type 0) (a b c : S) (xs ys : List Step)
    → IsChain Leads a xs b → IsChain Leads b ys c → IsChain Leads a (xs ++ ys) c
IsChain-append {S} Leads a b c [] ys first second = let P : S → Type 0 = λ d. IsChain Leads d ys c in subst P (sym first) second
IsChain-append Leads a b c (x ∷ xs) ys first second = (first.0, first.1, IsChain-append Leads first.0 b c xs ys first.2 second)

-- a chain in two parts
pub IsChain-split : {S : Type 0} (Leads : S → Step → S → Type 0) (a c : S) (xs ys : List Step)
    → IsChain Leads a (xs ++ ys) c → (b : S) × IsChain Leads a xs b × IsChain Leads b ys c
IsChain-split Leads a c [] ys all = (a, refl, all)
IsChain-split Leads a c (x ∷ xs) ys all = let rest = IsChain-split Leads all.0 c xs ys all.2 in (rest.0, (all.0, all.1, rest.1), rest.2)

-- a run at each step of which something holds is a run
pub IsRun-from_IsRunWith : (Holds : Configuration → Step → Configuration → Type 0) (a b : Configuration) (steps : List Step) → IsRunWith Holds a steps b → IsRun a steps b
IsRun-from_IsRunWith Holds a b [] run = run
IsRun-from_IsRunWith Holds a b (step ∷ steps) run = (run.0, run.1.0, IsRun-from_IsRunWith Holds run.0 b steps run.2)

-- what follows at each step follows along the run
pub IsRunWith-weaker : (P Q : Configuration → Step → Configuration → Type 0) → ((before after : Configuration) (step : Step) → P before step after → Q before step after)
    → (before after : Configuration) (steps : List Step) → IsRunWith P before steps after → IsRunWith Q before steps after
IsRunWith-weaker P Q weaker before after [] run = run
IsRunWith-weaker P Q weaker before after (step ∷ steps) run =
    (run.0, (run.1.0, weaker before run.0 step run.1.1), IsRunWith-weaker P Q weaker run.0 after steps run.2)

-- a run of one step
pub IsRun-one : (a b : Configuration) (step : Step) → outcome a step ≡ Ok b → IsRun a (step ∷ []) b
IsRun-one a b step e = (b, e, λ i. b)

-- the steps of a run lead to its end
pub configuration_after-run : (before after : Configuration) (steps : List Step) → IsRun before steps after → configuration_after before steps ≡ after
configuration_after-run before after [] run = run
configuration_after-run before after (step ∷ steps) run = grind (arith, configuration_after-run run.0 after steps run.2)
