-- What a changer that takes steps in order comes to.
use Rattle.std.proofs.Common.{◌≡◌, ℕ, zero, suc, ◌+◌, ◌-◌, ◌<◌, List, [], ◌∷◌, ◌++◌, length, take, Some, slice_get, refl, sym, ap, subst, ◌∙◌, arith}
use Rattle.std.specs.Prelude.{Ok}
use Rattle.std.proofs.lemmas.List.{take-append-le}
use Rattle.std.proofs.lemmas.Option.{slice_get_within}
use Rattle.conf_change.specs.Configuration.{Configuration}
use Rattle.conf_change.specs.Outcome.{Outcome}
use Rattle.conf_change.specs.Changer.{ChangerState, Accepts, Refuses}
use Rattle.conf_change.specs.declared.refused.Refused.{Refused}
use Rattle.conf_change.specs.declared.refused.Refused.TheVariants.{NoMemory}
use Rattle.conf_change.specs.declared.step.Step.{Step}
use Rattle.conf_plan.specs.Run.{IsRun, Takes, StopsAt}
use Rattle.conf_plan.proofs.Runs.Chains.{IsChain-append}

pub Ok-same : (a b : Configuration) → ◌≡◌ {A = Outcome} (Ok a) (Ok b) → a ≡ b
Ok-same a b e = cc

-- one more step
pub Takes-push : (a b c : ChangerState) (xs : List Step) (x : Step) → Takes a xs b → Accepts b x c → Takes a (xs ++ x ∷ []) c
Takes-push a b c xs x t accepts = IsChain-append Accepts a b c xs (x ∷ []) t (c, accepts, refl)

-- what is taken along a run ends at its target
pub Takes-to_target : (a b : ChangerState) (xs : List Step) (target : Configuration) → Takes a xs b → IsRun a.tracker.config xs target → b.tracker.config ≡ target
Takes-to_target a b [] target t run = sym (ap (λ s. s.tracker.config) t) ∙ run
Takes-to_target a b (x ∷ xs) target t run =
    let same : run.0 ≡ t.0.tracker.config = Ok-same _ _ (sym run.1 ∙ t.1.configuration) in
    let P : Configuration → Type 0 = λ c. IsRun c xs target in
    Takes-to_target t.0 b xs target t.2 (subst P same run.2)

-- along a run nothing is refused but for want of memory
pub Refuses-for_memory : (a b : ChangerState) (xs ys : List Step) (x : Step) (why : Refused) (target : Configuration)
    → Takes a xs b → Refuses b x why → IsRun a.tracker.config (xs ++ x ∷ ys) target → why ≡ NoMemory
Refuses-for_memory a b [] ys x why target t refuses run = grind arith
Refuses-for_memory a b (y ∷ xs) ys x why target t refuses run =
    let same : run.0 ≡ t.0.tracker.config = Ok-same _ _ (sym run.1 ∙ t.1.configuration) in
    let P : Configuration → Type 0 = λ c. IsRun c (xs ++ x ∷ ys) target in
    Refuses-for_memory t.0 b xs ys x why target t.2 refuses (subst P same run.2)

-- ---- steps in two parts, at one of which a changer stops
-- with a step that is taken before
stops_after : (before next after : ChangerState) (step : Step) (steps : List Step) (number : ℕ) (why : Refused)
    → Accepts before step next → StopsAt next steps number why after → StopsAt before (step ∷ steps) (number + 1) why after
stops_after before next after step steps number why accepts stop = go number stop.in_range stop.taken stop.refused where
  go : (n : ℕ) → 0 < n → Takes next (take (n - 1) steps) after → ((refused : Step) × (slice_get steps (n - 1) ≡ Some refused) × Refuses after refused why)
      → StopsAt before (step ∷ steps) (n + 1) why after
  go zero some taken refused = absurd (omega arith)
  go (suc n) some taken refused =
      let less : suc n - 1 ≡ n = omega arith in
      let same : suc n + 1 - 1 ≡ suc n = omega arith in record {
        in_range = omega arith;
        taken = rw same (next, accepts, rw less at taken);
        refused = rw same (rw less at refused);
      }

pub StopsAt-rest : (before between after : ChangerState) (first rest : List Step) (number : ℕ) (why : Refused) → Takes before first between → StopsAt between rest number why after
    → StopsAt before (first ++ rest) (length first + number) why after
StopsAt-rest before between after [] rest number why taken stop = grind (arith, length)
StopsAt-rest before between after (step ∷ first) rest number why taken stop =
    let same : length first + number + 1 ≡ length (step ∷ first) + number = omega arith in
    subst (λ n. StopsAt before (step ∷ first ++ rest) n why after) same
    (stops_after before taken.0 after step (first ++ rest) (length first + number) why taken.1 (StopsAt-rest taken.0 between after first rest number why taken.2 stop))

slice_get-in_first : (xs ys : List Step) (k : ℕ) (x : Step) → slice_get xs k ≡ Some x → slice_get (xs ++ ys) k ≡ Some x
slice_get-in_first [] ys zero x e = absurd cc
slice_get-in_first [] ys (suc k) x e = absurd cc
slice_get-in_first (y ∷ xs) ys zero x e = e
slice_get-in_first (y ∷ xs) ys (suc k) x e = slice_get-in_first xs ys k x e

pub StopsAt-first : (before after : ChangerState) (first rest : List Step) (number : ℕ) (why : Refused) → StopsAt before first number why after → StopsAt before (first ++ rest) number why after
StopsAt-first before after first rest number why stop =
    let within = slice_get_within first (number - 1) stop.refused.0 stop.refused.1 in
    let P : List Step → Type 0 = λ steps. Takes before steps after in record {
      in_range = stop.in_range;
      taken = subst P (sym (take-append-le (number - 1) first rest (omega (arith, within)))) stop.taken;
      refused = (stop.refused.0, slice_get-in_first first rest (number - 1) stop.refused.0 stop.refused.1, stop.refused.2);
    }
