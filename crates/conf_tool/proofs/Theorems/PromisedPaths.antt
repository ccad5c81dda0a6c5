-- That each path which is printed keeps what its strategy promises, and leads to the target.
use Rattle.std.proofs.Common.{◌≡◌, ℕ, true, List, [], ◌∷◌, refl, ap}
use Rattle.std.specs.Prelude.{Option, Ok}
use Rattle.quorum_sets.specs.Ids.{Ids}
use Rattle.conf_change.specs.Configuration.{Configuration, has_voter}
use Rattle.conf_change.specs.declared.step.Step.{Step}
use Rattle.conf_plan.specs.OnTheWay.{ChangesOneLearnerFirst}
use Rattle.conf_plan.specs.OneChangeEach.{one_change_each, LeadsChangeByChange}
use Rattle.conf_plan.specs.PathBy.{has_path, path_by, ids_down, KeepsPromises}
use Rattle.conf_plan.specs.Run.{IsRun, IsRunWith, IsValidWithVoter}
use Rattle.conf_plan.specs.declared.strategy.Strategy.{Strategy}
use Rattle.conf_plan.specs.declared.strategy.Strategy.TheVariants.{Shortest, LearnersFirst, OneAtATime}
use Rattle.plan_output.specs.CarriedOut.{LinesLead}
use Rattle.plan_output.specs.Json.{path_json}
use Rattle.plan_output.specs.Stages.{AreOnTheWay, stages}
use Rattle.conf_tool.specs.Laws.{IsPromisedPath, LeadsAsPromised, PrintedPathKeepsPromises}
use Rattle.conf_tool.specs.PlanAnswer.{path_between, reply_text}
use Rattle.conf_tool.specs.Pairs.{Pair}
use Rattle.conf_tool.specs.declared.plan_options.PlanOptions.{PlanOptions}
use Rattle.conf_tool.proofs.Theorems.PairByPair.{HoldsOfText, each-printed, pair-printed}

-- where there is a path, its text is printed
pub path_between-path : (options : PlanOptions) (pair : Pair) → has_voter pair.current ≡ true → has_voter pair.target ≡ true → has_path pair.strategy pair.current pair.target ≡ true →
    path_between options pair ≡ Ok (path_by pair.strategy (ids_down options.down) pair.current pair.target)
path_between-path options pair a b p = simp (a, b, p) refl

-- what holds of the path of a strategy between any two valid configurations with a voter
abbrev pub HoldsOfPaths : (Strategy → Ids → Configuration → List Step → Configuration → Type 0) → Type 0
HoldsOfPaths Holds = (strategy : Strategy) (down : Ids) (now target : Configuration) → IsValidWithVoter now → IsValidWithVoter target → has_path strategy now target ≡ true → Holds strategy down now (path_by strategy down now target) target

-- ---- each path is a run
-- a run with more that is known of its steps
run-of : (Holds : Configuration → Step → Configuration → Type 0) (before after : Configuration) (steps : List Step) → IsRunWith Holds before steps after → IsRun before steps after
run-of Holds before after [] run = run
run-of Holds before after (step ∷ steps) run = (run.0, run.1.0, run-of Holds run.0 after steps run.2)

promises-run : (strategy : Strategy) (down : Ids) (now : Configuration) (steps : List Step) (target : Configuration) → KeepsPromises strategy down now steps target → IsRun now steps target
promises-run Shortest down now steps target promises = promises.best.run
promises-run LearnersFirst down now steps target promises = promises.run
promises-run OneAtATime down now steps target promises = run-of ChangesOneLearnerFirst now target steps promises.run

abbrev pub PathsAreRuns : Type 0
PathsAreRuns = HoldsOfPaths (λ strategy down. IsRun)

pub paths-run : HoldsOfPaths KeepsPromises → PathsAreRuns
paths-run keep strategy down now target voter_now voter_target path = promises-run strategy down now (path_by strategy down now target) target (keep strategy down now target voter_now voter_target path)

-- ---- what is printed of it
-- what the laws of the crates below say
pub record IsGiven : Type 0 where
  pub promised : HoldsOfPaths KeepsPromises
  pub change_by_change : HoldsOfPaths (λ strategy down. LeadsChangeByChange)
  pub stages : (now target : Configuration) (steps : List Step) → IsRun now steps target → AreOnTheWay (stages now steps) steps target
  pub lines : (strategy : Strategy) (made : Ids) (down : Option Ids) (number : ℕ) (now target : Configuration) → IsValidWithVoter now → IsValidWithVoter target → has_path strategy now target ≡ true →
      LinesLead now now (path_json number now (path_by strategy made now target) down) target

path-leads : IsGiven → (options : PlanOptions) (number : ℕ) (pair : Pair) → IsValidWithVoter pair.current → IsValidWithVoter pair.target → has_path pair.strategy pair.current pair.target ≡ true →
    LeadsAsPromised options number pair (path_by pair.strategy (ids_down options.down) pair.current pair.target)
path-leads given options number pair voter_now voter_target path =
    let down = ids_down options.down in
    let steps = path_by pair.strategy down pair.current pair.target in
    let change_by_change = given.change_by_change pair.strategy down pair.current pair.target voter_now voter_target path in
    record {
      promised = given.promised pair.strategy down pair.current pair.target voter_now voter_target path;
      on_the_way = given.stages pair.current pair.target steps (paths-run given.promised pair.strategy down pair.current pair.target voter_now voter_target path);
      change_by_change = change_by_change;
      single_changes = given.stages pair.current pair.target (one_change_each steps) change_by_change.run;
      lines = given.lines pair.strategy down options.down number pair.current pair.target voter_now voter_target path;
    }

pair-keeps_promises : IsGiven → (options : PlanOptions) → HoldsOfText options (IsPromisedPath options)
pair-keeps_promises given options session number pair valid = λ voter_now voter_target path. (
  path_by pair.strategy (ids_down options.down) pair.current pair.target,
  path_between-path options pair voter_now voter_target path,
  ap (reply_text options session number pair.current) (path_between-path options pair voter_now voter_target path),
  path-leads given options number pair (record { valid = valid.now; voter = voter_now }) (record { valid = valid.target; voter = voter_target }) path,
)

pub printed-keeps_promises : IsGiven → PrintedPathKeepsPromises
printed-keeps_promises given = record {
  each = λ options. (each-printed options (IsPromisedPath options) (pair-keeps_promises given options));
  texts = λ options. (pair-printed options (IsPromisedPath options) (pair-keeps_promises given options));
}
