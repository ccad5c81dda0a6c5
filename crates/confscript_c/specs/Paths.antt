-- The path between two configurations by a request, and the answer if there is none.
use Rattle.std.specs.Prelude.{◌≡◌, ℕ, true, List, Option, Some, None, Ok, Err, if◌then◌else◌}
use Rattle.conf_change.specs.Configuration.{Configuration, has_voter}
use Rattle.conf_change.specs.declared.step.Step.{Step}
use Rattle.conf_plan.specs.PathBy.{has_path, ids_down, path_by}
use Rattle.conf_plan.specs.declared.strategy.NoPath.{NoPath}
use Rattle.conf_plan.specs.declared.strategy.NoPath.TheVariants as none
use Rattle.plan_input.specs.Nonmember.{first_nonmember}
use Rattle.confscript_c.specs.Answer.{status_answer, no_memory}
use Rattle.confscript_c.specs.Written.{OutResult}
use Rattle.confscript_c.specs.declared.answer.Answer.{Answer}
use Rattle.confscript_c.specs.declared.request.Request.{Request}
use Rattle.confscript_c.specs.declared.status.Status.TheVariants.{NoVoter, JointTarget, DownNotAMember}

-- the answer where there is no path
abbrev pub no_path_answer : NoPath → Answer
no_path_answer none.NoVoterNow = status_answer NoVoter 1
no_path_answer none.NoVoterTarget = status_answer NoVoter 2
no_path_answer none.JointTarget = status_answer JointTarget 0
no_path_answer none.NoMemory = no_memory

-- what is written of the path, or the answer if a configuration has no voter or the strategy has no path
abbrev pub path_result : Request → Configuration → Configuration → (List Step → List ℕ) → OutResult
path_result request now target written =
    if has_voter now then
    (if has_voter target then
    (if has_path request.strategy now target
    then Ok (written (path_by request.strategy (ids_down request.down) now target))
    else Err (status_answer JointTarget 0))
    else Err (status_answer NoVoter 2))
    else Err (status_answer NoVoter 1)

-- the steps are the path of a request between two configurations, both of which have voters
pub record IsMade (request : Request) (now target : Configuration) (steps : List Step) : Type 0 where
  pub voter : has_voter now ≡ true
  pub voter_target : has_voter target ≡ true
  pub has : has_path request.strategy now target ≡ true
  pub is : steps ≡ path_by request.strategy (ids_down request.down) now target

-- a result, or the answer for an id that is down and not a member
abbrev pub unless_nonmember : Option ℕ → OutResult → OutResult
unless_nonmember None result = result
unless_nonmember (Some id) result = Err (status_answer DownNotAMember id)

-- what is written of the path, or the answer if there is none, or if an id that is down is a member of neither
-- configuration
abbrev pub members_path_result : Request → Configuration → Configuration → (List Step → List ℕ) → OutResult
members_path_result request now target written =
    unless_nonmember (first_nonmember request.down now target) (path_result request now target written)
