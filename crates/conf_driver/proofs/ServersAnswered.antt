-- Which row starts and stops servers, and which ids it names.
use Rattle.std.proofs.Common.{◌≡◌, true, false, List, [], ◌∷◌, arith}
use Rattle.std.specs.Prelude.{None}
use Rattle.std.proofs.lemmas.Bool.{and_parts}
use Rattle.quorum_sets.specs.Ids.{Ids, is_empty}
use Rattle.quorum_sets.specs.Voters.{is_quorum}
use Rattle.quorum_sets.proofs.Offered.{has-union}
use Rattle.conf_change.specs.Configuration.{member_ids, voters_of}
use Rattle.conf_change.specs.declared.step.Step.{Step}
use Rattle.conf_driver.specs.IdSets.{◌∪◌, ◌∩◌, ◌∖◌}
use Rattle.conf_driver.specs.Next.{answer_in, propose_first}
use Rattle.conf_driver.specs.Rows as row
use Rattle.conf_driver.specs.Rows.{may_stop}
use Rattle.conf_driver.specs.declared.action.Action.TheVariants.{Start, Stop}
use Rattle.conf_driver.specs.Situation.{Situation}
use Rattle.conf_driver.proofs.FirstRow.{by_rows}
use Rattle.conf_driver.proofs.IdsByMember.{has-without, is_empty-from_none}
use Rattle.conf_driver.proofs.RowAnswers.{if_any-some, some-if}

-- ---- starting
-- the members of the target that are members now or after the step, and neither voters nor down
abbrev pub to_run : Situation → Ids
to_run s = (member_ids s.after ∪ s.members) ∩ member_ids s.target ∖ s.voters ∖ s.down

-- no id is used again, and those of the members that do not run are named
pub record IsStarted (s : Situation) (ids : Ids) : Type 0 where
  pub no_leader : row.no_leader s ≡ None
  pub reused : row.id_is_reused s ≡ None
  pub some : is_empty (to_run s ∖ s.running) ≡ false
  pub named : (to_run s ∖ s.running) ≡ ids

start_not_last : {P : Type 0} (steps : List Step) (ids : Ids) → propose_first steps ≡ Start ids → P
start_not_last [] ids is = absurd (cc)
start_not_last (step ∷ steps) ids is = absurd (cc)

same_start : (a b : Ids) → Start a ≡ Start b → a ≡ b
same_start a b is = cc

pub IsStarted-from_answer : (s : Situation) (steps : List Step) (ids : Ids) → answer_in s steps ≡ Start ids → IsStarted s ids
IsStarted-from_answer s steps ids is =
    by_rows (IsStarted s ids) s steps (Start ids)
    (λ lost heard leaderless nonvoter dropped pending stalls reused. (
      λ here. let parts = if_any-some (to_run s ∖ s.running) Start (Start ids) here in record { no_leader = leaderless; reused = reused; some = parts.0; named = same_start _ ids parts.1 },
      λ started stopped leaving leads lags target new behind quorum silent last. start_not_last steps ids last,
    )) is

-- once they run, there are no others
pub none_to_start : (a b : Ids) → is_empty (a ∖ (b ∪ (a ∖ b))) ≡ true
none_to_start a b = is_empty-from_none _ (λ q. grind (arith, has-without a (b ∪ (a ∖ b)) q, has-union b (a ∖ b) q, has-without a b q))

-- ---- stopping
-- who runs and is a member neither now nor at the target
abbrev pub to_stop : Situation → Ids
to_stop s = s.running ∖ s.members ∖ member_ids s.target

pub record IsStopped (s : Situation) (ids : Ids) : Type 0 where
  pub no_leader : row.no_leader s ≡ None
  pub known : is_empty s.lack_configuration ≡ true
  pub heard : is_quorum (voters_of s.before) (s.voters ∩ s.heard ∖ s.down) ≡ true
  pub some : is_empty (to_stop s) ≡ false
  pub named : to_stop s ≡ ids

stop_not_last : {P : Type 0} (steps : List Step) (ids : Ids) → propose_first steps ≡ Stop ids → P
stop_not_last [] ids is = absurd (cc)
stop_not_last (step ∷ steps) ids is = absurd (cc)

same_stop : (a b : Ids) → Stop a ≡ Stop b → a ≡ b
same_stop a b is = cc

pub IsStopped-from_answer : (s : Situation) (steps : List Step) (ids : Ids) → answer_in s steps ≡ Stop ids → IsStopped s ids
IsStopped-from_answer s steps ids is =
    by_rows (IsStopped s ids) s steps (Stop ids)
    (λ lost heard leaderless nonvoter dropped pending stalls reused started. (
      λ here.
          let row = some-if (may_stop s) _ _ here in
          let may = and_parts (is_empty s.lack_configuration) (is_quorum (voters_of s.before) (s.voters ∩ s.heard ∖ s.down)) row.0 in
          let parts = if_any-some (to_stop s) Stop (Stop ids) row.1 in
          record { no_leader = leaderless; known = may.0; heard = may.1; some = parts.0; named = same_stop _ ids parts.1 },
      λ stopped leaving leads lags target new behind quorum silent last. stop_not_last steps ids last,
    )) is

-- once they do not run, there are no others
pub none_to_stop : (a b d : Ids) → is_empty (a ∖ (a ∖ b ∖ d) ∖ b ∖ d) ≡ true
none_to_stop a b d = is_empty-from_none _ (λ q.
    grind (arith, has-without (a ∖ (a ∖ b ∖ d) ∖ b) d q, has-without (a ∖ (a ∖ b ∖ d)) b q, has-without a (a ∖ b ∖ d) q, has-without (a ∖ b) d q, has-without a b q))
