-- What is so of a situation in which a step is proposed.
use Rattle.std.proofs.Common.{◌≡◌, ℕ, Bool, false, not, ◌&&◌, List, [], ◌∷◌, sym, ap, ◌∙◌, arith}
use Rattle.std.specs.Prelude.{None, nat_eq}
use Rattle.conf_change.specs.declared.step.Step.{Step}
use Rattle.conf_driver.specs.Next.{answer_in, propose_first}
use Rattle.conf_driver.specs.Rows as row
use Rattle.conf_driver.specs.Situation.{Situation, has_step}
use Rattle.conf_driver.specs.declared.action.Action.TheVariants.{Propose}
use Rattle.conf_driver.proofs.FirstRow.{by_rows}

-- no row answers, and the last one proposes the step
pub record IsProposed (s : Situation) (steps : List Step) (step : Step) : Type 0 where
  pub quorum_lost : row.quorum_lost s ≡ None
  pub down_is_heard : row.down_is_heard s ≡ None
  pub no_leader : row.no_leader s ≡ None
  pub nonvoter_leads : row.nonvoter_leads s ≡ None
  pub leader_is_dropped : row.leader_is_dropped s ≡ None
  pub is_pending : row.is_pending s ≡ None
  pub path_stalls : row.path_stalls s ≡ None
  pub id_is_reused : row.id_is_reused s ≡ None
  pub not_started : row.not_started s ≡ None
  pub not_stopped : row.not_stopped s ≡ None
  pub is_leaving : row.is_leaving s ≡ None
  pub leader_leaves : row.leader_leaves s ≡ None
  pub successor_lags : row.successor_lags s ≡ None
  pub at_target : row.at_target s ≡ None
  pub new_voter_lags : row.new_voter_lags s ≡ None
  pub voter_is_behind : row.voter_is_behind s ≡ None
  pub no_quorum_is_up : row.no_quorum_is_up s ≡ None
  pub voter_is_silent : row.voter_is_silent s ≡ None
  pub last : propose_first steps ≡ Propose step

pub IsProposed-from_answer : (s : Situation) (steps : List Step) (step : Step) → answer_in s steps ≡ Propose step → IsProposed s steps step
IsProposed-from_answer s steps step is =
    by_rows (IsProposed s steps step) s steps (Propose step) (λ a b c d e f g h i j k l m n o p q r last. record {
      quorum_lost = a;
      down_is_heard = b;
      no_leader = c;
      nonvoter_leads = d;
      leader_is_dropped = e;
      is_pending = f;
      path_stalls = g;
      id_is_reused = h;
      not_started = i;
      not_stopped = j;
      is_leaving = k;
      leader_leaves = l;
      successor_lags = m;
      at_target = n;
      new_voter_lags = o;
      voter_is_behind = p;
      no_quorum_is_up = q;
      voter_is_silent = r;
      last = last;
    }) is

-- the step is the first one
pub first_step : (steps : List Step) (step : Step) → propose_first steps ≡ Propose step → (rest : List Step) × (steps ≡ step ∷ rest)
first_step [] step is = absurd (cc)
first_step (first ∷ rest) step is = let same : first ≡ step = cc in (rest, ap (λ x. x ∷ rest) same)

-- ---- tests
pub zero-from_test : (n : ℕ) → not (nat_eq n 0) ≡ false → n ≡ 0
zero-from_test n none = grind (arith, none)

-- there is a step, so the other test fails
pub second_fails : (steps rest : List Step) (step : Step) (test : Bool) → steps ≡ step ∷ rest → (has_step steps && test) ≡ false → test ≡ false
second_fails steps rest step test is none = let here : (has_step (step ∷ rest) && test) ≡ false = sym (ap (λ xs. has_step xs && test) is) ∙ none in grind (arith, here)
