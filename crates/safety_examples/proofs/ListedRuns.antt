-- Runs in which sets of servers are written as lists, at any level of the rules: what they leave, whether each action is allowed, and
-- whether each but one is.
use Rattle.std.proofs.Common.{List, [], ◌∷◌}
use Rattle.conf_change.specs.Configuration.{Configuration}
use Rattle.raft_safety.specs.Runs.{after_all, AreAllAllowed}
use Rattle.safety_examples.proofs.Decisions.{Decision, yes, negated, both}
use Rattle.safety_examples.proofs.ListedVoters.{Lists, configuration_of}

-- a level of the rules: its states, its actions, and how a run writes them; and whether an action is allowed
pub record Level : Type 1 where
  pub State : Type 0
  pub Action : Type 0
  pub Listed : Type 0
  pub start : State
  pub after_action : State → Action → State
  pub action_of : State → Listed → Action
  pub IsAllowed : Configuration → State → Action → Type 0
  pub is_allowed : (l : Lists) → (s : State) → (a : Listed) → Decision (IsAllowed (configuration_of l) s (action_of s a))

-- the actions before, one, and those after it
pub record Run (m : Level) : Type 0 where
  pub first : Lists
  pub before : List m.Listed
  pub action : m.Listed
  pub rest : List m.Listed

module _ (m : Level) where
  abbrev pub after_one : m.State → m.Listed → m.State
  after_one s a = m.after_action s (m.action_of s a)

  abbrev pub after : m.State → List m.Listed → m.State
  after = after_all after_one

  abbrev pub actions_of : m.State → List m.Listed → List m.Action
  actions_of s [] = []
  actions_of s (a ∷ run) = m.action_of s a ∷ actions_of (after_one s a) run

  abbrev pub AreAllowed : Lists → m.State → List m.Listed → Type 0
  AreAllowed l s run = AreAllAllowed m.after_action (m.IsAllowed (configuration_of l)) s (actions_of s run)

  abbrev pub are_allowed : (l : Lists) → (s : m.State) → (run : List m.Listed) → Decision (AreAllowed l s run)
  are_allowed l s [] = yes tt
  are_allowed l s (a ∷ run) = both (m.is_allowed l s a) (are_allowed l (after_one s a) run)

  -- ---- each action but one
  abbrev pub state_before : Run m → m.State
  state_before run = after m.start run.before

  abbrev pub state_after : Run m → m.State
  state_after run = after_one (state_before run) run.action

  abbrev pub last_state : Run m → m.State
  last_state run = after (state_after run) run.rest

  abbrev pub IsRefused : Run m → Type 0
  IsRefused run = ¬ m.IsAllowed (configuration_of run.first) (state_before run) (m.action_of (state_before run) run.action)

  abbrev pub is_refused : (run : Run m) → Decision (IsRefused run)
  is_refused run = negated (m.is_allowed run.first (state_before run) run.action)

  -- each action but one is allowed; and of that one this holds
  abbrev pub AllButOne : Run m → Type 0 → Type 0
  AllButOne run But = AreAllowed run.first m.start run.before × (But × (IsRefused run × AreAllowed run.first (state_after run) run.rest))

  abbrev pub all_but_one : {But : Type 0} → (run : Run m) → Decision But → Decision (IsRefused run) → Decision (AllButOne run But)
  all_but_one run but refused = both (are_allowed run.first m.start run.before) (both but (both refused (are_allowed run.first (state_after run) run.rest)))
