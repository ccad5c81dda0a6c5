-- Whom a wait names, and when it is over.
use Rattle.std.specs.Prelude.{◌≡◌, ◌≢◌, ◌<◌, ◌≤◌, ◌⊎◌, ℕ, true, false, ◌||◌}
use Rattle.quorum_sets.specs.Ids.{Ids, has}
use Rattle.conf_change.specs.Configuration.{is_member}
use Rattle.conf_driver.specs.View.{ViewState, caught_up_index, heard_from, match_of, up_and_caught_up}
use Rattle.conf_driver.specs.declared.action.WaitReason.{WaitReason}
use Rattle.conf_driver.specs.declared.action.WaitReason.TheVariants.{NoLeader, Pending, Heard, Unheard, Behind, Leaving}

-- the id votes, is not down, and so is this, or it leads
abbrev pub IsVoterOrLeads : ViewState → ℕ → Type 0 → Type 0
IsVoterOrLeads view id Holds = ((has view.conf_state.incoming id || has view.conf_state.outgoing id) ≡ true × Holds) ⊎ (id ≡ view.lead)

-- What a wait says of each id that it names. Heard: it is named as down, and is a member that is heard from, or leads.
-- Unheard: it is not heard from. Behind: it is heard from, and lacks what is committed. NoLeader: there is no leader, and it
-- votes. Pending: it votes and lacks the change that is pending, or leads. Leaving: it votes and is not up with all that
-- is committed, or leads, in a joint configuration with auto-leave. But for Heard, none is named as down.
abbrev pub LacksWhatIsNamed : WaitReason → Ids → ViewState → ℕ → Type 0
LacksWhatIsNamed Heard down view id =
    (has down id ≡ true) × (((is_member view.conf_state id ≡ true) × (has (heard_from view) id ≡ true)) ⊎ (id ≡ view.lead))
LacksWhatIsNamed Unheard down view id = (has down id ≡ false) × (has (heard_from view) id ≡ false)
LacksWhatIsNamed Behind down view id = (has down id ≡ false) × (has (heard_from view) id ≡ true) × (match_of view id < caught_up_index view)
LacksWhatIsNamed NoLeader down view id = (has down id ≡ false) × (view.lead ≡ 0) × ((has view.conf_state.incoming id || has view.conf_state.outgoing id) ≡ true)
LacksWhatIsNamed Pending down view id = (has down id ≡ false) × (view.pending_conf_index ≢ 0) × IsVoterOrLeads view id (match_of view id < view.pending_conf_index)
LacksWhatIsNamed Leaving down view id = (has down id ≡ false) × (view.conf_state.auto_leave ≡ true) × IsVoterOrLeads view id (has (up_and_caught_up down view) id ≡ false)

-- what a member has once a wait for it is over: it is heard from, and has what is committed
pub record HasCome (view : ViewState) (id : ℕ) : Type 0 where
  pub heard : has (heard_from view) id ≡ true
  pub caught_up : caught_up_index view ≤ match_of view id
