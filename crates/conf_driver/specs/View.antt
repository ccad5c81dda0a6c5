-- What is known of a cluster: who is heard from, how much of the log each member has, and who is up and has caught up.
use Rattle.std.specs.Prelude.{ℕ, ◌-◌, ◌==◌, Bool, not, ◌&&◌, List, [], ◌∷◌, max, flat_map, find, nat_eq, nat_le, Option, option_map, unwrap_or, refl, if◌then◌else◌}
use Rattle.std.specs.Option.{is_none}
use Rattle.std.specs.Coded.{Coded, coded_ℕ, coded_bool, coded_list, coded×, code_by}
use Rattle.quorum_sets.specs.Ids.{Ids, ascending, has, ids_of, ids_where}
use Rattle.conf_change.specs.Configuration.{Configuration, is_member, member_ids}
use Rattle.conf_change.specs.ConfigurationCode.{configuration_code, ids_code}
use Rattle.conf_driver.specs.IdSets.{◌∪◌, ◌∩◌, ◌∖◌}
use Rattle.conf_driver.specs.declared.view.MemberView.{MemberView}

-- what is known: see the type `View`, whose value it is
pub record ViewState : Type 0 where
  pub conf_state : Configuration
  pub conf_index : ℕ
  pub lead : ℕ
  pub commit : ℕ
  pub pending_conf_index : ℕ
  pub progress : List MemberView
  pub running : Ids
  pub retired : Ids
  pub max_lag : ℕ

-- a member is encoded as its three parts
abbrev pub member_code : Coded MemberView
member_code =
    code_by (ℕ × (ℕ × Bool)) (coded× coded_ℕ (coded× coded_ℕ coded_bool))
    (λ m. (m.id, (m.matched, m.recent_active)))
    (λ p. record { id = p.0; matched = p.1.0; recent_active = p.1.1 })
    (λ _. refl)

-- a view as its nine parts
abbrev pub view_code : Coded ViewState
view_code =
    code_by (Configuration × (ℕ × (ℕ × (ℕ × (ℕ × (List MemberView × (Ids × (Ids × ℕ))))))))
    (coded× configuration_code (coded× coded_ℕ (coded× coded_ℕ (coded× coded_ℕ (coded× coded_ℕ (coded× (coded_list member_code) (coded× ids_code (coded× ids_code coded_ℕ))))))))
    (λ v. (v.conf_state, (v.conf_index, (v.lead, (v.commit, (v.pending_conf_index, (v.progress, (v.running, (v.retired, v.max_lag)))))))))
    (λ p. record {
      conf_state = p.0;
      conf_index = p.1.0;
      lead = p.1.1.0;
      commit = p.1.1.1.0;
      pending_conf_index = p.1.1.1.1.0;
      progress = p.1.1.1.1.1.0;
      running = p.1.1.1.1.1.1.0;
      retired = p.1.1.1.1.1.1.1.0;
      max_lag = p.1.1.1.1.1.1.1.1;
    })
    (λ _. refl)

-- the voters of a configuration, incoming and outgoing
abbrev pub voter_ids : Configuration → Ids
voter_ids c = c.incoming ∪ c.outgoing

-- the id of a member that is heard from
abbrev pub heard : MemberView → List ℕ
heard member = if member.recent_active then member.id ∷ [] else []

-- the ids that are heard from
abbrev pub heard_from : ViewState → Ids
heard_from view = ids_of (flat_map heard view.progress)

-- the last index at which an id is known to have the leader's log, if something is known of it
abbrev pub known_match : ViewState → ℕ → Option ℕ
known_match view id = option_map (λ (m : MemberView). m.matched) (find (λ (m : MemberView). m.id == id) view.progress)

-- the last index at which an id is known to have the leader's log, 0 if nothing is known of it
abbrev pub match_of : ViewState → ℕ → ℕ
match_of view id = unwrap_or (known_match view id) 0

-- the ids of a set that are known to have the log up to an index
abbrev pub having : ViewState → ℕ → Ids → Ids
having view index ids = ids_where (λ id. nat_le index (match_of view id)) (ascending ids)

-- the other ids of the set
abbrev pub lacking : ViewState → ℕ → Ids → Ids
lacking view index ids = ids ∖ having view index ids

-- Who has this index knows the configuration, as far as this leader can make it known: raft drops what is proposed to a
-- leader that is not a voter, so it cannot add the entry after the change.
abbrev pub known_index : ViewState → ℕ
known_index view = if has (voter_ids view.conf_state) view.lead then view.conf_index else view.conf_index - 1

-- who has this index knows the configuration and lacks no more than `max_lag` of what is committed
abbrev pub caught_up_index : ViewState → ℕ
caught_up_index view = max (known_index view) (view.commit - view.max_lag)

-- the members that are up and have caught up: heard from, not down, and with that index
abbrev pub up_and_caught_up : Ids → ViewState → Ids
up_and_caught_up down view = having view (caught_up_index view) (member_ids view.conf_state ∩ heard_from view ∖ down)

-- ---- what a leader has to fill in
-- someone leads, and no index makes the configuration known
abbrev pub lacks_conf_index : ViewState → Bool
lacks_conf_index view = not (nat_eq view.lead 0) && nat_eq view.conf_index 0

-- who leads is a member, and nothing is known of it
abbrev pub lacks_leader_progress : ViewState → Bool
lacks_leader_progress view = is_member view.conf_state view.lead && is_none (known_match view view.lead)
