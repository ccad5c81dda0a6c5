-- Runs by etcd's rules. First two of which each action is allowed, and how entries are taken; then what goes wrong without a rule,
-- where each action but one is allowed, and of the guard of that one all but a field holds.
use Rattle.std.proofs.Common.{◌≡◌, ℕ, false, List, [], ◌∷◌, ◌++◌, refl}
use Rattle.conf_change.specs.declared.change.Kind.TheVariants.{Voter}
use Rattle.raft_safety.specs.Logs.{Entry, Log}
use Rattle.raft_safety.specs.Claims.{ElectionSafety, LogMatching}
use Rattle.raft_safety.specs.Cluster.{Leads, VoteRequest}
use Rattle.raft_safety.specs.Appending.{with_entries}
use Rattle.raft_safety.specs.EtcdCluster.{Append, Candidacy, new_etcd_cluster}
use Rattle.raft_safety.specs.EtcdRules.{IsReady, Campaign, SeeTerm, GrantVote, Propose, Send, Receive, Answer, Heartbeat, Apply, Restart}
use Rattle.raft_safety.specs.EtcdRuns.{AreAllowedByEtcd}
use Rattle.safety_examples.proofs.ListedVoters.{configuration_of}
use Rattle.safety_examples.proofs.DecidedSteps.{leads}
use Rattle.safety_examples.proofs.DecidedClaims.{two_leaders, different_entries}
use Rattle.safety_examples.proofs.ListedRuns.{Run, AllButOne, actions_of, after, are_allowed, all_but_one, is_refused, state_before, last_state}
use Rattle.safety_examples.proofs.DecidedEtcd.{ListedAction, Do, LeadBy, CommitBy, MayCampaignUnready, MayProposeTwo, MayTakeUnmatched, etcd, ready, campaigns_unready, proposes_two, takes_unmatched}
use Rattle.safety_examples.proofs.Beginnings.{one, three, command, one_change, request, no_servers, all_servers, x, add, remove, added, moved}
use Rattle.safety_examples.proofs.AllowedRuns.{added_4, used}

abbrev pub candidacy : VoteRequest → Log → Candidacy
candidacy request applied = record { request = request; applied = applied }

abbrev pub append : (term index index_term : ℕ) → Log → ℕ → Append
append term index index_term entries commit = record { term = term; index = index; index_term = index_term; entries = entries; commit = commit }

-- ---- server 4 becomes a voter, as in AllowedRuns.antt: what is applied decides who counts, and a restart leaves what is durable.
-- All kinds of actions occur. Server 4 learns by a heartbeat that the command is committed, and forgets it in the restart
abbrev until_it_learns : List ListedAction
until_it_learns =
    Do (Campaign 1 1 []) ∷ Do (GrantVote 2 (request 1 1 [] [])) ∷ LeadBy (candidacy (request 1 1 [] []) []) [] (1 ∷ 2 ∷ [])
    ∷ Do (Propose 1 1 (one_change 1 Voter 4)) ∷ Do (Send 1 1 [] added_4) ∷ Do (Receive 1 (append 1 0 0 added_4 0)) ∷ Do (Receive 2 (append 1 0 0 added_4 0))
    ∷ CommitBy 1 1 added_4 (1 ∷ 2 ∷ []) ∷ Do (Apply 1 1 added_4)
    ∷ Do (Propose 1 1 x) ∷ Do (Send 1 1 added_4 (x ∷ [])) ∷ Do (Send 1 1 [] used)
    ∷ Do (Receive 1 (append 1 1 1 (x ∷ []) 1)) ∷ Do (Receive 2 (append 1 1 1 (x ∷ []) 1)) ∷ Do (Receive 4 (append 1 0 0 used 1))
    ∷ CommitBy 1 1 used (1 ∷ 2 ∷ 4 ∷ []) ∷ Do (Heartbeat 4 1 1 used) ∷ []

abbrev after_it_learned : List ListedAction
after_it_learned =
    Do (Answer 2 1 1) ∷ Do (Restart 4 added_4)
    ∷ Do (SeeTerm 3 2) ∷ Do (Campaign 4 2 added_4) ∷ Do (GrantVote 1 (request 2 4 used added_4)) ∷ Do (GrantVote 3 (request 2 4 used added_4))
    ∷ LeadBy (candidacy (request 2 4 used added_4) added_4) added_4 (1 ∷ 3 ∷ 4 ∷ []) ∷ []

voter_added_is_allowed : AreAllowedByEtcd (configuration_of three) (new_etcd_cluster no_servers) (actions_of etcd (new_etcd_cluster no_servers) (until_it_learns ++ after_it_learned))
voter_added_is_allowed = (are_allowed etcd three (new_etcd_cluster no_servers) (until_it_learns ++ after_it_learned)).shows refl

-- the appends are those that the leader sent
sent_appends : (after etcd (new_etcd_cluster no_servers) (until_it_learns ++ after_it_learned)).appends ≡ append 1 0 0 used 1 ∷ append 1 1 1 (x ∷ []) 1 ∷ append 1 0 0 added_4 0 ∷ []
sent_appends = refl

fourth_learns : ((after etcd (new_etcd_cluster no_servers) until_it_learns).cluster.servers 4).committed ≡ used
fourth_learns = refl

fourth_leads :
    let e = after etcd (new_etcd_cluster no_servers) (until_it_learns ++ after_it_learned) in
    ((e.cluster.servers 4).committed ≡ added_4) × Leads e.cluster 2 4 × ((e.cluster.leaderships 2 4).log ≡ used) × (e.applied 2 4 ≡ added_4)
fourth_leads = (refl, (leads (after etcd (new_etcd_cluster no_servers) (until_it_learns ++ after_it_learned)).cluster 2 4).shows refl, refl, refl)

-- ---- a server that looks at its own log before it campaigns. Server 1, the only voter, adds server 2. It knows that this is committed,
-- and has not applied it: it may campaign, as one that does not look may not. It applies the change while it counts its votes, and is
-- elected by the newer configuration
abbrev until_it_knows : List ListedAction
until_it_knows =
    Do (Campaign 1 1 []) ∷ LeadBy (candidacy (request 1 1 [] []) []) [] (1 ∷ []) ∷ Do (Propose 1 1 add) ∷ Do (Send 1 1 [] added)
    ∷ Do (Receive 1 (append 1 0 0 added 0)) ∷ CommitBy 1 1 added (1 ∷ []) ∷ Do (Heartbeat 1 1 1 added) ∷ []

abbrev applied_since : List ListedAction
applied_since =
    until_it_knows
    ++ (Do (Campaign 1 2 []) ∷ Do (GrantVote 2 (request 2 1 added added)) ∷ LeadBy (candidacy (request 2 1 added added) []) added (1 ∷ 2 ∷ [])
    ∷ Do (Apply 2 1 added) ∷ [])

applied_since_is_allowed : AreAllowedByEtcd (configuration_of one) (new_etcd_cluster all_servers) (actions_of etcd (new_etcd_cluster all_servers) applied_since)
applied_since_is_allowed = (are_allowed etcd one (new_etcd_cluster all_servers) applied_since).shows refl

-- if it did not look, it would have to apply the change first
not_without_a_look : ¬ IsReady (configuration_of one) false ((after etcd (new_etcd_cluster all_servers) until_it_knows).cluster.servers 1) []
not_without_a_look = (ready one false ((after etcd (new_etcd_cluster all_servers) until_it_knows).cluster.servers 1) []).refutes refl

-- ---- how entries are taken
-- an entry of another term is cut off with all that follows it, and entries of the same terms stay
conflict_is_cut : with_entries (command 1 9 ∷ command 1 8 ∷ command 1 7 ∷ []) 1 (command 2 6 ∷ []) ≡ command 2 6 ∷ command 1 7 ∷ []
conflict_is_cut = refl

match_is_kept : with_entries (command 1 9 ∷ command 1 8 ∷ command 1 7 ∷ []) 1 (command 1 8 ∷ []) ≡ command 1 9 ∷ command 1 8 ∷ command 1 7 ∷ []
match_is_kept = refl

-- ---- without `one_at_a_time`: a change of voters is proposed only once all earlier ones of the log are applied (Steps.antt has
-- `one_change_beyond` of campaigns and commitments for it). Server 1 is the only voter. It adds server 2 and removes itself at once,
-- and commits both by itself, as nothing is applied yet. Server 2 hears of that, and is elected in term 2 by itself, as it may. Server
-- 1, which has not learned that anything is committed, is elected in term 2 by itself too: two leaders of term 2, after thirteen
-- actions
abbrev propose_two : Run etcd
propose_two = record {
  first = one;
  before = Do (Campaign 1 1 []) ∷ LeadBy (candidacy (request 1 1 [] []) []) [] (1 ∷ []) ∷ Do (Propose 1 1 add) ∷ [];
  action = Do (Propose 1 1 remove);
  rest =
      Do (Send 1 1 [] moved) ∷ Do (Receive 1 (append 1 0 0 moved 0)) ∷ Do (Receive 2 (append 1 0 0 moved 0)) ∷ CommitBy 1 1 moved (1 ∷ [])
      ∷ Do (Heartbeat 2 1 1 moved) ∷ Do (Campaign 2 2 moved) ∷ LeadBy (candidacy (request 2 2 moved moved) moved) moved (2 ∷ [])
      ∷ Do (Campaign 1 2 []) ∷ LeadBy (candidacy (request 2 1 moved []) []) [] (1 ∷ []) ∷ [];
}

without_one_at_a_time : AllButOne etcd propose_two (MayProposeTwo (state_before etcd propose_two) 1 1 remove) × ¬ ElectionSafety (last_state etcd propose_two).cluster
without_one_at_a_time =
    ((all_but_one etcd propose_two (proposes_two (state_before etcd propose_two) 1 1 remove) (is_refused etcd propose_two)).shows refl, (two_leaders 2 2 1 (last_state etcd propose_two).cluster).shows refl)

-- ---- without `ready`: no server campaigns while a committed change of voters is not applied. Server 1 was the only voter. That server 2
-- is added is committed and applied, and that server 1 is removed is committed by both. Server 2, which has applied both, is elected in
-- term 2 by itself, as it may. Server 1 knows that server 2 was added, but has not applied it, and is elected in term 2 by itself too:
-- two leaders of term 2, after seventeen actions
abbrev campaign_unready : Run etcd
campaign_unready = record {
  first = one;
  before =
      Do (Campaign 1 1 []) ∷ LeadBy (candidacy (request 1 1 [] []) []) [] (1 ∷ []) ∷ Do (Propose 1 1 add) ∷ Do (Send 1 1 [] added)
      ∷ Do (Receive 1 (append 1 0 0 added 0)) ∷ CommitBy 1 1 added (1 ∷ []) ∷ Do (Apply 1 1 added)
      ∷ Do (Propose 1 1 remove) ∷ Do (Send 1 1 [] moved) ∷ Do (Receive 1 (append 1 0 0 moved 1)) ∷ Do (Receive 2 (append 1 0 0 moved 1))
      ∷ CommitBy 1 1 moved (1 ∷ 2 ∷ []) ∷ Do (Heartbeat 2 1 1 moved) ∷ Do (Campaign 2 2 moved)
      ∷ LeadBy (candidacy (request 2 2 moved moved) moved) moved (2 ∷ []) ∷ [];
  action = Do (Campaign 1 2 []);
  rest = LeadBy (candidacy (request 2 1 moved added) []) [] (1 ∷ []) ∷ [];
}

without_ready : AllButOne etcd campaign_unready (MayCampaignUnready (state_before etcd campaign_unready) 1 2 []) × ¬ ElectionSafety (last_state etcd campaign_unready).cluster
without_ready =
    ((all_but_one etcd campaign_unready (campaigns_unready (state_before etcd campaign_unready) 1 2 []) (is_refused etcd campaign_unready)).shows refl, (two_leaders 2 2 1 (last_state etcd campaign_unready).cluster).shows refl)

-- ---- without `matches`: an append is taken only where the entry before it has the leader's term. Server 3, leader of term 1, stores y
-- at index 1. Server 1 is elected in term 2 by servers 1 and 2, and proposes a and b. It sends b as what comes after a, and server 3
-- puts it after y: two logs have the same entry at index 2, and different ones before it, after fifteen actions
abbrev with_y : Log
with_y = command 1 7 ∷ []

abbrev with_a : Log
with_a = command 2 8 ∷ []

abbrev b : Entry
b = command 2 9

abbrev take_unmatched : Run etcd
take_unmatched = record {
  first = three;
  before =
      Do (Campaign 3 1 []) ∷ Do (GrantVote 2 (request 1 3 [] [])) ∷ LeadBy (candidacy (request 1 3 [] []) []) [] (2 ∷ 3 ∷ [])
      ∷ Do (Propose 1 3 (command 1 7)) ∷ Do (Send 1 3 [] with_y) ∷ Do (Receive 3 (append 1 0 0 with_y 0))
      ∷ Do (Campaign 1 2 []) ∷ Do (GrantVote 2 (request 2 1 [] [])) ∷ LeadBy (candidacy (request 2 1 [] []) []) [] (1 ∷ 2 ∷ [])
      ∷ Do (Propose 2 1 (command 2 8)) ∷ Do (Propose 2 1 b) ∷ Do (Send 2 1 with_a (b ∷ [])) ∷ [];
  action = Do (Receive 3 (append 2 1 2 (b ∷ []) 0));
  rest = Do (Send 2 1 [] (b ∷ with_a)) ∷ Do (Receive 1 (append 2 0 0 (b ∷ with_a) 0)) ∷ [];
}

without_matches : AllButOne etcd take_unmatched (MayTakeUnmatched (state_before etcd take_unmatched) 3 (append 2 1 2 (b ∷ []) 0)) × ¬ LogMatching (last_state etcd take_unmatched).cluster
without_matches = (
  (all_but_one etcd take_unmatched (takes_unmatched (state_before etcd take_unmatched) 3 (append 2 1 2 (b ∷ []) 0)) (is_refused etcd take_unmatched)).shows refl,
  (different_entries 1 3 b b with_a with_y (last_state etcd take_unmatched).cluster).shows refl,
)
