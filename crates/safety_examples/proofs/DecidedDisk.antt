-- Whether the rules of DiskRules.antt allow an action is decided by computing, where sets of servers are written as lists.
use Rattle.std.proofs.Common.{◌≡◌, ℕ, ◌<◌, false, List, [], ◌∷◌, take, drop, length, refl, sym, ap, subst, inl, take-append-drop}
use Rattle.quorum_sets.specs.Ids.{no_ids, ids_of}
use Rattle.raft_safety.specs.Logs.{Log, IsPrefix, last_term}
use Rattle.raft_safety.specs.Cluster.{Acknowledgement, In}
use Rattle.raft_safety.specs.EtcdCluster.{Candidacy, EtcdCluster}
use Rattle.raft_safety.specs.EtcdRules.{EtcdAction}
use Rattle.raft_safety.specs.EtcdRules as etcd
use Rattle.raft_safety.specs.EtcdRuns.{after_etcd_actions}
use Rattle.raft_safety.specs.DiskCluster.{Message, Ask, Grant, Acknowledge, Raised, DiskCluster, HasSaidAcknowledged, memory, in_memory, new_disk_cluster}
use Rattle.raft_safety.specs.DiskRules.{IsSaved, IsOwn, IsHeard, DiskAction, MaySave, MayLead, MayRaise, MayUse, IsAllowedOnDisk}
use Rattle.raft_safety.specs.DiskRules as disk
use Rattle.raft_safety.specs.DiskRuns.{after_disk_action}
use Rattle.safety_examples.proofs.Decisions.{Decision, yes, no, undecided, number_is, less, like, so, negated, both, implied, some_in, is_in, each_id}
use Rattle.safety_examples.proofs.ListedVoters.{Lists, configuration_of, quorum, one_change_beyond}
use Rattle.safety_examples.proofs.ListedRuns.{Level}
use Rattle.safety_examples.proofs.Equality.{differ, flag_is, vote_is, request_is, log_is, prefix}
use Rattle.safety_examples.proofs.DecidedSteps.{IsOne, leads, acknowledged}
use Rattle.safety_examples.proofs.DecidedEtcd.{candidacy_is, campaigns, decided}

-- ---- what was said
abbrev pub acknowledgement_is : (a b : Acknowledgement) → Decision (a ≡ b)
acknowledgement_is a b =
    like (λ parts i. record { term = parts.0 i; server = parts.1.0 i; log = parts.1.1 i })
    (λ same. (ap (λ (k : Acknowledgement). k.term) same, (ap (λ (k : Acknowledgement). k.server) same, ap (λ (k : Acknowledgement). k.log) same)))
    (both (number_is a.term b.term) (both (number_is a.server b.server) (log_is a.log b.log)))

abbrev pub message_number : Message → ℕ
message_number (Ask request) = 0
message_number (Grant vote) = 1
message_number (Acknowledge acknowledgement) = 2

abbrev pub message_is : (a b : Message) → Decision (a ≡ b)
message_is (Ask a) (Ask b) = so (λ same. ap Ask same) (request_is a b)
message_is (Grant a) (Grant b) = so (λ same. ap Grant same) (vote_is a b)
message_is (Acknowledge a) (Acknowledge b) = so (λ same. ap Acknowledge same) (acknowledgement_is a b)
message_is a b = no (differ message_number a b refl)

-- the message acknowledges a log that begins with this one
abbrev pub Says : ℕ → ℕ → Log → Message → Type 0
Says term server log (Ask request) = ⊥
Says term server log (Grant vote) = ⊥
Says term server log (Acknowledge a) = IsOne term server log a

abbrev pub says : (term server : ℕ) → (log : Log) → (message : Message) → Decision (Says term server log message)
says term server log (Ask request) = no (λ h. h)
says term server log (Grant vote) = no (λ h. h)
says term server log (Acknowledge a) = both (number_is a.term term) (both (number_is a.server server) (prefix log a.log))

module _ (d : DiskCluster) (term server : ℕ) (log : Log) where
  pub said_by : (m : Message) → In m d.said → Says term server log m → HasSaidAcknowledged d term server log
  said_by (Ask request) is says = absurd says
  said_by (Grant vote) is says = absurd says
  said_by (Acknowledge a) is says =
      let same : a ≡ record { term = term; server = server; log = a.log } = λ i. record { term = says.0 i; server = says.1.0 i; log = a.log } in
      (a.log, subst (λ (b : Acknowledgement). In (Acknowledge b) d.said) same is, says.1.1)

  abbrev pub has_said : Decision (HasSaidAcknowledged d term server log)
  has_said = so (λ found. said_by found.0 found.1 found.2) (some_in (Says term server log) (says term server log) d.said)

-- the commit index that rose last
abbrev pub latest : List Raised → Raised
latest [] = record { leader = 0; commitment = record { term = 0; log = []; counted = []; servers = no_ids } }
latest (raised ∷ earlier) = raised

abbrev pub latest_rose : (raised : List Raised) → Decision (In (latest raised) raised)
latest_rose [] = no (λ h. h)
latest_rose (raised ∷ earlier) = yes (inl refl)

-- ---- guards
abbrev pub is_saved : (e : EtcdCluster) → (message : Message) → Decision (IsSaved e message)
is_saved e (Ask request) = is_in request_is request e.cluster.requests
is_saved e (Grant vote) = is_in vote_is vote e.cluster.votes
is_saved e (Acknowledge acknowledgement) = is_in acknowledgement_is acknowledgement e.cluster.acknowledgements

abbrev pub is_own : (server : ℕ) → (action : EtcdAction) → Decision (IsOwn server action)
is_own server (etcd.Campaign s term applied) = number_is s server
is_own server (etcd.SeeTerm s term) = number_is s server
is_own server (etcd.GrantVote voter request) = number_is voter server
is_own server (etcd.Receive s append) = number_is s server
is_own server (etcd.Answer s term leader) = number_is s server
is_own server (etcd.Heartbeat s term leader known) = number_is s server
is_own server action = no (λ h. h)

abbrev pub is_heard : (d : DiskCluster) → (action : EtcdAction) → Decision (IsHeard d action)
is_heard d (etcd.Campaign s term applied) = no (λ h. h)
is_heard d (etcd.GrantVote voter request) = is_in message_is (Ask request) d.said
is_heard d action = yes tt

-- the actions that have no sets, but for saves and what a leader uses
abbrev pub decided_on_disk : (l : Lists) → (d : DiskCluster) → (action : DiskAction) → Decision (IsAllowedOnDisk (configuration_of l) d action)
decided_on_disk l d (disk.Campaign server term) = campaigns l (memory d server) server term (d.applied server)
decided_on_disk l d (disk.Take server action) =
    so (λ may. record { own = may.0; heard = may.1.0; allowed = may.1.1 }) (both (is_own server action) (both (is_heard d action) (decided l (memory d server) action)))
decided_on_disk l d (disk.Save server saved rest commit) = undecided
decided_on_disk l d (disk.Say message) = like (λ may. record { saved = may }) (λ may. may.saved) (is_saved d.disk message)
decided_on_disk l d (disk.Lead candidacy votes) = undecided
decided_on_disk l d (disk.Propose term leader entry) = decided l d.disk (etcd.Propose term leader entry)
decided_on_disk l d (disk.Send term leader before entries) = decided l d.disk (etcd.Send term leader before entries)
decided_on_disk l d (disk.Raise term leader log servers) = undecided
decided_on_disk l d (disk.Use raised) = undecided
decided_on_disk l d (disk.ApplyAsLeader term leader log) = decided l d.disk (etcd.Apply term leader log)
decided_on_disk l d (disk.Apply server log) = so (λ may. record { committed = may }) (prefix log (in_memory d server).committed)
decided_on_disk l d (disk.Crash server known applied configured) =
    like (λ may. record { restarts = may.0; configuration_of_applied = may.1 }) (λ may. (may.restarts, may.configuration_of_applied))
    (both (decided l d.disk (etcd.Restart server known)) (log_is configured applied))

-- the disks after the server has saved so many of the actions that it did
abbrev pub after_oldest : DiskCluster → ℕ → ℕ → EtcdCluster
after_oldest d server count = after_etcd_actions d.disk (take count (d.unsaved server))

-- what is asked of a save of the oldest actions, but that the commit index is not too old
abbrev pub MaySaveWithAny : DiskCluster → ℕ → ℕ → Log → Type 0
MaySaveWithAny d server count commit = IsPrefix commit ((after_oldest d server count).cluster.servers server).committed

abbrev pub saves : (l : Lists) → (d : DiskCluster) → (server count : ℕ) → (commit : Log)
    → Decision (MaySave (configuration_of l) d server (take count (d.unsaved server)) (drop count (d.unsaved server)) commit)
saves l d server count commit =
    let state = (after_oldest d server count).cluster.servers server in
    like (λ may. record { in_order = sym (take-append-drop count (d.unsaved server)); committed = may.0; commit_kept = may.1 }) (λ may. (may.committed, may.commit_kept))
    (both (prefix commit state.committed) (implied (flag_is (d.disk.looks server) false) (one_change_beyond l state.log commit)))

abbrev pub leads_by : (l : Lists) → (d : DiskCluster) → (candidacy : Candidacy) → (counted : Log) → (votes : List ℕ)
    → Decision (MayLead (configuration_of l) d candidacy (ids_of votes))
leads_by l d candidacy counted votes =
    let request = candidacy.request in
    so (λ may. record {
      asked = may.0;
      not_yet = may.1.0;
      voted = may.1.1.0;
      counted = counted;
      in_force = record { at_least = may.1.1.1.0; at_most = may.1.1.1.1.0 };
      quorum = may.1.1.1.1.1;
    })
    (both (is_in candidacy_is candidacy d.disk.candidacies)
    (both (negated (leads d.disk.cluster request.term request.candidate))
    (both (each_id _ (λ voter. is_in message_is (Grant (record { term = request.term; voter = voter; candidate = request.candidate })) d.said) votes)
    (both (prefix candidacy.applied counted)
    (both (prefix counted request.committed)
    (quorum l counted votes))))))

abbrev pub raises : (l : Lists) → (d : DiskCluster) → (term leader : ℕ) → (log : Log) → (servers : List ℕ)
    → Decision (MayRaise (configuration_of l) d term leader log (ids_of servers))
raises l d term leader log servers =
    so (λ may. record { leads = may.0; in_log = may.1.0; own_term = may.1.1.0; acknowledged = may.1.1.1.0; quorum = may.1.1.1.1 })
    (both (leads d.disk.cluster term leader)
    (both (prefix log (d.disk.cluster.leaderships term leader).log)
    (both (number_is (last_term log) term)
    (both (each_id _ (λ server. implied (negated (number_is server leader)) (has_said d term server log)) servers)
    (quorum l (d.disk.applied term leader) servers)))))

-- a leader uses the commit index that rose last. What is asked of it, but that its own server has the entries on disk
abbrev pub MayUseUnsaved : DiskCluster → Type 0
MayUseUnsaved d =
    let raised = latest d.raised in
    In raised d.raised × (length (d.disk.cluster.leaderships raised.commitment.term raised.leader).committed < length raised.commitment.log)

abbrev pub uses_unsaved : (d : DiskCluster) → Decision (MayUseUnsaved d)
uses_unsaved d =
    let raised = latest d.raised in
    both (latest_rose d.raised) (less (length (d.disk.cluster.leaderships raised.commitment.term raised.leader).committed) (length raised.commitment.log))

abbrev pub uses : (d : DiskCluster) → Decision (MayUse d (latest d.raised))
uses d =
    let raised = latest d.raised in
    so (λ may. record { rose = may.0.0; rises = may.0.1; own_saved = λ counts. may.1 })
    (both (uses_unsaved d) (acknowledged d.disk.cluster raised.commitment.term raised.leader raised.commitment.log))

-- ---- runs in which sets of servers are lists. A server saves so many of the oldest actions, and a leader uses the commit index
-- that rose last
pub data ListedAction : Type 0 where
  Do : (action : DiskAction) → ListedAction
  SaveOldest : (server count : ℕ) → (commit : Log) → ListedAction
  LeadBy : (candidacy : Candidacy) → (counted : Log) → (votes : List ℕ) → ListedAction
  RaiseBy : (term leader : ℕ) → (log : Log) → (servers : List ℕ) → ListedAction
  UseLatest : ListedAction

abbrev pub action_of : DiskCluster → ListedAction → DiskAction
action_of d (Do action) = action
action_of d (SaveOldest server count commit) = disk.Save server (take count (d.unsaved server)) (drop count (d.unsaved server)) commit
action_of d (LeadBy candidacy counted votes) = disk.Lead candidacy (ids_of votes)
action_of d (RaiseBy term leader log servers) = disk.Raise term leader log (ids_of servers)
action_of d UseLatest = disk.Use (latest d.raised)

abbrev pub is_allowed : (l : Lists) → (d : DiskCluster) → (a : ListedAction) → Decision (IsAllowedOnDisk (configuration_of l) d (action_of d a))
is_allowed l d (Do action) = decided_on_disk l d action
is_allowed l d (SaveOldest server count commit) = saves l d server count commit
is_allowed l d (LeadBy candidacy counted votes) = leads_by l d candidacy counted votes
is_allowed l d (RaiseBy term leader log servers) = raises l d term leader log servers
is_allowed l d UseLatest = uses d

-- where no server looks at its log
abbrev pub disks : Level
disks = record {
  State = DiskCluster;
  Action = DiskAction;
  Listed = ListedAction;
  start = new_disk_cluster (λ server. false);
  after_action = after_disk_action;
  action_of = action_of;
  IsAllowed = IsAllowedOnDisk;
  is_allowed = is_allowed;
}
