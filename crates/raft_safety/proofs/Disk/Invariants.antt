-- The invariants where memory and disk are apart, and what they need to go over from one state of the disks to a later one.
use Rattle.std.proofs.Common.{◌≡◌, ℕ, true, List, [], ◌∷◌, refl, sym, subst, ◌∙◌, inl, inr}
use Rattle.quorum_sets.specs.Ids.{has}
use Rattle.conf_change.specs.Configuration.{Configuration}
use Rattle.raft_safety.specs.Logs.{Log, IsPrefix, last_term}
use Rattle.raft_safety.specs.Configurations.{IsQuorumAfter, IsOneChangeBeyond}
use Rattle.raft_safety.specs.Cluster.{Vote, VoteRequest, Leadership, Acknowledgement, Commitment, Cluster, In, Leads, HasAcknowledged}
use Rattle.raft_safety.specs.EtcdCluster.{EtcdCluster}
use Rattle.raft_safety.specs.EtcdRules.{EtcdAction, Campaign, SeeTerm, GrantVote, Receive, Answer, Heartbeat, Commit}
use Rattle.raft_safety.specs.EtcdRuns.{after_etcd_action, after_etcd_actions, AreAllowedByEtcd}
use Rattle.raft_safety.specs.DiskCluster.{Message, Ask, Grant, Acknowledge, Raised, Given, DiskCluster}
use Rattle.raft_safety.specs.DiskRules.{IsSaved, IsOwn}
use Rattle.raft_safety.proofs.Logs.{IsPrefix-refl, IsPrefix-trans}
use Rattle.raft_safety.proofs.Invariants.{IsKnown, log_of}
use Rattle.raft_safety.proofs.Etcd.Invariants.{AreEtcdInvariants}
use Rattle.raft_safety.proofs.Etcd.Growth.{DoLeadersGrow}
use Rattle.raft_safety.proofs.Disk.Memory.{AreOwn, OwnChange, In-more, change_of, changed, votes_of}

-- a commit index that rose in a leader's memory: a quorum of a configuration that the leader has applied has the entries, of
-- its own server maybe in memory only
pub record IsRaised (first : Configuration) (c : Cluster) (leader : ℕ) (m : Commitment) : Type 0 where
  pub leads : Leads c m.term leader
  pub in_log : IsPrefix m.log (log_of c m.term leader)
  pub own_term : last_term m.log ≡ m.term
  pub acknowledged : (server : ℕ) → has m.servers server ≡ true → ¬ (server ≡ leader) → HasAcknowledged c m.term server m.log
  pub counted : IsPrefix m.counted (c.leaderships m.term leader).committed
  pub one_change_beyond : IsOneChangeBeyond first m.log m.counted
  pub quorum : IsQuorumAfter first m.counted m.servers

-- all of them
pub record AreDiskInvariants (first : Configuration) (d : DiskCluster) : Type 0 where
  pub disk : AreEtcdInvariants first d.disk
  -- what a server has done in memory is its own, and could be done from what it has on disk
  pub own : (server : ℕ) → AreOwn server (d.unsaved server)
  pub allowed : (server : ℕ) → AreAllowedByEtcd first d.disk (d.unsaved server)
  -- what was said is on disk
  pub said : (message : Message) → In message d.said → IsSaved d.disk message
  pub raised : (raised : Raised) → In raised d.raised → IsRaised first d.disk.cluster raised.leader raised.commitment
  -- what was given to an application was committed by a leader
  pub given : (given : Given) → In given d.given → (bound : ℕ) × IsKnown d.disk.cluster bound given.log
  pub configured : (server : ℕ) → d.configured server ≡ d.applied server

-- ---- disks and leaders that go on
pub record Grows (c d : Cluster) : Type 0 where
  pub leaders : DoLeadersGrow c d
  pub requests : (r : VoteRequest) → In r c.requests → In r d.requests
  pub votes : (v : Vote) → In v c.votes → In v d.votes
  pub acknowledgements : (a : Acknowledgement) → In a c.acknowledgements → In a d.acknowledgements
  pub commitments : (m : Commitment) → In m c.commitments → In m d.commitments

pub Grows-trans : (b c d : Cluster) → Grows b c → Grows c d → Grows b d
Grows-trans b c d g k = record {
  leaders = record {
    leads = λ t s l. k.leaders.leads t s (g.leaders.leads t s l);
    logs = λ t s l. IsPrefix-trans (log_of b t s) (log_of c t s) (log_of d t s) (g.leaders.logs t s l) (k.leaders.logs t s (g.leaders.leads t s l));
    committed = λ t s l. IsPrefix-trans (b.leaderships t s).committed (c.leaderships t s).committed (d.leaderships t s).committed (g.leaders.committed t s l) (k.leaders.committed t s (g.leaders.leads t s l));
  };
  requests = λ r x. k.requests r (g.requests r x);
  votes = λ v x. k.votes v (g.votes v x);
  acknowledgements = λ a x. k.acknowledgements a (g.acknowledgements a x);
  commitments = λ m x. k.commitments m (g.commitments m x);
}

-- where leaders are as they were
pub leaders_stay : (c d : Cluster) → d.elections ≡ c.elections → d.leaderships ≡ c.leaderships → DoLeadersGrow c d
leaders_stay c d elections leaderships = record {
  leads = λ t s l. (l.0, subst (In l.0) (sym elections) l.1, l.2, l.3);
  logs = λ t s l. subst (λ (h : ℕ → ℕ → Leadership). IsPrefix (log_of c t s) (h t s).log) (sym leaderships) (IsPrefix-refl (log_of c t s));
  committed = λ t s l. subst (λ (h : ℕ → ℕ → Leadership). IsPrefix (c.leaderships t s).committed (h t s).committed) (sym leaderships) (IsPrefix-refl (c.leaderships t s).committed);
}

pub Grows-refl : (c : Cluster) → Grows c c
Grows-refl c = record { leaders = leaders_stay c c refl refl; requests = λ r x. x; votes = λ v x. x; acknowledgements = λ a x. x; commitments = λ m x. x }

-- what a server does by itself
changed_grows : (server : ℕ) (o : OwnChange) (c : Cluster) → Grows c (changed server o c)
changed_grows server o c = record {
  leaders = leaders_stay c (changed server o c) refl refl;
  requests = λ r x. In-more r (o.requests (c.servers server)) c.requests x;
  votes = λ v x. In-more v (votes_of server o.votes) c.votes x;
  acknowledgements = λ a x. In-more a (o.acknowledgements (c.servers server)) c.acknowledgements x;
  commitments = λ m x. x;
}

own_grows : (server : ℕ) (e : EtcdCluster) (action : EtcdAction) → IsOwn server action → Grows e.cluster (after_etcd_action e action).cluster
own_grows server e (Campaign s term applied) own = changed_grows s (change_of (Campaign s term applied)) e.cluster
own_grows server e (SeeTerm s term) own = changed_grows s (change_of (SeeTerm s term)) e.cluster
own_grows server e (GrantVote s request) own = changed_grows s (change_of (GrantVote s request)) e.cluster
own_grows server e (Receive s append) own = changed_grows s (change_of (Receive s append)) e.cluster
own_grows server e (Answer s term leader) own = changed_grows s (change_of (Answer s term leader)) e.cluster
own_grows server e (Heartbeat s term leader known) own = changed_grows s (change_of (Heartbeat s term leader known)) e.cluster
own_grows server e action own = absurd own

pub all_own_grow : (server : ℕ) (e : EtcdCluster) (actions : List EtcdAction) → AreOwn server actions → Grows e.cluster (after_etcd_actions e actions).cluster
all_own_grow server e [] own = Grows-refl e.cluster
all_own_grow server e (action ∷ actions) own =
    Grows-trans e.cluster (after_etcd_action e action).cluster (after_etcd_actions (after_etcd_action e action) actions).cluster
    (own_grows server e action own.0) (all_own_grow server (after_etcd_action e action) actions own.1)

-- a server commits nothing by itself
commits_nothing : (server : ℕ) (e : EtcdCluster) (action : EtcdAction) → IsOwn server action → (m : Commitment) → In m (after_etcd_action e action).cluster.commitments → In m e.cluster.commitments
commits_nothing server e (Commit term leader log servers) own m x = absurd own
commits_nothing server e action own m x = x

pub all_commit_nothing : (server : ℕ) (e : EtcdCluster) (actions : List EtcdAction) → AreOwn server actions → (m : Commitment) → In m (after_etcd_actions e actions).cluster.commitments → In m e.cluster.commitments
all_commit_nothing server e [] own m x = x
all_commit_nothing server e (action ∷ actions) own m x = commits_nothing server e action own.0 m (all_commit_nothing server (after_etcd_action e action) actions own.1 m x)

pub known_on_disk : (server : ℕ) (e : EtcdCluster) (actions : List EtcdAction) → AreOwn server actions → (bound : ℕ) (log : Log) → IsKnown (after_etcd_actions e actions).cluster bound log → IsKnown e.cluster bound log
known_on_disk server e actions own bound log (inl none) = inl none
known_on_disk server e actions own bound log (inr m) = inr (m.0, all_commit_nothing server e actions own m.0 m.1, m.2, m.3)

-- who looks stays as it is
looks-after : (e : EtcdCluster) (action : EtcdAction) → (after_etcd_action e action).looks ≡ e.looks
looks-after e (Campaign s term applied) = refl
looks-after e action = refl

pub looks-stay : (e : EtcdCluster) (actions : List EtcdAction) → (after_etcd_actions e actions).looks ≡ e.looks
looks-stay e [] = refl
looks-stay e (action ∷ actions) = looks-stay (after_etcd_action e action) actions ∙ looks-after e action

-- ---- what goes over
pub IsSaved-later : (e f : EtcdCluster) → Grows e.cluster f.cluster → (message : Message) → IsSaved e message → IsSaved f message
IsSaved-later e f g (Ask request) x = g.requests request x
IsSaved-later e f g (Grant vote) x = g.votes vote x
IsSaved-later e f g (Acknowledge acknowledgement) x = g.acknowledgements acknowledgement x

pub IsRaised-later : (first : Configuration) (c d : Cluster) → Grows c d → (leader : ℕ) (m : Commitment) → IsRaised first c leader m → IsRaised first d leader m
IsRaised-later first c d g leader m its = record {
  leads = g.leaders.leads m.term leader its.leads;
  in_log = IsPrefix-trans m.log (log_of c m.term leader) (log_of d m.term leader) its.in_log (g.leaders.logs m.term leader its.leads);
  own_term = its.own_term;
  acknowledged = λ server counts other.
      let a = its.acknowledged server counts other in
      (a.0, g.acknowledgements _ a.1, a.2);
  counted = IsPrefix-trans m.counted (c.leaderships m.term leader).committed (d.leaderships m.term leader).committed its.counted (g.leaders.committed m.term leader its.leads);
  one_change_beyond = its.one_change_beyond;
  quorum = its.quorum;
}

pub IsKnown-later : (c d : Cluster) → Grows c d → (bound : ℕ) (log : Log) → IsKnown c bound log → IsKnown d bound log
IsKnown-later c d g bound log (inl none) = inl none
IsKnown-later c d g bound log (inr m) = inr (m.0, g.commitments m.0 m.1, m.2, m.3)
