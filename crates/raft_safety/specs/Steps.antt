-- The rules: what may happen next in a cluster, and what it leaves. A server that keeps these does nothing else to its
-- term, its log, its votes and its commit index; what is durable of them is what stands here.
--
-- A leader is kept apart from the server that it runs on. Its log is what it works on in memory; its server takes the
-- entries by Receive, as every other server does, and so acknowledges them once they are durable. So entries that a
-- leader sends before they are durable at its own server are covered, and lost there in a crash too. (Raft counts its own
-- server before that; what it then has to wait for is in DiskRules.antt.) Its term and its vote are durable before it sends,
-- by Campaign, also if its own vote is enough. Nothing stops a leader: one that goes on after a later term has begun is
-- covered.
--
-- What etcd's raft does, and as what it happens here:
-- - a MsgApp: Receive of the leader's log up to its last entry, whatever the server had of it; refused, it is nothing
-- - a MsgSnap: Receive of the leader's log up to the snapshot's index, which is committed. Logs are whole here: a server
--   that has compacted its log, or took a snapshot, still has the entries before, though it could not show them
-- - a heartbeat: Receive of what the server acknowledged before; an answer to an old MsgApp by the commit index: Receive
--   of what the server knows to be committed
-- - a message that is lost: nothing. One that comes late or twice: the step is taken late or twice
-- - a restart: Restart. What was not durable yet, and so was not answered, was not taken
-- - PreVote, CheckQuorum, reads, and a leader that steps down: nothing; a transfer of leadership: Campaign of its target
-- - a server that is added: a server with an empty log. One that is removed may go on, vote and campaign
use Rattle.std.specs.Prelude.{◌≡◌, ℕ, ◌<◌, ◌≤◌, ◌⊎◌, true, List, ◌∷◌, length}
use Rattle.quorum_sets.specs.Ids.{Ids, has}
use Rattle.conf_change.specs.Configuration.{Configuration}
use Rattle.raft_safety.specs.Runs.{after_all, AfterEach, AreAllAllowed, AtTwo}
use Rattle.raft_safety.specs.Logs.{Entry, Log, IsPrefix, IsUpToDate, last_term, longer}
use Rattle.raft_safety.specs.Configurations.{IsQuorumAfter, IsOneChangeBeyond}
use Rattle.raft_safety.specs.Cluster.{Server, Vote, VoteRequest, Leadership, Commitment, Cluster, HasAcknowledged, HasVoted, In, Leads, new_cluster, with_value}

-- what may happen next. Receive names the log that it leaves, so that no entries have to be compared
pub data Action : Type 0 where
  Campaign : (server term : ℕ) → (counted : Log) → Action
  SeeTerm : (server term : ℕ) → Action
  GrantVote : (voter : ℕ) → (request : VoteRequest) → Action
  BecomeLeader : (request : VoteRequest) → (votes : Ids) → Action
  Learn : (term leader : ℕ) → (known : Log) → Action
  Propose : (term leader : ℕ) → (entry : Entry) → Action
  Receive : (server term leader : ℕ) → (sent known after : Log) → Action
  Commit : (leader : ℕ) → (commitment : Commitment) → Action
  Restart : (server : ℕ) → (known : Log) → Action

-- a server may campaign in any later term. It votes for itself, and will count votes by the configuration after a part of
-- its log that is committed, and so may be applied, and that has all changes of the voters in its log but the last one, at
-- least. What else it knows to be committed does not matter
pub record MayCampaign (first : Configuration) (c : Cluster) (server term : ℕ) (counted : Log) : Type 0 where
  pub later : (c.servers server).term < term
  pub committed : IsPrefix counted (c.servers server).committed
  pub one_change_beyond : IsOneChangeBeyond first (c.servers server).log counted

-- a server may hear of a later term, from whatever message
pub record MaySeeTerm (c : Cluster) (server term : ℕ) : Type 0 where
  pub higher : (c.servers server).term < term

-- a server may vote for a candidate in a term that is not past, for one candidate a term, if the candidate's log is at
-- least as up to date as its own. The vote is durable before it is sent
pub record MayGrantVote (c : Cluster) (voter : ℕ) (request : VoteRequest) : Type 0 where
  pub asked : In request c.requests
  pub not_past : (c.servers voter).term ≤ request.term
  pub once : (vote : Vote) → In vote c.votes → vote.term ≡ request.term
      → vote.voter ≡ voter → vote.candidate ≡ request.candidate
  pub up_to_date : IsUpToDate request.log (c.servers voter).log

-- a candidate becomes leader by the votes of a quorum of the configuration by which it campaigned to count
pub record MayBecomeLeader (first : Configuration) (c : Cluster) (request : VoteRequest) (votes : Ids) : Type 0 where
  pub asked : In request c.requests
  pub not_yet : ¬ Leads c request.term request.candidate
  pub voted : (voter : ℕ) → has votes voter ≡ true → HasVoted c request.term voter request.candidate
  pub quorum : IsQuorumAfter first request.committed votes

-- a leader takes what its server knows to be committed, of which it may have counted by a part alone
pub record MayLearn (c : Cluster) (term leader : ℕ) (known : Log) : Type 0 where
  pub leads : Leads c term leader
  pub same_term : (c.servers leader).term ≡ term
  pub known_of : IsPrefix known (c.servers leader).committed

-- a leader appends an entry of its own term. Nothing else is asked: how many changes of the voters are outstanding matters
-- where votes and entries are counted (Campaign, Commit), and of a server that does not lead nothing is taken
pub record MayPropose (term : ℕ) (entry : Entry) : Type 0 where
  pub own_term : entry.term ≡ term

-- the log after a leader's log arrived: as it was if it begins with that, else that
abbrev pub IsLogAfter : Log → Log → Log → Type 0
IsLogAfter before sent after = (IsPrefix sent before × (after ≡ before)) ⊎ ((¬ IsPrefix sent before) × (after ≡ sent))

-- a server takes the log of a leader whose term is not past up to some index, and maybe learns how much of it is committed.
-- It acknowledges what it took, durably
pub record MayReceive (c : Cluster) (server term leader : ℕ) (sent known after : Log) : Type 0 where
  pub leads : Leads c term leader
  pub not_past : (c.servers server).term ≤ term
  pub sent_of : IsPrefix sent (c.leaderships term leader).log
  pub known_of : IsPrefix known sent
  pub committed : IsPrefix known (c.leaderships term leader).committed
  pub taken : IsLogAfter (c.servers server).log sent after

-- a leader commits up to an entry of its own term that a quorum acknowledged in this term. The quorum is of the
-- configuration after a part of its log that is committed, and so may be applied, and that has all changes of the voters
-- up to that entry but the last one, at least
pub record MayCommit (first : Configuration) (c : Cluster) (leader : ℕ) (m : Commitment) : Type 0 where
  pub leads : Leads c m.term leader
  pub longer_than : length (c.leaderships m.term leader).committed < length m.log
  pub in_log : IsPrefix m.log (c.leaderships m.term leader).log
  pub own_term : last_term m.log ≡ m.term
  pub acknowledged : (server : ℕ) → has m.servers server ≡ true → HasAcknowledged c m.term server m.log
  pub counted : IsPrefix m.counted (c.leaderships m.term leader).committed
  pub one_change_beyond : IsOneChangeBeyond first m.log m.counted
  pub quorum : IsQuorumAfter first m.counted m.servers

-- a server restarts, and may forget what it knew to be committed
pub record MayRestart (c : Cluster) (server : ℕ) (known : Log) : Type 0 where
  pub known_of : IsPrefix known (c.servers server).committed

-- the action may be taken
abbrev pub IsAllowed : Configuration → Cluster → Action → Type 0
IsAllowed first c (Campaign server term counted) = MayCampaign first c server term counted
IsAllowed first c (SeeTerm server term) = MaySeeTerm c server term
IsAllowed first c (GrantVote voter request) = MayGrantVote c voter request
IsAllowed first c (BecomeLeader request votes) = MayBecomeLeader first c request votes
IsAllowed first c (Learn term leader known) = MayLearn c term leader known
IsAllowed first c (Propose term leader entry) = MayPropose term entry
IsAllowed first c (Receive server term leader sent known after) = MayReceive c server term leader sent known after
IsAllowed first c (Commit leader commitment) = MayCommit first c leader commitment
IsAllowed first c (Restart server known) = MayRestart c server known

-- the cluster with another state of a server
abbrev pub with_server : Cluster → ℕ → Server → Cluster
with_server c server state = record c { servers = with_value c.servers server state }

-- the cluster with another state of a leader
abbrev pub with_leadership : Cluster → ℕ → ℕ → Leadership → Cluster
with_leadership c term leader state =
    record c { leaderships = with_value c.leaderships term (with_value (c.leaderships term) leader state) }

-- what an action leaves
abbrev pub after_action : Cluster → Action → Cluster
after_action c (Campaign server term counted) =
    let old = c.servers server in
    record (with_server c server (record old { term = term })) {
      votes = record { term = term; voter = server; candidate = server } ∷ c.votes;
      requests = record { term = term; candidate = server; log = old.log; committed = counted } ∷ c.requests;
    }
after_action c (SeeTerm server term) =
    let old = c.servers server in
    with_server c server (record old { term = term })
after_action c (GrantVote voter request) =
    let old = c.servers voter in
    record (with_server c voter (record old { term = request.term })) {
      votes = record { term = request.term; voter = voter; candidate = request.candidate } ∷ c.votes;
    }
after_action c (BecomeLeader request votes) =
    record (with_leadership c request.term request.candidate (record { log = request.log; committed = request.committed })) {
      elections = record { request = request; votes = votes } ∷ c.elections;
    }
after_action c (Learn term leader known) =
    let now = c.leaderships term leader in
    with_leadership c term leader (record now { committed = known })
after_action c (Propose term leader entry) =
    let now = c.leaderships term leader in
    with_leadership c term leader (record now { log = entry ∷ now.log })
after_action c (Receive server term leader sent known after) =
    let old = c.servers server in
    record (with_server c server (record { term = term; log = after; committed = longer old.committed known })) {
      acknowledgements = record { term = term; server = server; log = sent } ∷ c.acknowledgements;
    }
after_action c (Commit leader m) =
    let now = c.leaderships m.term leader in
    record (with_leadership c m.term leader (record now { committed = m.log })) {
      commitments = m ∷ c.commitments;
    }
after_action c (Restart server known) =
    let old = c.servers server in
    with_server c server (record old { committed = known })

abbrev pub after_actions : Cluster → List Action → Cluster
after_actions = after_all after_action

abbrev pub AreAllowed : Configuration → Cluster → List Action → Type 0
AreAllowed first = AreAllAllowed after_action (IsAllowed first)

-- the claim holds after each run that is allowed, whatever the first configuration is
abbrev pub AfterEachRun : (Cluster → Type 0) → Type 0
AfterEachRun Claim = (first : Configuration) → AfterEach after_action (IsAllowed first) new_cluster Claim

-- the claim holds of an earlier moment of each such run and its end
abbrev pub AtTwoMoments : (Cluster → Cluster → Type 0) → Type 0
AtTwoMoments Claim = (first : Configuration) → AtTwo after_action (IsAllowed first) new_cluster Claim
