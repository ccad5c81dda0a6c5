-- The invariants of a cluster.
use Rattle.std.specs.Prelude.{◌≡◌, ℕ, ◌+◌, ◌<◌, ◌≤◌, ◌⊎◌, true, [], ◌∷◌, length}
use Rattle.std.proofs.Common.{subst}
use Rattle.quorum_sets.specs.Ids.{has}
use Rattle.conf_change.specs.Configuration.{Configuration}
use Rattle.raft_safety.specs.Logs.{Entry, Log, IsPrefix, last_term}
use Rattle.raft_safety.specs.Configurations.{IsQuorumAfter, IsOneChangeBeyond}
use Rattle.raft_safety.specs.Cluster.{Server, Vote, VoteRequest, Election, Leadership, Acknowledgement, Commitment, Cluster, In, Leads, HasVoted, HasAcknowledged}

-- ---- words
-- the log of a term's leader
abbrev pub log_of : Cluster → ℕ → ℕ → Log
log_of c term leader = (c.leaderships term leader).log

-- each entry of the log is in the log of a leader of its term, with what is before it
abbrev pub IsFromLeaders : Cluster → Log → Type 0
IsFromLeaders c [] = Unit {0}
IsFromLeaders c (entry ∷ log) = ((leader : ℕ) × Leads c entry.term leader × IsPrefix (entry ∷ log) (log_of c entry.term leader)) × IsFromLeaders c log

-- the log is the old one, and entries of the term after it
abbrev pub IsGrown : ℕ → Log → Log → Type 0
IsGrown term old [] = old ≡ []
IsGrown term old (entry ∷ log) = (old ≡ entry ∷ log) ⊎ ((entry.term ≡ term) × IsGrown term old log)

-- the terms do not fall
abbrev pub DoTermsRise : Log → Type 0
DoTermsRise [] = Unit {0}
DoTermsRise (entry ∷ log) = (last_term log ≤ entry.term) × DoTermsRise log

-- the log is the beginning of that of each leader of a term between the two
abbrev pub IsKept : Cluster → Log → ℕ → ℕ → Type 0
IsKept c log after before = (term leader : ℕ) → after < term → term < before → Leads c term leader → IsPrefix log (log_of c term leader)

-- the log is empty, or was committed, as a part, by a leader of a term below the bound
abbrev pub IsKnown : Cluster → ℕ → Log → Type 0
IsKnown c bound log = (log ≡ []) ⊎ ((m : Commitment) × In m c.commitments × (m.term < bound) × IsPrefix log m.log)

-- ---- invariants
-- of the state of a server
pub record IsServer (c : Cluster) (state : Server) : Type 0 where
  pub from_leaders : IsFromLeaders c state.log
  pub term : last_term state.log ≤ state.term
  pub stored : IsPrefix state.committed state.log
  pub known : IsKnown c (state.term + 1) state.committed

-- of a request for votes
pub record IsRequest (first : Configuration) (c : Cluster) (r : VoteRequest) : Type 0 where
  pub from_leaders : IsFromLeaders c r.log
  pub term : last_term r.log < r.term
  pub stored : IsPrefix r.committed r.log
  pub one_change_beyond : IsOneChangeBeyond first r.log r.committed
  pub known : IsKnown c r.term r.committed
  pub own_vote : HasVoted c r.term r.candidate r.candidate

-- a part of what a candidate knew to be committed, by which its votes may be counted
pub record MayCountBy (first : Configuration) (r : VoteRequest) (counted : Log) : Type 0 where
  pub part : IsPrefix counted r.committed
  pub one_change_beyond : IsOneChangeBeyond first r.log counted

-- of an election, and what its leader works on
pub record IsElectedWith (first : Configuration) (c : Cluster) (e : Election) (now : Leadership) : Type 0 where
  pub asked : In e.request c.requests
  pub grown : IsGrown e.request.term e.request.log now.log
  pub voted : (voter : ℕ) → has e.votes voter ≡ true → HasVoted c e.request.term voter e.request.candidate
  pub counted : Log
  pub counts : MayCountBy first e.request counted
  pub quorum : IsQuorumAfter first counted e.votes
  pub stored : IsPrefix now.committed now.log
  pub known : IsKnown c (e.request.term + 1) now.committed

abbrev pub IsElected : Configuration → Cluster → Election → Type 0
IsElected first c e = IsElectedWith first c e (c.leaderships e.request.term e.request.candidate)

-- of a vote
pub record IsVote (c : Cluster) (vote : Vote) : Type 0 where
  pub term : vote.term ≤ (c.servers vote.voter).term
  pub asked : (r : VoteRequest) × In r c.requests × (r.term ≡ vote.term) × (r.candidate ≡ vote.candidate)

-- of an acknowledgement
pub record IsAcknowledged (c : Cluster) (a : Acknowledgement) : Type 0 where
  pub led : (leader : ℕ) × Leads c a.term leader × IsPrefix a.log (log_of c a.term leader)
  pub term : a.term ≤ (c.servers a.server).term
  pub kept : (log : Log) → IsPrefix log a.log → IsKept c log a.term ((c.servers a.server).term + 1) → IsPrefix log (c.servers a.server).log

-- who acknowledged a log, and votes later for a candidate, votes for one that has the log, if the leaders between have it
abbrev pub DoVotersKeep : Cluster → Type 0
DoVotersKeep c =
    (r : VoteRequest) (voter term : ℕ) (log : Log) → In r c.requests → HasVoted c r.term voter r.candidate → HasAcknowledged c term voter log
    → term < r.term → last_term log ≡ term → IsKept c log term r.term
    → ((e : Election) → In e c.elections → e.request.term ≡ r.term → (has e.votes voter ≡ true) ⊎ IsPrefix log (log_of c e.request.term e.request.candidate))
    → IsPrefix log r.log

-- of a commitment
pub record IsCommitment (first : Configuration) (c : Cluster) (m : Commitment) : Type 0 where
  pub led : (leader : ℕ) × Leads c m.term leader × IsPrefix m.log (log_of c m.term leader)
  pub own_term : last_term m.log ≡ m.term
  pub counted : IsPrefix m.counted m.log
  pub shorter : length m.counted < length m.log
  pub one_change_beyond : IsOneChangeBeyond first m.log m.counted
  pub quorum : IsQuorumAfter first m.counted m.servers
  pub acknowledged : (server : ℕ) → has m.servers server ≡ true → HasAcknowledged c m.term server m.log

-- each part of what is committed was once committed by a configuration from before its end
abbrev pub AreCountedBefore : Cluster → Type 0
AreCountedBefore c =
    (m : Commitment) (entry : Entry) (log : Log) → In m c.commitments → IsPrefix (entry ∷ log) m.log
    → (n : Commitment) × In n c.commitments × (n.term ≤ m.term) × IsPrefix n.counted log × IsPrefix (entry ∷ log) n.log

-- all of them
pub record AreInvariants (first : Configuration) (c : Cluster) : Type 0 where
  pub servers : (server : ℕ) → IsServer c (c.servers server)
  pub requests : (r : VoteRequest) → In r c.requests → IsRequest first c r
  pub one_request : (a b : VoteRequest) → In a c.requests → In b c.requests → a.term ≡ b.term → a.candidate ≡ b.candidate → a ≡ b
  pub elections : (e : Election) → In e c.elections → IsElected first c e
  pub one_election : (a b : Election) → In a c.elections → In b c.elections → a.request.term ≡ b.request.term → a ≡ b
  pub votes : (vote : Vote) → In vote c.votes → IsVote c vote
  pub one_vote : (term voter one other : ℕ) → HasVoted c term voter one → HasVoted c term voter other → one ≡ other
  pub acknowledgements : (a : Acknowledgement) → In a c.acknowledgements → IsAcknowledged c a
  pub voters_keep : DoVotersKeep c
  pub commitments : (m : Commitment) → In m c.commitments → IsCommitment first c m
  pub counted_before : AreCountedBefore c

-- what is known of an election, of the leader that it made
pub IsElectedWith-leads : (first : Configuration) (c : Cluster) → AreInvariants first c → (term leader : ℕ) → (l : Leads c term leader) → IsElectedWith first c l.0 (c.leaderships term leader)
IsElectedWith-leads first c i term leader l =
    subst (λ (s : ℕ). IsElectedWith first c l.0 (c.leaderships term s)) l.3
    (subst (λ (t : ℕ). IsElectedWith first c l.0 (c.leaderships t l.0.request.candidate)) l.2 (i.elections l.0 l.1))
