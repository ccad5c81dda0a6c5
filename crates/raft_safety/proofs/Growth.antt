-- What invariants need to go over from one state to a later one: lists that grow, leaders' logs that grow by entries of
-- their own term, and terms that rise.
use Rattle.std.proofs.Common.{◌≡◌, ℕ, ◌+◌, ◌≤◌, ◌<◌, ◌⊎◌, true, ◌∷◌, refl, subst, inl, inr, arith, []}
use Rattle.quorum_sets.specs.Ids.{has}
use Rattle.conf_change.specs.Configuration.{Configuration}
use Rattle.raft_safety.specs.Logs.{Log, IsPrefix, last_term}
use Rattle.raft_safety.specs.Cluster.{VoteRequest, Election, Acknowledgement, Commitment, Cluster, In, Leads, Server, Vote, Leadership, with_value, HasVoted, HasAcknowledged}
use Rattle.raft_safety.proofs.Invariants.{IsKept, IsKnown, AreInvariants, log_of, IsServer, IsRequest, IsElectedWith, IsVote, IsCommitment, IsFromLeaders, IsAcknowledged, DoVotersKeep}
use Rattle.raft_safety.proofs.Updates.{with_value-each}
use Rattle.raft_safety.proofs.Logs.{IsPrefix-trans}

pub record Follows (c d : Cluster) : Type 0 where
  pub leads : (term leader : ℕ) → Leads c term leader → Leads d term leader
  pub logs : (term leader : ℕ) → Leads c term leader → IsPrefix (log_of c term leader) (log_of d term leader)
  pub back : (log : Log) (term leader : ℕ) → last_term log < term → Leads c term leader → IsPrefix log (log_of d term leader) → IsPrefix log (log_of c term leader)
  pub elections : (e : Election) → In e c.elections → In e d.elections
  pub votes : (v : Vote) → In v c.votes → In v d.votes
  pub requests : (r : VoteRequest) → In r c.requests → In r d.requests
  pub acknowledgements : (a : Acknowledgement) → In a c.acknowledgements → In a d.acknowledgements
  pub commitments : (m : Commitment) → In m c.commitments → In m d.commitments
  pub terms : (server : ℕ) → (c.servers server).term ≤ (d.servers server).term

pub IsFromLeaders-later : (c d : Cluster) → Follows c d → (log : Log) → IsFromLeaders c log → IsFromLeaders d log
IsFromLeaders-later c d f [] from = tt
IsFromLeaders-later c d f (entry ∷ log) from =
    let l = from.0 in (
      (l.0, f.leads entry.term l.0 l.1, IsPrefix-trans (entry ∷ log) (log_of c entry.term l.0) (log_of d entry.term l.0) l.2 (f.logs entry.term l.0 l.1)),
      IsFromLeaders-later c d f log from.1,
    )

pub IsKnown-follows : (c d : Cluster) → Follows c d → (low high : ℕ) → low ≤ high → (log : Log) → IsKnown c low log → IsKnown d high log
IsKnown-follows c d f low high order log (inl none) = inl none
IsKnown-follows c d f low high order log (inr m) = inr (m.0, f.commitments m.0 m.1, (let below : m.0.term < low = m.2 in omega arith), m.3)

HasAcknowledged-later : (c d : Cluster) → Follows c d → (term server : ℕ) (log : Log) → HasAcknowledged c term server log → HasAcknowledged d term server log
HasAcknowledged-later c d f term server log a = (a.0, f.acknowledgements _ a.1, a.2)

pub IsKept-back : (c d : Cluster) → Follows c d → (log : Log) (low high more : ℕ) → last_term log ≤ low → high ≤ more → IsKept d log low more → IsKept c log low high
IsKept-back c d f log low high more past order kept term leader after before leads =
    f.back log term leader (omega arith) leads (kept term leader after (omega arith) (f.leads term leader leads))

-- a server whose term may have risen
pub IsServer-later : (c d : Cluster) → Follows c d → (old : Server) (term : ℕ) → old.term ≤ term → IsServer c old → IsServer d (record old { term = term })
IsServer-later c d f old term order s = record {
  from_leaders = IsFromLeaders-later c d f old.log s.from_leaders;
  term = (let h : last_term old.log ≤ old.term = s.term in omega arith);
  stored = s.stored;
  known = IsKnown-follows c d f (old.term + 1) (term + 1) (omega arith) old.committed s.known;
}

pub IsRequest-later : (first : Configuration) (c d : Cluster) → Follows c d → (r : VoteRequest) → IsRequest first c r → IsRequest first d r
IsRequest-later first c d f r s = record {
  from_leaders = IsFromLeaders-later c d f r.log s.from_leaders;
  term = s.term;
  stored = s.stored;
  one_change_beyond = s.one_change_beyond;
  known = IsKnown-follows c d f r.term r.term (omega arith) r.committed s.known;
  own_vote = f.votes _ s.own_vote;
}

pub IsElectedWith-later : (first : Configuration) (c d : Cluster) → Follows c d → (e : Election) (now : Leadership) → IsElectedWith first c e now → IsElectedWith first d e now
IsElectedWith-later first c d f e now s = record {
  asked = f.requests e.request s.asked;
  grown = s.grown;
  voted = λ voter h. f.votes _ (s.voted voter h);
  counted = s.counted;
  counts = s.counts;
  quorum = s.quorum;
  stored = s.stored;
  known = IsKnown-follows c d f (e.request.term + 1) (e.request.term + 1) (omega arith) now.committed s.known;
}

pub IsVote-later : (c d : Cluster) → Follows c d → (v : Vote) → IsVote c v → IsVote d v
IsVote-later c d f v s = record {
  term = (let h : v.term ≤ (c.servers v.voter).term = s.term in let g : (c.servers v.voter).term ≤ (d.servers v.voter).term = f.terms v.voter in omega arith);
  asked = (s.asked.0, f.requests s.asked.0 s.asked.1, s.asked.2, s.asked.3);
}

pub IsCommitment-later : (first : Configuration) (c d : Cluster) → Follows c d → (m : Commitment) → IsCommitment first c m → IsCommitment first d m
IsCommitment-later first c d f m s = record {
  led = (s.led.0, f.leads m.term s.led.0 s.led.1, IsPrefix-trans m.log (log_of c m.term s.led.0) (log_of d m.term s.led.0) s.led.2 (f.logs m.term s.led.0 s.led.1));
  own_term = s.own_term;
  counted = s.counted;
  shorter = s.shorter;
  one_change_beyond = s.one_change_beyond;
  quorum = s.quorum;
  acknowledged = λ server h. HasAcknowledged-later c d f m.term server m.log (s.acknowledged server h);
}

-- the last term of what a leader's log begins with is at most its own
pub IsAcknowledged-later : (c d : Cluster) → Follows c d → (a : Acknowledgement) → ((log : Log) → IsPrefix log a.log → last_term log ≤ a.term)
    → (c.servers a.server).log ≡ (d.servers a.server).log → IsAcknowledged c a → IsAcknowledged d a
IsAcknowledged-later c d f a past same s =
    let g : (c.servers a.server).term ≤ (d.servers a.server).term = f.terms a.server in
    record {
      led = (s.led.0, f.leads a.term s.led.0 s.led.1, IsPrefix-trans a.log (log_of c a.term s.led.0) (log_of d a.term s.led.0) s.led.2 (f.logs a.term s.led.0 s.led.1));
      term = (let h : a.term ≤ (c.servers a.server).term = s.term in omega arith);
      kept = λ log p kept. subst (IsPrefix log) same (s.kept log p
          (IsKept-back c d f log a.term ((c.servers a.server).term + 1) ((d.servers a.server).term + 1) (past log p) (omega arith) kept));
    }

-- where no vote, request or acknowledgement is new
pub voters_keep-later : (c d : Cluster) → Follows c d → (r : VoteRequest) (voter term : ℕ) (log : Log) → DoVotersKeep c
    → In r c.requests → HasVoted c r.term voter r.candidate → HasAcknowledged c term voter log
    → term < r.term → last_term log ≡ term → IsKept d log term r.term
    → ((e : Election) → In e d.elections → e.request.term ≡ r.term → (has e.votes voter ≡ true) ⊎ IsPrefix log (log_of d e.request.term e.request.candidate))
    → IsPrefix log r.log
voters_keep-later c d f r voter term log keeps in_r voted acknowledged later own kept led =
    keeps r voter term log in_r voted acknowledged later own (IsKept-back c d f log term r.term r.term (omega arith) (omega arith) kept)
    (λ e in_e same. elim (led e (f.elections e in_e) same) [
      | inl its ↦ inl its
      | inr has_it ↦ inr (f.back log e.request.term e.request.candidate (let t : e.request.term ≡ r.term = same in omega arith) (e, in_e, refl, refl) has_it)
    ])

-- the servers after one has changed
pub IsServer-each : (first : Configuration) (c d : Cluster) → Follows c d → AreInvariants first c → (n : ℕ) (value : Server) → IsServer d value
    → (k : ℕ) → IsServer d (with_value c.servers n value k)
IsServer-each first c d f i n value new k =
    with_value-each (IsServer d) c.servers n value k (λ same. new)
    (λ other. IsServer-later c d f (c.servers k) (c.servers k).term (omega arith) (i.servers k))

-- a part of what is known is known
pub IsKnown-prefix : (c : Cluster) (bound : ℕ) (part log : Log) → IsPrefix part log → IsKnown c bound log → IsKnown c bound part
IsKnown-prefix c bound part log p (inl none) = inl (subst (IsPrefix part) none p)
IsKnown-prefix c bound part log p (inr m) = inr (m.0, m.1, m.2, IsPrefix-trans part log m.0.log p m.3)
