-- The state of a cluster: its servers, what was ever said, and who was elected. A server's id is used once: a server that
-- lost its term, its log or its votes is not this server any more.
use Rattle.std.specs.Prelude.{◌≡◌, ℕ, ◌⊎◌, List, [], ◌∷◌, nat_eq, if◌then◌else◌}
use Rattle.quorum_sets.specs.Ids.{Ids}
use Rattle.raft_safety.specs.Logs.{Log, IsPrefix}

-- a server: its term, its log, and the part of the log that it knows to be committed. The first two are durable; of the
-- third, what the rule Restart asks
pub record Server : Type 0 where
  pub term : ℕ
  pub log : Log
  pub committed : Log

-- the voter voted for the candidate in the term
pub record Vote : Type 0 where
  pub term : ℕ
  pub voter : ℕ
  pub candidate : ℕ

-- the candidate asked for votes in the term with this log, of which it knew this part to be committed, and counts votes by
-- the configuration after that
pub record VoteRequest : Type 0 where
  pub term : ℕ
  pub candidate : ℕ
  pub log : Log
  pub committed : Log

-- the candidate of the request won, by the votes of these servers
pub record Election : Type 0 where
  pub request : VoteRequest
  pub votes : Ids

-- what a leader works on in memory: its log, and the part of it that it has committed
pub record Leadership : Type 0 where
  pub log : Log
  pub committed : Log

-- the server said, in the term, that its log begins with this one of the term's leader
pub record Acknowledgement : Type 0 where
  pub term : ℕ
  pub server : ℕ
  pub log : Log

-- a leader committed its log up to here, counted by the configuration after a part of it, by these acknowledgements
pub record Commitment : Type 0 where
  pub term : ℕ
  pub log : Log
  pub counted : Log
  pub servers : Ids

-- the state of a cluster. The lists only grow: what was said may come late, twice, out of order, or never
pub record Cluster : Type 0 where
  pub servers : ℕ → Server
  pub leaderships : ℕ → ℕ → Leadership
  pub votes : List Vote
  pub requests : List VoteRequest
  pub elections : List Election
  pub acknowledgements : List Acknowledgement
  pub commitments : List Commitment

-- the item is in the list
abbrev pub In : {X : Type 0} → X → List X → Type 0
In item [] = ⊥
In item (first ∷ rest) = (item ≡ first) ⊎ In item rest

-- the function with another value at one number
abbrev pub with_value : {X : Type 0} → (ℕ → X) → ℕ → X → ℕ → X
with_value old number value = λ n. if nat_eq n number then value else old n

-- before anything happens: nothing is stored or said
abbrev pub new_cluster : Cluster
new_cluster = record {
  servers = λ server. record { term = 0; log = []; committed = [] };
  leaderships = λ term leader. record { log = []; committed = [] };
  votes = [];
  requests = [];
  elections = [];
  acknowledgements = [];
  commitments = [];
}

-- the server leads the term
abbrev pub Leads : Cluster → ℕ → ℕ → Type 0
Leads c term server =
    (election : Election) × In election c.elections × (election.request.term ≡ term)
    × (election.request.candidate ≡ server)

-- the voter voted for the candidate in the term
abbrev pub HasVoted : Cluster → ℕ → ℕ → ℕ → Type 0
HasVoted c term voter candidate = In (record { term = term; voter = voter; candidate = candidate }) c.votes

-- the server acknowledged a log that begins with this one, in the term
abbrev pub HasAcknowledged : Cluster → ℕ → ℕ → Log → Type 0
HasAcknowledged c term server log =
    (more : Log) × In (record { term = term; server = server; log = more }) c.acknowledgements × IsPrefix log more
