-- What a server does in memory stays allowed, and leaves it in the same state, while others go on: it hangs on the server
-- itself, on its own votes, and on what only grows.
use Rattle.std.proofs.Common.{◌≡◌, ℕ, ◌<◌, ◌≤◌, List, [], ◌∷◌, ◌++◌, refl, sym, ap, subst, ◌∙◌, inl, inr, arith}
use Rattle.std.specs.Prelude.{Bool}
use Rattle.conf_change.specs.Configuration.{Configuration}
use Rattle.raft_safety.specs.Logs.{IsPrefix, IsUpToDate, longer}
use Rattle.raft_safety.specs.Cluster.{Server, Vote, VoteRequest, Acknowledgement, Cluster, In, Leads, with_value}
use Rattle.raft_safety.specs.Appending.{upto, term_at}
use Rattle.raft_safety.specs.EtcdCluster.{Append, EtcdCluster}
use Rattle.raft_safety.specs.EtcdRules.{IsReady, EtcdAction, Campaign, SeeTerm, GrantVote, Receive, Answer, Heartbeat, IsAllowedByEtcd}
use Rattle.raft_safety.specs.EtcdRuns.{last_index, after_append, after_etcd_action, after_etcd_actions, AreAllowedByEtcd}
use Rattle.raft_safety.specs.DiskRules.{IsOwn}
use Rattle.raft_safety.proofs.Logs.{IsPrefix-refl, IsPrefix-trans}
use Rattle.raft_safety.proofs.Updates.{with_value-here, with_value-there}

-- the server is as it was, has no more votes, and all else has grown: of a cluster, its appends, and who looks. What is durable of
-- commit indexes, what is applied and who campaigned do not matter here
pub record GoesOnWith (server : ℕ) (c d : Cluster) (sent more : List Append) (looked look : ℕ → Bool) : Type 0 where
  pub same : d.servers server ≡ c.servers server
  pub looks : look server ≡ looked server
  pub own_votes : (vote : Vote) → In vote d.votes → vote.voter ≡ server → In vote c.votes
  pub requests : (r : VoteRequest) → In r c.requests → In r d.requests
  pub appends : (a : Append) → In a sent → In a more
  pub acknowledgements : (a : Acknowledgement) → In a c.acknowledgements → In a d.acknowledgements
  pub leads : (term leader : ℕ) → Leads c term leader → Leads d term leader
  pub committed : (term leader : ℕ) → Leads c term leader → IsPrefix (c.leaderships term leader).committed (d.leaderships term leader).committed

abbrev pub GoesOn : ℕ → EtcdCluster → EtcdCluster → Type 0
GoesOn server e f = GoesOnWith server e.cluster f.cluster e.appends f.appends e.looks f.looks

-- where only more appends were sent
pub GoesOn-sent : (server : ℕ) (c : Cluster) (sent more : List Append) (looks : ℕ → Bool) → ((a : Append) → In a sent → In a more) → GoesOnWith server c c sent more looks looks
GoesOn-sent server c sent more looks appends = record {
  same = refl;
  looks = refl;
  own_votes = λ v x o. x;
  requests = λ r x. x;
  appends = appends;
  acknowledgements = λ a x. x;
  leads = λ t l x. x;
  committed = λ t l x. IsPrefix-refl (c.leaderships t l).committed;
}

pub GoesOn-refl : (server : ℕ) (e : EtcdCluster) → GoesOn server e e
GoesOn-refl server e = GoesOn-sent server e.cluster e.appends e.appends e.looks (λ a x. x)

pub GoesOn-trans : (server : ℕ) (e f h : EtcdCluster) → GoesOn server e f → GoesOn server f h → GoesOn server e h
GoesOn-trans server e f h g k = record {
  same = k.same ∙ g.same;
  looks = k.looks ∙ g.looks;
  own_votes = λ v x o. g.own_votes v (k.own_votes v x o) o;
  requests = λ r x. k.requests r (g.requests r x);
  appends = λ a x. k.appends a (g.appends a x);
  acknowledgements = λ a x. k.acknowledgements a (g.acknowledgements a x);
  leads = λ t l x. k.leads t l (g.leads t l x);
  committed = λ t l x. IsPrefix-trans (e.cluster.leaderships t l).committed (f.cluster.leaderships t l).committed (h.cluster.leaderships t l).committed (g.committed t l x) (k.committed t l (g.leads t l x));
}

server_at : (server s : ℕ) (e f : EtcdCluster) → GoesOn server e f → s ≡ server → f.cluster.servers s ≡ e.cluster.servers s
server_at server s e f g own = subst (λ (q : ℕ). f.cluster.servers q ≡ e.cluster.servers q) (sym own) g.same

-- ---- what is allowed stays allowed
pub allowed_later : (first : Configuration) (server : ℕ) (e f : EtcdCluster) → GoesOn server e f → (action : EtcdAction) → IsOwn server action → IsAllowedByEtcd first e action → IsAllowedByEtcd first f action
allowed_later first server e f g (Campaign s term applied) own may =
    let at : f.cluster.servers s ≡ e.cluster.servers s = server_at server s e f g own in
    record {
      later = subst (λ (x : Server). x.term < term) (sym at) may.later;
      committed = subst (λ (x : Server). IsPrefix applied x.committed) (sym at) may.committed;
      ready = subst (λ (b : Bool). IsReady first b (f.cluster.servers s) applied) (sym (subst (λ (q : ℕ). f.looks q ≡ e.looks q) (sym own) g.looks))
          (subst (λ (x : Server). IsReady first (e.looks s) x applied) (sym at) may.ready);
    }
allowed_later first server e f g (SeeTerm s term) own may = grind (arith, server_at)
allowed_later first server e f g (GrantVote s request) own may =
    let at : f.cluster.servers s ≡ e.cluster.servers s = server_at server s e f g own in
    record {
      asked = g.requests request may.asked;
      not_past = subst (λ (x : Server). x.term ≤ request.term) (sym at) may.not_past;
      once = λ vote x same_term same_voter. may.once vote (g.own_votes vote x (same_voter ∙ own)) same_term same_voter;
      up_to_date = subst (λ (x : Server). IsUpToDate request.log x.log) (sym at) may.up_to_date;
    }
allowed_later first server e f g (Receive s append) own may =
    let at : f.cluster.servers s ≡ e.cluster.servers s = server_at server s e f g own in
    record {
      sent = g.appends append may.sent;
      not_past = subst (λ (x : Server). x.term ≤ append.term) (sym at) may.not_past;
      matches = subst (λ (x : Server). term_at x.log append.index ≡ append.index_term) (sym at) may.matches;
    }
allowed_later first server e f g (Answer s term leader) own may =
    record {
      leads = g.leads term leader may.leads;
      not_past = subst (λ (x : Server). x.term ≤ term) (sym (server_at server s e f g own)) may.not_past;
    }
allowed_later first server e f g (Heartbeat s term leader known) own may =
    record {
      leads = g.leads term leader may.leads;
      not_past = subst (λ (x : Server). x.term ≤ term) (sym (server_at server s e f g own)) may.not_past;
      committed = IsPrefix-trans known (e.cluster.leaderships term leader).committed (f.cluster.leaderships term leader).committed may.committed (g.committed term leader may.leads);
      acknowledged = (may.acknowledged.0, g.acknowledgements _ may.acknowledged.1, may.acknowledged.2);
    }
allowed_later first server e f g action own may = absurd own

-- ---- and leaves the server in the same state
same_after : (old other : ℕ → Server) (s server : ℕ) (a b : Server) → s ≡ server → a ≡ b → with_value other s a server ≡ with_value old s b server
same_after old other s server a b own is = grind (arith, with_value-here)

-- ---- what a server does by itself: its state becomes another one, and it votes, asks or acknowledges. A vote is written as its term
-- and its candidate
pub record OwnChange : Type 0 where
  pub state : Server → Server
  pub votes : List (ℕ × ℕ)
  pub requests : Server → List VoteRequest
  pub acknowledgements : Server → List Acknowledgement

abbrev pub votes_of : ℕ → List (ℕ × ℕ) → List Vote
votes_of server [] = []
votes_of server (vote ∷ votes) = record { term = vote.0; voter = server; candidate = vote.1 } ∷ votes_of server votes

abbrev pub changed : ℕ → OwnChange → Cluster → Cluster
changed server o c =
    let old = c.servers server in
    record c {
      servers = with_value c.servers server (o.state old);
      votes = votes_of server o.votes ++ c.votes;
      requests = o.requests old ++ c.requests;
      acknowledgements = o.acknowledgements old ++ c.acknowledgements;
    }

abbrev pub new_state : (Server → Server) → OwnChange
new_state state = record { state = state; votes = []; requests = λ old. []; acknowledgements = λ old. [] }

abbrev pub change_of : EtcdAction → OwnChange
change_of (Campaign s term applied) = record {
  state = λ old. record old { term = term };
  votes = (term, s) ∷ [];
  requests = λ old. record { term = term; candidate = s; log = old.log; committed = old.committed } ∷ [];
  acknowledgements = λ old. [];
}
change_of (SeeTerm s term) = new_state (λ old. record old { term = term })
change_of (GrantVote s request) =
    let o = new_state (λ old. record old { term = request.term }) in
    record o { votes = (request.term, request.candidate) ∷ [] }
change_of (Receive s append) =
    let o = new_state (λ old. after_append old append) in
    record o { acknowledgements = λ old. record { term = append.term; server = s; log = upto (after_append old append).log (last_index append) } ∷ [] }
change_of (Answer s term leader) =
    let o = new_state (λ old. record old { term = term }) in
    record o { acknowledgements = λ old. record { term = term; server = s; log = old.committed } ∷ [] }
change_of (Heartbeat s term leader known) = new_state (λ old. record old { term = term; committed = longer old.committed known })
change_of action = new_state (λ old. old)

In-over : {X : Type 0} (x : X) (new a b : List X) → (In x a → In x b) → In x (new ++ a) → In x (new ++ b)
In-over x [] a b over is = over is
In-over x (first ∷ new) a b over (inl same) = inl same
In-over x (first ∷ new) a b over (inr later) = inr (In-over x new a b over later)

pub In-more : {X : Type 0} (x : X) (new a : List X) → In x a → In x (new ++ a)
In-more x [] a is = is
In-more x (first ∷ new) a is = inr (In-more x new a is)

-- a vote of another server is not among its own
not_its : (k server : ℕ) → (k ≡ server → ⊥) → (vote : Vote) → vote.voter ≡ k → (votes : List (ℕ × ℕ)) (a : List Vote) → In vote (votes_of server votes ++ a) → In vote a
not_its k server other vote by [] a x = x
not_its k server other vote by (first ∷ votes) a (inl is) = absurd (other (sym by ∙ ap (λ (v : Vote). v.voter) is))
not_its k server other vote by (first ∷ votes) a (inr later) = not_its k server other vote by votes a later

changed_later : (server s : ℕ) → s ≡ server → (o : OwnChange) (e f : EtcdCluster) → GoesOn server e f
    → GoesOnWith server (changed s o e.cluster) (changed s o f.cluster) e.appends f.appends e.looks f.looks
changed_later server s own o e f g =
    let c : Cluster = e.cluster in
    let d : Cluster = f.cluster in
    let at : d.servers s ≡ c.servers s = server_at server s e f g own in
    record {
      same = same_after c.servers d.servers s server (o.state (d.servers s)) (o.state (c.servers s)) own (ap o.state at);
      looks = g.looks;
      own_votes = λ v x by. In-over v (votes_of s o.votes) d.votes c.votes (λ in_d. g.own_votes v in_d by) x;
      requests = λ r x. subst (λ (old : Server). In r (o.requests old ++ d.requests)) (sym at) (In-over r (o.requests (c.servers s)) c.requests d.requests (g.requests r) x);
      appends = g.appends;
      acknowledgements = λ a x. subst (λ (old : Server). In a (o.acknowledgements old ++ d.acknowledgements)) (sym at)
          (In-over a (o.acknowledgements (c.servers s)) c.acknowledgements d.acknowledgements (g.acknowledgements a) x);
      leads = g.leads;
      committed = g.committed;
    }

pub after_later : (server : ℕ) (e f : EtcdCluster) → GoesOn server e f → (action : EtcdAction) → IsOwn server action → GoesOn server (after_etcd_action e action) (after_etcd_action f action)
after_later server e f g (Campaign s term applied) own = changed_later server s own (change_of (Campaign s term applied)) e f g
after_later server e f g (SeeTerm s term) own = changed_later server s own (change_of (SeeTerm s term)) e f g
after_later server e f g (GrantVote s request) own = changed_later server s own (change_of (GrantVote s request)) e f g
after_later server e f g (Receive s append) own = changed_later server s own (change_of (Receive s append)) e f g
after_later server e f g (Answer s term leader) own = changed_later server s own (change_of (Answer s term leader)) e f g
after_later server e f g (Heartbeat s term leader known) own = changed_later server s own (change_of (Heartbeat s term leader known)) e f g
after_later server e f g action own = absurd own

-- ---- for the others it is nothing that they see, but that more was said
pub changed_beside : (k s : ℕ) → (k ≡ s → ⊥) → (o : OwnChange) (e : EtcdCluster) → GoesOnWith k e.cluster (changed s o e.cluster) e.appends e.appends e.looks e.looks
changed_beside k s other o e =
    let c : Cluster = e.cluster in
    record {
      same = with_value-there c.servers s (o.state (c.servers s)) k other;
      looks = refl;
      own_votes = λ v x by. not_its k s other v by o.votes c.votes x;
      requests = λ r x. In-more r (o.requests (c.servers s)) c.requests x;
      appends = λ a x. x;
      acknowledgements = λ a x. In-more a (o.acknowledgements (c.servers s)) c.acknowledgements x;
      leads = λ t l x. x;
      committed = λ t l x. IsPrefix-refl (c.leaderships t l).committed;
    }

pub beside : (server k : ℕ) → (k ≡ server → ⊥) → (e : EtcdCluster) (action : EtcdAction) → IsOwn server action → GoesOn k e (after_etcd_action e action)
beside server k other e (Campaign s term applied) own = changed_beside k s (λ is. other (is ∙ own)) (change_of (Campaign s term applied)) e
beside server k other e (SeeTerm s term) own = changed_beside k s (λ is. other (is ∙ own)) (change_of (SeeTerm s term)) e
beside server k other e (GrantVote s request) own = changed_beside k s (λ is. other (is ∙ own)) (change_of (GrantVote s request)) e
beside server k other e (Receive s append) own = changed_beside k s (λ is. other (is ∙ own)) (change_of (Receive s append)) e
beside server k other e (Answer s term leader) own = changed_beside k s (λ is. other (is ∙ own)) (change_of (Answer s term leader)) e
beside server k other e (Heartbeat s term leader known) own = changed_beside k s (λ is. other (is ∙ own)) (change_of (Heartbeat s term leader known)) e
beside server k other e action own = absurd own

-- ---- of several actions
abbrev pub AreOwn : ℕ → List EtcdAction → Type 0
AreOwn server [] = Unit {0}
AreOwn server (action ∷ actions) = IsOwn server action × AreOwn server actions

pub all_allowed_later : (first : Configuration) (server : ℕ) (e f : EtcdCluster) → GoesOn server e f → (actions : List EtcdAction) → AreOwn server actions → AreAllowedByEtcd first e actions → AreAllowedByEtcd first f actions
all_allowed_later first server e f g [] own allowed = tt
all_allowed_later first server e f g (action ∷ actions) own allowed = grind (arith, allowed_later, after_later, all_allowed_later first server (after_etcd_action e action) (after_etcd_action f action) (after_later server e f g action own.0) actions own.1 allowed.1)

pub all_beside : (server k : ℕ) → (k ≡ server → ⊥) → (e : EtcdCluster) (actions : List EtcdAction) → AreOwn server actions → GoesOn k e (after_etcd_actions e actions)
all_beside server k other e [] own = GoesOn-refl k e
all_beside server k other e (action ∷ actions) own = grind (arith, GoesOn-trans, beside, all_beside server k other (after_etcd_action e action) actions own.1)
