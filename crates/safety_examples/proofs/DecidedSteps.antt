-- Whether the rules of raft_safety's Steps.antt allow an action, or all but one field of its guard do, is decided by computing,
-- where sets of servers are written as lists.
use Rattle.std.proofs.Common.{arith}
use Rattle.std.proofs.Common.{◌≡◌, ℕ, ◌<◌, ◌≤◌, Bool, true, false, List, length, refl, subst, nat_eq}
use Rattle.quorum_sets.specs.Ids.{has, ids_of}
use Rattle.conf_change.specs.Configuration.{Configuration}
use Rattle.raft_safety.specs.Logs.{Entry, Log, IsPrefix, IsUpToDate, last_term}
use Rattle.raft_safety.specs.Configurations.{IsQuorumAfter, IsOneChangeBeyond}
use Rattle.raft_safety.specs.Cluster.{Vote, VoteRequest, Election, Acknowledgement, Cluster, HasAcknowledged, HasVoted, In, Leads, new_cluster}
use Rattle.raft_safety.specs.Steps as core
use Rattle.raft_safety.specs.Steps.{Action, IsLogAfter, IsAllowed, after_action}
use Rattle.safety_examples.proofs.Decisions.{Decision, yes, number_is, less, at_most, like, negated, both, either, implied, all_in, some_in, is_in, each_id}
use Rattle.safety_examples.proofs.ListedVoters.{Lists, configuration_of, quorum, one_change_beyond}
use Rattle.safety_examples.proofs.ListedRuns.{Level, Run, AllButOne, all_but_one, is_refused, state_before}
use Rattle.safety_examples.proofs.Equality.{vote_is, request_is, log_is, prefix}

-- ---- what was said
abbrev pub leads : (c : Cluster) → (term server : ℕ) → Decision (Leads c term server)
leads c term server =
    like (λ found. (found.0, found.1, found.2.0, found.2.1)) (λ found. (found.0, found.1, (found.2, found.3)))
    (some_in (λ (e : Election). (e.request.term ≡ term) × (e.request.candidate ≡ server)) (λ e. both (number_is e.request.term term) (number_is e.request.candidate server)) c.elections)

abbrev pub up_to_date : (candidate voter : Log) → Decision (IsUpToDate candidate voter)
up_to_date candidate voter =
    either (less (last_term voter) (last_term candidate)) (both (number_is (last_term candidate) (last_term voter)) (at_most (length voter) (length candidate)))

abbrev pub once : (c : Cluster) → (term voter candidate : ℕ)
    → Decision ((vote : Vote) → In vote c.votes → vote.term ≡ term → vote.voter ≡ voter → vote.candidate ≡ candidate)
once c term voter candidate =
    all_in (λ (vote : Vote). vote.term ≡ term → vote.voter ≡ voter → vote.candidate ≡ candidate)
    (λ vote. implied (number_is vote.term term) (implied (number_is vote.voter voter) (number_is vote.candidate candidate))) c.votes

abbrev pub IsOne : ℕ → ℕ → Log → Acknowledgement → Type 0
IsOne term server log a = (a.term ≡ term) × ((a.server ≡ server) × IsPrefix log a.log)

module _ (c : Cluster) (term server : ℕ) (log : Log) where
  pub acknowledged_by : (a : Acknowledgement) × In a c.acknowledgements × IsOne term server log a → HasAcknowledged c term server log
  acknowledged_by found =
      let is : found.0 ≡ record { term = term; server = server; log = found.0.log } = λ i. record { term = found.2.0 i; server = found.2.1.0 i; log = found.0.log } in
      (found.0.log, subst (λ (a : Acknowledgement). In a c.acknowledgements) is found.1, found.2.1.1)

  pub acknowledgement_of : HasAcknowledged c term server log → (a : Acknowledgement) × In a c.acknowledgements × IsOne term server log a
  acknowledgement_of found = (record { term = term; server = server; log = found.0 }, found.1, (refl, (refl, found.2)))

  abbrev pub acknowledged : Decision (HasAcknowledged c term server log)
  acknowledged =
      like acknowledged_by acknowledgement_of
      (some_in (IsOne term server log) (λ a. both (number_is a.term term) (both (number_is a.server server) (prefix log a.log))) c.acknowledgements)

-- the log that an append leaves
abbrev pub log_after : (before sent after : Log) → Decision (IsLogAfter before sent after)
log_after before sent after = either (both (prefix sent before) (log_is after before)) (both (negated (prefix sent before)) (log_is after sent))

-- ---- runs in which sets of servers are lists
pub data ListedAction : Type 0 where
  Campaign : (server term : ℕ) → (counted : Log) → ListedAction
  SeeTerm : (server term : ℕ) → ListedAction
  GrantVote : (voter : ℕ) → (request : VoteRequest) → ListedAction
  BecomeLeader : (request : VoteRequest) → (votes : List ℕ) → ListedAction
  Learn : (term leader : ℕ) → (known : Log) → ListedAction
  Propose : (term leader : ℕ) → (entry : Entry) → ListedAction
  Receive : (server term leader : ℕ) → (sent known after : Log) → ListedAction
  Commit : (term leader : ℕ) → (log counted : Log) → (servers : List ℕ) → ListedAction
  Restart : (server : ℕ) → (known : Log) → ListedAction

abbrev pub action_of : ListedAction → Action
action_of (Campaign server term counted) = core.Campaign server term counted
action_of (SeeTerm server term) = core.SeeTerm server term
action_of (GrantVote voter request) = core.GrantVote voter request
action_of (BecomeLeader request votes) = core.BecomeLeader request (ids_of votes)
action_of (Learn term leader known) = core.Learn term leader known
action_of (Propose term leader entry) = core.Propose term leader entry
action_of (Receive server term leader sent known after) = core.Receive server term leader sent known after
action_of (Commit term leader log counted servers) = core.Commit leader (record { term = term; log = log; counted = counted; servers = ids_of servers })
action_of (Restart server known) = core.Restart server known

-- ---- guards without a field
-- the statement, but nothing if it is the field that is left out. Fields are counted from 1
abbrev pub Unless : Bool → Type 0 → Type 0
Unless true P = Unit {0}
Unless false P = P

abbrev pub unless : {P : Type 0} → (is : Bool) → Decision P → Decision (Unless is P)
unless true d = yes tt
unless false d = d

-- the guard of the action in Steps.antt, its fields in their order, without the one of this number
abbrev pub IsAllowedBut : ℕ → Configuration → Cluster → Action → Type 0
IsAllowedBut out first c (core.Campaign server term counted) =
    let state = c.servers server in
    Unless (nat_eq out 1) (state.term < term)
    × (Unless (nat_eq out 2) (IsPrefix counted state.committed)
    × Unless (nat_eq out 3) (IsOneChangeBeyond first state.log counted))
IsAllowedBut out first c (core.SeeTerm server term) = Unless (nat_eq out 1) ((c.servers server).term < term)
IsAllowedBut out first c (core.GrantVote voter request) =
    Unless (nat_eq out 1) (In request c.requests)
    × (Unless (nat_eq out 2) ((c.servers voter).term ≤ request.term)
    × (Unless (nat_eq out 3) ((vote : Vote) → In vote c.votes → vote.term ≡ request.term → vote.voter ≡ voter → vote.candidate ≡ request.candidate)
    × Unless (nat_eq out 4) (IsUpToDate request.log (c.servers voter).log)))
IsAllowedBut out first c (core.BecomeLeader request votes) =
    Unless (nat_eq out 1) (In request c.requests)
    × (Unless (nat_eq out 2) (¬ Leads c request.term request.candidate)
    × (Unless (nat_eq out 3) ((voter : ℕ) → has votes voter ≡ true → HasVoted c request.term voter request.candidate)
    × Unless (nat_eq out 4) (IsQuorumAfter first request.committed votes)))
IsAllowedBut out first c (core.Learn term leader known) =
    Unless (nat_eq out 1) (Leads c term leader)
    × (Unless (nat_eq out 2) ((c.servers leader).term ≡ term)
    × Unless (nat_eq out 3) (IsPrefix known (c.servers leader).committed))
IsAllowedBut out first c (core.Propose term leader entry) = Unless (nat_eq out 1) (entry.term ≡ term)
IsAllowedBut out first c (core.Receive server term leader sent known after) =
    let now = c.leaderships term leader in
    Unless (nat_eq out 1) (Leads c term leader)
    × (Unless (nat_eq out 2) ((c.servers server).term ≤ term)
    × (Unless (nat_eq out 3) (IsPrefix sent now.log)
    × (Unless (nat_eq out 4) (IsPrefix known sent)
    × (Unless (nat_eq out 5) (IsPrefix known now.committed)
    × Unless (nat_eq out 6) (IsLogAfter (c.servers server).log sent after)))))
IsAllowedBut out first c (core.Commit leader m) =
    let now = c.leaderships m.term leader in
    Unless (nat_eq out 1) (Leads c m.term leader)
    × (Unless (nat_eq out 2) (length now.committed < length m.log)
    × (Unless (nat_eq out 3) (IsPrefix m.log now.log)
    × (Unless (nat_eq out 4) (last_term m.log ≡ m.term)
    × (Unless (nat_eq out 5) ((server : ℕ) → has m.servers server ≡ true → HasAcknowledged c m.term server m.log)
    × (Unless (nat_eq out 6) (IsPrefix m.counted now.committed)
    × (Unless (nat_eq out 7) (IsOneChangeBeyond first m.log m.counted)
    × Unless (nat_eq out 8) (IsQuorumAfter first m.counted m.servers)))))))
IsAllowedBut out first c (core.Restart server known) = Unless (nat_eq out 1) (IsPrefix known (c.servers server).committed)

-- without a field 0, which no guard has, it is the guard
pub allowed : (first : Configuration) (c : Cluster) (action : Action) → IsAllowedBut 0 first c action → IsAllowed first c action
allowed first c (core.Campaign server term counted) but = record { later = but.0; committed = but.1.0; one_change_beyond = but.1.1 }
allowed first c (core.SeeTerm server term) but = record { higher = but }
allowed first c (core.GrantVote voter request) but = record { asked = but.0; not_past = but.1.0; once = but.1.1.0; up_to_date = but.1.1.1 }
allowed first c (core.BecomeLeader request votes) but = record { asked = but.0; not_yet = but.1.0; voted = but.1.1.0; quorum = but.1.1.1 }
allowed first c (core.Learn term leader known) but = record { leads = but.0; same_term = but.1.0; known_of = but.1.1 }
allowed first c (core.Propose term leader entry) but = record { own_term = but }
allowed first c (core.Receive server term leader sent known after) but = grind arith
allowed first c (core.Commit leader m) but = grind (arith, one_change_beyond, quorum)
allowed first c (core.Restart server known) but = record { known_of = but }

pub fields_of : (first : Configuration) (c : Cluster) (action : Action) → IsAllowed first c action → IsAllowedBut 0 first c action
fields_of first c (core.Campaign server term counted) may = (may.later, (may.committed, may.one_change_beyond))
fields_of first c (core.SeeTerm server term) may = may.higher
fields_of first c (core.GrantVote voter request) may = (may.asked, (may.not_past, (may.once, may.up_to_date)))
fields_of first c (core.BecomeLeader request votes) may = (may.asked, (may.not_yet, (may.voted, may.quorum)))
fields_of first c (core.Learn term leader known) may = (may.leads, (may.same_term, may.known_of))
fields_of first c (core.Propose term leader entry) may = may.own_term
fields_of first c (core.Receive server term leader sent known after) may = (may.leads, (may.not_past, (may.sent_of, (may.known_of, (may.committed, may.taken)))))
fields_of first c (core.Commit leader m) may = grind arith
fields_of first c (core.Restart server known) may = may.known_of

abbrev pub decided : (out : ℕ) → (l : Lists) → (c : Cluster) → (a : ListedAction) → Decision (IsAllowedBut out (configuration_of l) c (action_of a))
decided out l c (Campaign server term counted) =
    let state = c.servers server in
    both (unless (nat_eq out 1) (less state.term term))
    (both (unless (nat_eq out 2) (prefix counted state.committed))
    (unless (nat_eq out 3) (one_change_beyond l state.log counted)))
decided out l c (SeeTerm server term) = unless (nat_eq out 1) (less (c.servers server).term term)
decided out l c (GrantVote voter request) =
    both (unless (nat_eq out 1) (is_in request_is request c.requests))
    (both (unless (nat_eq out 2) (at_most (c.servers voter).term request.term))
    (both (unless (nat_eq out 3) (once c request.term voter request.candidate))
    (unless (nat_eq out 4) (up_to_date request.log (c.servers voter).log))))
decided out l c (BecomeLeader request votes) =
    both (unless (nat_eq out 1) (is_in request_is request c.requests))
    (both (unless (nat_eq out 2) (negated (leads c request.term request.candidate)))
    (both (unless (nat_eq out 3) (each_id _ (λ voter. is_in vote_is (record { term = request.term; voter = voter; candidate = request.candidate }) c.votes) votes))
    (unless (nat_eq out 4) (quorum l request.committed votes))))
decided out l c (Learn term leader known) =
    both (unless (nat_eq out 1) (leads c term leader))
    (both (unless (nat_eq out 2) (number_is (c.servers leader).term term))
    (unless (nat_eq out 3) (prefix known (c.servers leader).committed)))
decided out l c (Propose term leader entry) = unless (nat_eq out 1) (number_is entry.term term)
decided out l c (Receive server term leader sent known after) =
    let now = c.leaderships term leader in
    both (unless (nat_eq out 1) (leads c term leader))
    (both (unless (nat_eq out 2) (at_most (c.servers server).term term))
    (both (unless (nat_eq out 3) (prefix sent now.log))
    (both (unless (nat_eq out 4) (prefix known sent))
    (both (unless (nat_eq out 5) (prefix known now.committed))
    (unless (nat_eq out 6) (log_after (c.servers server).log sent after))))))
decided out l c (Commit term leader log counted servers) =
    let now = c.leaderships term leader in
    both (unless (nat_eq out 1) (leads c term leader))
    (both (unless (nat_eq out 2) (less (length now.committed) (length log)))
    (both (unless (nat_eq out 3) (prefix log now.log))
    (both (unless (nat_eq out 4) (number_is (last_term log) term))
    (both (unless (nat_eq out 5) (each_id _ (λ server. acknowledged c term server log) servers))
    (both (unless (nat_eq out 6) (prefix counted now.committed))
    (both (unless (nat_eq out 7) (one_change_beyond l log counted))
    (unless (nat_eq out 8) (quorum l counted servers))))))))
decided out l c (Restart server known) = unless (nat_eq out 1) (prefix known (c.servers server).committed)

-- ---- runs
abbrev pub is_allowed : (l : Lists) → (c : Cluster) → (a : ListedAction) → Decision (IsAllowed (configuration_of l) c (action_of a))
is_allowed l c a = like (allowed (configuration_of l) c (action_of a)) (fields_of (configuration_of l) c (action_of a)) (decided 0 l c a)

abbrev pub steps : Level
steps = record {
  State = Cluster;
  Action = Action;
  Listed = ListedAction;
  start = new_cluster;
  after_action = after_action;
  action_of = λ c a. action_of a;
  IsAllowed = IsAllowed;
  is_allowed = is_allowed;
}

-- of the guard of the one action that is not allowed, all but the field of this number holds
abbrev pub AllButField : ℕ → Run steps → Type 0
AllButField field run = AllButOne steps run (IsAllowedBut field (configuration_of run.first) (state_before steps run) (action_of run.action))

abbrev pub all_but_field : (field : ℕ) → (run : Run steps) → Decision (AllButField field run)
all_but_field field run = all_but_one steps run (decided field run.first (state_before steps run) run.action) (is_refused steps run)
