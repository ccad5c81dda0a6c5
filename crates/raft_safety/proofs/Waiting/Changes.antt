-- How many changes of the voters in leaders' logs a log lacks, while leaders are elected, propose and commit.
use Rattle.std.proofs.Common.{◌≡◌, ℕ, ◌+◌, ◌≤◌, ◌⊎◌, List, [], ◌∷◌, sym, ap, subst, inl, inr, arith}
use Rattle.std.specs.Prelude.{nat_eq}
use Rattle.std.proofs.lemmas.Bool.{cases_eq, cond-true, cond-false}
use Rattle.std.proofs.lemmas.Bool.Decides.{nat_tests}
use Rattle.quorum_sets.specs.Ids.{Ids}
use Rattle.conf_change.specs.Configuration.{Configuration}
use Rattle.raft_safety.specs.Logs.{Entry, Log, IsPrefix}
use Rattle.raft_safety.specs.Configurations.{voter_changes}
use Rattle.raft_safety.specs.Cluster.{VoteRequest, Election, Leadership, Cluster, In, Leads, with_value}
use Rattle.raft_safety.specs.Steps.{after_action, with_leadership}
use Rattle.raft_safety.specs.Steps as core
use Rattle.raft_safety.specs.Waiting.{HasChanges, without}
use Rattle.raft_safety.proofs.Configurations.{voter_changes-prefix, voter_changes-entry}
use Rattle.raft_safety.proofs.Updates.{with_value-each, with_leadership-each, leadership-same, with_leadership-here}
use Rattle.raft_safety.proofs.Invariants.{IsFromLeaders, log_of}

-- so it is with any log of entries of leaders
pub few_of : (first : Configuration) (c : Cluster) (stored : Log) → HasChanges first c stored → (log : Log) → IsFromLeaders c log → voter_changes first log ≤ voter_changes first stored + 1
unfolding voter_changes
few_of first c stored has [] from = omega arith
few_of first c stored has (entry ∷ log) from =
    let its = from.0 in
    let s1 : voter_changes first (entry ∷ log) ≤ voter_changes first (log_of c entry.term its.0) = voter_changes-prefix first (entry ∷ log) (log_of c entry.term its.0) its.2 in
    let s2 : voter_changes first (log_of c entry.term its.0) ≤ voter_changes first stored + 1 = has entry.term its.0 its.1 in
    omega arith

-- where a leader is elected with a log of entries of leaders
pub HasChanges-elected : (first : Configuration) (c : Cluster) (r : VoteRequest) (votes : Ids) (stored : Log) → IsFromLeaders c r.log → HasChanges first c stored
    → HasChanges first (after_action c (core.BecomeLeader r votes)) stored
HasChanges-elected first c r votes stored from has t s l =
    let new : Leadership = record { log = r.log; committed = r.committed } in
    let d : Cluster = after_action c (core.BecomeLeader r votes) in
    let Few : Leadership → Type 0 = λ q. voter_changes first q.log ≤ voter_changes first stored + 1 in
    let new_few : voter_changes first r.log ≤ voter_changes first stored + 1 = few_of first c stored has r.log from in
    elim l.1 [
      | inl is ↦ (
          let same_t : t ≡ r.term = subst (λ (q : ℕ). q ≡ r.term) l.2 (ap (λ (e : Election). e.request.term) is) in
          let same_s : s ≡ r.candidate = subst (λ (q : ℕ). q ≡ r.candidate) l.3 (ap (λ (e : Election). e.request.candidate) is) in
          subst Few (sym (leadership-same d r.term r.candidate t s same_t same_s)) (subst Few (sym (with_leadership-here c r.term r.candidate new)) new_few))
      | inr in_c ↦ with_leadership-each c r.term r.candidate new Few t s (λ same_t same_s. new_few) (has t s (l.0, in_c, l.2, l.3))
    ]

-- where a leader has one more entry, which changes no voters, or all changes before it are stored
pub HasChanges-proposed : (first : Configuration) (c : Cluster) (term leader : ℕ) (entry : Entry) (stored : Log) → Leads c term leader
    → (voter_changes first (entry ∷ log_of c term leader) ≡ voter_changes first (log_of c term leader)) ⊎ (voter_changes first (log_of c term leader) ≤ voter_changes first stored)
    → HasChanges first c stored → HasChanges first (after_action c (core.Propose term leader entry)) stored
HasChanges-proposed first c term leader entry stored leads waits has t s l =
    let now : Leadership = c.leaderships term leader in
    let few : voter_changes first (entry ∷ now.log) ≤ voter_changes first stored + 1 = elim waits [
      | inl idle ↦ (
          let k : voter_changes first (entry ∷ now.log) ≡ voter_changes first now.log = idle in
          let h : voter_changes first now.log ≤ voter_changes first stored + 1 = has term leader leads in
          omega arith)
      | inr waited ↦ (let one : voter_changes first (entry ∷ now.log) ≤ voter_changes first now.log + 1 = voter_changes-entry first entry now.log in omega arith)
    ] in
    with_leadership-each c term leader (record now { log = entry ∷ now.log }) (λ (q : Leadership). voter_changes first q.log ≤ voter_changes first stored + 1) t s
    (λ same_t same_s. few) (has t s l)

-- where a server has stored more
pub HasChanges-stored : (first : Configuration) (c : Cluster) (stored : ℕ → Log) (members : List ℕ) (server : ℕ) (log : Log) → IsPrefix (stored server) log
    → ((member : ℕ) → In member members → HasChanges first c (stored member)) → (member : ℕ) → In member members → HasChanges first c (with_value stored server log member)
HasChanges-stored first c stored members server log more has member x =
    let s1 : voter_changes first (stored server) ≤ voter_changes first log = voter_changes-prefix first (stored server) log more in
    with_value-each (HasChanges first c) stored server log member
    (λ same t s l. (let h : voter_changes first (log_of c t s) ≤ voter_changes first (stored server) + 1 = subst (λ (q : ℕ). HasChanges first c (stored q)) same (has member x) t s l in omega arith))
    (λ other. has member x)

-- where the log of a leader stays as it was
pub HasChanges-same_log : (first : Configuration) (c : Cluster) (term leader : ℕ) (new : Leadership) (stored : Log) → new.log ≡ log_of c term leader → Leads c term leader
    → HasChanges first c stored → HasChanges first (with_leadership c term leader new) stored
HasChanges-same_log first c term leader new stored same leads has t s l =
    with_leadership-each c term leader new (λ (q : Leadership). voter_changes first q.log ≤ voter_changes first stored + 1) t s
    (λ same_t same_s. subst (λ (x : Log). voter_changes first x ≤ voter_changes first stored + 1) (sym same) (has term leader leads)) (has t s l)

-- ---- members
-- who is left was a member
pub was_member : (member left : ℕ) (members : List ℕ) → In member (without left members) → In member members
was_member member left [] x = x
was_member member left (first ∷ rest) x = elim (cases_eq first left) [
  | inl same ↦ inr (was_member member left rest
      (subst (In member) (cond-true (nat_eq first left) (without left rest) (first ∷ without left rest) (grind (arith, nat_tests))) x))
  | inr other ↦ (
      let stays : In member (first ∷ without left rest) = subst (In member) (cond-false (nat_eq first left) (without left rest) (first ∷ without left rest) (grind (arith, nat_tests))) x in
      elim stays [ inl is ↦ inl is | inr later ↦ inr (was_member member left rest later) ])
]
