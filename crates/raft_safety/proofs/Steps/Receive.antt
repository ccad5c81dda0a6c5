-- The step Receive keeps the invariants.
use Rattle.std.proofs.Common.{◌≡◌, ℕ, ◌∷◌, ◌+◌, ◌≤◌, sym, ap, subst, ◌∙◌, inl, inr, arith}
use Rattle.std.proofs.lemmas.Bool.{cases_lt}
use Rattle.conf_change.specs.Configuration.{Configuration}
use Rattle.raft_safety.specs.Logs.{Log, IsPrefix, last_term, longer}
use Rattle.raft_safety.specs.Cluster.{Election, Acknowledgement, Cluster, In, Leads, Server}
use Rattle.raft_safety.proofs.Invariants.{IsKnown, AreInvariants, log_of, IsServer, IsFromLeaders, IsAcknowledged}
use Rattle.raft_safety.specs.Steps.{after_action, Receive, MayReceive}
use Rattle.raft_safety.proofs.Updates.{with_value-here, with_value-each}
use Rattle.raft_safety.proofs.Steps.OneServer.{Follows-server}
use Rattle.raft_safety.proofs.Growth.{Follows, IsFromLeaders-later, IsKnown-follows, IsKept-back, IsServer-later, IsRequest-later, IsElectedWith-later, IsVote-later, IsCommitment-later, voters_keep-later, IsKnown-prefix}
use Rattle.raft_safety.proofs.Safety.OneLeader.{log_of-one_leader}
use Rattle.raft_safety.proofs.Safety.KnownCommitted.{IsKnown-in_leader}
use Rattle.raft_safety.proofs.Safety.LedTerms.{last_term-led, last_term-acknowledged}
use Rattle.raft_safety.proofs.FromLeaders.{IsFromLeaders-led}
use Rattle.raft_safety.proofs.Logs.{IsPrefix-trans, IsPrefix-compare, longer-each}

pub receive-keeps : (first : Configuration) (c : Cluster) (server term leader : ℕ) (sent known after : Log) → MayReceive c server term leader sent known after
    → AreInvariants first c → AreInvariants first (after_action c (Receive server term leader sent known after))
receive-keeps first c server term leader sent known after may i =
    let old : Server = c.servers server in
    let new : Server = record { term = term; log = after; committed = longer old.committed known } in
    let d : Cluster = after_action c (Receive server term leader sent known after) in
    let was : IsServer c old = i.servers server in
    let order : old.term ≤ term = may.not_past in
    let L : Log = log_of c term leader in
    let el : Election = may.leads.0 in
    let its_known : IsKnown c (term + 1) (c.leaderships term leader).committed =
    subst (λ (s : ℕ). IsKnown c (term + 1) (c.leaderships term s).committed) may.leads.3
    (subst (λ (t : ℕ). IsKnown c (t + 1) (c.leaderships t el.request.candidate).committed) may.leads.2 (i.elections el may.leads.1).known) in
    let known_in : IsPrefix known L = IsPrefix-trans known sent L may.known_of may.sent_of in
    let old_in : IsPrefix old.committed L = IsKnown-in_leader first c i term leader (old.term + 1) old.committed may.leads was.known (omega arith) in
    let f : Follows c d = Follows-server c server new c.votes c.requests (record { term = term; server = server; log = sent } ∷ c.acknowledgements) order (λ v x. x) (λ r x. x) (λ a x. inr x) in
    let new_known : IsKnown d (term + 1) new.committed = longer-each (IsKnown d (term + 1)) old.committed known
    (λ less. IsKnown-follows c d f (term + 1) (term + 1) (omega arith) known (IsKnown-prefix c (term + 1) known (c.leaderships term leader).committed may.committed its_known))
    (λ not_less. IsKnown-follows c d f (old.term + 1) (term + 1) (omega arith) old.committed was.known) in
    let new_server : IsServer d new = elim may.taken [
      | inl keeps ↦ (
          let whole : IsPrefix known old.log = IsPrefix-trans known sent old.log may.known_of keeps.0 in
          record {
            from_leaders = IsFromLeaders-later c d f after (subst (IsFromLeaders c) (sym keeps.1) was.from_leaders);
            term = (let e : last_term after ≡ last_term old.log = ap last_term keeps.1 in let h : last_term old.log ≤ old.term = was.term in omega arith);
            stored = subst (IsPrefix new.committed) (sym keeps.1) (longer-each (λ (x : Log). IsPrefix x old.log) old.committed known (λ less. whole) (λ not_less. was.stored));
            known = new_known;
          })
      | inr takes ↦ record {
        from_leaders = IsFromLeaders-later c d f after (subst (IsFromLeaders c) (sym takes.1) (IsFromLeaders-led first c i term leader sent may.leads may.sent_of));
        term = (let e : last_term after ≡ last_term sent = ap last_term takes.1 in let h : last_term sent ≤ term = last_term-led first c i term leader sent may.leads may.sent_of in omega arith);
        stored = subst (IsPrefix new.committed) (sym takes.1) (longer-each (λ (x : Log). IsPrefix x sent) old.committed known (λ less. may.known_of)
            (λ not_less. elim (IsPrefix-compare old.committed sent L old_in may.sent_of) [
              | inl less ↦ less
              | inr more ↦ absurd (takes.0 (IsPrefix-trans sent old.committed old.log more was.stored))
            ]));
        known = new_known;
      }
    ] in
    let here : d.servers server ≡ new = with_value-here c.servers server new in
    record {
      servers = λ k. with_value-each (IsServer d) c.servers server new k (λ same. new_server)
          (λ other. IsServer-later c d f (c.servers k) (c.servers k).term (omega arith) (i.servers k));
      requests = λ a x. IsRequest-later first c d f a (i.requests a x);
      one_request = i.one_request;
      elections = λ e x. IsElectedWith-later first c d f e (c.leaderships e.request.term e.request.candidate) (i.elections e x);
      one_election = i.one_election;
      votes = λ v x. IsVote-later c d f v (i.votes v x);
      one_vote = i.one_vote;
      acknowledgements = λ a x. elim x [
        | inl is ↦ subst (IsAcknowledged d) (sym is) (record {
          led = (leader, may.leads, may.sent_of);
          term = (let e : (d.servers server).term ≡ term = ap (λ (q : Server). q.term) here in omega arith);
          kept = λ log p kept. subst (λ (q : Server). IsPrefix log q.log) (sym here) (elim may.taken [
            | inl keeps ↦ subst (IsPrefix log) (sym keeps.1) (IsPrefix-trans log sent old.log p keeps.0)
            | inr takes ↦ subst (IsPrefix log) (sym takes.1) p
          ]);
        })
        | inr in_c ↦ (
            let its = i.acknowledgements a in_c in
            let past : (log : Log) → IsPrefix log a.log → last_term log ≤ a.term = last_term-acknowledged first c i a in_c in
            let low : a.term ≤ (c.servers a.server).term = its.term in
            let rise : (c.servers a.server).term ≤ (d.servers a.server).term = f.terms a.server in
            record {
              led = its.led;
              term = omega arith;
              kept = λ log p kept.
                  let stored : IsPrefix log (c.servers a.server).log = its.kept log p
                  (IsKept-back c d f log a.term ((c.servers a.server).term + 1) ((d.servers a.server).term + 1) (past log p) (omega arith) kept) in
                  with_value-each (λ (q : Server). IsPrefix log q.log) c.servers server new a.server
                  (λ same. (
                  let stored_old : IsPrefix log old.log = subst (λ (k : ℕ). IsPrefix log (c.servers k).log) same stored in
                  let now_term : (d.servers a.server).term ≡ term = ap (λ (k : ℕ). (d.servers k).term) same ∙ ap (λ (q : Server). q.term) here in
                  let old_term : (c.servers a.server).term ≡ old.term = ap (λ (k : ℕ). (c.servers k).term) same in
                  elim may.taken [
                    | inl keeps ↦ subst (IsPrefix log) (sym keeps.1) stored_old
                    | inr takes ↦ (
                        let in_L : IsPrefix log L = elim (cases_lt a.term term) [
                          | inl less ↦ kept term leader less (omega arith) may.leads
                          | inr not_less ↦ (
                              let t : a.term ≡ term = omega arith in
                              log_of-one_leader first c i term its.led.0 leader log (subst (λ (q : ℕ). Leads c q its.led.0) t its.led.1) may.leads
                              (subst (λ (q : ℕ). IsPrefix log (log_of c q its.led.0)) t (IsPrefix-trans log a.log (log_of c a.term its.led.0) p its.led.2)))
                        ] in
                        subst (IsPrefix log) (sym takes.1) (elim (IsPrefix-compare log sent L in_L may.sent_of) [
                          | inl less ↦ less
                          | inr more ↦ absurd (takes.0 (IsPrefix-trans sent log old.log more stored_old))
                        ]))
                  ]))
                  (λ other. stored);
            })
      ];
      voters_keep = λ a voter low log in_a voted ack before own kept led.
          let old_ack : In (record { term = low; server = voter; log = ack.0 }) c.acknowledgements → IsPrefix log a.log = λ in_c.
          voters_keep-later c d f a voter low log i.voters_keep in_a voted (ack.0, in_c, ack.2) before own kept led in
          elim ack.1 [
            | inr in_c ↦ old_ack in_c
            | inl is ↦ (
                let t : low ≡ term = ap (λ (q : Acknowledgement). q.term) is in
                let s : voter ≡ server = ap (λ (q : Acknowledgement). q.server) is in
                let h : a.term ≤ (c.servers voter).term = (i.votes _ voted).term in
                let e : (c.servers voter).term ≡ old.term = ap (λ (k : ℕ). (c.servers k).term) s in
                absurd (omega arith))
          ];
      commitments = λ m x. IsCommitment-later first c d f m (i.commitments m x);
      counted_before = i.counted_before;
    }
