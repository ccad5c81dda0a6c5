-- Logs whose entries are those of leaders: their prefixes, and the logs of leaders. Log matching.
use Rattle.std.proofs.Common.{◌≡◌, ℕ, ◌∷◌, sym, subst, inl, inr, arith, length, []}
use Rattle.conf_change.specs.Configuration.{Configuration}
use Rattle.raft_safety.specs.Logs.{Log, IsPrefix, Entry}
use Rattle.raft_safety.specs.Cluster.{Cluster, Leads}
use Rattle.raft_safety.proofs.Invariants.{IsGrown, AreInvariants, log_of, IsFromLeaders}
use Rattle.raft_safety.proofs.Safety.OneLeader.{log_of-one_leader}
use Rattle.raft_safety.proofs.Safety.LedTerms.{leaders-are}
use Rattle.raft_safety.proofs.Logs.{IsPrefix-refl, IsPrefix-trans, IsPrefix-same_length}

IsFromLeaders-prefix : (c : Cluster) (a log : Log) → IsPrefix a log → IsFromLeaders c log → IsFromLeaders c a
IsFromLeaders-prefix c a [] p from = subst (IsFromLeaders c) (sym p) tt
IsFromLeaders-prefix c a (entry ∷ log) (inl p) from = subst (IsFromLeaders c) (sym p) from
IsFromLeaders-prefix c a (entry ∷ log) (inr p) from = IsFromLeaders-prefix c a log p from.1

-- a part of a leader's log that has grown from its request's
from_leaders_grown : (c : Cluster) (term leader : ℕ) (old log : Log) → Leads c term leader → IsFromLeaders c old → IsGrown term old log → IsPrefix log (log_of c term leader) → IsFromLeaders c log
from_leaders_grown c term leader old [] leads from g p = tt
from_leaders_grown c term leader old (entry ∷ log) leads from (inl same) p = subst (IsFromLeaders c) same from
from_leaders_grown c term leader old (entry ∷ log) leads from (inr more) p = (
  (leader, subst (λ (t : ℕ). Leads c t leader) (sym more.0) leads, subst (λ (t : ℕ). IsPrefix (entry ∷ log) (log_of c t leader)) (sym more.0) p),
  from_leaders_grown c term leader old log leads from more.1 (IsPrefix-trans log (entry ∷ log) (log_of c term leader) (inr (IsPrefix-refl log)) p),
)

pub IsFromLeaders-led : (first : Configuration) (c : Cluster) → AreInvariants first c → (term leader : ℕ) (log : Log) → Leads c term leader → IsPrefix log (log_of c term leader) → IsFromLeaders c log
IsFromLeaders-led first c i term leader log leads p =
    let known = leaders-are first c i term leader leads in
    IsFromLeaders-prefix c log (log_of c term leader) p
    (from_leaders_grown c term leader known.request.log (log_of c term leader) leads known.from_leaders known.grown (IsPrefix-refl (log_of c term leader)))

-- log matching
pub logs-match : (first : Configuration) (c : Cluster) → AreInvariants first c → (one other : Log) → IsFromLeaders c one → IsFromLeaders c other
    → (a b : Entry) (before_a before_b : Log) → IsPrefix (a ∷ before_a) one → IsPrefix (b ∷ before_b) other → length before_a ≡ length before_b → a.term ≡ b.term
    → a ∷ before_a ≡ b ∷ before_b
logs-match first c i one other from_one from_other a b before_a before_b p q same_place same_term =
    let its_a = (IsFromLeaders-prefix c (a ∷ before_a) one p from_one).0 in
    let its_b = (IsFromLeaders-prefix c (b ∷ before_b) other q from_other).0 in
    let leads_a : Leads c b.term its_a.0 = subst (λ (t : ℕ). Leads c t its_a.0) same_term its_a.1 in
    let here : IsPrefix (a ∷ before_a) (log_of c b.term its_a.0) = subst (λ (t : ℕ). IsPrefix (a ∷ before_a) (log_of c t its_a.0)) same_term its_a.2 in
    IsPrefix-same_length (a ∷ before_a) (b ∷ before_b) (log_of c b.term its_b.0)
    (log_of-one_leader first c i b.term its_a.0 its_b.0 (a ∷ before_a) leads_a its_b.1 here) its_b.2 (omega arith)
