-- The terms in a log do not fall, and a candidate whose log is up to date has what the leaders before it kept.
use Rattle.std.proofs.Common.{◌≡◌, ℕ, ◌+◌, ◌≤◌, ◌<◌, [], ◌∷◌, length, sym, ap, subst, inl, inr, arith, zero, suc}
use Rattle.std.proofs.lemmas.Bool.{cases_lt}
use Rattle.raft_safety.specs.Logs.{Log, IsPrefix, last_term, IsUpToDate}
use Rattle.raft_safety.specs.Cluster.{VoteRequest, Cluster, Leads}
use Rattle.raft_safety.specs.Claims.{ElectionSafety}
use Rattle.raft_safety.proofs.Logs.{IsPrefix-refl, IsPrefix-compare, IsPrefix-length, IsPrefix-whole}
use Rattle.raft_safety.proofs.Invariants.{IsFromLeaders, IsGrown, DoTermsRise, IsKept}

-- what is needed of a leader: its log is that of its request, whose terms are past, and entries of its own term
pub record IsLeader (c : Cluster) (term leader : ℕ) : Type 0 where
  pub request : VoteRequest
  pub from_leaders : IsFromLeaders c request.log
  pub past : last_term request.log < term
  pub grown : IsGrown term request.log (c.leaderships term leader).log

-- this is known of each leader
abbrev pub AreLeaders : Cluster → Type 0
AreLeaders c = (term leader : ℕ) → Leads c term leader → IsLeader c term leader

DoTermsRise-prefix : (a log : Log) → IsPrefix a log → DoTermsRise log → DoTermsRise a
DoTermsRise-prefix a [] p rise = subst DoTermsRise (sym p) tt
DoTermsRise-prefix a (entry ∷ log) (inl p) rise = subst DoTermsRise (sym p) rise
DoTermsRise-prefix a (entry ∷ log) (inr p) rise = DoTermsRise-prefix a log p rise.1

-- where terms do not fall, the last one is the highest
pub last_term-prefix : (a log : Log) → IsPrefix a log → DoTermsRise log → last_term a ≤ last_term log
last_term-prefix a [] p rise = let e : last_term a ≡ last_term [] = ap last_term p in omega arith
last_term-prefix a (entry ∷ log) (inl p) rise = let e : last_term a ≡ entry.term = ap last_term p in omega arith
last_term-prefix a (entry ∷ log) (inr p) rise = grind (arith, last_term-prefix a log p rise.1)

-- entries of a later term after a log
pub last_term-grown : (term : ℕ) (old log : Log) → IsGrown term old log → last_term old < term → last_term log ≤ term
last_term-grown term old [] g past = omega arith
last_term-grown term old (entry ∷ log) (inl same) past = let e : last_term old ≡ entry.term = ap last_term same in omega arith
last_term-grown term old (entry ∷ log) (inr more) past = let e : entry.term ≡ term = more.0 in omega arith

rise_grown : (term : ℕ) (old log : Log) → IsGrown term old log → last_term old < term → DoTermsRise old → DoTermsRise log
rise_grown term old [] g past rise = tt
rise_grown term old (entry ∷ log) (inl same) past rise = subst DoTermsRise same rise
rise_grown term old (entry ∷ log) (inr more) past rise = grind (arith, last_term-grown, past, rise_grown term old log more.1 past rise)

-- logs whose last term is below a bound
rise_below : (bound : ℕ) (c : Cluster) → AreLeaders c → (log : Log) → last_term log < bound → IsFromLeaders c log → DoTermsRise log
rise_below zero c leaders log below from = absurd (omega arith)
rise_below (suc bound) c leaders [] below from = tt
rise_below (suc bound) c leaders (entry ∷ log) below from =
    let known = leaders entry.term from.0.0 from.0.1 in
    let past : last_term known.request.log < entry.term = known.past in
    let old : DoTermsRise known.request.log = rise_below bound c leaders known.request.log (omega arith) known.from_leaders in
    DoTermsRise-prefix (entry ∷ log) (c.leaderships entry.term from.0.0).log from.0.2
    (rise_grown entry.term known.request.log (c.leaderships entry.term from.0.0).log known.grown past old)

DoTermsRise-from_leaders : (c : Cluster) → AreLeaders c → (log : Log) → IsFromLeaders c log → DoTermsRise log
DoTermsRise-from_leaders c leaders log from = rise_below (last_term log + 1) c leaders log (omega arith) from

pub DoTermsRise-leader : (c : Cluster) → AreLeaders c → (term leader : ℕ) → Leads c term leader → DoTermsRise (c.leaderships term leader).log
DoTermsRise-leader c leaders term leader leads =
    let known = leaders term leader leads in
    rise_grown term known.request.log (c.leaderships term leader).log known.grown known.past (DoTermsRise-from_leaders c leaders known.request.log known.from_leaders)

-- let a log end in an entry of a term, be stored by a voter, and be kept by the leaders of all terms between
-- that one and the candidate's. If the candidate's log is at least as up to date as the voter's, it has that log too
pub IsPrefix-up_to_date : (c : Cluster) → AreLeaders c → ElectionSafety c → (candidate voter kept : Log) (term leader next : ℕ)
    → IsFromLeaders c candidate → IsFromLeaders c voter → IsUpToDate candidate voter → last_term candidate < next
    → Leads c term leader → IsPrefix kept (c.leaderships term leader).log → last_term kept ≡ term → 0 < term
    → IsPrefix kept voter → IsKept c kept term next → IsPrefix kept candidate
IsPrefix-up_to_date c leaders one [] voter kept term leader next from voter_from up past leads of own some stored keeps = grind (arith, DoTermsRise, DoTermsRise-from_leaders, last_term-prefix)
IsPrefix-up_to_date c leaders one (entry ∷ log) voter kept term leader next from voter_from up past leads of own some stored keeps =
    let rise : DoTermsRise voter = DoTermsRise-from_leaders c leaders voter voter_from in
    let high : last_term kept ≤ last_term voter = last_term-prefix kept voter stored rise in
    let its = from.0 in
    elim (cases_lt term entry.term) [
      | inl later ↦
          elim (IsPrefix-compare kept (entry ∷ log) (c.leaderships entry.term its.0).log (keeps entry.term its.0 later past its.1) its.2) [
            | inl has ↦ has
            | inr short ↦ (let low : entry.term ≤ last_term kept = last_term-prefix (entry ∷ log) kept short (DoTermsRise-prefix kept voter stored rise) in absurd (omega arith))
          ]
      | inr not_later ↦ elim up [
        | inl newer ↦ (let h : last_term voter < entry.term = newer in absurd (omega arith))
        | inr as_new ↦ (
            let same_term : entry.term ≡ term = (let h : entry.term ≡ last_term voter = as_new.0 in omega arith) in
            let its_leads : Leads c term its.0 = subst (λ (t : ℕ). Leads c t its.0) same_term its.1 in
            let here : IsPrefix (entry ∷ log) (c.leaderships term leader).log =
            subst (λ (s : ℕ). IsPrefix (entry ∷ log) (c.leaderships term s).log) (one term its.0 leader its_leads leads)
            (subst (λ (t : ℕ). IsPrefix (entry ∷ log) (c.leaderships t its.0).log) same_term its.2) in
            elim (IsPrefix-compare kept (entry ∷ log) (c.leaderships term leader).log of here) [
              | inl has ↦ has
              | inr short ↦ (
                  let l1 : length kept ≤ length voter = IsPrefix-length kept voter stored in
                  let l2 : length voter ≤ length (entry ∷ log) = as_new.1 in
                  let whole : entry ∷ log ≡ kept = IsPrefix-whole (entry ∷ log) kept short (omega arith) in
                  subst (IsPrefix kept) (sym whole) (IsPrefix-refl kept))
            ])
      ]
    ]
