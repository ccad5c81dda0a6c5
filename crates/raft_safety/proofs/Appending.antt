-- What a server's log is after an append.
use Rattle.std.proofs.Common.{◌≡◌, ℕ, ◌+◌, ◌≤◌, ◌<◌, [], ◌∷◌, refl, sym, ap, subst, ◌∙◌, inl, inr, arith, length, ◌++◌, length-append}
use Rattle.conf_change.specs.Configuration.{Configuration}
use Rattle.raft_safety.specs.Logs.{Log, IsPrefix, Entry}
use Rattle.raft_safety.specs.Cluster.{Cluster, Leads}
use Rattle.raft_safety.proofs.Invariants.{AreInvariants, log_of, IsFromLeaders}
use Rattle.std.specs.Prelude.{nat_eq}
use Rattle.std.proofs.lemmas.Bool.{cases_eq, cond-true, cond-false}
use Rattle.std.proofs.lemmas.Bool.Decides.{nat_tests}
use Rattle.raft_safety.specs.Steps.{IsLogAfter}
use Rattle.raft_safety.specs.Appending.{upto, term_at, with_entry, with_entries}
use Rattle.raft_safety.proofs.Safety.LedTerms.{led_terms-positive}
use Rattle.raft_safety.proofs.FromLeaders.{IsFromLeaders-led, logs-match}
use Rattle.raft_safety.proofs.Logs.{IsPrefix-refl, IsPrefix-trans, IsPrefix-length}

pub upto-prefix : (a log : Log) → IsPrefix a log → upto log (length a) ≡ a
upto-prefix a [] p = sym p
upto-prefix a (entry ∷ log) (inl p) = grind (arith, cond-true, nat_tests)
upto-prefix a (entry ∷ log) (inr p) = grind (arith, IsPrefix-length, cond-false, nat_tests, upto-prefix a log p)

term_at_prefix : (entry : Entry) (before log : Log) → IsPrefix (entry ∷ before) log → term_at log (length before + 1) ≡ entry.term
term_at_prefix entry before [] p = absurd cc
term_at_prefix entry before (newest ∷ log) (inl p) = grind (arith, cond-true, nat_tests)
term_at_prefix entry before (newest ∷ log) (inr p) =
    let h : length (entry ∷ before) ≤ length log = IsPrefix-length (entry ∷ before) log p in
    cond-false (nat_eq (length before + 1) (length (newest ∷ log))) newest.term (term_at log (length before + 1)) (grind (arith, nat_tests)) ∙ term_at_prefix entry before log p

-- a place whose term is not 0 has an entry
pub entry-found : (log : Log) (index : ℕ) → 0 < term_at log (index + 1) → (entry : Entry) × (before : Log) × IsPrefix (entry ∷ before) log × (length before ≡ index) × (entry.term ≡ term_at log (index + 1))
entry-found [] index some = absurd (omega arith)
entry-found (newest ∷ log) index some = elim (cases_eq (index + 1) (length (newest ∷ log))) [
  | inl last ↦ (newest, log, inl refl, (omega arith), sym (cond-true (nat_eq (index + 1) (length (newest ∷ log))) newest.term (term_at log (index + 1)) (grind (arith, nat_tests))))
  | inr other ↦ (
      let e : term_at (newest ∷ log) (index + 1) ≡ term_at log (index + 1) =
      cond-false (nat_eq (index + 1) (length (newest ∷ log))) newest.term (term_at log (index + 1)) (grind (arith, nat_tests)) in
      let found = entry-found log index (omega arith) in
      (found.0, found.1, inr found.2, found.3, found.4 ∙ sym e))
]

-- past the end there is none
term_at_past : (log : Log) (index : ℕ) → length log < index → term_at log index ≡ 0
term_at_past [] index past = refl
term_at_past (entry ∷ log) index past = grind (arith, cond-false, nat_tests, term_at_past log index (omega arith))

-- was if it began with these too, else it is the leader's up to there
pub entries-taken : (first : Configuration) (c : Cluster) → AreInvariants first c → (term leader : ℕ) → Leads c term leader → (log : Log) → IsFromLeaders c log
    → (start entries : Log) → IsPrefix start log → IsPrefix (entries ++ start) (log_of c term leader)
    → IsLogAfter log (entries ++ start) (with_entries log (length start) entries)
entries-taken first c i term leader leads log from start [] begins of = inl (begins, refl)
entries-taken first c i term leader leads log from start (entry ∷ entries) begins of =
    let sent : Log = entries ++ start in
    let r : Log = with_entries log (length start) entries in
    let older : IsPrefix sent (log_of c term leader) = IsPrefix-trans sent (entry ∷ sent) (log_of c term leader) (inr (IsPrefix-refl sent)) of in
    let place : length sent ≡ length entries + length start = length-append entries start in
    let at : length start + length entries ≡ length sent = omega arith in
    let from_L : IsFromLeaders c (entry ∷ sent) = IsFromLeaders-led first c i term leader (entry ∷ sent) leads of in
    let positive : 0 < entry.term = led_terms-positive first c i entry.term from_L.0.0 from_L.0.1 in
    elim (entries-taken first c i term leader leads log from start entries begins older) [
      | inl keeps ↦ elim (cases_eq (term_at log (length sent + 1)) entry.term) [
        | inl same ↦ (
            let found = entry-found log (length sent) (omega arith) in
            let match : found.0 ∷ found.1 ≡ entry ∷ sent = logs-match first c i log (entry ∷ sent) from from_L found.0 entry found.1 sent found.2 (IsPrefix-refl (entry ∷ sent)) found.3 (found.4 ∙ same) in
            inl (
              subst (λ (x : Log). IsPrefix x log) match found.2,
              ap (λ (n : ℕ). with_entry r n entry) at ∙ ap (λ (x : Log). with_entry x (length sent) entry) keeps.1
                  ∙ cond-true (nat_eq (term_at log (length sent + 1)) entry.term) log (entry ∷ upto log (length sent)) (grind (arith, nat_tests)),
            ))
        | inr differs ↦ inr (
          λ p. differs (term_at_prefix entry sent log p),
          ap (λ (n : ℕ). with_entry r n entry) at ∙ ap (λ (x : Log). with_entry x (length sent) entry) keeps.1
              ∙ cond-false (nat_eq (term_at log (length sent + 1)) entry.term) log (entry ∷ upto log (length sent)) (grind (arith, nat_tests))
              ∙ ap (λ (x : Log). entry ∷ x) (upto-prefix sent log keeps.0),
        )
      ]
      | inr takes ↦ (
          let past : term_at sent (length sent + 1) ≡ 0 = term_at_past sent (length sent + 1) (omega arith) in
          inr (
            λ p. takes.0 (IsPrefix-trans sent (entry ∷ sent) log (inr (IsPrefix-refl sent)) p),
            ap (λ (n : ℕ). with_entry r n entry) at ∙ ap (λ (x : Log). with_entry x (length sent) entry) takes.1
                ∙ cond-false (nat_eq (term_at sent (length sent + 1)) entry.term) sent (entry ∷ upto sent (length sent)) (grind (arith, nat_tests))
                ∙ ap (λ (x : Log). entry ∷ x) (upto-prefix sent sent (IsPrefix-refl sent)),
          ))
    ]
