-- What holds of the voters after logs: each quorum meets the quorums of the same voters, and of those that are one change
-- away.
use Rattle.std.proofs.Common.{◌≡◌, ℕ, ◌+◌, ◌≤◌, ◌<◌, ◌⊎◌, true, false, [], ◌∷◌, refl, sym, ap, subst, ◌∙◌, inl, inr, arith}
use Rattle.std.specs.Prelude.{Bool, Ok, Err, IsTrue, if◌then◌else◌}
use Rattle.std.proofs.lemmas.Bool.{cases_lt, cases_Bool, and_parts, and_from, or_left}
use Rattle.quorum_sets.specs.Ids.{Ids, no_ids}
use Rattle.std.specs.Result.{result_unwrap_or}
use Rattle.quorum_sets.specs.Voters.{Voters, AreNeighbours, is_quorum, pair}
use Rattle.quorum_sets.specs.Overlap.{QuorumsMeet}
use Rattle.quorum_sets.proofs.Offered.{QuorumsMeet-from_neighbours, QuorumsMeet-from_neighbours_back}
use Rattle.conf_change.specs.Configuration.{Configuration, voters_of, is_same_set}
use Rattle.conf_change.specs.Outcome.{Outcome, outcome}
use Rattle.conf_change.proofs.Offered.{outcome-are_neighbours, is_empty-no_ids, is_same_set-equal, is_same_set-refl}
use Rattle.conf_change.specs.declared.step.Step.{Step}
use Rattle.raft_safety.specs.Logs.{Payload, Command, ConfChange, Entry, Log, IsPrefix}
use Rattle.raft_safety.specs.Configurations.{configuration_after, voters_after, voter_changes, after_payload, are_same_voters, DoQuorumsMeet, IsOneChangeBeyond}
use Rattle.raft_safety.proofs.Logs.{IsPrefix-refl}

-- ---- the voters after an entry: as before, or neighbours of those
-- an entry that leaves the voters as they are
abbrev pub IsIdle : Configuration → Entry → Log → Type 0
IsIdle first entry log = (voter_changes first (entry ∷ log) ≡ voter_changes first log) × (voters_after first (entry ∷ log) ≡ voters_after first log)

-- an entry that changes the voters
abbrev pub IsChange : Configuration → Entry → Log → Type 0
IsChange first entry log = (voter_changes first (entry ∷ log) ≡ voter_changes first log + 1) × AreNeighbours (voters_after first log) (voters_after first (entry ∷ log))

same_voters : (a b : Voters) → are_same_voters a b ≡ true → a ≡ b
same_voters a b same = grind (arith, and_parts, is_same_set-equal)

outcome_cases : (before : Configuration) (step : Step) (o : Outcome) → outcome before step ≡ o
    → (result_unwrap_or o before ≡ before) ⊎ AreNeighbours (voters_of before) (voters_of (result_unwrap_or o before))
outcome_cases before step (Ok after) is = inr (outcome-are_neighbours before after step is)
outcome_cases before step (Err why) is = inl refl

payload_cases : (before : Configuration) (payload : Payload) → (after_payload before payload ≡ before) ⊎ AreNeighbours (voters_of before) (voters_of (after_payload before payload))
payload_cases before (Command bytes) = inl refl
payload_cases before (ConfChange step) = outcome_cases before step (outcome before step) refl

same_voters_refl : (a : Voters) → are_same_voters a a ≡ true
same_voters_refl a = and_from (is_same_set a.incoming a.incoming) (is_same_set a.outgoing a.outgoing) (is_same_set-refl a.incoming) (is_same_set-refl a.outgoing)

counted_none : (same : Bool) (n : ℕ) → same ≡ true → (if same then 0 else 1) + n ≡ n
counted_none true n e = omega arith
counted_none false n e = absurd cc

counted_one : (same : Bool) (n : ℕ) → same ≡ false → (if same then 0 else 1) + n ≡ n + 1
counted_one true n e = absurd cc
counted_one false n e = omega arith

-- an entry that leaves the voters as they are does not count
pub voter_changes-none : (first : Configuration) (entry : Entry) (log : Log) → voters_after first (entry ∷ log) ≡ voters_after first log
    → voter_changes first (entry ∷ log) ≡ voter_changes first log
unfolding voter_changes
voter_changes-none first entry log same = grind (arith, counted_none, same_voters_refl)

-- the only cases of an entry
entry-cases : (first : Configuration) (entry : Entry) (log : Log) → IsIdle first entry log ⊎ IsChange first entry log
unfolding configuration_after voters_after voter_changes
entry-cases first entry log = grind (arith, voter_changes-none, cases_Bool, same_voters, payload_cases, counted_one)

-- ---- changes in a prefix
pub voter_changes-prefix : (first : Configuration) (a log : Log) → IsPrefix a log → voter_changes first a ≤ voter_changes first log
voter_changes-prefix first a [] p = let e : voter_changes first a ≡ voter_changes first [] = ap (voter_changes first) p in omega arith
voter_changes-prefix first a (entry ∷ log) (inl p) = let e : voter_changes first a ≡ voter_changes first (entry ∷ log) = ap (voter_changes first) p in omega arith
voter_changes-prefix first a (entry ∷ log) (inr p) = grind (arith, entry-cases, voter_changes-prefix first a log p)

-- with as many changes, the voters are the same
pub voters_after-same : (first : Configuration) (a log : Log) → IsPrefix a log → voter_changes first log ≤ voter_changes first a
    → voters_after first log ≡ voters_after first a
voters_after-same first a [] p few = ap (voters_after first) (sym p)
voters_after-same first a (entry ∷ log) (inl p) few = ap (voters_after first) (sym p)
voters_after-same first a (entry ∷ log) (inr p) few =
    let h : voter_changes first a ≤ voter_changes first log = voter_changes-prefix first a log p in
    elim (entry-cases first entry log) [
      | inl idle ↦ (let e : voter_changes first (entry ∷ log) ≡ voter_changes first log = idle.0 in
          idle.1 ∙ voters_after-same first a log p (omega arith))
      | inr step ↦ (let e : voter_changes first (entry ∷ log) ≡ voter_changes first log + 1 = step.0 in absurd (omega arith))
    ]

none_in_empty : (first : Configuration) → voter_changes first [] ≡ 0
unfolding voter_changes
none_in_empty first = refl

-- the entry with the change of this number, counted from 0
pub change-numbered : (first : Configuration) (n : ℕ) (log : Log) → n < voter_changes first log
    → (entry : Entry) × (before : Log) × IsPrefix (entry ∷ before) log × (voter_changes first (entry ∷ before) ≡ n + 1) × (voter_changes first before ≡ n)
change-numbered first n [] few = let e = none_in_empty first in absurd (omega arith)
change-numbered first n (entry ∷ log) few = elim (entry-cases first entry log) [
  | inl idle ↦ (let e : voter_changes first (entry ∷ log) ≡ voter_changes first log = idle.0 in
      let found = change-numbered first n log (omega arith) in (found.0, found.1, inr found.2, found.3, found.4))
  | inr step ↦ (let e : voter_changes first (entry ∷ log) ≡ voter_changes first log + 1 = step.0 in
      elim (cases_lt n (voter_changes first log)) [
        | inl less ↦ (let found = change-numbered first n log less in (found.0, found.1, inr found.2, found.3, found.4))
        | inr last ↦ (entry, log, IsPrefix-refl (entry ∷ log), omega arith, omega arith)
      ])
]

-- ---- quorums of the same voters meet
-- a quorum of a pair is one of its incoming half
incoming_quorum : (voters : Voters) (ids : Ids) → IsTrue (is_quorum voters ids) → IsTrue (is_quorum (pair voters.incoming no_ids) ids)
incoming_quorum voters ids quorum = grind (arith, and_from, and_parts, or_left, is_empty-no_ids)

QuorumsMeet-self : (voters : Voters) → QuorumsMeet voters voters
QuorumsMeet-self voters first second quorums =
    let single = pair voters.incoming no_ids in
    QuorumsMeet-from_neighbours voters single (inr (inr (record { after_single = refl; incoming = refl }))) first second
    (record { quorum_before = quorums.quorum_before; quorum_after = incoming_quorum voters second quorums.quorum_after })

-- ---- quorums of voters that are one change apart meet
-- the quorums of two logs meet, both ways
pub record DoMeet (first : Configuration) (one other : Log) : Type 0 where
  pub forth : DoQuorumsMeet first one other
  pub back : DoQuorumsMeet first other one

same_meet : (first : Configuration) (one other : Log) → voters_after first one ≡ voters_after first other → DoMeet first one other
same_meet first one other same =
    let v = voters_after first one in
    record {
      forth = subst (λ (w : Voters). QuorumsMeet v w) same (QuorumsMeet-self v);
      back = subst (λ (w : Voters). QuorumsMeet w v) same (QuorumsMeet-self v);
    }

-- if at most one change of the voters in a log is beyond its prefix, their quorums meet
pub DoMeet-one_change : (first : Configuration) (a log : Log) → IsPrefix a log → IsOneChangeBeyond first log a → DoMeet first a log
DoMeet-one_change first a [] p few = same_meet first a [] (ap (voters_after first) p)
DoMeet-one_change first a (entry ∷ log) (inl p) few = same_meet first a (entry ∷ log) (ap (voters_after first) p)
DoMeet-one_change first a (entry ∷ log) (inr p) few = elim (entry-cases first entry log) [
  | inl idle ↦ (let e : voter_changes first (entry ∷ log) ≡ voter_changes first log = idle.0 in
      let meet = DoMeet-one_change first a log p (omega arith) in
      let before = voters_after first a in
      record {
        forth = subst (QuorumsMeet before) (sym idle.1) meet.forth;
        back = subst (λ (w : Voters). QuorumsMeet w before) (sym idle.1) meet.back;
      })
  | inr step ↦ (let e : voter_changes first (entry ∷ log) ≡ voter_changes first log + 1 = step.0 in
      let same : voters_after first log ≡ voters_after first a = voters_after-same first a log p (omega arith) in
      let after = voters_after first (entry ∷ log) in
      let before = voters_after first log in
      record {
        forth = subst (λ (w : Voters). QuorumsMeet w after) same (QuorumsMeet-from_neighbours before after step.1);
        back = subst (QuorumsMeet after) same (QuorumsMeet-from_neighbours_back before after step.1);
      })
]

-- an entry adds at most one
pub voter_changes-entry : (first : Configuration) (entry : Entry) (log : Log) → voter_changes first (entry ∷ log) ≤ voter_changes first log + 1
voter_changes-entry first entry log = grind (arith, entry-cases)
