-- More than half and more than half have something in common: in one set, and across two sets that differ in one id.
use Rattle.std.proofs.Common.{◌≡◌, ℕ, ◌≤◌, Bool, true, false, not, ◌&&◌, sym, ap, ◌∙◌, arith, inl, inr}
use Rattle.std.specs.Prelude.{count_by, nat_le}
use Rattle.std.proofs.lemmas.Bool.{cases_lt, and_parts, ltb-true, leb-true}
use Rattle.std.proofs.lemmas.Bool.Decides.{nat_tests}
use Rattle.std.proofs.lemmas.List.Sums.{count_by-le-length}
use Rattle.quorum_sets.specs.Ids.{Ids, has, ascending, majority_passes, is_empty, difference_count}
use Rattle.quorum_sets.specs.Voters.{Voters, AreNeighbours}
use Rattle.quorum_sets.specs.Committed.{Acks, acked_index, committed_index}
use Rattle.quorum_sets.specs.Votes.{Votes, is_yes}
use Rattle.quorum_sets.specs.Overlap.{QuorumsMeet, CommitsAndWins, CommittedMeetsWon}
use Rattle.quorum_sets.proofs.Quorums.Counts.{count_by-le, count_by-both, count_by-filter, counted_item, most-mono, passes_in, passes_in-from}
use Rattle.quorum_sets.proofs.IdSets.Difference.{kept-is_common, count_of-rest, count_of-common, difference_count-same}
use Rattle.quorum_sets.proofs.Quorums.CommittedIndex.{IsCommitted-committed_index}

-- an item passes both tests
abbrev Shared : (ℕ → Bool) → (ℕ → Bool) → Type 0
Shared p q = (x : ℕ) × (p x ≡ true) × (q x ≡ true)

-- the sets differ in at most one id, and more than half of each pass
meet : (p q : ℕ → Bool) (a b : Ids) → difference_count a b ≤ 1 → majority_passes p a ≡ true → majority_passes q b ≡ true → Shared p q
meet p q a b few most_p most_q =
    let in_both : ℕ → Bool = λ x. has b x && q x in
    -- what passes q in b is in a too, or only in b
    let q_in_b = count_by-le q (λ x. has a x && q x) (λ x. not (has a x)) (ascending b) (λ x here passes. grind (arith, passes)) in
    let common = sym (count_by-filter q (has a) (ascending b)) ∙ ap (count_by q) (sym (kept-is_common a b)) ∙ count_by-filter q (has b) (ascending a) in
    let p_in_a = count_by-le p (λ x. not (in_both x)) (λ x. p x && q x) (ascending a) (λ x here passes. grind (arith, passes)) in
    elim (cases_lt 0 (count_by (λ x. p x && q x) (ascending a))) [
      | inl some ↦ let found = counted_item (λ x. p x && q x) (ascending a) some in let parts = and_parts (p found.0) (q found.0) found.1 in (found.0, parts.0, parts.1)
      | inr none ↦ absurd (omega (arith, q_in_b, common, p_in_a, count_by-both in_both (ascending a), count_of-rest a b, count_of-rest b a, count_of-common a b, ltb-true _ _ most_p, ltb-true _ _ most_q))
    ]

meet_in_one : (p q : ℕ → Bool) (ids : Ids) → majority_passes p ids ≡ true → majority_passes q ids ≡ true → Shared p q
meet_in_one p q ids = meet p q ids ids (omega (arith, difference_count-same ids))

-- ---- across neighbours
-- where more than half pass, there is some id
some_id : (p : ℕ → Bool) (ids : Ids) → majority_passes p ids ≡ true → is_empty ids ≡ false
some_id p ids passes = grind (arith, nat_tests, passes, count_by-le-length p (ascending ids))

neighbours_meet : (before after : Voters) → AreNeighbours before after → (p q : ℕ → Bool) → passes_in before p ≡ true → passes_in after q ≡ true → Shared p q
neighbours_meet before after (inl differ) p q first second = meet p q before.incoming after.incoming differ.one_at_most (and_parts _ _ first).0 (and_parts _ _ second).0
neighbours_meet before after (inr (inl joint)) p q first second = grind (arith, and_parts, meet_in_one, some_id)
neighbours_meet before after (inr (inr left)) p q first second = grind (arith, meet_in_one, and_parts)

-- ---- the laws
pub QuorumsMeet-from_neighbours_back : (before after : Voters) → AreNeighbours before after → QuorumsMeet after before
QuorumsMeet-from_neighbours_back before after neighbours first second quorums = grind (arith, neighbours_meet)

pub QuorumsMeet-from_neighbours : (before after : Voters) → AreNeighbours before after → QuorumsMeet before after
QuorumsMeet-from_neighbours before after neighbours first second quorums = grind (arith, neighbours_meet)

-- a majority has acknowledged what is committed
acknowledged : (ids : Ids) (acks : Acks) (index : ℕ) → index ≤ committed_index ids acks → is_empty ids ≡ false → majority_passes (λ id. nat_le index (acked_index acks id)) ids ≡ true
acknowledged ids acks index low some_voter =
    most-mono _ _ (ascending ids) (λ id here enough. grind (arith, nat_tests, enough, low)) ((IsCommitted-committed_index ids acks).reached some_voter)

commits_in : (one other : Voters) (acks : Acks) (votes : Votes) (index : ℕ) → CommitsAndWins one other acks votes index → passes_in one (λ id. nat_le index (acked_index acks id)) ≡ true
commits_in one other acks votes index both_hold =
    let low = both_hold.committed in
    passes_in-from one _ (acknowledged one.incoming acks index (omega arith) both_hold.one_has_voters) (acknowledged one.outgoing acks index (omega arith))

wins_in : (one other : Voters) (acks : Acks) (votes : Votes) (index : ℕ) → CommitsAndWins one other acks votes index → passes_in other (is_yes votes) ≡ true
wins_in one other acks votes index both_hold = let won = both_hold.won in let some = both_hold.other_has_voters in grind (arith, won, some)

pub CommittedMeetsWon-from_neighbours : (before after : Voters) → AreNeighbours before after → CommittedMeetsWon before after
CommittedMeetsWon-from_neighbours before after neighbours acks votes index both_hold =
    let found = neighbours_meet before after neighbours (λ id. nat_le index (acked_index acks id)) (is_yes votes) (commits_in before after acks votes index both_hold) (wins_in before after acks votes index both_hold) in
    (found.0, record { acknowledged = leb-true _ _ found.1; voted = found.2 })

pub CommittedMeetsWon-from_neighbours_back : (before after : Voters) → AreNeighbours before after → CommittedMeetsWon after before
CommittedMeetsWon-from_neighbours_back before after neighbours acks votes index both_hold =
    let found = neighbours_meet before after neighbours (is_yes votes) (λ id. nat_le index (acked_index acks id)) (wins_in after before acks votes index both_hold) (commits_in after before acks votes index both_hold) in
    (found.0, record { acknowledged = leb-true _ _ found.2; voted = found.1 })
