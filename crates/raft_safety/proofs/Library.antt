-- What the library counts and changes is what the rules speak of.
use Rattle.std.proofs.Common.{◌≡◌, ℕ, ◌≤◌, Bool, true, false, cond, ◌==◌, List, [], ◌∷◌, ◌++◌, eq-eqb, refl, arith}
use Rattle.std.specs.Prelude.{Ok, Err, count_by, nat_le}
use Rattle.std.specs.Result.{result_unwrap_or}
use Rattle.std.specs.List.{list_any}
use Rattle.std.proofs.lemmas.Bool.{or_left, or_right, ltb-true, lt-ltb, leb-true}
use Rattle.std.proofs.lemmas.Bool.Decides.{nat_tests}
use Rattle.std.proofs.lemmas.List.Folds.{list_any-append}
use Rattle.std.proofs.lemmas.List.Sums.{sum_by-cons}
use Rattle.quorum_sets.specs.Ids.{Ids, has, ascending, ids_where, is_empty, majority_passes}
use Rattle.quorum_sets.specs.Voters.{Voters}
use Rattle.quorum_sets.specs.Committed.{Acks, IsCommitted, acked_index, committed_index, joint_committed_index}
use Rattle.quorum_sets.specs.Votes.{Votes, is_yes, joint_vote_result}
use Rattle.quorum_sets.specs.declared.voting.VoteResult.TheVariants.{VoteWon}
use Rattle.quorum_sets.proofs.Offered.{has-ascending, has-ids_where}
use Rattle.conf_change.specs.Configuration.{Configuration}
use Rattle.conf_change.specs.Outcome.{Outcome, outcome}
use Rattle.conf_change.specs.Changer.{ChangerState, moved_by}
use Rattle.conf_change.specs.declared.step.Step.{Step}
use Rattle.raft_safety.specs.Logs.{Payload, Command, ConfChange, Log}
use Rattle.raft_safety.specs.Configurations.{configuration_after, after_payload, voters_after, IsQuorumAfter}
use Rattle.raft_safety.specs.Library.{HasQuorum, changer_after_payload, changer_after_log}

-- ---- counts
count_by-mono : (p q : ℕ → Bool) (xs : List ℕ) → ((x : ℕ) → list_any (λ y. x == y) xs ≡ true → p x ≡ true → q x ≡ true) → count_by p xs ≤ count_by q xs
count_by-mono p q [] passes = omega arith
count_by-mono p q (x ∷ xs) passes =
    let rest = count_by-mono p q xs (λ y here. passes y (or_right (y == x) _ here)) in
    let head = passes x (or_left (x == x) _ (eq-eqb x x refl)) in
    grind (arith, head, rest, sum_by-cons (λ y. cond (p y) 1 0) x xs, sum_by-cons (λ y. cond (q y) 1 0) x xs)

majority_passes-mono : (p q : ℕ → Bool) (ids : Ids) → ((x : ℕ) → has ids x ≡ true → p x ≡ true → q x ≡ true) → majority_passes p ids ≡ true → majority_passes q ids ≡ true
majority_passes-mono p q ids passes most = grind (arith, lt-ltb, ltb-true, count_by-mono, has-ascending)

-- the voters that pass are a quorum where most of each set do
HasQuorum-passing : (first : Configuration) (log : Log) (p : ℕ → Bool) → majority_passes p (voters_after first log).incoming ≡ true
    → (is_empty (voters_after first log).outgoing ≡ false → majority_passes p (voters_after first log).outgoing ≡ true) → HasQuorum first log (λ id. p id ≡ true)
unfolding IsQuorumAfter
HasQuorum-passing first log p most_in most_out =
    let voters : Voters = voters_after first log in
    let all : List ℕ = ascending voters.incoming ++ ascending voters.outgoing in
    let passing : Ids = ids_where p all in
    let of_incoming = majority_passes-mono p (has passing) voters.incoming (λ x here is. grind (arith, here, is, has-ids_where p all x, list_any-append (λ y. x == y) (ascending voters.incoming) (ascending voters.outgoing), has-ascending voters.incoming x)) most_in in
    let of_outgoing : is_empty voters.outgoing ≡ false → majority_passes (has passing) voters.outgoing ≡ true = λ some. majority_passes-mono p (has passing) voters.outgoing (λ x here is. grind (arith, here, is, has-ids_where p all x, list_any-append (λ y. x == y) (ascending voters.incoming) (ascending voters.outgoing), has-ascending voters.outgoing x)) (most_out some) in
    (passing, grind (arith, of_incoming, of_outgoing), λ id here. grind (arith, here, has-ids_where p all id))

pub HasQuorum-won : (first : Configuration) (log : Log) (votes : Votes) → is_empty (voters_after first log).incoming ≡ false → joint_vote_result (voters_after first log) votes ≡ VoteWon
    → HasQuorum first log (λ id. is_yes votes id ≡ true)
HasQuorum-won first log votes some won =
    HasQuorum-passing first log (is_yes votes) (grind (arith, won, some)) (λ some_out. grind (arith, won, some_out))

-- more than half of a set have acknowledged what it has committed
acknowledged : (ids : Ids) (acks : Acks) (index : ℕ) → IsCommitted ids acks (committed_index ids acks) → index ≤ committed_index ids acks → is_empty ids ≡ false
    → majority_passes (λ id. nat_le index (acked_index acks id)) ids ≡ true
acknowledged ids acks index fits low some = grind (arith, majority_passes-mono, nat_tests)

pub HasQuorum-committed : ((ids : Ids) (acks : Acks) → IsCommitted ids acks (committed_index ids acks)) → (first : Configuration) (log : Log) (acks : Acks) (index : ℕ)
    → is_empty (voters_after first log).incoming ≡ false → index ≤ joint_committed_index (voters_after first log) acks → HasQuorum first log (λ id. index ≤ acked_index acks id)
HasQuorum-committed fits first log acks index some low =
    let voters : Voters = voters_after first log in
    let found = HasQuorum-passing first log (λ id. nat_le index (acked_index acks id))
    (acknowledged voters.incoming acks index (fits voters.incoming acks) (omega arith) some)
    (λ some_out. acknowledged voters.outgoing acks index (fits voters.outgoing acks) (omega arith) some_out) in
    (found.0, found.1, λ id here. leb-true _ _ (found.2 id here))

-- ---- changers
config_after_step : (before : ChangerState) (step : Step) (out : Outcome) → (result_unwrap_or (moved_by before step out) before).tracker.config ≡ result_unwrap_or out before.tracker.config
config_after_step before step (Ok after) = refl
config_after_step before step (Err why) = refl

config_after_payload : (before : ChangerState) (payload : Payload) → (changer_after_payload before payload).tracker.config ≡ after_payload before.tracker.config payload
config_after_payload before (Command bytes) = refl
config_after_payload before (ConfChange step) = config_after_step before step (outcome before.tracker.config step)

pub config_after_log : (before : ChangerState) (log : Log) → (changer_after_log before log).tracker.config ≡ configuration_after before.tracker.config log
unfolding configuration_after
config_after_log before [] = refl
config_after_log before (entry ∷ log) = grind (arith, config_after_payload, config_after_log before log)
