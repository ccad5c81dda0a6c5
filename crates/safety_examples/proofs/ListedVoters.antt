-- Configurations whose voters are written as lists, and what steps of one change make of them: voters, quorums and changes of
-- the voters after a log are computed.
use Rattle.std.proofs.Common.{◌≡◌, ℕ, ◌+◌, ◌*◌, ◌≤◌, Bool, true, false, not, ◌&&◌, ◌||◌, ◌==◌, List, [], ◌∷◌, ◌++◌, map, length, refl, sym, ap, subst, subst₂, ◌∙◌, arith, nat_eq, nat_lt, true≢false, filter, Decides}
use Rattle.std.specs.Prelude.{Ok, nat_le, count_by, if◌then◌else◌}
use Rattle.std.specs.List.{list_any}
use Rattle.std.specs.Result.{result_unwrap_or}
use Rattle.std.specs.Ordering.{nat_cmp}
use Rattle.std.specs.FinMap as finite
use Rattle.std.specs.FinMap.{put}
use Rattle.std.proofs.lemmas.Bool.{and_parts}
use Rattle.std.proofs.lemmas.Bool.Decides.{nat_tests}
use Rattle.quorum_sets.specs.Ids.{Ids, no_ids, has, ids_of, ascending, is_empty, union, difference_count, majority_passes}
use Rattle.quorum_sets.specs.Voters.{is_quorum}
use Rattle.quorum_sets.proofs.Offered.{written_out, has-ids_of, has-ids_where, has-no_ids}
use Rattle.conf_change.specs.Configuration.{Configuration, voters_of, is_joint}
use Rattle.conf_change.specs.Change.{result_of}
use Rattle.conf_change.specs.Outcome.{outcome, after_leave}
use Rattle.conf_change.specs.declared.change.Change.{Change}
use Rattle.conf_change.specs.declared.change.Kind.{Kind}
use Rattle.conf_change.specs.declared.change.Kind.TheVariants.{Voter, Learner, Remove, Update}
use Rattle.conf_change.specs.declared.step.Step.TheVariants.{Simple, EnterJoint, LeaveJoint}
use Rattle.conf_change.proofs.Offered.{configuration-by_members, has-incoming_after, has-learners_after, has-next_after, last_effective-one, outcome-simple_accepted, outcome-enter_accepted, outcome-leave_accepted}
use Rattle.raft_safety.specs.Logs.{Payload, Command, ConfChange, Log}
use Rattle.raft_safety.specs.Configurations.{after_payload, configuration_after, voters_after, voter_changes, are_same_voters, IsQuorumAfter, IsOneChangeBeyond}
use Rattle.safety_examples.proofs.Decisions.{Decision, by_test, tells_at_most, at_most, number_is, like, undecided}

-- the incoming and the outgoing voters as lists, in any order
pub record Lists : Type 0 where
  pub incoming : List ℕ
  pub outgoing : List ℕ

-- the configuration with these voters, and without learners
abbrev pub with_sets : Ids → Ids → Configuration
with_sets incoming outgoing = record { incoming = incoming; outgoing = outgoing; learners = no_ids; learners_next = no_ids; auto_leave = false }

abbrev pub configuration_of : Lists → Configuration
configuration_of l = with_sets (ids_of l.incoming) (ids_of l.outgoing)

-- ---- the ids of a list in ascending order, each once
abbrev pub entries_of : List ℕ → List (ℕ × Unit {0})
entries_of [] = []
entries_of (x ∷ xs) = put nat_cmp x tt (entries_of xs)

abbrev pub listed : List ℕ → List ℕ
listed xs = map (λ e. e.0) (entries_of xs)

entries-listed : (xs : List ℕ) → finite.entries (ids_of xs) ≡ entries_of xs
entries-listed [] = simp written_out refl
entries-listed (x ∷ xs) = simp (written_out, entries-listed xs) refl

ascending-listed : (xs : List ℕ) → ascending (ids_of xs) ≡ listed xs
ascending-listed xs = ap (map (λ e. e.0)) (entries-listed xs)

abbrev pub has_listed : List ℕ → ℕ → Bool
has_listed xs id = list_any (λ x. id == x) xs

-- ---- what tests of sets compute to
abbrev pub no_listed : List ℕ → Bool
no_listed xs = nat_eq (length (listed xs)) 0

no-listed : (xs : List ℕ) → is_empty (ids_of xs) ≡ no_listed xs
no-listed xs = ap (λ l. nat_eq (length l) 0) (ascending-listed xs)

abbrev pub majority_listed : List ℕ → List ℕ → Bool
majority_listed votes xs = nat_lt (length (listed xs)) (2 * count_by (has_listed votes) (listed xs))

majority-listed : (votes xs : List ℕ) → majority_passes (has (ids_of votes)) (ids_of xs) ≡ majority_listed votes xs
majority-listed votes xs i = nat_lt (length (ascending-listed xs i)) (2 * count_by (λ id. has-ids_of votes id i) (ascending-listed xs i))

abbrev pub quorum_listed : Lists → List ℕ → Bool
quorum_listed l votes = majority_listed votes l.incoming && (no_listed l.outgoing || majority_listed votes l.outgoing)

quorum-listed : (l : Lists) (votes : List ℕ) → is_quorum (voters_of (configuration_of l)) (ids_of votes) ≡ quorum_listed l votes
quorum-listed l votes i = majority-listed votes l.incoming i && (no-listed l.outgoing i || majority-listed votes l.outgoing i)

abbrev pub difference_listed : List ℕ → List ℕ → ℕ
difference_listed a b = count_by (λ id. not (has_listed b id)) (listed a) + count_by (λ id. not (has_listed a id)) (listed b)

difference-listed : (a b : List ℕ) → difference_count (ids_of a) (ids_of b) ≡ difference_listed a b
difference-listed a b i = count_by (λ id. not (has-ids_of b id i)) (ascending-listed a i) + count_by (λ id. not (has-ids_of a id i)) (ascending-listed b i)

abbrev pub are_same_listed : Lists → Lists → Bool
are_same_listed a b = nat_eq (difference_listed a.incoming b.incoming) 0 && nat_eq (difference_listed a.outgoing b.outgoing) 0

same-listed : (a b : Lists) → are_same_voters (voters_of (configuration_of a)) (voters_of (configuration_of b)) ≡ are_same_listed a b
same-listed a b i = nat_eq (difference-listed a.incoming b.incoming i) 0 && nat_eq (difference-listed a.outgoing b.outgoing i) 0

-- ---- one change
abbrev pub is_of_voters : Kind → Bool
is_of_voters Voter = true
is_of_voters Learner = false
is_of_voters Remove = true
is_of_voters Update = false

abbrev pub is_plain : Change → Bool
is_plain change = not (change.id == 0) && is_of_voters change.kind

abbrev pub changed_by : Kind → ℕ → List ℕ → List ℕ
changed_by Voter id ids = id ∷ ids
changed_by Learner id ids = ids
changed_by Remove id ids = filter (λ x. not (x == id)) ids
changed_by Update id ids = ids

abbrev pub changed : List ℕ → Change → List ℕ
changed ids change = changed_by change.kind change.id ids

added : (ids : List ℕ) (outgoing : Ids) (id : ℕ) → not (id == 0) ≡ true
    → result_of (with_sets (ids_of ids) outgoing) (record { kind = Voter; id = id } ∷ []) ≡ with_sets (ids_of (id ∷ ids)) outgoing
added ids outgoing id some =
    let change : Change = record { kind = Voter; id = id } in
    let before : Configuration = with_sets (ids_of ids) outgoing in
    configuration-by_members (result_of before (change ∷ [])) (with_sets (ids_of (id ∷ ids)) outgoing)
    (λ q. grind (arith, nat_tests, some, has-incoming_after before (change ∷ []) q, last_effective-one change q, has-ids_of ids q, has-ids_of (id ∷ ids) q))
    refl
    (λ q. grind (arith, nat_tests, has-learners_after before (change ∷ []) q, last_effective-one change q, has-no_ids q))
    (λ q. grind (arith, nat_tests, has-next_after before (change ∷ []) q, last_effective-one change q, has-no_ids q))
    refl

removed : (ids : List ℕ) (outgoing : Ids) (id : ℕ) → not (id == 0) ≡ true
    → result_of (with_sets (ids_of ids) outgoing) (record { kind = Remove; id = id } ∷ []) ≡ with_sets (ids_of (filter (λ x. not (x == id)) ids)) outgoing
removed ids outgoing id some =
    let change : Change = record { kind = Remove; id = id } in
    let before : Configuration = with_sets (ids_of ids) outgoing in
    configuration-by_members (result_of before (change ∷ [])) (with_sets (ids_of (filter (λ x. not (x == id)) ids)) outgoing)
    (λ q. grind (arith, nat_tests, some, has-incoming_after before (change ∷ []) q, last_effective-one change q, has-ids_of ids q, has-ids_where (λ x. not (x == id)) ids q))
    refl
    (λ q. grind (arith, nat_tests, has-learners_after before (change ∷ []) q, last_effective-one change q, has-no_ids q))
    (λ q. grind (arith, nat_tests, has-next_after before (change ∷ []) q, last_effective-one change q, has-no_ids q))
    refl

result-changed : (ids : List ℕ) (outgoing : Ids) (change : Change) → is_plain change ≡ true
    → result_of (with_sets (ids_of ids) outgoing) (change ∷ []) ≡ with_sets (ids_of (changed ids change)) outgoing
result-changed ids outgoing change plain = by_kind change.kind change.id (and_parts (not (change.id == 0)) (is_of_voters change.kind) plain).0 (and_parts (not (change.id == 0)) (is_of_voters change.kind) plain).1
  where
    by_kind : (kind : Kind) (id : ℕ) → not (id == 0) ≡ true → is_of_voters kind ≡ true
        → result_of (with_sets (ids_of ids) outgoing) (record { kind = kind; id = id } ∷ []) ≡ with_sets (ids_of (changed_by kind id ids)) outgoing
    by_kind Voter id some of_voters = added ids outgoing id some
    by_kind Learner id some of_voters = absurd (true≢false (sym of_voters))
    by_kind Remove id some of_voters = removed ids outgoing id some
    by_kind Update id some of_voters = absurd (true≢false (sym of_voters))

-- ---- the voters after a step
abbrev pub lists_after : Lists → Payload → Lists
lists_after l (ConfChange (Simple (change ∷ []))) = record l { incoming = changed l.incoming change }
lists_after l (ConfChange (EnterJoint auto_leave (change ∷ []))) = record { incoming = changed l.incoming change; outgoing = l.incoming }
lists_after l (ConfChange LeaveJoint) = record l { outgoing = [] }
lists_after l payload = l

-- whether the payload is one that these lists compute: a command, a step of one change of a voter that is accepted, or one
-- that leaves a joint configuration
abbrev pub is_computed : Lists → Payload → Bool
is_computed l (Command bytes) = true
is_computed l (ConfChange (Simple (change ∷ []))) =
    (is_plain change && no_listed l.outgoing) && (not (no_listed (changed l.incoming change)) && nat_le (difference_listed l.incoming (changed l.incoming change)) 1)
is_computed l (ConfChange (EnterJoint false (change ∷ []))) =
    (is_plain change && no_listed l.outgoing) && (not (no_listed l.incoming) && not (no_listed (changed l.incoming change)))
is_computed l (ConfChange LeaveJoint) = not (no_listed l.outgoing)
is_computed l payload = false

-- ---- such a payload does that
not_joint : (l : Lists) → no_listed l.outgoing ≡ true → is_joint (configuration_of l) ≡ false
not_joint l none = ap not (no-listed l.outgoing ∙ none)

some-listed : (xs : List ℕ) → not (no_listed xs) ≡ true → not (is_empty (ids_of xs)) ≡ true
some-listed xs some = ap not (no-listed xs) ∙ some

after_simple : (l : Lists) (change : Change) → is_computed l (ConfChange (Simple (change ∷ []))) ≡ true
    → outcome (configuration_of l) (Simple (change ∷ [])) ≡ Ok (configuration_of (lists_after l (ConfChange (Simple (change ∷ [])))))
after_simple l change computed =
    let ids = changed l.incoming change in
    let few = nat_le (difference_listed l.incoming ids) 1 in
    let parts = and_parts (is_plain change && no_listed l.outgoing) (not (no_listed ids) && few) computed in
    let before = and_parts (is_plain change) (no_listed l.outgoing) parts.0 in
    let after = and_parts (not (no_listed ids)) few parts.1 in
    outcome-simple_accepted (configuration_of l) (with_sets (ids_of ids) (ids_of l.outgoing)) (change ∷ []) (not_joint l before.1)
    (result-changed l.incoming (ids_of l.outgoing) change before.0) (some-listed ids after.0)
    (subst (λ n. n ≤ 1) (sym (difference-listed l.incoming ids)) ((tells_at_most (difference_listed l.incoming ids) 1).0 after.1))

after_enter : (l : Lists) (change : Change) → is_computed l (ConfChange (EnterJoint false (change ∷ []))) ≡ true
    → outcome (configuration_of l) (EnterJoint false (change ∷ [])) ≡ Ok (configuration_of (lists_after l (ConfChange (EnterJoint false (change ∷ [])))))
after_enter l change computed = grind (arith, and_parts, not, outcome-enter_accepted, false, not_joint, some-listed, result-changed)

no_learners : union no_ids no_ids ≡ no_ids
no_learners i = ids_of (ascending-listed [] i ++ ascending-listed [] i)

after_left : (l : Lists) → after_leave (configuration_of l) ≡ configuration_of (record l { outgoing = [] })
after_left l i = record { incoming = ids_of l.incoming; outgoing = no_ids; learners = no_learners i; learners_next = no_ids; auto_leave = false }

lists-after : (l : Lists) (payload : Payload) → is_computed l payload ≡ true → after_payload (configuration_of l) payload ≡ configuration_of (lists_after l payload)
lists-after l (Command bytes) computed = refl
lists-after l (ConfChange (Simple (change ∷ []))) computed = ap (λ o. result_unwrap_or o (configuration_of l)) (after_simple l change computed)
lists-after l (ConfChange (EnterJoint false (change ∷ []))) computed = ap (λ o. result_unwrap_or o (configuration_of l)) (after_enter l change computed)
lists-after l (ConfChange LeaveJoint) computed = grind (arith, outcome-leave_accepted, some-listed, after_left)
lists-after l payload computed = absurd (true≢false (sym computed))

-- ---- the voters after a log
abbrev pub lists_after_log : Lists → Log → Lists
lists_after_log l [] = l
lists_after_log l (entry ∷ log) = lists_after (lists_after_log l log) entry.payload

abbrev pub is_computed_log : Lists → Log → Bool
is_computed_log l [] = true
is_computed_log l (entry ∷ log) = is_computed_log l log && is_computed (lists_after_log l log) entry.payload

lists-after_log : (l : Lists) (log : Log) → is_computed_log l log ≡ true → configuration_after (configuration_of l) log ≡ configuration_of (lists_after_log l log)
unfolding configuration_after
lists-after_log l [] computed = refl
lists-after_log l (entry ∷ log) computed =
    let parts = and_parts (is_computed_log l log) (is_computed (lists_after_log l log) entry.payload) computed in
    ap (λ (c : Configuration). after_payload c entry.payload) (lists-after_log l log parts.0) ∙ lists-after (lists_after_log l log) entry.payload parts.1

abbrev pub changes_listed : Lists → Log → ℕ
changes_listed l [] = 0
changes_listed l (entry ∷ log) = (if are_same_listed (lists_after_log l log) (lists_after_log l (entry ∷ log)) then 0 else 1) + changes_listed l log

pub changes-listed : (l : Lists) (log : Log) → is_computed_log l log ≡ true → voter_changes (configuration_of l) log ≡ changes_listed l log
unfolding voter_changes voters_after
changes-listed l [] computed = refl
changes-listed l (entry ∷ log) computed =
    let before = lists_after_log l log in
    let after = lists_after_log l (entry ∷ log) in
    let parts = and_parts (is_computed_log l log) (is_computed before entry.payload) computed in
    let same : are_same_voters (voters_after (configuration_of l) log) (voters_after (configuration_of l) (entry ∷ log)) ≡ are_same_listed before after =
    (λ i. are_same_voters (voters_of (lists-after_log l log parts.0 i)) (voters_of (lists-after_log l (entry ∷ log) computed i))) ∙ same-listed before after in
    λ i. (if same i then 0 else 1) + changes-listed l log parts.0 i

-- ---- decisions
-- the voters are a quorum of the configuration after the log
module _ (l : Lists) where
  pub quorum-tells : (log : Log) (votes : List ℕ) → is_computed_log l log ≡ true → Decides (quorum_listed (lists_after_log l log) votes) (IsQuorumAfter (configuration_of l) log (ids_of votes))
  unfolding IsQuorumAfter voters_after
  quorum-tells log votes computed =
      let same : is_quorum (voters_after (configuration_of l) log) (ids_of votes) ≡ quorum_listed (lists_after_log l log) votes =
      ap (λ (c : Configuration). is_quorum (voters_of c) (ids_of votes)) (lists-after_log l log computed) ∙ quorum-listed (lists_after_log l log) votes in
      (λ e. same ∙ e, λ e. sym same ∙ e)

  abbrev pub quorum_if : (log : Log) → (votes : List ℕ) → (computed : Bool) → is_computed_log l log ≡ computed → Decision (IsQuorumAfter (configuration_of l) log (ids_of votes))
  quorum_if log votes true computed = by_test (quorum_listed (lists_after_log l log) votes) (quorum-tells log votes computed)
  quorum_if log votes false computed = undecided

  abbrev pub quorum : (log : Log) → (votes : List ℕ) → Decision (IsQuorumAfter (configuration_of l) log (ids_of votes))
  quorum log votes = quorum_if log votes (is_computed_log l log) refl

  abbrev pub changes_if : (Q : ℕ → ℕ → Type 0) → ((m n : ℕ) → Decision (Q m n)) → (a b : Log) → (one other : Bool) → is_computed_log l a ≡ one → is_computed_log l b ≡ other
      → Decision (Q (voter_changes (configuration_of l) a) (voter_changes (configuration_of l) b))
  changes_if Q decided a b true true of_a of_b =
      like (subst₂ Q (sym (changes-listed l a of_a)) (sym (changes-listed l b of_b))) (subst₂ Q (changes-listed l a of_a) (changes-listed l b of_b)) (decided (changes_listed l a) (changes_listed l b))
  changes_if Q decided a b true false of_a of_b = undecided
  changes_if Q decided a b false other of_a of_b = undecided

  -- what can be decided of numbers, of how many changes of the voters two logs have
  abbrev pub changes : (Q : ℕ → ℕ → Type 0) → ((m n : ℕ) → Decision (Q m n)) → (a b : Log) → Decision (Q (voter_changes (configuration_of l) a) (voter_changes (configuration_of l) b))
  changes Q decided a b = changes_if Q decided a b (is_computed_log l a) (is_computed_log l b) refl refl

  abbrev pub same_changes : (a b : Log) → Decision (voter_changes (configuration_of l) a ≡ voter_changes (configuration_of l) b)
  same_changes = changes (λ m n. m ≡ n) number_is

  abbrev pub one_change_beyond : (log prefix : Log) → Decision (IsOneChangeBeyond (configuration_of l) log prefix)
  one_change_beyond = changes (λ m n. m ≤ n + 1) (λ m n. at_most m (n + 1))
