-- How many numbers are written of a restored configuration, and of the one after a step. A step writes an id at most
-- twice, and only ids of the configuration before it and of its changes.
use Rattle.std.proofs.Common.{◌≡◌, ℕ, ◌+◌, ◌-◌, ◌*◌, ◌≤◌, Bool, true, false, cond, not, ◌&&◌, ◌||◌, ◌==◌, List, [], ◌∷◌, ◌++◌, map, length, drop, refl, sym, ap, subst, ◌∙◌, arith, eqb-true, length-append}
use Rattle.std.specs.Prelude.{Option, Some, None, Result, Ok, Err, count_by, filter, nat_eq, nat_le}
use Rattle.std.specs.List.{list_any, slice_index, slice_range}
use Rattle.std.proofs.lemmas.Bool.{and_parts}
use Rattle.std.proofs.lemmas.List.{length-map, length-take}
use Rattle.std.proofs.lemmas.List.Folds.{list_any-append}
use Rattle.std.proofs.lemmas.List.Sums.{length-filter, sum_by-cons}
use Rattle.quorum_sets.specs.Ids.{Ids, has, ascending, size, ids_of, ids_where, union}
use Rattle.quorum_sets.proofs.Offered.{ascending-no_ids, has-ascending, has-ids_where, has-no_ids, has-same_ids, size-with_id}
use Rattle.conf_change.specs.Change.{named_or_in, result_of}
use Rattle.conf_change.specs.Configuration.{Configuration, ValidByMember, is_member, member_ids, members}
use Rattle.conf_change.specs.ConfState.{Describes}
use Rattle.conf_change.specs.Outcome.{after_leave, outcome}
use Rattle.conf_change.specs.Progress.{keeps_progress}
use Rattle.conf_change.specs.Transition.{step_of}
use Rattle.conf_change.specs.declared.change.Change.{Change}
use Rattle.conf_change.specs.declared.change.Kind.{Kind}
use Rattle.conf_change.specs.declared.step.Step.{Step}
use Rattle.conf_change.specs.declared.step.StepKind.{StepKind}
use Rattle.conf_change.specs.declared.step.StepKind.TheVariants as step_kind
use Rattle.conf_change.proofs.Offered.{EnterTaken-from_outcome, LeaveTaken-from_outcome, SimpleTaken-from_outcome, any-members, has-after_leave}
use Rattle.conf_plan.specs.OnTheWay.{catching_up}
use Rattle.confscript_c.specs.Numbers.{counted, has_form, lists_in, numbers_of, outgoing_at, learners_at, learners_next_at}
use Rattle.confscript_c.specs.Room.{ids_len, restore_room, step_room}
use Rattle.confscript_c.specs.Stepped.{change_before, changes_from, kind_of_number}
use Rattle.confscript_c.specs.declared.answer.Answer.{Answer}
use Rattle.confscript_c.specs.declared.stepping.NumberedChange.{NumberedChange}

-- ---- the size of a set
-- the list may name an id twice
size-ids_of : (list : List ℕ) → size (ids_of list) ≤ length list
size-ids_of [] = omega (arith, ap length ascending-no_ids)
size-ids_of (id ∷ list) = grind (arith, size-with_id (ids_of list) id, size-ids_of list)

size-union : (a b : Ids) → size (union a b) ≤ size a + size b
size-union a b = omega (arith, size-ids_of (ascending a ++ ascending b), length-append (ascending a) (ascending b))

-- each id of the set is in the list
abbrev AreIn : Ids → List ℕ → Type 0
AreIn ids list = (q : ℕ) → has ids q ≡ true → list_any (λ x. q == x) list ≡ true

-- then the set has at most as many ids as the list has places for them
size-counted : (ids : Ids) (list : List ℕ) → AreIn ids list → size ids ≤ count_by (has ids) list
size-counted ids list within =
    let same : ids ≡ ids_where (has ids) list =
    has-same_ids ids (ids_where (has ids) list) (λ q.
    both (has ids q) (list_any (λ x. q == x) list) (within q) ∙ sym (has-ids_where (has ids) list q)) in
    omega (arith, ap size same, size-ids_of (filter (has ids) list), length-filter (has ids) list)
  where
    both : (a b : Bool) → (a ≡ true → b ≡ true) → a ≡ (a && b)
    both true b follows = sym (follows refl)
    both false b follows = refl

-- ---- the lengths of five sets
-- how many of five tests an id passes
abbrev passed : Bool → Bool → Bool → Bool → Bool → ℕ
passed a b c d e = cond a 1 0 + cond b 1 0 + cond c 1 0 + cond d 1 0 + cond e 1 0

-- each id passes at most two of five tests, so the counts in a list add up to at most twice its length
count_by-at_most_two : (a b c d e : ℕ → Bool) → ((q : ℕ) → passed (a q) (b q) (c q) (d q) (e q) ≤ 2)
    → (list : List ℕ)
    → count_by a list + count_by b list + count_by c list + count_by d list + count_by e list ≤ 2 * length list
count_by-at_most_two a b c d e few [] = omega arith
count_by-at_most_two a b c d e few (q ∷ list) =
    omega (
      arith,
      few q,
      sum_by-cons (λ x. cond (a x) 1 0) q list,
      sum_by-cons (λ x. cond (b x) 1 0) q list,
      sum_by-cons (λ x. cond (c x) 1 0) q list,
      sum_by-cons (λ x. cond (d x) 1 0) q list,
      sum_by-cons (λ x. cond (e x) 1 0) q list,
      count_by-at_most_two a b c d e few list,
    )

-- how many ids the four sets of a configuration have, one by one
abbrev pub ids_count : Configuration → ℕ
ids_count c = size c.incoming + size c.outgoing + size c.learners + size c.learners_next

numbers_of-length : (c : Configuration) (catching_up : Ids) → length (numbers_of c catching_up) ≡ 6 + (ids_count c + size catching_up)
numbers_of-length c catching_up =
    let incoming = ascending c.incoming in
    let outgoing = ascending c.outgoing in
    let learners = ascending c.learners in
    let next = ascending c.learners_next in
    let long : length (incoming ++ outgoing ++ learners ++ next ++ ascending catching_up) ≡ ids_count c + size catching_up =
    simp length-append (omega arith) in
    omega (arith, long)

-- ---- what is read
slice_range-at_most : (numbers : List ℕ) (from count : ℕ) → length (slice_range numbers from (from + count)) ≤ count
slice_range-at_most numbers from count = grind (arith, length-take (from + count - from) (drop from numbers))

-- the array of a configuration has its ids
pub ids_count-read : (numbers : List ℕ) (c : Configuration) → has_form numbers ≡ true → Describes (lists_in numbers) c
    → ids_count c ≤ ids_len (length numbers)
ids_count-read numbers c form described =
    let flagged = nat_le 6 (length numbers) && nat_le (slice_index numbers 0) 1 in
    let ids = and_parts flagged (nat_eq (length numbers) (6 + counted numbers)) form in
    let long = eqb-true (length numbers) (6 + counted numbers) ids.1 in
    omega (
      arith,
      long,
      described.incoming.once,
      described.outgoing.once,
      described.learners.once,
      described.learners_next.once,
      slice_range-at_most numbers 6 (slice_index numbers 1),
      slice_range-at_most numbers (outgoing_at numbers) (slice_index numbers 2),
      slice_range-at_most numbers (learners_at numbers) (slice_index numbers 3),
      slice_range-at_most numbers (learners_next_at numbers) (slice_index numbers 4),
    )

-- as many changes are read as there are
pub changes_from-length : (position : ℕ) (changes : List NumberedChange) (made : List Change)
    → changes_from position changes ≡ Ok made → length made ≡ length changes
changes_from-length position [] made e = let same : [] ≡ made = cc in ap length (sym same)
changes_from-length position (change ∷ changes) made e =
    one_more (kind_of_number change.kind) (changes_from (position + 1) changes)
    (changes_from-length (position + 1) changes) e
  where
    one_more : (kind : Option Kind) (rest : Result (List Change) Answer)
        → ((others : List Change) → rest ≡ Ok others → length others ≡ length changes)
        → change_before position change.id kind rest ≡ Ok made → length made ≡ length (change ∷ changes)
    one_more None rest long e = cc
    one_more (Some kind) (Err why) long e = cc
    one_more (Some kind) (Ok others) long e =
        let same : record { kind = kind; id = change.id } ∷ others ≡ made = cc in
        let rest = long others refl in
        omega (arith, ap length same)

-- ---- which ids there are after a step
-- the id is in the configuration, or a change names it
abbrev is_known : Configuration → List Change → ℕ → Bool
is_known c changes q =
    has c.incoming q || has c.outgoing q || has c.learners q || has c.learners_next q
    || list_any (λ x. q == x) (map (λ change. change.id) changes)

-- these ids in a list, which may repeat them
abbrev known_ids : Configuration → List Change → List ℕ
known_ids c changes =
    ascending c.incoming ++ ascending c.outgoing ++ ascending c.learners ++ ascending c.learners_next
    ++ map (λ change. change.id) changes

known_ids-any : (c : Configuration) (changes : List Change) (q : ℕ)
    → list_any (λ x. q == x) (known_ids c changes) ≡ is_known c changes q
known_ids-any c changes q =
    let is : ℕ → Bool = λ x. q == x in
    let named = map (λ change. change.id) changes in
    let incoming = ascending c.incoming in
    let outgoing = ascending c.outgoing in
    let learners = ascending c.learners in
    let next = ascending c.learners_next in
    list_any-append is (incoming ++ outgoing ++ learners ++ next) named
    ∙ ap (λ b. b || list_any is named) (list_any-append is (incoming ++ outgoing ++ learners) next)
    ∙ ap (λ b. b || list_any is next || list_any is named) (list_any-append is (incoming ++ outgoing) learners)
    ∙ ap (λ b. b || list_any is learners || list_any is next || list_any is named)
    (list_any-append is incoming outgoing)
    ∙ sym (λ k.
    has-ascending c.incoming q k || has-ascending c.outgoing q k || has-ascending c.learners q k
    || has-ascending c.learners_next q k || list_any is named)

known_ids-length : (c : Configuration) (changes : List Change)
    → length (known_ids c changes) ≡ ids_count c + length changes
known_ids-length c changes =
    let named = length-map changes (λ change. change.id) in
    simp length-append (omega arith)

-- where the ids after a step come from; its outgoing voters were members
record ComesFrom (c after : Configuration) (changes : List Change) : Type 0 where
  incoming : (q : ℕ) → has after.incoming q ≡ true → is_known c changes q ≡ true
  outgoing : (q : ℕ) → has after.outgoing q ≡ true → is_member c q ≡ true
  learners : (q : ℕ) → has after.learners q ≡ true → is_known c changes q ≡ true
  learners_next : (q : ℕ) → has after.learners_next q ≡ true → is_known c changes q ≡ true

-- an id of a set after the changes is named by one of them, or was in the set
has-named_or_in : (test : ℕ → Bool) (ids : Ids) (changes : List Change) (q : ℕ)
    → has (ids_where test (named_or_in changes ids)) q ≡ true
    → (list_any (λ x. q == x) (map (λ change. change.id) changes) || has ids q) ≡ true
has-named_or_in test ids changes q here =
    let is : ℕ → Bool = λ x. q == x in
    let named = map (λ change. change.id) changes in
    let passes = sym (has-ids_where test (named_or_in changes ids) q) ∙ here in
    ap (λ b. list_any is named || b) (has-ascending ids q) ∙ sym (list_any-append is named (ascending ids))
    ∙ (and_parts (test q) (list_any is (named_or_in changes ids)) passes).1

ComesFrom-result_of : (c : Configuration) (outgoing : Ids) (auto_leave : Bool) (changes : List Change)
    → ((q : ℕ) → has outgoing q ≡ true → is_member c q ≡ true)
    → ComesFrom c (result_of (record c { outgoing = outgoing; auto_leave = auto_leave }) changes) changes
ComesFrom-result_of c outgoing auto_leave changes were = record {
  incoming = λ q here. let known = has-named_or_in _ c.incoming changes q here in grind (arith, known);
  outgoing = were;
  learners = λ q here. let known = has-named_or_in _ c.learners changes q here in grind (arith, known);
  learners_next = λ q here. let known = has-named_or_in _ c.learners_next changes q here in grind (arith, known);
}

ComesFrom-after_leave : (c : Configuration) (changes : List Change) → ComesFrom c (after_leave c) changes
ComesFrom-after_leave c changes = record {
  incoming = λ q here. grind (arith, here);
  outgoing = λ q here. grind (arith, here, has-no_ids q);
  learners = λ q here. grind (arith, here, has-after_leave c q);
  learners_next = λ q here. grind (arith, here, has-no_ids q);
}

ComesFrom-outcome : (c after : Configuration) (kind : StepKind) (changes : List Change)
    → outcome c (step_of kind changes) ≡ Ok after → ComesFrom c after changes
ComesFrom-outcome c after step_kind.Simple changes e =
    subst (λ (d : Configuration). ComesFrom c d changes) (SimpleTaken-from_outcome c after changes e).made
    (ComesFrom-result_of c c.outgoing c.auto_leave changes (λ q here. grind (arith, here)))
ComesFrom-outcome c after (step_kind.Enter auto_leave) changes e =
    subst (λ (d : Configuration). ComesFrom c d changes) (EnterTaken-from_outcome c after auto_leave changes e).made
    (ComesFrom-result_of c c.incoming auto_leave changes (λ q here. grind (arith, here)))
ComesFrom-outcome c after step_kind.Leave changes e =
    subst (λ (d : Configuration). ComesFrom c d changes) (LeaveTaken-from_outcome c after e).made
    (ComesFrom-after_leave c changes)

-- ---- which ids are catching up
has-catching_up : (c after : Configuration) (step : Step) (q : ℕ)
    → has (catching_up c step after) q ≡ (not (keeps_progress c step after q) && is_member after q)
has-catching_up c after step q =
    has-ids_where (λ id. not (keeps_progress c step after id)) (members after) q
    ∙ ap (λ b. not (keeps_progress c step after q) && b) (any-members after q)

-- an outgoing voter does not: it was a member, and is not replaced
catching_up-not_outgoing : (c after : Configuration) (step : Step) (changes : List Change)
    → ComesFrom c after changes → (q : ℕ) → has after.outgoing q ≡ true → has (catching_up c step after) q ≡ false
catching_up-not_outgoing c after step changes from q here =
    let was = from.outgoing q here in
    grind (arith, here, was, has-catching_up c after step q)

-- ---- two lists for each id
-- a next learner is an outgoing voter only, a learner is no voter, and an outgoing voter is not catching up
passed-at_most_two : (incoming outgoing learner next catching_up : Bool)
    → (next ≡ true → outgoing ≡ true) → (next ≡ true → incoming ≡ false)
    → (learner ≡ true → incoming ≡ false) → (learner ≡ true → outgoing ≡ false)
    → (outgoing ≡ true → catching_up ≡ false) → passed incoming outgoing learner next catching_up ≤ 2
passed-at_most_two incoming outgoing learner next catching_up next_out next_apart learner_in learner_out kept = grind arith

ids_count-stepped : (c after : Configuration) (step : Step) (changes : List Change)
    → ValidByMember after → ComesFrom c after changes
    → ids_count after + size (catching_up c step after) ≤ 2 * (ids_count c + length changes)
ids_count-stepped c after step changes valid from =
    omega (
      arith,
      known_ids-length c changes,
      size-counted after.incoming list (λ q here. known_ids-any c changes q ∙ from.incoming q here),
      size-counted after.outgoing list (λ q here. known_ids-any c changes q ∙ outgoing q here),
      size-counted after.learners list (λ q here. known_ids-any c changes q ∙ from.learners q here),
      size-counted after.learners_next list (λ q here. known_ids-any c changes q ∙ from.learners_next q here),
      size-counted late list (λ q here. known_ids-any c changes q ∙ begun q here),
      count_by-at_most_two (has after.incoming) (has after.outgoing) (has after.learners) (has after.learners_next)
          (has late) few list,
    )
  where
    list : List ℕ
    list = known_ids c changes

    late : Ids
    late = catching_up c step after

    outgoing : (q : ℕ) → has after.outgoing q ≡ true → is_known c changes q ≡ true
    outgoing q here = let was = from.outgoing q here in grind (arith, was)

    begun : (q : ℕ) → has late q ≡ true → is_known c changes q ≡ true
    begun q here = grind (arith, here, has-catching_up c after step q, from.incoming q, outgoing q, from.learners q)

    few : (q : ℕ)
        → passed (has after.incoming q) (has after.outgoing q) (has after.learners q) (has after.learners_next q)
        (has late q) ≤ 2
    few q =
        passed-at_most_two _ _ _ _ _ (valid.next_outgoing q) (valid.next_incoming q)
        (valid.learner_incoming q) (valid.learner_outgoing q) (catching_up-not_outgoing c after step changes from q)

-- all members are catching up; there are no more of them than voters of both kinds and learners
ids_count-restored : (c : Configuration) → ids_count c + size (member_ids c) ≤ 2 * ids_count c
ids_count-restored c =
    omega (arith, size-union c.incoming c.outgoing, size-union (union c.incoming c.outgoing) c.learners)

-- ---- the room
numbers_of-has_room : (c : Configuration) (catching_up : Ids) (len changes_len : ℕ)
    → ids_count c + size catching_up ≤ 2 * (ids_len len + changes_len)
    → length (numbers_of c catching_up) ≤ step_room len changes_len
numbers_of-has_room c catching_up len changes_len few = omega (arith, few, numbers_of-length c catching_up)

pub restored-has_room : (c : Configuration) (len : ℕ) → ids_count c ≤ ids_len len
    → length (numbers_of c (member_ids c)) ≤ restore_room len
restored-has_room c len read = numbers_of-has_room c (member_ids c) len 0 (omega (arith, read, ids_count-restored c))

pub stepped-has_room : (c after : Configuration) (kind : StepKind) (changes : List Change) (len : ℕ)
    → ids_count c ≤ ids_len len → ValidByMember after → outcome c (step_of kind changes) ≡ Ok after
    → length (numbers_of after (catching_up c (step_of kind changes) after)) ≤ step_room len (length changes)
stepped-has_room c after kind changes len read valid taken =
    let step = step_of kind changes in
    let few = ids_count-stepped c after step changes valid (ComesFrom-outcome c after kind changes taken) in
    numbers_of-has_room after (catching_up c step after) len (length changes) (omega (arith, read, few))
