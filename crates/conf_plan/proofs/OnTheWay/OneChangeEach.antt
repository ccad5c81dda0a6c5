-- The changes of a simple step of a path are accepted one by one, too, and each has the voters before or after the step.
use Rattle.std.proofs.Common.{◌≡◌, ℕ, ◌+◌, ◌≤◌, Bool, true, false, cond, not, ◌==◌, ◌⊎◌, inl, inr, List, [], ◌∷◌, ◌++◌, map, refl, sym, ap, subst, ◌∙◌, arith, eq-eqb, eqb-true}
use Rattle.std.specs.Prelude.{Option, Some, None, count_by, ⊤}
use Rattle.std.specs.Option.{option_or}
use Rattle.std.specs.Result.{result_unwrap_or}
use Rattle.std.proofs.lemmas.Bool.{and_from, both_ways, false_from_ne_true, lt-ltb, ltb-false, not-false, not-true, or_left}
use Rattle.std.proofs.lemmas.List.{append_assoc, append-nil}
use Rattle.std.proofs.lemmas.List.Concat.{flat_map-cons}
use Rattle.std.proofs.lemmas.List.Sums.{sum_by-append, sum_by-cons}
use Rattle.quorum_sets.specs.Ids.{Ids, has, ascending, is_empty, difference_count, union}
use Rattle.quorum_sets.specs.Voters.{Voters, is_quorum}
use Rattle.quorum_sets.proofs.Offered.{count_by-none, count_of-rest, has-ascending, has-same_ids}
use Rattle.conf_change.specs.Change.{names, last_effective, is_incoming_after, result_of}
use Rattle.conf_change.specs.Configuration.{Configuration, is_joint, voters_of}
use Rattle.conf_change.specs.Outcome.{Outcome, after_leave}
use Rattle.conf_change.specs.declared.change.Change.{Change}
use Rattle.conf_change.specs.declared.change.Kind.{Kind}
use Rattle.conf_change.specs.declared.step.Step.{Step}
use Rattle.conf_change.specs.declared.step.Step.TheVariants.{Simple, EnterJoint, LeaveJoint}
use Rattle.conf_change.proofs.Offered.{SimpleTaken-from_outcome, has-incoming_after, has-none_in_empty, is_empty-no_ids, last_effective-one, one_change-one_voter, outcome-overlaps, outcome-simple_accepted, result_of-none, result_of-push}
use Rattle.conf_plan.specs.OnTheWay.{ChangesOneLearnerFirst, EachOnTheWay}
use Rattle.conf_plan.specs.LearnersFirst.{newcomers}
use Rattle.conf_plan.specs.OneChangeEach.{each_change, one_change_each, HasVotersOnTheWay}
use Rattle.conf_plan.specs.PathBy.{has_path, path_by}
use Rattle.conf_plan.specs.Planned.{kind_by, moves, single_with, entering_step, planned_from_single}
use Rattle.conf_plan.specs.Run.{IsValidWithVoter, IsRunWith, Gives}
use Rattle.conf_plan.specs.declared.strategy.Strategy.{Strategy}
use Rattle.conf_plan.specs.declared.strategy.Strategy.TheVariants.{Shortest, LearnersFirst, OneAtATime}
use Rattle.conf_plan.proofs.PlannedSteps.AlongPath.{planned_from_single-holds, path_by-holds}
use Rattle.conf_plan.proofs.OnTheWay.EachStrategy.{path_by-keeps_promises}
use Rattle.conf_plan.proofs.OnTheWay.LearnersFirst.{from_single-holds}
use Rattle.conf_plan.proofs.OnTheWay.Newcomers.{newcomers-are_wanted}
use Rattle.conf_plan.proofs.BestPlan.FewestNames.{once, moves-name_once}
use Rattle.conf_plan.proofs.FindingMoves.AscendingIds.{times, times-ascending, times-cons}
use Rattle.conf_plan.proofs.FindingMoves.OfEachId.{last_effective-cons, last_effective-none}
use Rattle.conf_plan.proofs.FindingMoves.ResultingConfiguration.{IsSingle, AreWanted}
use Rattle.conf_plan.proofs.PlannedSteps.BetweenSingle.{entered_by}
use Rattle.conf_plan.proofs.Runs.Chains.{IsChain-append, IsRunWith-weaker}

-- ---- sets that differ in one id at most
one_counted : (p : ℕ → Bool) (a : ℕ) (xs : List ℕ) → p a ≡ true → times a xs ≤ count_by p xs
one_counted p a [] pa = grind arith
one_counted p a (x ∷ xs) pa = by (a == x) refl (one_counted p a xs pa)
  where
    counted : count_by p (x ∷ xs) ≡ cond (p x) 1 0 + count_by p xs
    counted = sum_by-cons (λ y. cond (p y) 1 0) x xs

    by : (b : Bool) → (a == x) ≡ b → times a xs ≤ count_by p xs → times a (x ∷ xs) ≤ count_by p (x ∷ xs)
    by true same rest =
        let here : p x ≡ true = ap p (sym (eqb-true a x same)) ∙ pa in
        grind (arith, times-cons a x xs, counted)
    by false other rest = grind (arith, times-cons a x xs, counted)

two_counted : (p : ℕ → Bool) (a b : ℕ) (xs : List ℕ) → p a ≡ true → p b ≡ true → (a == b) ≡ false → times a xs + times b xs ≤ count_by p xs
two_counted p a b [] pa pb apart = grind arith
two_counted p a b (x ∷ xs) pa pb apart = by (a == x) (b == x) refl refl (two_counted p a b xs pa pb apart)
  where
    counted : count_by p (x ∷ xs) ≡ cond (p x) 1 0 + count_by p xs
    counted = sum_by-cons (λ y. cond (p y) 1 0) x xs

    by : (c d : Bool) → (a == x) ≡ c → (b == x) ≡ d → times a xs + times b xs ≤ count_by p xs → times a (x ∷ xs) + times b (x ∷ xs) ≤ count_by p (x ∷ xs)
    by true true first second rest = absurd (both_ways (a == b) apart (eq-eqb a b (eqb-true a x first ∙ sym (eqb-true b x second))))
    by true false first second rest =
        let here : p x ≡ true = ap p (sym (eqb-true a x first)) ∙ pa in
        grind (arith, times-cons a x xs, times-cons b x xs, counted)
    by false true first second rest =
        let here : p x ≡ true = ap p (sym (eqb-true b x second)) ∙ pb in
        grind (arith, times-cons a x xs, times-cons b x xs, counted)
    by false false first second rest = grind (arith, times-cons a x xs, times-cons b x xs, counted)

-- where one id differs, another one does not
one_differs : (s t : Ids) (a b : ℕ) → difference_count s t ≤ 1 → (a == b) ≡ false → has s a ≡ not (has t a) → has s b ≡ has t b
one_differs s t a b few apart differs = by (has t a) (has s b) (has t b) refl refl refl
  where
    lost : ℕ → Bool
    lost id = not (has t id)

    new : ℕ → Bool
    new id = not (has s id)

    by : (ta sb tb : Bool) → has t a ≡ ta → has s b ≡ sb → has t b ≡ tb → has s b ≡ has t b
    by ta true true is_a is_s is_t = is_s ∙ sym is_t
    by ta false false is_a is_s is_t = is_s ∙ sym is_t
    by false true false is_a is_s is_t =
        let two = two_counted lost a b (ascending s) (ap not is_a) (ap not is_t) apart in
        grind (arith, times-ascending a s, times-ascending b s)
    by true true false is_a is_s is_t =
        let first = one_counted lost b (ascending s) (ap not is_t) in
        let second = one_counted new a (ascending t) (ap not differs ∙ ap (λ x. not (not x)) is_a) in
        grind (arith, times-ascending b s, times-ascending a t)
    by false false true is_a is_s is_t =
        let first = one_counted lost a (ascending s) (ap not is_a) in
        let second = one_counted new b (ascending t) (ap not is_s) in
        grind (arith, times-ascending a s, times-ascending b t)
    by true false true is_a is_s is_t =
        let two = two_counted new a b (ascending t) (ap not differs ∙ ap (λ x. not (not x)) is_a) (ap not is_s) apart in
        grind (arith, times-ascending a t, times-ascending b t)

-- ---- one change more
pub last_effective-append : (xs ys : List Change) (q : ℕ) → last_effective (xs ++ ys) q ≡ option_or (last_effective ys q) (last_effective xs q)
last_effective-append [] ys q = grind arith
last_effective-append (x ∷ xs) ys q = grind (arith, last_effective-cons x (xs ++ ys) q, last_effective-cons x xs q, last_effective-append xs ys q)

-- the voters are those of one of two other configurations
abbrev pub HasVotersOf : Configuration → Configuration → Configuration → Type 0
HasVotersOf before after c = (voters_of c ≡ voters_of before) ⊎ (voters_of c ≡ voters_of after)

-- changes that name each id once at most, do not name one voter, and leave all voters but one as they are
record LeavesVoter (c : Configuration) (q : ℕ) (changes : List Change) : Type 0 where
  single : is_joint c ≡ false
  voter : has c.incoming q ≡ true
  unnamed : count_by (names q) changes ≡ 0
  few : difference_count c.incoming (result_of c changes).incoming ≤ 1
  once_each : (id : ℕ) → count_by (names id) changes ≤ 1

-- One change more leaves the voters as they are, or makes them those of the end.
voters-one_more : (c : Configuration) (q : ℕ) (xs ys : List Change) (y : Change) → LeavesVoter c q ((xs ++ y ∷ []) ++ ys)
    → HasVotersOf c (result_of c ((xs ++ y ∷ []) ++ ys)) (result_of c xs) → HasVotersOf c (result_of c ((xs ++ y ∷ []) ++ ys)) (result_of c (xs ++ y ∷ []))
voters-one_more c q xs ys y given had = by_named (names y.id y) refl
  where
    at : Configuration
    at = result_of c xs

    next : Configuration
    next = result_of c (xs ++ y ∷ [])

    end : Configuration
    end = result_of c ((xs ++ y ∷ []) ++ ys)

    next_is : (id : ℕ) → has next.incoming id ≡ is_incoming_after (cond (names id y) (Some y.kind) None) (has at.incoming id)
    next_is id =
        ap (λ (d : Configuration). has d.incoming id) (sym (result_of-push c xs y))
        ∙ has-incoming_after at (y ∷ []) id
        ∙ ap (λ o. is_incoming_after o (has at.incoming id)) (last_effective-one y id)

    -- only the id of the change may differ
    elsewhere : (id : ℕ) → names id y ≡ false → has next.incoming id ≡ has at.incoming id
    elsewhere id unnamed = next_is id ∙ ap (λ b. is_incoming_after (cond b (Some y.kind) None) (has at.incoming id)) unnamed

    other_id : (id : ℕ) → (y.id == id) ≡ false → names id y ≡ false
    other_id id other = grind (arith, other)

    stays : ((id : ℕ) → has next.incoming id ≡ has at.incoming id) → HasVotersOf c end next
    stays same = subst (λ ids. (record { incoming = ids; outgoing = c.outgoing } ≡ voters_of c) ⊎ (record { incoming = ids; outgoing = c.outgoing } ≡ voters_of end)) (sym (has-same_ids next.incoming at.incoming same)) had

    by_named : (b : Bool) → names y.id y ≡ b → HasVotersOf c end next
    by_named false unnamed = stays (λ id. by_id id (y.id == id) refl)
      where
        by_id : (id : ℕ) (same : Bool) → (y.id == id) ≡ same → has next.incoming id ≡ has at.incoming id
        by_id id true same = elsewhere id (subst (λ z. names z y ≡ false) (eqb-true y.id id same) unnamed)
        by_id id false other = elsewhere id (other_id id other)
    by_named true named = by_vote (has next.incoming y.id) (has at.incoming y.id) refl refl
      where
        all : count_by (names y.id) ((xs ++ y ∷ []) ++ ys) ≡ count_by (names y.id) xs + (1 + count_by (names y.id) ys)
        all =
            sum_by-append (λ x. cond (names y.id x) 1 0) (xs ++ y ∷ []) ys
            ∙ ap (λ n. n + count_by (names y.id) ys) (sum_by-append (λ x. cond (names y.id x) 1 0) xs (y ∷ []) ∙ ap (λ n. count_by (names y.id) xs + n) (ap (λ b. 0 + cond b 1 0) named))
            ∙ omega arith

        -- the changes before do not name it
        was : has at.incoming y.id ≡ has c.incoming y.id
        was =
            let none = last_effective-none xs y.id (let once_at = given.once_each y.id in omega (arith, all)) in
            has-incoming_after c xs y.id ∙ ap (λ o. is_incoming_after o (has c.incoming y.id)) none

        -- nor do those after
        ends : has end.incoming y.id ≡ has next.incoming y.id
        ends =
            let none = last_effective-none ys y.id (let once_at = given.once_each y.id in omega (arith, all)) in
            has-incoming_after c ((xs ++ y ∷ []) ++ ys) y.id
            ∙ ap (λ o. is_incoming_after o (has c.incoming y.id)) (last_effective-append (xs ++ y ∷ []) ys y.id ∙ ap (λ o. option_or o (last_effective (xs ++ y ∷ []) y.id)) none)
            ∙ sym (has-incoming_after c (xs ++ y ∷ []) y.id)

        same_votes : has next.incoming y.id ≡ has at.incoming y.id → HasVotersOf c end next
        same_votes same = stays (λ id. by_id id (y.id == id) refl)
          where
            by_id : (id : ℕ) (b : Bool) → (y.id == id) ≡ b → has next.incoming id ≡ has at.incoming id
            by_id id true is = subst (λ z. has next.incoming z ≡ has at.incoming z) (eqb-true y.id id is) same
            by_id id false other = elsewhere id (other_id id other)

        -- it is the one in which the ends differ
        other_votes : has next.incoming y.id ≡ not (has at.incoming y.id) → HasVotersOf c end next
        other_votes differs = by_had had
          where
            turned : has end.incoming y.id ≡ not (has c.incoming y.id)
            turned = ends ∙ differs ∙ ap not was

            not_twice : (b d : Bool) → d ≡ not b → b ≡ not d
            not_twice b d e = grind arith

            rest_alike : (id : ℕ) → (y.id == id) ≡ false → has c.incoming id ≡ has end.incoming id
            rest_alike id other = one_differs c.incoming end.incoming y.id id given.few other (not_twice _ _ turned)

            by_had : HasVotersOf c end at → HasVotersOf c end next
            by_had (inl same) = inr (λ i. record { incoming = has-same_ids next.incoming end.incoming (λ id. by_id id (y.id == id) refl) i; outgoing = c.outgoing })
              where
                by_id : (id : ℕ) (b : Bool) → (y.id == id) ≡ b → has next.incoming id ≡ has end.incoming id
                by_id id true is = subst (λ z. has next.incoming z ≡ has end.incoming z) (eqb-true y.id id is) (sym ends)
                by_id id false other = elsewhere id (other_id id other) ∙ ap (λ (v : Voters). has v.incoming id) same ∙ rest_alike id other
            by_had (inr same) = absurd (never (has at.incoming y.id) (ap (λ (v : Voters). has v.incoming y.id) same ∙ ends ∙ differs))
              where
                never : (b : Bool) → b ≡ not b → ⊥
                never b e = grind arith

        by_vote : (b d : Bool) → has next.incoming y.id ≡ b → has at.incoming y.id ≡ d → HasVotersOf c end next
        by_vote true true is was_so = same_votes (is ∙ sym was_so)
        by_vote false false is was_so = same_votes (is ∙ sym was_so)
        by_vote true false is was_so = other_votes (is ∙ sym (ap not was_so))
        by_vote false true is was_so = other_votes (is ∙ sym (ap not was_so))

-- ---- a list of changes that leaves one voter alone
-- each configuration on the way has the voters of one of the ends
abbrev pub KeepsVotersOf : Configuration → Configuration → Configuration → Step → Configuration → Type 0
KeepsVotersOf before after c step d = HasVotersOf before after d

abbrev OneByOne : Configuration → List Change → List Change → List Change → Type 0
OneByOne c xs ys zs = IsRunWith (KeepsVotersOf c (result_of c zs)) (result_of c xs) (map (λ change. Simple (change ∷ [])) ys) (result_of c zs)

-- each change is accepted where the previous ones lead
changes-one_by_one : (c : Configuration) (q : ℕ) (xs ys : List Change) → LeavesVoter c q (xs ++ ys) → HasVotersOf c (result_of c (xs ++ ys)) (result_of c xs) → OneByOne c xs ys (xs ++ ys)
changes-one_by_one c q xs [] given had = ap (result_of c) (sym (append-nil xs))
changes-one_by_one c q xs (y ∷ ys) given had =
    let next = result_of c (xs ++ y ∷ []) in
    let whole = append_assoc xs (y ∷ []) ys in
    let given_next : LeavesVoter c q ((xs ++ y ∷ []) ++ ys) = subst (LeavesVoter c q) (sym whole) given in
    let had_before : HasVotersOf c (result_of c ((xs ++ y ∷ []) ++ ys)) (result_of c xs) = subst (λ zs. HasVotersOf c (result_of c zs) (result_of c xs)) (sym whole) had in
    let has_next = voters-one_more c q xs ys y given_next had_before in
    let both = sum_by-append (λ x. cond (names q x) 1 0) (xs ++ y ∷ []) ys in
    let unnamed = given_next.unnamed in
    let stays : has next.incoming q ≡ true =
    has-incoming_after c (xs ++ y ∷ []) q ∙ ap (λ o. is_incoming_after o (has c.incoming q)) (last_effective-none (xs ++ y ∷ []) q (omega arith)) ∙ given.voter in
    let FewDiffer : Configuration → Type 0 = λ d. difference_count (result_of c xs).incoming d.incoming ≤ 1 in (
      next,
      (
        outcome-simple_accepted (result_of c xs) next (y ∷ []) given.single (result_of-push c xs y)
            (ap not (false_from_ne_true (is_empty next.incoming) (λ empty. both_ways _ (has-none_in_empty next.incoming empty q) stays)))
            (subst FewDiffer (result_of-push c xs y) (one_change-one_voter (result_of c xs) y)),
        subst (λ zs. HasVotersOf c (result_of c zs) next) whole has_next,
      ),
      subst (λ zs. IsRunWith (KeepsVotersOf c (result_of c zs)) next (map (λ change. Simple (change ∷ [])) ys) (result_of c zs)) whole (changes-one_by_one c q (xs ++ y ∷ []) ys given_next has_next),
    )

-- ---- a step of a path
-- if the step is accepted, so are its changes, one by one, and the voters on the way are those before or after the step
abbrev pub Splits : Configuration → Step → Configuration → Type 0
Splits before step after = Gives before step after → IsRunWith (KeepsVotersOf before after) before (each_change step) after

Splits-one : (before after : Configuration) (step : Step) → Gives before step after → IsRunWith (KeepsVotersOf before after) before (step ∷ []) after
Splits-one before after step gives = (after, (gives, inr (λ i. voters_of after)), λ i. after)

-- the voters of a configuration that is not joint are a quorum
own_quorum : (c : Configuration) → is_empty c.incoming ≡ false → is_empty c.outgoing ≡ true → is_quorum (voters_of c) c.incoming ≡ true
own_quorum c some single = grind (arith, count_of-rest, count_by-none, not, has-ascending, both_ways, eq-eqb, and_from, lt-ltb, or_left, single)

pub once-few : (o : Option Kind) → once o ≤ 1
once-few None = grind arith
once-few (Some kind) = grind arith

-- quorums before and after a step share a voter, which the moves leave alone
pub Splits-moves : (c : Configuration) (voters learners : Ids) → is_empty c.incoming ≡ false → is_empty voters ≡ false → Splits c (Simple (moves c voters learners)) (single_with voters learners)
Splits-moves c voters learners some_c some gives =
    let changes = moves c voters learners in
    let after = single_with voters learners in
    let taken = SimpleTaken-from_outcome c after changes gives in
    let shared = (outcome-overlaps c after (Simple changes) gives).quorums c.incoming voters
    (record { quorum_before = own_quorum c some_c (not-false (is_empty c.outgoing) taken.single); quorum_after = own_quorum after some is_empty-no_ids }) in
    let q = shared.0 in
    let none : once (kind_by (has voters q) (has learners q) (has c.incoming q) (has c.learners q)) ≡ 0 =
    λ i. once (kind_by (shared.1.in_second i) (has learners q) (shared.1.in_first i) (has c.learners q)) in
    let named = moves-name_once c voters learners q in
    let given : LeavesVoter c q changes = record {
      single = taken.single;
      voter = shared.1.in_first;
      unnamed = omega arith;
      few = ltb-false 1 _ taken.one_at_most;
      once_each = λ id. (let few = moves-name_once c voters learners id in let one = once-few (kind_by (has voters id) (has learners id) (has c.incoming id) (has c.learners id)) in omega arith);
    } in
    let steps = map (λ change. Simple (change ∷ [])) changes in
    let Reaches : Configuration → Configuration → Type 0 = λ d e. IsRunWith (KeepsVotersOf c e) d steps e in
    subst (λ d. Reaches d after) (sym (result_of-none c))
    (subst (Reaches (result_of c [])) taken.made (changes-one_by_one c q [] changes given (inl (ap voters_of (sym (result_of-none c))))))

-- ---- each strategy
-- what holds of a step that stays as it is, and of the moves from a configuration that is not joint
pub record HoldsOfProposals (Holds : Configuration → Step → Configuration → Type 0) : Type 0 where
  pub whole : (before after : Configuration) (step : Step) → each_change step ≡ step ∷ [] → Holds before step after
  pub moved : (c : Configuration) (voters learners : Ids) → IsSingle c → AreWanted voters learners → Holds c (Simple (moves c voters learners)) (single_with voters learners)

planned_from_single-of_proposals : (Holds : Configuration → Step → Configuration → Type 0) (c target : Configuration) → IsSingle c → IsValidWithVoter target → HoldsOfProposals Holds
    → IsRunWith Holds c (planned_from_single c target) target
planned_from_single-of_proposals Holds c target single valid_with_voter holds =
    planned_from_single-holds Holds (λ voters learners. ⊤) c target single valid_with_voter (record {
      apart = λ apart. tt;
      outgoing = λ joint. tt;
      simple = λ voters learners wants wanted. holds.moved c voters learners single wanted;
      enters = λ voters learners wants moved. holds.whole c (entered_by c voters learners) (EnterJoint false (moves c voters learners)) refl;
      leaves = λ voters learners wants moved. holds.whole (entered_by c voters learners) (single_with voters learners) LeaveJoint refl;
      into = λ d single_d has_all. holds.whole d target (entering_step d target) refl;
    })

-- a step of one change is that change
pub one_change-whole : (before after : Configuration) (step : Step) → ChangesOneLearnerFirst before step after → each_change step ≡ step ∷ []
one_change-whole before after (Simple []) changes = let one = changes.one in absurd (omega arith)
one_change-whole before after (Simple (x ∷ [])) changes = refl
one_change-whole before after (Simple (x ∷ y ∷ more)) changes = let one = changes.one in absurd (omega arith)
one_change-whole before after (EnterJoint auto_leave more) changes = absurd changes.one
one_change-whole before after LeaveJoint changes = refl

pub path_by-of_proposals : (Holds : Configuration → Step → Configuration → Type 0) (strategy : Strategy) (down : Ids) (now target : Configuration) → IsValidWithVoter now
    → IsValidWithVoter target → has_path strategy now target ≡ true → HoldsOfProposals Holds → IsRunWith Holds now (path_by strategy down now target) target
path_by-of_proposals Holds Shortest down now target now_valid_with_voter valid_with_voter way holds =
    path_by-holds Shortest down Holds now target now_valid_with_voter (holds.whole now (after_leave now) LeaveJoint refl)
    (λ differs c single same. planned_from_single-of_proposals Holds c target single valid_with_voter holds)
path_by-of_proposals Holds LearnersFirst down now target now_valid_with_voter valid_with_voter way holds =
    path_by-holds LearnersFirst down Holds now target now_valid_with_voter (holds.whole now (after_leave now) LeaveJoint refl) (λ differs c single same.
    from_single-holds Holds c target single valid_with_voter
    (holds.moved c c.incoming (union c.learners (newcomers c target)) single (newcomers-are_wanted c target single valid_with_voter))
    (λ d single_d alike known stay. planned_from_single-of_proposals Holds d target single_d valid_with_voter holds))
path_by-of_proposals Holds OneAtATime down now target now_valid_with_voter valid_with_voter way holds =
    IsRunWith-weaker ChangesOneLearnerFirst Holds (λ before after step changes. holds.whole before after step (one_change-whole before after step changes)) now target
    (path_by OneAtATime down now target) (path_by-keeps_promises OneAtATime down now target now_valid_with_voter valid_with_voter way).run

Splits-of_proposals : HoldsOfProposals Splits
Splits-of_proposals = record {
  whole = λ before after step alone gives. subst (λ steps. IsRunWith (KeepsVotersOf before after) before steps after) (sym alone) (Splits-one before after step gives);
  moved = λ c voters learners single wanted. Splits-moves c voters learners (not-true (is_empty c.incoming) single.valid_with_voter.voter) wanted.voter;
}

-- ---- all steps, change by change
HasVotersOnTheWay-first : (now c : Configuration) (steps : List Step) → voters_of c ≡ voters_of now → HasVotersOnTheWay now steps c
HasVotersOnTheWay-first now c [] same = same
HasVotersOnTheWay-first now c (step ∷ steps) same = inl same

one_change_each-keeps_voters : (now target : Configuration) (steps : List Step) → IsRunWith Splits now steps target → EachOnTheWay (HasVotersOnTheWay now steps) now (one_change_each steps) target
one_change_each-keeps_voters now target [] run = run
one_change_each-keeps_voters now target (step ∷ steps) run =
    let next = run.0 in
    let gives = run.1.0 in
    let Holds : Configuration → Step → Configuration → Type 0 = λ before taken after. HasVotersOnTheWay now (step ∷ steps) after in
    let Leads : Configuration → Step → Configuration → Type 0 = λ before taken after. Gives before taken after × Holds before taken after in
    let either : (c : Configuration) → HasVotersOf now next c → HasVotersOnTheWay now (step ∷ steps) c = λ c has. by next gives c has in
    let first = IsRunWith-weaker (KeepsVotersOf now next) Holds (λ before after taken has. either after has) now next (each_change step) (run.1.1 gives) in
    let rest = IsRunWith-weaker (λ before taken after. HasVotersOnTheWay next steps after) Holds (λ before after taken has. inr (next, gives, has)) next target (one_change_each steps)
    (one_change_each-keeps_voters next target steps run.2) in
    subst (λ each. IsRunWith Holds now each target) (sym (flat_map-cons each_change step steps)) (IsChain-append Leads now next target (each_change step) (one_change_each steps) first rest)
  where
    by : (next : Configuration) → Gives now step next → (c : Configuration) → HasVotersOf now next c → HasVotersOnTheWay now (step ∷ steps) c
    by next gives c (inl same) = inl same
    by next gives c (inr same) = inr (next, gives, HasVotersOnTheWay-first next c steps same)

-- what holds of the voters of each configuration on the way of the steps holds of each that has such voters
of_voters : (Holds : Voters → Type 0) (now target c : Configuration) (steps : List Step) → Holds (voters_of now) → EachOnTheWay (λ d. Holds (voters_of d)) now steps target
    → HasVotersOnTheWay now steps c → Holds (voters_of c)
of_voters Holds now target c [] holds run same = subst Holds (sym same) holds
of_voters Holds now target c (step ∷ steps) holds run (inl same) = subst Holds (sym same) holds
of_voters Holds now target c (step ∷ steps) holds run (inr (next, gives, has)) =
    let same : next ≡ run.0 = ap (λ (o : Outcome). result_unwrap_or o now) (sym gives ∙ run.1.0) in
    of_voters Holds run.0 target c steps run.1.1 run.2 (subst (λ d. HasVotersOnTheWay d steps c) same has)

pub each-of_voters : (Holds : Voters → Type 0) (now target : Configuration) (steps others : List Step) → Holds (voters_of now) → EachOnTheWay (λ c. Holds (voters_of c)) now steps target
    → EachOnTheWay (HasVotersOnTheWay now steps) now others target → EachOnTheWay (λ c. Holds (voters_of c)) now others target
each-of_voters Holds now target steps others holds run alike =
    IsRunWith-weaker (λ before step after. HasVotersOnTheWay now steps after) (λ before step after. Holds (voters_of after))
    (λ before after step has. of_voters Holds now target after steps holds run has) now target others alike

pub path_by-keeps_voters : (strategy : Strategy) (down : Ids) (now target : Configuration) → IsValidWithVoter now → IsValidWithVoter target → has_path strategy now target ≡ true
    → EachOnTheWay (HasVotersOnTheWay now (path_by strategy down now target)) now (one_change_each (path_by strategy down now target)) target
path_by-keeps_voters strategy down now target now_valid_with_voter valid_with_voter way = grind (arith, one_change_each-keeps_voters, path_by-of_proposals, Splits-of_proposals)
