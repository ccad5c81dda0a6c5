-- The first of the moves to some voters and learners, as a step of its own: one id less has to change after it.
use Rattle.std.proofs.Common.{◌≡◌, ℕ, ◌+◌, ◌≤◌, Bool, true, false, cond, ◌==◌, ◌⊎◌, inl, inr, List, [], ◌∷◌, length, refl, sym, ap, subst, ◌∙◌, is_some, arith, eqb-true, eq-eqb}
use Rattle.std.specs.Prelude.{Option, Some, None, option_map, filter_map, count_by}
use Rattle.std.specs.List.{All, cons_option}
use Rattle.std.specs.Result.{result_unwrap_or}
use Rattle.std.proofs.lemmas.Bool.{not-false, not-true}
use Rattle.std.proofs.lemmas.List.Elements.{All-head}
use Rattle.std.proofs.lemmas.List.Sums.{sum_by-cons}
use Rattle.quorum_sets.specs.Ids.{Ids, has, with_id, ascending, size, ids_where, is_empty, difference_count, union}
use Rattle.quorum_sets.specs.Voters.{Voters}
use Rattle.quorum_sets.proofs.Offered.{has-same_ids, has-union, has-with_id, size-with_id}
use Rattle.conf_change.specs.Change.{names, is_incoming_after, is_learner_after, is_update, result_of}
use Rattle.conf_change.specs.Configuration.{Configuration, is_joint}
use Rattle.conf_change.specs.Outcome.{Outcome}
use Rattle.conf_change.specs.declared.change.Change.{Change}
use Rattle.conf_change.specs.declared.change.Kind.{Kind}
use Rattle.conf_change.specs.declared.step.Step.{Step}
use Rattle.conf_change.specs.declared.step.Step.TheVariants.{Simple}
use Rattle.conf_change.proofs.Offered.{SimpleTaken-from_outcome, ValidByMember-from_is_valid, has-incoming_after, has-learners_after, has-none_in_empty, last_effective-one}
use Rattle.conf_plan.specs.OneChangeEach.{each_change}
use Rattle.conf_plan.specs.Planned.{kind_by, kind_of_move, moves, single_with}
use Rattle.conf_plan.specs.Run.{Gives, IsRunWith}
use Rattle.conf_plan.proofs.FindingMoves.OfEachId.{change_of, IsFor, filter_map-each, kind_by-no_update}
use Rattle.conf_plan.proofs.FindingMoves.ResultingConfiguration.{IsSingle, AreWanted, kind_of_move-zero}
use Rattle.conf_plan.proofs.OnTheWay.OneAtATimeTolerance.{counted-passing}
use Rattle.conf_plan.proofs.OnTheWay.OneChangeEach.{HasVotersOf, KeepsVotersOf, Splits-moves}
use Rattle.conf_plan.proofs.OnTheWay.OrderOfIds.{has-where}
use Rattle.conf_plan.proofs.PlannedSteps.BetweenSingle.{simple_moves-accepted}
use Rattle.conf_plan.proofs.Runs.Chains.{run-is_valid, IsRun-one}

-- a step leads to one configuration alone
pub Gives-one : (before a b : Configuration) (step : Step) → Gives before step a → Gives before step b → a ≡ b
Gives-one before a b step to_a to_b = ap (λ (o : Outcome). result_unwrap_or o before) (sym to_a ∙ to_b)

pub simple-is_single : (c next : Configuration) (changes : List Change) → IsSingle c → Gives c (Simple changes) next → IsSingle next
simple-is_single c next changes single gives = record {
  valid_with_voter = run-is_valid c next (Simple changes ∷ []) single.valid_with_voter (IsRun-one c next (Simple changes) gives);
  single = sym (ap is_joint (SimpleTaken-from_outcome c next changes gives).made) ∙ single.single;
}

-- ---- how many moves there are
-- the ids that have to change on the way to these voters and learners
abbrev changing : Configuration → Ids → Ids → Ids
changing c voters learners = ids_where (λ id. is_some (kind_of_move c voters learners id)) (ascending (union (union voters learners) (union c.incoming c.learners)))

has-changing : (c : Configuration) (voters learners : Ids) (q : ℕ) → has (changing c voters learners) q ≡ is_some (kind_of_move c voters learners q)
has-changing c voters learners q = grind (arith, has-where, is_some, has-union)

length-moves_of : (kind_for : ℕ → Option Kind) (ids : List ℕ) → length (filter_map (λ id. option_map (change_of id) (kind_for id)) ids) ≡ count_by (λ id. is_some (kind_for id)) ids
length-moves_of kind_for [] = refl
length-moves_of kind_for (x ∷ ids) = first (kind_for x) refl _ (length-moves_of kind_for ids)
  where
    first : (o : Option Kind) → kind_for x ≡ o → (rest : List Change) → length rest ≡ count_by (λ id. is_some (kind_for id)) ids
        → length (cons_option (option_map (change_of x) o) rest) ≡ count_by (λ id. is_some (kind_for id)) (x ∷ ids)
    first None is rest counted = grind (arith, is, counted, sum_by-cons (λ id. cond (is_some (kind_for id)) 1 0) x ids)
    first (Some kind) is rest counted = grind (arith, is, counted, sum_by-cons (λ id. cond (is_some (kind_for id)) 1 0) x ids)

length-moves : (c : Configuration) (voters learners : Ids) → length (moves c voters learners) ≡ size (changing c voters learners)
length-moves c voters learners =
    let all = union (union voters learners) (union c.incoming c.learners) in
    length-moves_of (kind_of_move c voters learners) (ascending all) ∙ counted-passing (λ id. is_some (kind_of_move c voters learners id)) all

-- ---- the first move
-- an id that had to change has the wanted roles, and the others have theirs; the voters are the wanted ones or as before
pub record IsAfterMove (c next : Configuration) (voters learners : Ids) (id : ℕ) : Type 0 where
  pub single : IsSingle next
  pub moved : is_some (kind_of_move c voters learners id) ≡ true
  pub votes : (q : ℕ) → has next.incoming q ≡ cond (q == id) (has voters q) (has c.incoming q)
  pub learns : (q : ℕ) → has next.learners q ≡ cond (q == id) (has learners q) (has c.learners q)
  pub either : (next.incoming ≡ c.incoming) ⊎ (next.incoming ≡ voters)

roles_by : (will_vote will_learn votes learns : Bool) (kind : Kind) → (will_vote ≡ true → will_learn ≡ false) → kind_by will_vote will_learn votes learns ≡ Some kind
    → (is_incoming_after (Some kind) votes ≡ will_vote) × (is_learner_after (Some kind) false learns ≡ will_learn)
roles_by will_vote will_learn votes learns kind apart is = (grind arith, grind arith)

pub first_move-made : (c next : Configuration) (voters learners : Ids) (x : Change) (rest : List Change) → IsSingle c → AreWanted voters learners → difference_count c.incoming voters ≤ 1
    → moves c voters learners ≡ x ∷ rest → Gives c (Simple (x ∷ [])) next → IsAfterMove c next voters learners x.id
first_move-made c next voters learners x rest single wanted few is gives = record {
  single = simple-is_single c next (x ∷ []) single gives;
  moved = ap is_some is_for;
  votes = λ q. in_role q (q == x.id) refl;
  learns = λ q. learner_role q (q == x.id) refl;
  either = by_voters had;
}
  where
    made : result_of c (x ∷ []) ≡ next
    made = (SimpleTaken-from_outcome c next (x ∷ []) gives).made

    is_for : kind_of_move c voters learners x.id ≡ Some x.kind
    is_for =
        let kind_for = kind_of_move c voters learners in
        All-head (IsFor kind_for) x rest (subst (All (IsFor kind_for)) is (filter_map-each kind_for _))

    other : (x.id == 0) ≡ false
    other = grind (arith, kind_of_move-zero, ValidByMember-from_is_valid, single, eqb-true, is_for)

    none : (q : ℕ) → has c.outgoing q ≡ false
    none = has-none_in_empty c.outgoing (not-false (is_empty c.outgoing) single.single)

    after : (is_incoming_after (Some x.kind) (has c.incoming x.id) ≡ has voters x.id) × (is_learner_after (Some x.kind) false (has c.learners x.id) ≡ has learners x.id)
    after = roles_by (has voters x.id) (has learners x.id) (has c.incoming x.id) (has c.learners x.id) x.kind (wanted.apart x.id) is_for

    plain : is_update x.kind ≡ false
    plain = grind (arith, false, is_for, kind_by-no_update)

    named : names x.id x ≡ true
    named = grind (arith, eq-eqb x.id x.id refl, other, plain)

    unnamed : (q : ℕ) → (q == x.id) ≡ false → names q x ≡ false
    unnamed q apart = grind (arith, eqb-true x.id q, eq-eqb q x.id, apart)

    next_incoming : (q : ℕ) → has next.incoming q ≡ is_incoming_after (cond (names q x) (Some x.kind) None) (has c.incoming q)
    next_incoming q =
        ap (λ (d : Configuration). has d.incoming q) (sym made)
        ∙ has-incoming_after c (x ∷ []) q
        ∙ ap (λ o. is_incoming_after o (has c.incoming q)) (last_effective-one x q)

    next_learners : (q : ℕ) → has next.learners q ≡ is_learner_after (cond (names q x) (Some x.kind) None) (has c.outgoing q) (has c.learners q)
    next_learners q =
        ap (λ (d : Configuration). has d.learners q) (sym made)
        ∙ has-learners_after c (x ∷ []) q
        ∙ ap (λ o. is_learner_after o (has c.outgoing q) (has c.learners q)) (last_effective-one x q)

    in_role : (q : ℕ) (same : Bool) → (q == x.id) ≡ same → has next.incoming q ≡ cond same (has voters q) (has c.incoming q)
    in_role q true same = grind (arith, eqb-true, next_incoming, cond, named, after)
    in_role q false apart = next_incoming q ∙ ap (λ b. is_incoming_after (cond b (Some x.kind) None) (has c.incoming q)) (unnamed q apart)

    learner_role : (q : ℕ) (same : Bool) → (q == x.id) ≡ same → has next.learners q ≡ cond same (has learners q) (has c.learners q)
    learner_role q true same = grind (arith, eqb-true, next_learners, cond, named, none, after)
    learner_role q false apart = next_learners q ∙ ap (λ b. is_learner_after (cond b (Some x.kind) None) (has c.outgoing q) (has c.learners q)) (unnamed q apart)

    some_voter : is_empty c.incoming ≡ false
    some_voter = not-true (is_empty c.incoming) single.valid_with_voter.voter

    had : HasVotersOf c (single_with voters learners) next
    had =
        let end = single_with voters learners in
        let run = Splits-moves c voters learners some_voter wanted.voter (simple_moves-accepted c voters learners single wanted few) in
        let first = subst (λ changes. IsRunWith (KeepsVotersOf c end) c (each_change (Simple changes)) end) is run in
        subst (HasVotersOf c end) (Gives-one c first.0 next (Simple (x ∷ [])) first.1.0 gives) first.1.1

    by_voters : HasVotersOf c (single_with voters learners) next → (next.incoming ≡ c.incoming) ⊎ (next.incoming ≡ voters)
    by_voters (inl same) = inl (ap (λ (v : Voters). v.incoming) same)
    by_voters (inr same) = inr (ap (λ (v : Voters). v.incoming) same)

-- one move less is left
pub first_move-one_less : (c next : Configuration) (voters learners : Ids) (id : ℕ) → IsAfterMove c next voters learners id
    → length (moves c voters learners) ≡ length (moves next voters learners) + 1
first_move-one_less c next voters learners id after =
    let left = changing next voters learners in
    let same : with_id left id ≡ changing c voters learners =
    has-same_ids _ _ (λ q.
    grind (
      arith,
      has-with_id left id q,
      has-changing next voters learners q,
      has-changing c voters learners q,
      after.votes q,
      after.learns q,
      after.moved,
      eqb-true q id,
    )) in
    let done : has left id ≡ false = grind (arith, has-changing next voters learners id, after.votes id, after.learns id, eq-eqb id id refl) in
    grind (arith, ap size same, size-with_id left id, done, length-moves c voters learners, length-moves next voters learners)
