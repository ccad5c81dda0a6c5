-- A path that is made anew after the first proposal is no longer than the rest of the first path.
use Rattle.std.proofs.Common.{◌≡◌, ℕ, ◌+◌, ◌≤◌, true, false, ◌||◌, inl, inr, List, [], ◌∷◌, ◌++◌, length, map, refl, sym, ap, subst, ◌∙◌, arith, eqb-true}
use Rattle.std.specs.Prelude.{nat_le}
use Rattle.std.proofs.lemmas.Bool.{both_ways, cond_both, cond-true, le-leb, leb-true, or_cases, or_left, or_right}
use Rattle.std.proofs.lemmas.List.{length-append, length-map}
use Rattle.std.proofs.lemmas.List.Concat.{flat_map-cons}
use Rattle.quorum_sets.specs.Ids.{Ids, no_ids, has, is_empty, difference_count, union}
use Rattle.quorum_sets.proofs.Offered.{has-no_ids, has-same_ids, has-union}
use Rattle.conf_change.specs.Change.{result_of}
use Rattle.conf_change.specs.Configuration.{Configuration, is_joint, is_member, is_same}
use Rattle.conf_change.specs.Outcome.{after_leave}
use Rattle.conf_change.specs.declared.change.Change.{Change}
use Rattle.conf_change.specs.declared.step.Step.{Step}
use Rattle.conf_change.specs.declared.step.Step.TheVariants.{Simple, EnterJoint, LeaveJoint}
use Rattle.conf_change.proofs.Offered.{SimpleTaken-from_outcome, has-none_in_empty, is_empty-no_ids, is_same-is_equality, is_same_set-refl, outcome-leave_accepted, outgoing-none, result_of-none}
use Rattle.conf_plan.specs.LearnersFirst.{newcomers, learner_changes, with_learners, learners_first_from_single}
use Rattle.conf_plan.specs.OnTheWay.{ChangesOneLearnerFirst}
use Rattle.conf_plan.specs.OneChangeEach.{each_change, one_change_each}
use Rattle.conf_plan.specs.PathBy.{has_path, from_single_by, path_by}
use Rattle.conf_plan.specs.Planned.{single_with, moves, single_steps, shared_members, entering_step, planned_from_single, planned}
use Rattle.conf_plan.specs.Run.{IsValidWithVoter, Gives, IsRunWith}
use Rattle.conf_plan.specs.declared.strategy.Strategy.{Strategy}
use Rattle.conf_plan.specs.declared.strategy.Strategy.TheVariants.{Shortest, LearnersFirst, OneAtATime}
use Rattle.conf_plan.proofs.FindingMoves.ResultingConfiguration.{IsSingle, AreWanted, own-are_wanted, single_with-own}
use Rattle.conf_plan.proofs.OnTheWay.EachStrategy.{path_by-keeps_promises}
use Rattle.conf_plan.proofs.OnTheWay.FewestSingleChanges.{one_at_a_time-least}
use Rattle.conf_plan.proofs.OnTheWay.FirstMove.{Gives-one, IsAfterMove, first_move-made, first_move-one_less}
use Rattle.conf_plan.proofs.OnTheWay.LearnersFirst.{planned-of_single}
use Rattle.conf_plan.proofs.OnTheWay.OneChangeEach.{one_change-whole}
use Rattle.conf_plan.proofs.OnTheWay.Newcomers.{HasNoNewcomer, HasNoNewcomer-empty, has-newcomers, newcomers-are_wanted, with_newcomers-is_single}
use Rattle.conf_plan.proofs.PlannedSteps.BetweenSingle.{entered_by, enter_moves-accepted, leave_moves-accepted, simple_moves-accepted}
use Rattle.conf_plan.proofs.PlannedSteps.IntoJoint.{at_outgoing-has_members, at_outgoing-is_single, entering-reaches, has-shared_members, outgoing-are_wanted}
use Rattle.conf_plan.proofs.PlannedSteps.Shapes.{path_by-of_shapes, planned_from_single-of_shapes}
use Rattle.conf_plan.proofs.Runs.Chains.{run-is_valid, IsRun-one}

-- ---- the next configuration
pub Gives-valid : (now next : Configuration) (step : Step) → IsValidWithVoter now → Gives now step next → IsValidWithVoter next
Gives-valid now next step valid_with_voter gives = run-is_valid now next (step ∷ []) valid_with_voter (IsRun-one now next step gives)

none_is_first : {P : Type 0} (step : Step) (rest : List Step) → [] ≡ step ∷ rest → P
none_is_first step rest e = absurd (cc)

pub has_path-next : (strategy : Strategy) (down : Ids) (now next target : Configuration) (step : Step) (rest : List Step) → has_path strategy now target ≡ true
    → one_change_each (path_by strategy down now target) ≡ step ∷ rest → has_path strategy next target ≡ true
has_path-next Shortest down now next target step rest way is = refl
has_path-next LearnersFirst down now next target step rest way is = refl
has_path-next OneAtATime down now next target step rest way is = grind (arith, or_cases, none_is_first, cond-true, or_right)

-- ---- one member at a time
-- steps of one change are proposed as they are
one_change_each-of_one : (now target : Configuration) (steps : List Step) → IsRunWith ChangesOneLearnerFirst now steps target → one_change_each steps ≡ steps
one_change_each-of_one now target [] run = refl
one_change_each-of_one now target (step ∷ steps) run =
    flat_map-cons each_change step steps ∙ ap (λ xs. xs ++ one_change_each steps) (one_change-whole now run.0 step run.1.1)
    ∙ ap (λ ys. step ∷ ys) (one_change_each-of_one run.0 target steps run.2)

-- the path that is made anew is a run of single changes, and none is shorter
pub one_at_a_time-next : (down : Ids) (now next target : Configuration) (step : Step) (rest : List Step) → IsValidWithVoter now → IsValidWithVoter target
    → has_path OneAtATime now target ≡ true → one_change_each (path_by OneAtATime down now target) ≡ step ∷ rest → Gives now step next
    → length (one_change_each (path_by OneAtATime down next target)) ≤ length rest
one_at_a_time-next down now next target step rest now_valid_with_voter valid_with_voter way is gives =
    let steps = path_by OneAtATime down now target in
    let again = path_by OneAtATime down next target in
    let promises = path_by-keeps_promises OneAtATime down now target now_valid_with_voter valid_with_voter way in
    let whole : steps ≡ step ∷ rest = sym (one_change_each-of_one now target steps promises.run) ∙ is in
    let run = subst (λ taken. IsRunWith ChangesOneLearnerFirst now taken target) whole promises.run in
    let rest_run = subst (λ c. IsRunWith ChangesOneLearnerFirst c rest target) (Gives-one now run.0 next step run.1.0 gives) run.2 in
    let next_valid = Gives-valid now next step now_valid_with_voter gives in
    let next_way = has_path-next OneAtATime down now next target step rest way is in
    let as_it_is = ap length (one_change_each-of_one next target again (path_by-keeps_promises OneAtATime down next target next_valid valid_with_voter next_way).run) in
    let fewer = one_at_a_time-least down next target next_valid rest rest_run in
    omega arith

-- ---- how many proposals steps are
abbrev proposals : List Step → ℕ
proposals steps = length (one_change_each steps)

proposals-cons : (step : Step) (steps : List Step) → proposals (step ∷ steps) ≡ length (each_change step) + proposals steps
proposals-cons step steps = ap length (flat_map-cons each_change step steps) ∙ length-append (each_change step) (one_change_each steps)

proposals-simple : (changes : List Change) (steps : List Step) → proposals (Simple changes ∷ steps) ≡ length changes + proposals steps
proposals-simple changes steps = proposals-cons (Simple changes) steps ∙ ap (λ n. n + proposals steps) (length-map changes (λ change. Simple (change ∷ [])))

few-steps : (c : Configuration) (voters learners : Ids) → difference_count c.incoming voters ≤ 1 → single_steps c voters learners ≡ Simple (moves c voters learners) ∷ []
few-steps c voters learners few = cond-true (nat_le (difference_count c.incoming voters) 1) _ _ (le-leb _ 1 few)

-- ---- at most how many a path has
path_by-own : (strategy : Strategy) (down : Ids) (c target : Configuration) → c ≡ target → path_by strategy down c target ≡ []
path_by-own strategy down c target same = cond-true (is_same c target) _ _ ((is_same-is_equality c target).1 same)

path_by-at_most : (strategy : Strategy) (down : Ids) (c target : Configuration) (n : ℕ) → IsSingle c → proposals (from_single_by strategy down c target) ≤ n → proposals (path_by strategy down c target) ≤ n
path_by-at_most strategy down c target n single few = grind (arith, path_by-of_shapes, both_ways, few)

-- where one voter differs, as many as there are moves, and one more into a joint configuration
planned-at_most_apart : (c target : Configuration) → IsSingle c → IsValidWithVoter target → is_joint target ≡ false → difference_count c.incoming target.incoming ≤ 1
    → proposals (planned_from_single c target) ≤ length (moves c target.incoming target.learners)
planned-at_most_apart c target single valid_with_voter apart few =
    let changes = moves c target.incoming target.learners in
    planned_from_single-of_shapes c target (λ steps. proposals steps ≤ length changes) single valid_with_voter (record {
      nothing = λ same. omega arith;
      apart = λ is differs. omega (arith, ap proposals (few-steps c target.incoming target.learners few), proposals-simple changes []);
      at_once = λ joint same. absurd (both_ways _ apart joint);
      inserted = λ joint differs. absurd (both_ways _ apart joint);
    })

planned-at_most_joint : (c target : Configuration) → IsSingle c → IsValidWithVoter target → is_joint target ≡ true → difference_count c.incoming target.outgoing ≤ 1
    → proposals (planned_from_single c target) ≤ length (moves c target.outgoing (shared_members c target)) + 1
planned-at_most_joint c target single valid_with_voter joint few =
    let shared = shared_members c target in
    let changes = moves c target.outgoing shared in
    let entering = entering_step (single_with target.outgoing shared) target in
    planned_from_single-of_shapes c target (λ steps. proposals steps ≤ length changes + 1) single valid_with_voter (record {
      nothing = λ same. omega arith;
      apart = λ apart differs. absurd (both_ways _ apart joint);
      at_once = λ is same. omega (arith, proposals-cons (entering_step c target) []);
      inserted = λ is differs.
          omega (
            arith,
            ap (λ steps. proposals (steps ++ entering ∷ [])) (few-steps c target.outgoing shared few),
            proposals-simple changes (entering ∷ []),
            proposals-cons entering [],
          );
    })

-- from the target's outgoing voters, at most one
planned-at_most_one : (c target : Configuration) → IsSingle c → IsValidWithVoter target → is_joint target ≡ true → c.incoming ≡ target.outgoing → proposals (planned_from_single c target) ≤ 1
planned-at_most_one c target single valid_with_voter joint alike =
    planned_from_single-of_shapes c target (λ steps. proposals steps ≤ 1) single valid_with_voter (record {
      nothing = λ same. omega arith;
      apart = λ apart differs. absurd (both_ways _ apart joint);
      at_once = λ is same. omega (arith, proposals-cons (entering_step c target) []);
      inserted = λ is differs. absurd (differs alike);
    })

-- the configuration in which newcomers are learners
learning-is : (c target : Configuration) → IsSingle c → single_with c.incoming (union c.learners (newcomers c target)) ≡ with_learners c (newcomers c target)
learning-is c target single = ap (λ (d : Configuration). with_learners d (newcomers c target)) (single_with-own c single)

planned-learning : (c target : Configuration) → IsSingle c → IsValidWithVoter target
    → planned (with_learners c (newcomers c target)) target ≡ planned_from_single (single_with c.incoming (union c.learners (newcomers c target))) target
planned-learning c target single valid_with_voter =
    planned-of_single (with_learners c (newcomers c target)) target (with_newcomers-is_single c target single valid_with_voter)
    ∙ ap (λ d. planned_from_single d target) (sym (learning-is c target single))

-- as many as make learners, and those of the plan from there
learners_first-at_most : (c target : Configuration) → IsSingle c → IsValidWithVoter target
    → proposals (learners_first_from_single c target)
    ≤ length (moves c c.incoming (union c.learners (newcomers c target))) + proposals (planned_from_single (single_with c.incoming (union c.learners (newcomers c target))) target)
learners_first-at_most c target single valid_with_voter =
    let new = newcomers c target in
    let most = length (moves c c.incoming (union c.learners new)) + proposals (planned_from_single (single_with c.incoming (union c.learners new)) target) in
    cond_both (is_empty new) (planned c target) (Simple (learner_changes c new) ∷ planned (with_learners c new) target) (λ steps. proposals steps ≤ most)
    (λ none.
    let alike : single_with c.incoming (union c.learners new) ≡ c =
    ap (λ ids. single_with c.incoming ids) (has-same_ids (union c.learners new) c.learners (λ q. grind (arith, has-union c.learners new q, has-none_in_empty new none q))) ∙ single_with-own c single in
    omega (arith, ap proposals (planned-of_single c target single), ap (λ d. proposals (planned_from_single d target)) alike))
    (λ some. omega (arith, proposals-simple (learner_changes c new) (planned (with_learners c new) target), ap proposals (planned-learning c target single valid_with_voter)))

-- ---- what the first proposal leaves
-- wherever the first proposal of the steps leads, the path from there has at most as many as are left
abbrev Falls : Strategy → Ids → Configuration → Configuration → List Step → Type 0
Falls strategy down now target steps =
    (next : Configuration) (step : Step) (rest : List Step) → one_change_each steps ≡ step ∷ rest → Gives now step next → proposals (path_by strategy down next target) ≤ length rest

-- a step that is a proposal by itself
falls-whole : (strategy : Strategy) (down : Ids) (now after target : Configuration) (step : Step) (steps : List Step) → each_change step ≡ step ∷ [] → Gives now step after
    → proposals (path_by strategy down after target) ≤ proposals steps → Falls strategy down now target (step ∷ steps)
falls-whole strategy down now after target step steps alone leads few next first rest is gives =
    let whole : step ∷ one_change_each steps ≡ first ∷ rest = sym (flat_map-cons each_change step steps ∙ ap (λ xs. xs ++ one_change_each steps) alone) ∙ is in
    let same_first : first ≡ step = cc in
    let same_rest : one_change_each steps ≡ rest = cc in
    let same : after ≡ next = Gives-one now after next step leads (subst (λ s. Gives now s next) same_first gives) in
    subst (λ c. proposals (path_by strategy down c target) ≤ length rest) same (omega (arith, few, ap length same_rest))

-- a simple step, of which the first change is the first proposal
falls-simple : (strategy : Strategy) (down : Ids) (now target : Configuration) (changes : List Change) (steps : List Step) → (changes ≡ [] → Falls strategy down now target steps)
    → ((x : Change) (xs : List Change) (next : Configuration) → changes ≡ x ∷ xs → Gives now (Simple (x ∷ [])) next → proposals (path_by strategy down next target) ≤ length xs + proposals steps)
    → Falls strategy down now target (Simple changes ∷ steps)
falls-simple strategy down now target [] steps none some next step rest is gives = none refl next step rest (sym (flat_map-cons each_change (Simple []) steps) ∙ is) gives
falls-simple strategy down now target (x ∷ xs) steps none some next step rest is gives = grind (arith, map, flat_map-cons, length, length-append, length-map)

-- two steps through a joint configuration
falls-through_joint : (strategy : Strategy) (down : Ids) (c target : Configuration) (voters learners : Ids) (steps : List Step) → IsSingle c → AreWanted voters learners
    → proposals (from_single_by strategy down (single_with voters learners) target) ≤ proposals steps
    → Falls strategy down c target (EnterJoint false (moves c voters learners) ∷ LeaveJoint ∷ steps)
falls-through_joint strategy down c target voters learners steps single wanted few =
    let enter = EnterJoint false (moves c voters learners) in
    let entered = entered_by c voters learners in
    let accepted = enter_moves-accepted c voters learners single wanted in
    let left = proposals-cons LeaveJoint steps in
    falls-whole strategy down c entered target enter (LeaveJoint ∷ steps) refl accepted
    (path_by-of_shapes strategy down entered target (λ taken. proposals taken ≤ proposals (LeaveJoint ∷ steps)) (Gives-valid c entered enter single.valid_with_voter accepted)
    (λ same. omega arith)
    (λ differs joint after.
    let same : after_leave entered ≡ single_with voters learners =
    Gives-one entered (after_leave entered) (single_with voters learners) LeaveJoint (outcome-leave_accepted entered joint) (leave_moves-accepted c voters learners single wanted) in
    omega (arith, few, left, proposals-cons LeaveJoint (from_single_by strategy down (after_leave entered) target), ap (λ d. proposals (from_single_by strategy down d target)) same))
    (λ differs apart. absurd (both_ways _ apart.single single.valid_with_voter.voter)))

-- ---- after the first move
few-after : (c next : Configuration) (voters learners : Ids) (id : ℕ) → IsAfterMove c next voters learners id → difference_count c.incoming voters ≤ 1 → difference_count next.incoming voters ≤ 1
few-after c next voters learners id after few = grind (arith, voters, few, eqb-true, is_same_set-refl)

-- a member that is wanted stays
stays-after : (c next : Configuration) (voters learners : Ids) (id : ℕ) → IsSingle c → IsAfterMove c next voters learners id → (q : ℕ) → is_member c q ≡ true
    → (has voters q || has learners q) ≡ true → is_member next q ≡ true
stays-after c next voters learners id single after q member wanted = grind (arith, after.votes q, after.learns q, outgoing-none c single.single, has-no_ids q, member, wanted)

-- where there is no move, there are these voters and learners
no_move-same : (c : Configuration) (voters learners : Ids) → IsSingle c → AreWanted voters learners → difference_count c.incoming voters ≤ 1 → moves c voters learners ≡ [] → c ≡ single_with voters learners
no_move-same c voters learners single wanted few none =
    result_of-none c ∙ ap (result_of c) (sym none)
    ∙ (SimpleTaken-from_outcome c (single_with voters learners) (moves c voters learners) (simple_moves-accepted c voters learners single wanted few)).made

-- ---- the plan
-- from each configuration that has the members of both ends, the strategy's path is the plan
abbrev PlansFrom : Strategy → Ids → Configuration → Configuration → Type 0
PlansFrom strategy down c target =
    (d : Configuration) → IsSingle d → ((q : ℕ) → is_member c q ≡ true → is_member target q ≡ true → is_member d q ≡ true) → from_single_by strategy down d target ≡ planned_from_single d target

planned-falls : (strategy : Strategy) (down : Ids) (c target : Configuration) → IsSingle c → IsValidWithVoter target → PlansFrom strategy down c target
    → Falls strategy down c target (planned_from_single c target)
planned-falls strategy down c target single valid_with_voter plans =
    planned_from_single-of_shapes c target (Falls strategy down c target) single valid_with_voter (record {
      nothing = λ same next step rest is. none_is_first step rest is;
      apart = λ apart differs. falls-apart apart;
      at_once = λ joint same.
          falls-whole strategy down c target target (entering_step c target) [] refl (entering-reaches c target single valid_with_voter same)
          (omega (arith, ap proposals (path_by-own strategy down target target refl)));
      inserted = λ joint differs. falls-inserted joint differs;
    })
  where
    falls-apart : is_joint target ≡ false → Falls strategy down c target (single_steps c target.incoming target.learners)
    falls-apart apart =
        let voters = target.incoming in
        let learners = target.learners in
        let wanted = own-are_wanted target valid_with_voter in
        let single_target : IsSingle target = record { valid_with_voter = valid_with_voter; single = apart } in
        let own = single_with-own target single_target in
        let plan = plans (single_with voters learners) (subst IsSingle (sym own) single_target) (λ q member stays. subst (λ d. is_member d q ≡ true) (sym own) stays)
        ∙ cond-true (is_same (single_with voters learners) target) _ _ ((is_same-is_equality (single_with voters learners) target).1 own) in
        cond_both (nat_le (difference_count c.incoming voters) 1) (Simple (moves c voters learners) ∷ []) (EnterJoint false (moves c voters learners) ∷ LeaveJoint ∷ []) (Falls strategy down c target)
        (λ few.
        falls-simple strategy down c target (moves c voters learners) [] (λ none next step rest is. none_is_first step rest is) (λ x xs next is gives.
        let after = first_move-made c next voters learners x xs single wanted (leb-true _ 1 few) is gives in
        let known = λ (q : ℕ) (member : is_member c q ≡ true) (stays : is_member target q ≡ true).
        stays-after c next voters learners x.id single after q member (grind (arith, outgoing-none target apart, has-no_ids q, stays)) in
        let most = planned-at_most_apart next target after.single valid_with_voter apart (few-after c next voters learners x.id after (leb-true _ 1 few)) in
        path_by-at_most strategy down next target _ after.single
        (omega (arith, most, ap proposals (plans next after.single known), first_move-one_less c next voters learners x.id after, ap length is))))
        (λ many. falls-through_joint strategy down c target voters learners [] single wanted (omega (arith, ap proposals plan)))

    falls-inserted : is_joint target ≡ true → (c.incoming ≡ target.outgoing → ⊥)
        → Falls strategy down c target (single_steps c target.outgoing (shared_members c target) ++ entering_step (single_with target.outgoing (shared_members c target)) target ∷ [])
    falls-inserted joint differs =
        let voters = target.outgoing in
        let learners = shared_members c target in
        let wanted = outgoing-are_wanted c target valid_with_voter joint in
        let reached = single_with voters learners in
        let single_reached = at_outgoing-is_single c target single valid_with_voter joint in
        let last = entering_step reached target ∷ [] in
        let one = proposals-cons (entering_step reached target) [] in
        cond_both (nat_le (difference_count c.incoming voters) 1) (Simple (moves c voters learners) ∷ []) (EnterJoint false (moves c voters learners) ∷ LeaveJoint ∷ []) (λ first. Falls strategy down c target (first ++ last))
        (λ few.
        falls-simple strategy down c target (moves c voters learners) last
        (λ none. absurd (differs (ap (λ (d : Configuration). d.incoming) (no_move-same c voters learners single wanted (leb-true _ 1 few) none))))
        (λ x xs next is gives.
        let after = first_move-made c next voters learners x xs single wanted (leb-true _ 1 few) is gives in
        let in_c = outgoing-none c single.single in
        let in_next = outgoing-none next after.single.single in
        let known = λ (q : ℕ) (member : is_member c q ≡ true) (stays : is_member target q ≡ true).
        stays-after c next voters learners x.id single after q member (grind (arith, has-shared_members c target q, member, stays)) in
        let alike : shared_members next target ≡ learners =
        has-same_ids _ _ (λ q.
        grind (arith, has-shared_members next target q, has-shared_members c target q, after.votes q, after.learns q, in_c, in_next, has-no_ids q)) in
        let most = planned-at_most_joint next target after.single valid_with_voter joint (few-after c next voters learners x.id after (leb-true _ 1 few)) in
        path_by-at_most strategy down next target _ after.single
        (omega (
          arith,
          most,
          ap (λ ids. length (moves next voters ids)) alike,
          ap proposals (plans next after.single known),
          first_move-one_less c next voters learners x.id after,
          ap length is,
          one,
        ))))
        (λ many.
        falls-through_joint strategy down c target voters learners last single wanted
        (omega (
          arith,
          one,
          ap proposals (plans reached single_reached (at_outgoing-has_members c target)),
          planned-at_most_one reached target single_reached valid_with_voter joint refl,
        )))

-- ---- learners first
learners_first-planned : (c target : Configuration) → IsSingle c → HasNoNewcomer c target → learners_first_from_single c target ≡ planned_from_single c target
learners_first-planned c target single known =
    let new = newcomers c target in
    let none : is_empty new ≡ true = ap is_empty (has-same_ids new no_ids (λ q. grind (arith, has-newcomers c target q, known q, has-no_ids q))) ∙ is_empty-no_ids in
    cond-true (is_empty new) _ _ none ∙ planned-of_single c target single

learners_first-falls : (down : Ids) (c target : Configuration) → IsSingle c → IsValidWithVoter target → Falls LearnersFirst down c target (learners_first_from_single c target)
learners_first-falls down c target single valid_with_voter =
    cond_both (is_empty new) (planned c target) (Simple (learner_changes c new) ∷ planned (with_learners c new) target) (Falls LearnersFirst down c target)
    (λ none.
    subst (Falls LearnersFirst down c target) (sym (planned-of_single c target single))
    (planned-falls LearnersFirst down c target single valid_with_voter (λ d single_d stays.
    learners_first-planned d target single_d (λ q votes. stays q (HasNoNewcomer-empty c target none q votes) (or_left _ (has target.learners q) votes)))))
    (λ some.
    falls-simple LearnersFirst down c target (learner_changes c new) (planned (with_learners c new) target) (λ none. absurd (both_ways _ some (empty none))) by_first)
  where
    new : Ids
    new = newcomers c target

    voters : Ids
    voters = c.incoming

    learners : Ids
    learners = union c.learners new

    wanted : AreWanted voters learners
    wanted = newcomers-are_wanted c target single valid_with_voter

    few : difference_count c.incoming voters ≤ 1
    few = let none = eqb-true (difference_count c.incoming c.incoming) 0 (is_same_set-refl c.incoming) in omega arith

    empty : moves c voters learners ≡ [] → is_empty new ≡ true
    empty none =
        let same = no_move-same c voters learners single wanted few none in
        ap is_empty (has-same_ids new no_ids (λ q.
        grind (arith, has-newcomers c target q, has-union c.learners new q, ap (λ (d : Configuration). has d.learners q) same, has-no_ids q)))
        ∙ is_empty-no_ids

    by_first : (x : Change) (xs : List Change) (next : Configuration) → moves c voters learners ≡ x ∷ xs → Gives c (Simple (x ∷ [])) next
        → proposals (path_by LearnersFirst down next target) ≤ length xs + proposals (planned (with_learners c new) target)
    by_first x xs next is gives =
        let after = first_move-made c next voters learners x xs single wanted few is gives in
        let in_c = outgoing-none c single.single in
        let in_next = outgoing-none next after.single.single in
        let left = newcomers next target in
        let same_voters : next.incoming ≡ voters = elim after.either [ inl same ↦ same | inr same ↦ same ] in
        let same_learners : union next.learners left ≡ learners =
        has-same_ids _ _ (λ q.
        grind (
          arith,
          has-union next.learners left q,
          has-union c.learners new q,
          has-newcomers next target q,
          has-newcomers c target q,
          after.votes q,
          after.learns q,
          in_c,
          in_next,
          has-no_ids q,
        )) in
        let moved : length (moves next next.incoming (union next.learners left)) ≡ length (moves next voters learners) = λ i. length (moves next (same_voters i) (same_learners i)) in
        let planned_alike : proposals (planned_from_single (single_with next.incoming (union next.learners left)) target) ≡ proposals (planned_from_single (single_with voters learners) target) =
        λ i. proposals (planned_from_single (single_with (same_voters i) (same_learners i)) target) in
        path_by-at_most LearnersFirst down next target _ after.single
        (omega (
          arith,
          learners_first-at_most next target after.single valid_with_voter,
          moved,
          planned_alike,
          ap proposals (planned-learning c target single valid_with_voter),
          first_move-one_less c next voters learners x.id after,
          ap length is,
        ))

-- ---- each strategy
path_by-falls : (strategy : Strategy) (down : Ids) (now target : Configuration) → IsValidWithVoter now
    → ((c : Configuration) → IsSingle c → Falls strategy down c target (from_single_by strategy down c target)) → Falls strategy down now target (path_by strategy down now target)
path_by-falls strategy down now target valid_with_voter from_single =
    path_by-of_shapes strategy down now target (Falls strategy down now target) valid_with_voter (λ same next step rest is. none_is_first step rest is)
    (λ differs joint single.
    falls-whole strategy down now (after_leave now) target LeaveJoint (from_single_by strategy down (after_leave now) target) refl (outcome-leave_accepted now joint)
    (path_by-at_most strategy down (after_leave now) target _ single (omega arith)))
    (λ differs single. from_single now single)

pub next_path-shorter : (strategy : Strategy) (down : Ids) (now next target : Configuration) (step : Step) (rest : List Step) → IsValidWithVoter now → IsValidWithVoter target
    → has_path strategy now target ≡ true → one_change_each (path_by strategy down now target) ≡ step ∷ rest → Gives now step next
    → length (one_change_each (path_by strategy down next target)) ≤ length rest
next_path-shorter Shortest down now next target step rest now_valid_with_voter valid_with_voter way is gives =
    path_by-falls Shortest down now target now_valid_with_voter (λ c single. planned-falls Shortest down c target single valid_with_voter (λ d single_d stays. refl)) next step rest is gives
next_path-shorter LearnersFirst down now next target step rest now_valid_with_voter valid_with_voter way is gives =
    path_by-falls LearnersFirst down now target now_valid_with_voter (λ c single. learners_first-falls down c target single valid_with_voter) next step rest is gives
next_path-shorter OneAtATime down now next target step rest now_valid_with_voter valid_with_voter way is gives =
    one_at_a_time-next down now next target step rest now_valid_with_voter valid_with_voter way is gives
