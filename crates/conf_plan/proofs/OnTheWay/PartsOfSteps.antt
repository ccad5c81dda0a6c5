-- A simple step of a path, taken change by change: what becomes of each id.
use Rattle.std.proofs.Common.{◌≡◌, ℕ, ◌+◌, ◌≤◌, Bool, true, false, cond, ◌&&◌, ◌||◌, ◌==◌, ◌⊎◌, inl, inr, List, [], ◌∷◌, ◌++◌, map, refl, sym, ap, subst, ◌∙◌, arith, eqb-true}
use Rattle.std.specs.Prelude.{count_by}
use Rattle.std.specs.Option.{option_or}
use Rattle.std.proofs.lemmas.Bool.{both_ways, false_from_ne_true, not-true}
use Rattle.std.proofs.lemmas.List.{append_assoc}
use Rattle.std.proofs.lemmas.List.Elements.{All-weaker}
use Rattle.std.proofs.lemmas.List.Folds.{list_any-append, list_any_none}
use Rattle.std.proofs.lemmas.List.Sums.{sum_by-append}
use Rattle.quorum_sets.specs.Ids.{Ids, has, is_empty}
use Rattle.conf_change.specs.Change.{is_incoming_after, is_learner_after, is_removal, last_effective, names, removes, result_of}
use Rattle.conf_change.specs.Configuration.{Configuration, is_member}
use Rattle.conf_change.specs.Step.{changes_of}
use Rattle.conf_change.specs.declared.change.Change.{Change}
use Rattle.conf_change.specs.declared.step.Step.{Step}
use Rattle.conf_change.specs.declared.step.Step.TheVariants.{Simple}
use Rattle.conf_change.proofs.Offered.{SimpleTaken-from_outcome, ValidByMember-from_is_valid, has-incoming_after, has-learners_after, result_of-none, result_of-push}
use Rattle.conf_plan.specs.OneChangeEach.{each_change}
use Rattle.conf_plan.specs.Planned.{kind_by, kind_of_move, moves, single_with}
use Rattle.conf_plan.specs.Run.{Gives, IsRunWith}
use Rattle.conf_plan.proofs.BestPlan.FewestNames.{moves-name_once}
use Rattle.conf_plan.proofs.FindingMoves.OfEachId.{IsFor, filter_map-each, last_effective-none}
use Rattle.conf_plan.proofs.FindingMoves.ResultingConfiguration.{IsSingle, AreWanted, kind_of_move-zero}
use Rattle.conf_plan.proofs.OnTheWay.OneChangeEach.{HoldsOfProposals, KeepsVotersOf, Splits-moves, last_effective-append, once-few}

-- ---- the roles of an id
-- the id is a voter, incoming or outgoing, and a learner in both configurations or in none
pub record IsAlike (a b : Configuration) (q : ℕ) : Type 0 where
  pub incoming : has a.incoming q ≡ has b.incoming q
  pub outgoing : has a.outgoing q ≡ has b.outgoing q
  pub learners : has a.learners q ≡ has b.learners q

IsAlike-same : (a : Configuration) (q : ℕ) → IsAlike a a q
IsAlike-same a q = record { incoming = refl; outgoing = refl; learners = refl }

IsAlike-back : (a b : Configuration) (q : ℕ) → IsAlike a b q → IsAlike b a q
IsAlike-back a b q alike = record { incoming = sym alike.incoming; outgoing = sym alike.outgoing; learners = sym alike.learners }

pub votes-alike : (a b : Configuration) (q : ℕ) → IsAlike a b q → (has a.incoming q || has a.outgoing q) ≡ (has b.incoming q || has b.outgoing q)
votes-alike a b q alike = λ i. alike.incoming i || alike.outgoing i

pub is_member-alike : (a b : Configuration) (q : ℕ) → IsAlike a b q → is_member a q ≡ is_member b q
is_member-alike a b q alike = λ i. alike.incoming i || alike.outgoing i || alike.learners i

-- further changes that do not name it
alike-more : (c : Configuration) (xs ys : List Change) (q : ℕ) → count_by (names q) ys ≡ 0 → IsAlike (result_of c (xs ++ ys)) (result_of c xs) q
alike-more c xs ys q unnamed =
    let same : last_effective (xs ++ ys) q ≡ last_effective xs q = last_effective-append xs ys q ∙ ap (λ o. option_or o (last_effective xs q)) (last_effective-none ys q unnamed) in
    record {
      incoming = has-incoming_after c (xs ++ ys) q ∙ ap (λ o. is_incoming_after o (has c.incoming q)) same ∙ sym (has-incoming_after c xs q);
      outgoing = refl;
      learners = has-learners_after c (xs ++ ys) q ∙ ap (λ o. is_learner_after o (has c.outgoing q) (has c.learners q)) same ∙ sym (has-learners_after c xs q);
    }

alike-unnamed : (c : Configuration) (xs : List Change) (q : ℕ) → count_by (names q) xs ≡ 0 → IsAlike (result_of c xs) c q
alike-unnamed c xs q unnamed = subst (λ d. IsAlike (result_of c xs) d q) (sym (result_of-none c)) (alike-more c [] xs q unnamed)

-- ---- a part of a step
-- it does not touch the id
pub record LeavesAlone (c : Configuration) (part : Step) (d : Configuration) (q : ℕ) : Type 0 where
  pub alike : IsAlike d c q
  pub unremoved : removes (changes_of part) q ≡ false

-- or does to it what the whole step does
pub record MovesAsWhole (before : Configuration) (whole : Step) (after c : Configuration) (part : Step) (d : Configuration) (q : ℕ) : Type 0 where
  pub was : IsAlike c before q
  pub becomes : IsAlike d after q
  pub removed : removes (changes_of part) q ≡ true → removes (changes_of whole) q ≡ true

-- one of these, for each id, which has the roles that it has before or after the whole step
pub record IsPart (before : Configuration) (whole : Step) (after c : Configuration) (part : Step) (d : Configuration) : Type 0 where
  pub ends : (q : ℕ) → IsAlike d before q ⊎ IsAlike d after q
  pub each : (q : ℕ) → LeavesAlone c part d q ⊎ MovesAsWhole before whole after c part d q

IsPart-whole : (before after : Configuration) (step : Step) → IsPart before step after before step after
IsPart-whole before after step = record {
  ends = λ q. inr (IsAlike-same after q);
  each = λ q. inr (record { was = IsAlike-same before q; becomes = IsAlike-same after q; removed = λ removes_it. removes_it });
}

-- ---- changes that name each id once at most
record NamesOnce (changes : List Change) : Type 0 where
  once : (q : ℕ) → count_by (names q) changes ≤ 1
  not_zero : removes changes 0 ≡ false

removes-among : (xs ys : List Change) (y : Change) (q : ℕ) → removes (y ∷ []) q ≡ true → removes ((xs ++ y ∷ []) ++ ys) q ≡ true
removes-among xs ys y q here = grind (arith, Bool, list_any-append)

IsPart-one : (c : Configuration) (xs ys : List Change) (y : Change) → NamesOnce ((xs ++ y ∷ []) ++ ys)
    → IsPart c (Simple ((xs ++ y ∷ []) ++ ys)) (result_of c ((xs ++ y ∷ []) ++ ys)) (result_of c xs) (Simple (y ∷ [])) (result_of c (xs ++ y ∷ []))
IsPart-one c xs ys y given = record { ends = λ q. at_end q (zero_or_more (count_by (names q) (xs ++ y ∷ []))); each = λ q. by_named q (names q y) refl }
  where
    whole : List Change
    whole = (xs ++ y ∷ []) ++ ys

    zero_or_more : (n : ℕ) → (n ≡ 0) ⊎ (1 ≤ n)
    zero_or_more n = grind arith

    counted : (q : ℕ) → count_by (names q) (xs ++ y ∷ []) ≡ count_by (names q) xs + cond (names q y) 1 0
    counted q = sum_by-append (λ x. cond (names q x) 1 0) xs (y ∷ []) ∙ omega arith

    all : (q : ℕ) → count_by (names q) whole ≡ count_by (names q) (xs ++ y ∷ []) + count_by (names q) ys
    all q = sum_by-append (λ x. cond (names q x) 1 0) (xs ++ y ∷ []) ys

    last : (q : ℕ) → count_by (names q) ys ≡ 0 → IsAlike (result_of c (xs ++ y ∷ [])) (result_of c whole) q
    last q unnamed = IsAlike-back (result_of c whole) (result_of c (xs ++ y ∷ [])) q (alike-more c (xs ++ y ∷ []) ys q unnamed)

    at_end : (q : ℕ) → (count_by (names q) (xs ++ y ∷ []) ≡ 0) ⊎ (1 ≤ count_by (names q) (xs ++ y ∷ []))
        → IsAlike (result_of c (xs ++ y ∷ [])) c q ⊎ IsAlike (result_of c (xs ++ y ∷ [])) (result_of c whole) q
    at_end q (inl none) = inl (alike-unnamed c (xs ++ y ∷ []) q none)
    at_end q (inr some) = inr (last q (omega (arith, given.once q, all q)))

    unremoved : (q : ℕ) → names q y ≡ false → removes (y ∷ []) q ≡ false
    unremoved q unnamed = grind (arith, false_from_ne_true, eqb-true, both_ways, whole, true, removes-among)

    by_named : (q : ℕ) (named : Bool) → names q y ≡ named
        → LeavesAlone (result_of c xs) (Simple (y ∷ [])) (result_of c (xs ++ y ∷ [])) q
        ⊎ MovesAsWhole c (Simple whole) (result_of c whole) (result_of c xs) (Simple (y ∷ [])) (result_of c (xs ++ y ∷ [])) q
    by_named q false unnamed = inl (record { alike = alike-more c xs (y ∷ []) q (grind (arith, unnamed)); unremoved = unremoved q unnamed })
    by_named q true named =
        let none_before : count_by (names q) xs ≡ 0 = grind (arith, given.once q, all q, counted q, named) in
        let none_later : count_by (names q) ys ≡ 0 = grind (arith, given.once q, all q, counted q, named) in
        inr (record { was = alike-unnamed c xs q none_before; becomes = last q none_later; removed = removes-among xs ys y q })

-- a run of the changes, one by one, is one of parts
parts_in_order : (Holds : Configuration → Step → Configuration → Type 0) (c : Configuration) (xs ys zs : List Change) → xs ++ ys ≡ zs → NamesOnce zs
    → IsRunWith Holds (result_of c xs) (map (λ change. Simple (change ∷ [])) ys) (result_of c zs)
    → IsRunWith (IsPart c (Simple zs) (result_of c zs)) (result_of c xs) (map (λ change. Simple (change ∷ [])) ys) (result_of c zs)
parts_in_order Holds c xs [] zs is once run = run
parts_in_order Holds c xs (y ∷ ys) zs is once run =
    let steps = map (λ change. Simple (change ∷ [])) ys in
    let next = result_of c (xs ++ y ∷ []) in
    let whole : (xs ++ y ∷ []) ++ ys ≡ zs = append_assoc xs (y ∷ []) ys ∙ is in
    let same : next ≡ run.0 = sym (result_of-push c xs y) ∙ (SimpleTaken-from_outcome (result_of c xs) run.0 (y ∷ []) run.1.0).made in
    let Part : Configuration → Step → Configuration → Type 0 = IsPart c (Simple zs) (result_of c zs) in
    let part = subst (λ changes. IsPart c (Simple changes) (result_of c changes) (result_of c xs) (Simple (y ∷ [])) next) whole (IsPart-one c xs ys y (subst NamesOnce (sym whole) once)) in
    let rest = parts_in_order Holds c (xs ++ y ∷ []) ys zs whole once (subst (λ d. IsRunWith Holds d steps (result_of c zs)) (sym same) run.2) in
    (run.0, (run.1.0, subst (Part (result_of c xs) (Simple (y ∷ []))) same part), subst (λ d. IsRunWith Part d steps (result_of c zs)) same rest)

-- ---- the steps of a path
-- if the step is accepted, so are its changes, one by one, as its parts
abbrev pub ComesInParts : Configuration → Step → Configuration → Type 0
ComesInParts before step after = Gives before step after → IsRunWith (IsPart before step after) before (each_change step) after

moves-name_each_once : (c : Configuration) (voters learners : Ids) → IsSingle c → AreWanted voters learners → NamesOnce (moves c voters learners)
moves-name_each_once c voters learners single wanted =
    let kind_for = kind_of_move c voters learners in
    let zero = kind_of_move-zero c voters learners (ValidByMember-from_is_valid c single.valid_with_voter.valid) wanted in
    let removes_it : Change → Bool = λ change. (change.id == 0) && is_removal change.kind in
    record {
      once = λ q. (
          let few = moves-name_once c voters learners q in
          let one = once-few (kind_by (has voters q) (has learners q) (has c.incoming q) (has c.learners q)) in
          omega arith
          );
      not_zero =
          list_any_none removes_it (moves c voters learners)
          (All-weaker (IsFor kind_for) (λ change. removes_it change ≡ false) (λ change is. grind (arith, eqb-true change.id 0, is, zero)) (moves c voters learners) (filter_map-each kind_for _));
    }

moves-come_in_parts : (c : Configuration) (voters learners : Ids) → IsSingle c → AreWanted voters learners → ComesInParts c (Simple (moves c voters learners)) (single_with voters learners)
moves-come_in_parts c voters learners single wanted gives =
    let changes = moves c voters learners in
    let steps = map (λ change. Simple (change ∷ [])) changes in
    let after = single_with voters learners in
    let made = (SimpleTaken-from_outcome c after changes gives).made in
    let Holds : Configuration → Step → Configuration → Type 0 = KeepsVotersOf c after in
    let run = Splits-moves c voters learners (not-true (is_empty c.incoming) single.valid_with_voter.voter) wanted.voter gives in
    let from_none = subst (λ d. IsRunWith Holds d steps after) (result_of-none c) run in
    let parts = parts_in_order Holds c [] changes changes refl (moves-name_each_once c voters learners single wanted) (subst (IsRunWith Holds (result_of c []) steps) (sym made) from_none) in
    let Reaches : Configuration → Configuration → Type 0 = λ d e. IsRunWith (IsPart c (Simple changes) e) d steps e in
    subst (λ d. Reaches d after) (sym (result_of-none c)) (subst (Reaches (result_of c [])) made parts)

pub ComesInParts-of_proposals : HoldsOfProposals ComesInParts
ComesInParts-of_proposals = record {
  whole = λ before after step alone gives.
      subst (λ steps. IsRunWith (IsPart before step after) before steps after) (sym alone) (after, (gives, IsPart-whole before after step), refl);
  moved = moves-come_in_parts;
}
