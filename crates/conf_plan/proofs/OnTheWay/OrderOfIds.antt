-- Ids that are done one after another: those that are left have their first roles, and the others those of the target.
use Rattle.std.proofs.Common.{◌≡◌, ℕ, ◌+◌, ◌≤◌, Bool, true, cond, not, ◌&&◌, ◌||◌, ◌==◌, List, [], ◌∷◌, ◌++◌, refl, sym, ap, ◌∙◌, arith, eqb-true, eq-eqb}
use Rattle.std.specs.Prelude.{filter}
use Rattle.std.specs.Cmp.{nat_eq_equiv}
use Rattle.std.specs.List.{All}
use Rattle.std.specs.Ordering.{nat_cmp}
use Rattle.std.proofs.lemmas.Bool.{and_parts}
use Rattle.std.proofs.lemmas.List.Elements.{All-append}
use Rattle.std.proofs.lemmas.List.Kept.{IsStrictlySortedBy-filter}
use Rattle.std.proofs.lemmas.Map.Views.{All-from_any}
use Rattle.std.proofs.lemmas.List.Sums.{sum_by-append}
use Rattle.quorum_sets.specs.Ids.{Ids, has, ascending, union, ids_where}
use Rattle.quorum_sets.proofs.Offered.{ascending-ids_of, ascending-is_sorted, has-ascending, has-ids_where, has-same_ids, has-union}
use Rattle.conf_change.specs.Configuration.{Configuration, ValidByMember}
use Rattle.conf_plan.specs.OneAtATime.{learners_first, joining, retiring, leaving_learners, new_learners, in_turn, order}
use Rattle.conf_plan.specs.Planned.{single_with}
use Rattle.conf_plan.proofs.FindingMoves.AscendingIds.{times, times-ascending, times-cons}

-- no id is there twice
abbrev pub AreOnce : List ℕ → Type 0
AreOnce ids = (q : ℕ) → times q ids ≤ 1

pub AreOnce-rest : (id : ℕ) (ids : List ℕ) → AreOnce (id ∷ ids) → AreOnce ids
AreOnce-rest id ids once q = let whole = times-cons q id ids in let one = once q in omega arith

pub AreOnce-first : (id : ℕ) (ids : List ℕ) → AreOnce (id ∷ ids) → times id ids ≡ 0
AreOnce-first id ids once = grind (arith, times-cons id id ids, eq-eqb id id refl, once id)

-- ---- the order
pub has-where : (test : ℕ → Bool) (ids : Ids) (q : ℕ) → has (ids_where test (ascending ids)) q ≡ (test q && has ids q)
has-where test ids q = has-ids_where test (ascending ids) q ∙ ap (λ b. test q && b) (sym (has-ascending ids q))

-- as lists
pub ascending-where : (test : ℕ → Bool) (ids : Ids) → ascending (ids_where test (ascending ids)) ≡ filter test (ascending ids)
ascending-where test ids = ascending-ids_of (filter test (ascending ids)) (IsStrictlySortedBy-filter nat_cmp test (ascending ids) (ascending-is_sorted ids))

filter-both : (p q : ℕ → Bool) (xs : List ℕ) → filter p (filter q xs) ≡ filter (λ x. p x && q x) xs
filter-both p q [] = refl
filter-both p q (x ∷ xs) = grind (arith, filter-both p q xs)

pub joining-filtered : (passes : ℕ → Bool) (c target : Configuration)
    → let joins : ℕ → Bool = λ id. not (has c.incoming id) && passes id in
    joining passes c target ≡ filter (λ id. has c.learners id && joins id) (ascending target.incoming) ++ filter (λ id. not (has c.learners id) && joins id) (ascending target.incoming)
joining-filtered passes c target = grind (arith, not, ascending-where, filter-both)

-- what holds of each id of a set that passes a test holds of the list
pub All-where : (P : ℕ → Type 0) (test : ℕ → Bool) (ids : Ids) → ((q : ℕ) → (test q && has ids q) ≡ true → P q) → All P (ascending (ids_where test (ascending ids)))
All-where P test ids each =
    All-from_any nat_eq_equiv P (ascending (ids_where test (ascending ids))) (λ q here. each q (sym (has-where test ids q) ∙ has-ascending (ids_where test (ascending ids)) q ∙ here))

pub All-joining : (P : ℕ → Type 0) (passes : ℕ → Bool) (c target : Configuration) → ((q : ℕ) → ((not (has c.incoming q) && passes q) && has target.incoming q) ≡ true → P q) → All P (joining passes c target)
All-joining P passes c target each =
    let joins = ids_where (λ id. not (has c.incoming id) && passes id) (ascending target.incoming) in
    let of_joins : (q : ℕ) → has joins q ≡ true → P q = λ q here. each q (sym (has-where (λ id. not (has c.incoming id) && passes id) target.incoming q) ∙ here) in
    All-append P _ _ (All-where P (has c.learners) joins (λ q here. of_joins q (and_parts (has c.learners q) _ here).1))
    (All-where P (λ id. not (has c.learners id)) joins (λ q here. of_joins q (and_parts (not (has c.learners q)) _ here).1))

pub times-in_turn : (q : ℕ) (joins retires : List ℕ) → times q (in_turn joins retires) ≡ times q joins + times q retires
times-in_turn q [] retires = omega arith
times-in_turn q (x ∷ joins) [] = omega arith
times-in_turn q (x ∷ joins) (y ∷ retires) =
    grind (arith, times-in_turn q joins retires, times-cons q x (y ∷ in_turn joins retires), times-cons q y (in_turn joins retires), times-cons q x joins, times-cons q y retires)

pub times-append : (q : ℕ) (xs ys : List ℕ) → times q (xs ++ ys) ≡ times q xs + times q ys
times-append q xs ys = sum_by-append (λ x. cond (q == x) 1 0) xs ys

pub times-where : (q : ℕ) (test : ℕ → Bool) (ids : Ids) → times q (ascending (ids_where test (ascending ids))) ≡ cond (test q && has ids q) 1 0
times-where q test ids = times-ascending q (ids_where test (ascending ids)) ∙ ap (λ b. cond b 1 0) (has-where test ids q)

times-learners_first : (q : ℕ) (learners ids : Ids) → times q (learners_first learners (ascending ids)) ≡ cond (has ids q) 1 0
times-learners_first q learners ids =
    let whole = times-append q (ascending (ids_where (has learners) (ascending ids))) (ascending (ids_where (λ id. not (has learners id)) (ascending ids))) in
    grind (arith, whole, times-where q (has learners) ids, times-where q (λ id. not (has learners id)) ids)

pub times-joining : (q : ℕ) (passes : ℕ → Bool) (c target : Configuration) → times q (joining passes c target) ≡ cond ((not (has c.incoming q) && passes q) && has target.incoming q) 1 0
times-joining q passes c target =
    times-learners_first q c.learners (ids_where (λ id. not (has c.incoming id) && passes id) (ascending target.incoming))
    ∙ ap (λ b. cond b 1 0) (has-where (λ id. not (has c.incoming id) && passes id) target.incoming q)

-- how often an id is in the order, by whether it is a voter now and in the target, and a learner now and in the target
abbrev listed : Bool → Bool → Bool → Bool → ℕ
listed votes will_vote learns will_learn =
    cond (not will_vote && votes) 1 0
    + (cond (not (votes || will_vote || will_learn) && learns) 1 0 + (cond (not votes && will_vote) 1 0 + cond (not (votes || will_vote || learns) && will_learn) 1 0))

times-order : (down : Ids) (c target : Configuration) (q : ℕ) → times q (order down c target) ≡ listed (has c.incoming q) (has target.incoming q) (has c.learners q) (has target.learners q)
times-order down c target q =
    let up : ℕ → Bool = λ id. not (has down id) in
    let turns = in_turn (joining up c target) (retiring up c target) in
    let last = joining (has down) c target in
    let whole = times-append q (retiring (has down) c target) (leaving_learners c target ++ (turns ++ (last ++ new_learners c target))) in
    let later = times-append q (leaving_learners c target) (turns ++ (last ++ new_learners c target)) in
    let middle = times-append q turns (last ++ new_learners c target) in
    let end = times-append q last (new_learners c target) in
    let in_turns = times-in_turn q (joining up c target) (retiring up c target) in
    let leaving = times-where q (λ id. not (has c.incoming id || has target.incoming id || has target.learners id)) c.learners in
    let new = times-where q (λ id. not (has c.incoming id || has target.incoming id || has c.learners id)) target.learners in
    let retired : times q (retiring (has down) c target) + times q (retiring up c target) ≡ cond (not (has target.incoming q) && has c.incoming q) 1 0 =
    grind (arith, times-where q (λ id. not (has target.incoming id) && has down id) c.incoming, times-where q (λ id. not (has target.incoming id) && up id) c.incoming) in
    let joined : times q (joining up c target) + times q last ≡ cond (not (has c.incoming q) && has target.incoming q) 1 0 = grind (arith, times-joining q up c target, times-joining q (has down) c target) in
    omega arith

pub AreOnce-order : (down : Ids) (c target : Configuration) → AreOnce (order down c target)
AreOnce-order down c target q = grind (arith, times-order down c target q)

-- ---- the configurations on the way
-- the ids that are left have what they had, and the others have what they get
abbrev pub mixed : Ids → Ids → List ℕ → Ids
mixed had gets left = ids_where (λ id. cond (times id left == 0) (has gets id) (has had id)) (ascending (union had gets))

abbrev pub between : Configuration → Configuration → List ℕ → Configuration
between c target left = single_with (mixed c.incoming target.incoming left) (mixed c.learners target.learners left)

pub has-mixed : (had gets : Ids) (left : List ℕ) (q : ℕ) → has (mixed had gets left) q ≡ cond (times q left == 0) (has gets q) (has had q)
has-mixed had gets left q = grind (arith, has-where (λ id. cond (times id left == 0) (has gets id) (has had id)) (union had gets) q, has-union had gets q)

-- the first id that is left has what it had
pub has-mixed_first : (had gets : Ids) (id : ℕ) (left : List ℕ) → has (mixed had gets (id ∷ left)) id ≡ has had id
has-mixed_first had gets id left = grind (arith, has-mixed had gets (id ∷ left) id, times-cons id id left, eq-eqb id id refl)

-- once it is done, it has what it gets
done : (q id : ℕ) (left : List ℕ) (had gets : ℕ → Bool) → times id left ≡ 0
    → cond (times q left == 0) (gets q) (had q) ≡ cond (q == id) (gets id) (cond (times q (id ∷ left) == 0) (gets q) (had q))
done q id left had gets once = grind (arith, times-cons q id left, eqb-true q id)

pub has-mixed_done : (had gets : Ids) (id : ℕ) (left : List ℕ) → times id left ≡ 0
    → (q : ℕ) → has (mixed had gets left) q ≡ cond (q == id) (has gets id) (has (mixed had gets (id ∷ left)) q)
has-mixed_done had gets id left once q = rw (has-mixed had gets left q, has-mixed had gets (id ∷ left) q) (done q id left (has had) (has gets) once)

-- in the end, all have what they get
pub mixed-none_left : (had gets : Ids) → mixed had gets [] ≡ gets
mixed-none_left had gets = has-same_ids (mixed had gets []) gets (has-mixed had gets [])

-- with all of the order left, all have what they had
pub between-all_left : (down : Ids) (c target : Configuration) → ValidByMember c → ValidByMember target → between c target (order down c target) ≡ single_with c.incoming c.learners
between-all_left down c target valid_c valid = λ i. single_with
    (has-same_ids (mixed c.incoming target.incoming ids) c.incoming (λ q. grind (arith, has-mixed c.incoming target.incoming ids q, times-order down c target q)) i)
    (has-same_ids (mixed c.learners target.learners ids) c.learners
    (λ q. grind (arith, has-mixed c.learners target.learners ids q, times-order down c target q, valid_c.learner_incoming q, valid.learner_incoming q)) i)
  where
    ids : List ℕ
    ids = order down c target
