-- On the way that changes one member at a time, the voters that are up outnumber those that are down by as many as at one of the ends.
use Rattle.std.proofs.Common.{◌≡◌, ℕ, ◌+◌, ◌<◌, ◌≤◌, Bool, true, false, cond, not, ◌&&◌, ◌||◌, ◌⊎◌, inl, inr, List, [], ◌∷◌, ◌++◌, length, refl, sym, ap, subst, ◌∙◌, arith, eq-eqb}
use Rattle.std.specs.List.{All}
use Rattle.std.proofs.lemmas.Bool.{both_ways, cond_both, cond-true, and_parts, and_from, ltb-true, ne_eqb}
use Rattle.std.proofs.lemmas.List.Elements.{All-append, All-head, All-tail, All-weaker}
use Rattle.std.proofs.lemmas.List.Sums.{count_by-le-length, length-filter}
use Rattle.quorum_sets.specs.Ids.{Ids, no_ids, has, with_id, ascending, size, count_of, union, ids_where, is_empty, majority_passes}
use Rattle.quorum_sets.specs.Tolerance.{Tolerates, commits_without}
use Rattle.quorum_sets.specs.Voters.{Voters, majority}
use Rattle.quorum_sets.proofs.Offered.{Tolerates-from_counts, ascending-no_ids, commits_without-majority_passes, count_of-rest, counted-all, counts-from_Tolerates, has-no_ids, has-same_ids, has-union, has-with_id, size-with_id}
use Rattle.conf_change.specs.Configuration.{Configuration, voters_of}
use Rattle.conf_change.proofs.Offered.{is_empty-no_ids}
use Rattle.conf_plan.specs.OnTheWay.{IsAsTolerant}
use Rattle.conf_plan.specs.OneAtATime.{joining, retiring, leaving_learners, in_turn, order, down_in_order}
use Rattle.conf_plan.proofs.FindingMoves.AscendingIds.{times}
use Rattle.conf_plan.proofs.OnTheWay.OrderOfIds.{All-joining, All-where, AreOnce, AreOnce-first, AreOnce-order, AreOnce-rest, ascending-where, mixed, has-mixed_done, has-mixed_first, has-where, mixed-none_left}

-- ---- counts of voters on the way
-- where one more id is done, the counts differ by it alone
pub counted-passing : (p : ℕ → Bool) (ids : Ids) → count_of p ids ≡ size (ids_where p (ascending ids))
counted-passing p ids = sym (ap length (ascending-where p ids) ∙ length-filter p (ascending ids))

count_of-done : (p : ℕ → Bool) (had gets : Ids) (id : ℕ) (left : List ℕ) → times id left ≡ 0
    → count_of p (mixed had gets (id ∷ left)) + cond (p id && has gets id) 1 0 ≡ count_of p (mixed had gets left) + cond (p id && has had id) 1 0
count_of-done p had gets id left once =
    let before = mixed had gets (id ∷ left) in
    let after = mixed had gets left in
    let passing : Ids → Ids = λ ids. ids_where p (ascending ids) in
    let done = has-mixed_done had gets id left once in
    let same : with_id (passing after) id ≡ with_id (passing before) id =
    has-same_ids _ _ (λ q. grind (arith, has-with_id (passing after) id q, has-with_id (passing before) id q, has-where p after q, has-where p before q, done q)) in
    let sizes = ap size same in
    grind (
      arith,
      sizes,
      counted-passing p before,
      counted-passing p after,
      has-where p before id,
      has-where p after id,
      size-with_id (passing before) id,
      size-with_id (passing after) id,
      has-mixed_first had gets id left,
      done id,
      eq-eqb id id refl,
    )

-- ---- by how much those that are up outnumber those that are down
abbrev up_of : Ids → Ids → ℕ
up_of down voters = count_of (λ id. not (has down id)) voters

abbrev down_of : Ids → Ids → ℕ
down_of down voters = count_of (has down) voters

-- by as much as at this end, or more
abbrev pub IsNoWorse : Ids → Ids → Ids → Type 0
IsNoWorse down end voters = up_of down end + down_of down voters ≤ up_of down voters + down_of down end

abbrev pub IsNoWorseThanOne : Ids → Ids → Ids → Ids → Type 0
IsNoWorseThanOne down now target voters = IsNoWorse down now voters ⊎ IsNoWorse down target voters

-- whether an id counts among the voters that are up, or that are down
abbrev is_up : Ids → Ids → ℕ → ℕ
is_up down voters id = cond (not (has down id) && has voters id) 1 0

abbrev is_down : Ids → Ids → ℕ → ℕ
is_down down voters id = cond (has down id && has voters id) 1 0

lead-done : (down had gets : Ids) (id : ℕ) (left : List ℕ) → times id left ≡ 0
    → up_of down (mixed had gets (id ∷ left)) + down_of down (mixed had gets left) + is_up down gets id + is_down down had id
    ≡ up_of down (mixed had gets left) + down_of down (mixed had gets (id ∷ left)) + is_up down had id + is_down down gets id
lead-done down had gets id left once = grind (arith, count_of-done, not)

-- where the votes of an id change from these to those, it does not grow
abbrev Loses : Ids → Ids → Ids → ℕ → Type 0
Loses down had gets id = is_up down gets id + is_down down had id ≤ is_up down had id + is_down down gets id

-- it grows by one
abbrev GainsOne : Ids → Ids → Ids → ℕ → Type 0
GainsOne down had gets id = is_up down had id + is_down down gets id + 1 ≡ is_up down gets id + is_down down had id

-- ---- the voters on the way
-- something holds of each part of a list from an id on
abbrev EachRest : (List ℕ → Type 0) → List ℕ → Type 0
EachRest Holds [] = Holds []
EachRest Holds (id ∷ left) = Holds (id ∷ left) × EachRest Holds left

abbrev pub AreFine : Ids → Ids → Ids → List ℕ → Type 0
AreFine down had gets left = EachRest (λ left. IsNoWorseThanOne down had gets (mixed had gets left)) left

-- where the rest only loses, all is no worse than at the end
fine-at_end : (down had gets : Ids) (left : List ℕ) → AreOnce left → All (Loses down had gets) left → AreFine down had gets left × IsNoWorse down gets (mixed had gets left)
fine-at_end down had gets [] once loses = grind (arith, mixed, mixed-none_left)
fine-at_end down had gets (id ∷ left) once loses =
    let lead = lead-done down had gets id left (AreOnce-first id left once) in
    let one = All-head (Loses down had gets) id left loses in
    let later = fine-at_end down had gets left (AreOnce-rest id left once) (All-tail (Loses down had gets) id left loses) in
    let after = later.1 in
    let now : IsNoWorse down gets (mixed had gets (id ∷ left)) = omega arith in
    ((inr now, later.0), now)

-- where the first ids lose nothing, all is no worse than at the start
fine-at_start : (down had gets : Ids) (first rest : List ℕ) → AreOnce (first ++ rest) → All (Loses down gets had) first → IsNoWorse down had (mixed had gets (first ++ rest))
    → (AreOnce rest → IsNoWorse down had (mixed had gets rest) → AreFine down had gets rest) → AreFine down had gets (first ++ rest)
fine-at_start down had gets [] rest once gains now then = then once now
fine-at_start down had gets (id ∷ first) rest once gains now then =
    let lead = lead-done down had gets id (first ++ rest) (AreOnce-first id (first ++ rest) once) in
    let one = All-head (Loses down gets had) id first gains in
    (inl now, fine-at_start down had gets first rest (AreOnce-rest id (first ++ rest) once) (All-tail (Loses down gets had) id first gains) (omega arith) then)

-- where one joins before another retires, and the rest only loses
fine-in_turn : (down had gets : Ids) (joins retires rest : List ℕ) → AreOnce (in_turn joins retires ++ rest)
    → All (GainsOne down had gets) joins → All (GainsOne down gets had) retires → All (Loses down had gets) rest
    → IsNoWorse down had (mixed had gets (in_turn joins retires ++ rest)) → AreFine down had gets (in_turn joins retires ++ rest)
fine-in_turn down had gets [] retires rest once gain lose worse now =
    (fine-at_end down had gets (retires ++ rest) once (All-append (Loses down had gets) retires rest (All-weaker (GainsOne down gets had) (Loses down had gets) (λ q one. omega arith) retires lose) worse)).0
fine-in_turn down had gets (x ∷ joins) [] rest once gain lose worse now =
    fine-at_start down had gets (x ∷ joins) rest once (All-weaker (GainsOne down had gets) (Loses down gets had) (λ q one. omega arith) (x ∷ joins) gain) now (λ once now. (fine-at_end down had gets rest once worse).0)
fine-in_turn down had gets (x ∷ joins) (y ∷ retires) rest once gain lose worse now =
    let left = in_turn joins retires ++ rest in
    let once_y = AreOnce-rest x (y ∷ left) once in
    let joined = lead-done down had gets x (y ∷ left) (AreOnce-first x (y ∷ left) once) in
    let retired = lead-done down had gets y left (AreOnce-first y left once_y) in
    let one_more = All-head (GainsOne down had gets) x joins gain in
    let one_less = All-head (GainsOne down gets had) y retires lose in (
      inl now,
      (inl (omega arith), fine-in_turn down had gets joins retires rest (AreOnce-rest y left once_y) (All-tail (GainsOne down had gets) x joins gain) (All-tail (GainsOne down gets had) y retires lose) worse (omega arith)),
    )

pub order-is_fine : (down : Ids) (c target : Configuration) → mixed c.incoming target.incoming (order down c target) ≡ c.incoming → AreFine down c.incoming target.incoming (order down c target)
order-is_fine down c target all =
    let had = c.incoming in
    let gets = target.incoming in
    let up : ℕ → Bool = λ id. not (has down id) in
    fine-at_start down had gets (retiring (has down) c target) _ (AreOnce-order down c target)
    (All-where (Loses down gets had) (λ id. not (has gets id) && has down id) had (λ q here. grind (arith, here)))
    (subst (IsNoWorse down had) (sym all) (omega arith))
    (λ once now.
    fine-at_start down had gets (leaving_learners c target) _ once
    (All-where (Loses down gets had) (λ id. not (has had id || has gets id || has target.learners id)) c.learners (λ q here. grind (arith, here))) now
    (λ once now. fine-in_turn down had gets (joining up c target) (retiring up c target) _ once (All-joining (GainsOne down had gets) up c target (λ q here. grind (arith, here)))
    (All-where (GainsOne down gets had) (λ id. not (has gets id) && up id) had (λ q here. grind (arith, here)))
    (All-append (Loses down had gets) (joining (has down) c target) _ (All-joining (Loses down had gets) (has down) c target (λ q here. grind (arith, here)))
    (All-where (Loses down had gets) (λ id. not (has had id || has gets id || has c.learners id)) target.learners (λ q here. grind (arith, here)))) now))

-- ---- what is tolerated
-- voters that tolerate something besides these ids commit without them
commits_without-from_Tolerates : (voters : Voters) (down : Ids) (k : ℕ) → Tolerates voters down k → commits_without voters down ≡ true
commits_without-from_Tolerates voters down k tolerates =
    let none = ap length ascending-no_ids in
    ap (commits_without voters) (has-same_ids down (union no_ids down) (λ q. sym (has-union no_ids down q ∙ ap (λ b. b || has down q) (has-no_ids q)))) ∙ tolerates no_ids (omega arith)

-- where something is tolerated at both ends, the order is the one for the ids that are down
pub IsAsTolerant-in_order : (down : Ids) (now c target after : Configuration) → c.incoming ≡ now.incoming → c.outgoing ≡ no_ids → after.outgoing ≡ no_ids
    → IsNoWorseThanOne (down_in_order down c target) c.incoming target.incoming after.incoming → IsAsTolerant down now target after
IsAsTolerant-in_order down now c target after same single_c single no_worse k by_now by_target =
    let alone : (d : Configuration) → d.outgoing ≡ no_ids → majority (size d.incoming) + k ≤ up_of down d.incoming → Tolerates (voters_of d) down k =
    λ d single enough. Tolerates-from_counts (voters_of d) down k (record { incoming = enough; outgoing = λ joint. absurd (both_ways _ joint (ap is_empty single ∙ is_empty-no_ids)) }) in
    let of_c = subst (λ ids. majority (size ids) + k ≤ up_of down ids) (sym same) (counts-from_Tolerates (voters_of now) down k by_now).incoming in
    let of_target = (counts-from_Tolerates (voters_of target) down k by_target).incoming in
    let counted : down_in_order down c target ≡ down =
    cond-true _ down no_ids
    (and_from _ _ (commits_without-from_Tolerates (voters_of c) down k (alone c single_c of_c)) (commits_without-from_Tolerates (voters_of target) down k by_target)) in
    let all_of_c = count_of-rest c.incoming down in
    let all_of_target = count_of-rest target.incoming down in
    let all = count_of-rest after.incoming down in
    alone after single (elim (subst (λ ids. IsNoWorseThanOne ids c.incoming target.incoming after.incoming) counted no_worse) [
      | inl as_now ↦ omega arith
      | inr as_target ↦ omega arith
    ])

-- ---- some voter is up
-- more are up than down
abbrev AreMostUp : Ids → Ids → Type 0
AreMostUp down voters = down_of down voters < up_of down voters

most_up : (voters : Voters) (down : Ids) → commits_without voters down ≡ true → AreMostUp down voters.incoming
most_up voters down commits =
    let most = ltb-true _ _ (and_parts (majority_passes (λ id. not (has down id)) voters.incoming) _ (sym (commits_without-majority_passes voters down) ∙ commits)).0 in
    let all = count_of-rest voters.incoming down in
    omega arith

all_up : (ids : Ids) → is_empty ids ≡ false → AreMostUp no_ids ids
all_up ids some =
    let up = counted-all ids in
    let all = count_of-rest ids no_ids in
    let size_some : size ids ≡ 0 → ⊥ = λ none. both_ways (is_empty ids) some (eq-eqb (size ids) 0 none) in
    omega (arith, size_some)

pub is_empty-in_order : (down : Ids) (c target : Configuration) (voters : Ids) → is_empty c.incoming ≡ false → is_empty target.incoming ≡ false
    → IsNoWorseThanOne (down_in_order down c target) c.incoming target.incoming voters → is_empty voters ≡ false
is_empty-in_order down c target voters some_c some no_worse =
    let in_order = down_in_order down c target in
    let up =
    cond_both (commits_without (voters_of c) down && commits_without (voters_of target) down) down no_ids (λ ids. AreMostUp ids c.incoming × AreMostUp ids target.incoming)
    (λ commit. let parts = and_parts _ _ commit in (most_up (voters_of c) down parts.0, most_up (voters_of target) down parts.1))
    (λ stalls. (all_up c.incoming some_c, all_up target.incoming some)) in
    let up_c = up.0 in
    let up_target = up.1 in
    let within = count_by-le-length (λ id. not (has in_order id)) (ascending voters) in
    ne_eqb (size voters) 0 (λ none. elim no_worse [ inl as_now ↦ absurd (omega (arith, none)) | inr as_target ↦ absurd (omega (arith, none)) ])
