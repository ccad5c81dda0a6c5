-- On the path that changes one member at a time, an id becomes a member after the voters that are down have left.
use Rattle.std.proofs.Common.{◌≡◌, ℕ, Bool, true, false, not, ◌&&◌, ◌||◌, List, [], ◌∷◌, ◌++◌, arith}
use Rattle.std.specs.List.{All}
use Rattle.std.proofs.lemmas.List.Elements.{All-head, All-tail}
use Rattle.quorum_sets.specs.Ids.{Ids, has}
use Rattle.quorum_sets.proofs.Offered.{has-no_ids}
use Rattle.conf_change.specs.Configuration.{Configuration}
use Rattle.conf_plan.specs.OneAtATime.{joining, retiring, leaving_learners, new_learners, in_turn, order}
use Rattle.conf_plan.proofs.FindingMoves.AscendingIds.{times, times-cons}
use Rattle.conf_plan.proofs.OnTheWay.OrderOfIds.{All-where, AreOnce-order, between, has-mixed, times-append, times-where}

-- no id that is down is a voter, unless it is a voter of the target
abbrev pub IsCalm : Ids → Configuration → Configuration → Type 0
IsCalm down target d = (id : ℕ) → has down id ≡ true → has target.incoming id ≡ false → (has d.incoming id || has d.outgoing id) ≡ false

-- where the turn of a newcomer comes, it is so
abbrev pub AreCalm : Ids → Configuration → Configuration → List ℕ → Type 0
AreCalm down c target [] = Unit {0}
AreCalm down c target (id ∷ left) =
    ((has c.incoming id || has c.learners id) ≡ false → IsCalm down target (between c target (id ∷ left))) × AreCalm down c target left

-- the first ids are voters
calm-at_first : (down : Ids) (c target : Configuration) (first rest : List ℕ) → All (λ id. has c.incoming id ≡ true) first → AreCalm down c target rest → AreCalm down c target (first ++ rest)
calm-at_first down c target [] rest voters calm = calm
calm-at_first down c target (id ∷ first) rest voters calm = (
  λ newcomer. absurd (grind (arith, newcomer, All-head (λ id. has c.incoming id ≡ true) id first voters)),
  calm-at_first down c target first rest (All-tail (λ id. has c.incoming id ≡ true) id first voters) calm,
)

-- once those that are down have left
calm-after : (down : Ids) (c target : Configuration) (left : List ℕ)
    → ((id : ℕ) → has down id ≡ true → has target.incoming id ≡ false → has c.incoming id ≡ true → times id left ≡ 0) → AreCalm down c target left
calm-after down c target [] gone = tt
calm-after down c target (first ∷ left) gone = (
  λ newcomer id is_down stops. grind (arith, has-mixed c.incoming target.incoming (first ∷ left) id, gone id is_down stops, stops, has-no_ids id),
  calm-after down c target left (λ id is_down stops votes. let none = gone id is_down stops votes in let whole = times-cons id first left in omega arith),
)

pub order-is_calm : (down : Ids) (c target : Configuration) → AreCalm down c target (order down c target)
order-is_calm down c target =
    let up : ℕ → Bool = λ id. not (has down id) in
    let later = leaving_learners c target ++ (in_turn (joining up c target) (retiring up c target) ++ (joining (has down) c target ++ new_learners c target)) in
    calm-at_first down c target (retiring (has down) c target) later
    (All-where (λ id. has c.incoming id ≡ true) (λ id. not (has target.incoming id) && has down id) c.incoming (λ q here. grind (arith, here)))
    (calm-after down c target later (λ id is_down stops votes.
    let once = AreOnce-order down c target id in
    let whole = times-append id (retiring (has down) c target) later in
    let here : times id (retiring (has down) c target) ≡ 1 = grind (arith, times-where id (λ id. not (has target.incoming id) && has down id) c.incoming, is_down, stops, votes) in
    omega (arith, once, whole, here)))
