-- On the path that changes one member at a time, few ids are learners at a time: learners leave and are promoted before others come.
use Rattle.std.proofs.Common.{◌≡◌, ℕ, ◌+◌, ◌≤◌, Bool, true, false, cond, not, ◌&&◌, ◌||◌, inl, inr, List, [], ◌∷◌, ◌++◌, refl, sym, ap, subst, ◌∙◌, arith, eqb-true, eq-eqb}
use Rattle.std.specs.List.{All}
use Rattle.std.proofs.lemmas.Bool.{and_parts}
use Rattle.std.proofs.lemmas.List.{append-nil}
use Rattle.std.proofs.lemmas.List.Elements.{All-cons, All-head, All-tail, All-weaker}
use Rattle.std.proofs.lemmas.List.Sums.{count_by-le-length}
use Rattle.quorum_sets.specs.Ids.{Ids, has, with_id, ascending, size, ids_where}
use Rattle.quorum_sets.proofs.Offered.{count_of-common, has-same_ids, has-union, has-with_id, size-with_id}
use Rattle.conf_change.specs.Configuration.{Configuration, ValidByMember}
use Rattle.conf_plan.specs.OnTheWay.{learners_at_first, learners_that_stay, HasFewLearners}
use Rattle.conf_plan.specs.OneAtATime.{joining, retiring, leaving_learners, new_learners, in_turn, order}
use Rattle.conf_plan.specs.Planned.{single_with}
use Rattle.conf_plan.proofs.FindingMoves.AscendingIds.{times, times-cons}
use Rattle.conf_plan.proofs.OnTheWay.InTurn.{in_turn-alone}
use Rattle.conf_plan.proofs.OnTheWay.OneAtATimeTolerance.{counted-passing}
use Rattle.conf_plan.proofs.OnTheWay.OrderOfIds.{All-joining, All-where, AreOnce, AreOnce-first, AreOnce-order, AreOnce-rest, mixed, has-mixed, has-mixed_done, has-mixed_first, has-where, times-append, times-in_turn, times-joining, times-where}

-- ---- sizes
-- the ids are among the others
abbrev pub IsAmong : Ids → Ids → Type 0
IsAmong ids others = (q : ℕ) → has ids q ≡ true → has others q ≡ true

pub size-among : (ids others : Ids) → IsAmong ids others → size ids ≤ size others
size-among ids others among =
    let all : ids_where (has others) (ascending ids) ≡ ids = has-same_ids _ ids (λ q. grind (arith, has-where (has others) ids q, among q)) in
    let counted = counted-passing (has others) ids ∙ ap size all in
    let common = count_of-common ids others in
    let within = count_by-le-length (has ids) (ascending others) in
    omega arith

-- where one more id is done, the size changes by it alone
size-done : (had gets : Ids) (id : ℕ) (left : List ℕ) → times id left ≡ 0
    → size (mixed had gets (id ∷ left)) + cond (has gets id) 1 0 ≡ size (mixed had gets left) + cond (has had id) 1 0
size-done had gets id left once =
    let before = mixed had gets (id ∷ left) in
    let after = mixed had gets left in
    let done = has-mixed_done had gets id left once in
    let same : with_id after id ≡ with_id before id = has-same_ids _ _ (λ q. grind (arith, has-with_id after id q, has-with_id before id q, done q)) in
    grind (arith, ap size same, size-with_id before id, size-with_id after id, has-mixed_first had gets id left, done id, eq-eqb id id refl)

-- ---- the learners on the way
-- as few as the promise says
abbrev pub AreFewLearners : Ids → Configuration → Configuration → Ids → Type 0
AreFewLearners down c target learners = HasFewLearners down c target (single_with c.incoming learners)

-- the id becomes a voter, and is not a member before
abbrev pub is_newcomer : Configuration → Configuration → ℕ → Bool
is_newcomer c target id = has target.incoming id && not (has c.incoming id || has c.learners id)

-- they are few when the turn of each id comes, also while a newcomer learns, and in the end
abbrev pub AreFew : Ids → Configuration → Configuration → List ℕ → Type 0
AreFew down c target [] = AreFewLearners down c target (mixed c.learners target.learners [])
AreFew down c target (id ∷ left) =
    let learners = mixed c.learners target.learners (id ∷ left) in
    (AreFewLearners down c target learners × (is_newcomer c target id ≡ true → AreFewLearners down c target (with_id learners id))) × AreFew down c target left

-- ids that are learners of the target only if they are among some ids; these are few, also with one that is a newcomer
record FitsIn (down : Ids) (c target : Configuration) (some : Ids) (id : ℕ) : Type 0 where
  learns : has target.learners id ≡ true → has some id ≡ true
  learning : is_newcomer c target id ≡ true → (learners : Ids) → size learners ≤ size some + 1 → AreFewLearners down c target learners

-- while the learners are among some ids, they are few
few-among : (down : Ids) (c target : Configuration) (some : Ids) (first rest : List ℕ) → AreOnce (first ++ rest)
    → ((learners : Ids) → size learners ≤ size some → AreFewLearners down c target learners) → All (FitsIn down c target some) first
    → IsAmong (mixed c.learners target.learners (first ++ rest)) some
    → (AreOnce rest → IsAmong (mixed c.learners target.learners rest) some → AreFew down c target rest) → AreFew down c target (first ++ rest)
few-among down c target some [] rest once few fit among then = then once among
few-among down c target some (id ∷ first) rest once few fit among then =
    let left = first ++ rest in
    let learners = mixed c.learners target.learners (id ∷ left) in
    let fits = All-head (FitsIn down c target some) id first fit in
    let within = size-among learners some among in
    let done = has-mixed_done c.learners target.learners id left (AreOnce-first id left once) in (
      (few learners within, λ newcomer. fits.learning newcomer (with_id learners id) (grind (arith, size-with_id learners id, within))),
      few-among down c target some first rest (AreOnce-rest id left once) few (All-tail (FitsIn down c target some) id first fit)
          (λ q here. grind (arith, done q, here, eqb-true q id, fits.learns, among q)) then,
    )

-- ---- who joins and retires in turn
-- a learner that is promoted
record IsPromoted (c target : Configuration) (id : ℕ) : Type 0 where
  learns : has c.learners id ≡ true
  votes : has target.learners id ≡ false

-- a voter that retires, and maybe learns
record Retires (c target : Configuration) (id : ℕ) : Type 0 where
  votes : has c.incoming id ≡ true
  learns : has c.learners id ≡ false
  stops : has target.incoming id ≡ false

-- while a learner is promoted before a voter retires, they are as few as at first
few-in_turn : (down : Ids) (c target : Configuration) (promoted others retires rest : List ℕ) → AreOnce (in_turn (promoted ++ others) retires ++ rest)
    → All (IsPromoted c target) promoted → All (Retires c target) retires
    → size (mixed c.learners target.learners (in_turn (promoted ++ others) retires ++ rest)) ≤ size (learners_at_first down c target)
    → ((retires : List ℕ) → AreOnce (in_turn others retires ++ rest) → All (Retires c target) retires → AreFew down c target (in_turn others retires ++ rest))
    → AreFew down c target (in_turn (promoted ++ others) retires ++ rest)
few-in_turn down c target [] others retires rest once promote retire few then = then retires once retire
few-in_turn down c target (x ∷ promoted) others [] rest once promote retire few then =
    let alone = in_turn-alone (promoted ++ others) in
    let left = (promoted ++ others) ++ rest in
    let one = All-head (IsPromoted c target) x promoted promote in
    let less = size-done c.learners target.learners x left (AreOnce-first x left once) in
    let fewer : size (mixed c.learners target.learners left) ≤ size (learners_at_first down c target) = grind (arith, less, one.learns, one.votes, few) in
    let Few : List ℕ → Type 0 = λ ids. AreFew down c target (ids ++ rest) in (
      (inl few, λ newcomer. absurd (grind (arith, newcomer, one.learns))),
      subst Few alone
          (few-in_turn down c target promoted others [] rest (subst (λ ids. AreOnce (ids ++ rest)) (sym alone) (AreOnce-rest x left once)) (All-tail (IsPromoted c target) x promoted promote) retire
          (subst (λ ids. size (mixed c.learners target.learners (ids ++ rest)) ≤ size (learners_at_first down c target)) (sym alone) fewer) then),
    )
few-in_turn down c target (x ∷ promoted) others (y ∷ retires) rest once promote retire few then =
    let left = in_turn (promoted ++ others) retires ++ rest in
    let one = All-head (IsPromoted c target) x promoted promote in
    let other = All-head (Retires c target) y retires retire in
    let once_y = AreOnce-rest x (y ∷ left) once in
    let less = size-done c.learners target.learners x (y ∷ left) (AreOnce-first x (y ∷ left) once) in
    let more = size-done c.learners target.learners y left (AreOnce-first y left once_y) in
    let fewer : size (mixed c.learners target.learners (y ∷ left)) + 1 ≤ size (learners_at_first down c target) = grind (arith, less, one.learns, one.votes, few) in
    let again : size (mixed c.learners target.learners left) ≤ size (learners_at_first down c target) = grind (arith, more, fewer, other.learns) in (
      (inl few, λ newcomer. absurd (grind (arith, newcomer, one.learns))),
      (
        (inl (omega (arith, fewer)), λ newcomer. absurd (grind (arith, newcomer, other.votes))),
        few-in_turn down c target promoted others retires rest (AreOnce-rest y left once_y) (All-tail (IsPromoted c target) x promoted promote) (All-tail (Retires c target) y retires retire) again then,
      ),
    )

-- ---- once no learner is left to be promoted
pub has-at_first : (down : Ids) (c target : Configuration) (q : ℕ) → has (learners_at_first down c target) q ≡ (has c.learners q || ((has down q && has target.learners q) && has c.incoming q))
has-at_first down c target q = grind (arith, has-union, has-where)

has-that_stay : (down : Ids) (c target : Configuration) (q : ℕ)
    → has (learners_that_stay down c target) q ≡ (((has c.incoming q || has c.learners q) && has target.learners q) || ((has down q && has target.incoming q) && has c.learners q))
has-that_stay down c target q = grind (arith, has-union, has-where)

-- new learners come last
few-new : (down : Ids) (c target : Configuration) → AreOnce (new_learners c target) → AreFew down c target (new_learners c target)
few-new down c target once =
    let news = new_learners c target in
    let gets = target.learners in
    let is_new : ℕ → Bool = λ id. not (has c.incoming id || has target.incoming id || has c.learners id) in
    subst (AreFew down c target) (append-nil news)
    (few-among down c target gets news [] (subst AreOnce (sym (append-nil news)) once) (λ learners few. inr (inl few))
    (All-where (FitsIn down c target gets) is_new gets (λ q here. record { learns = λ learns. learns; learning = λ newcomer. absurd (grind (arith, newcomer, here)) }))
    (subst (λ ids. IsAmong (mixed c.learners gets ids) gets) (sym (append-nil news)) (λ q here. grind (arith, has-mixed c.learners gets news q, times-where q is_new gets, here)))
    (λ once among. inr (inl (size-among _ gets among))))

All-in_turn : (P : ℕ → Type 0) (joins retires : List ℕ) → All P joins → All P retires → All P (in_turn joins retires)
All-in_turn P [] retires all_joins all_retires = all_retires
All-in_turn P (x ∷ joins) [] all_joins all_retires = all_joins
All-in_turn P (x ∷ joins) (y ∷ retires) all_joins all_retires = grind (arith, All-cons, All-head, All-tail, All-in_turn P joins retires (All-tail P x joins all_joins) (All-tail P y retires all_retires))

retires-no_learner : (c target : Configuration) (q : ℕ) (retires : List ℕ) → All (Retires c target) retires → has c.learners q ≡ true → times q retires ≡ 0
retires-no_learner c target q [] retire learns = refl
retires-no_learner c target q (y ∷ retires) retire learns = grind (arith, All-head, times-cons, All-tail, learns, eqb-true, retires-no_learner c target q retires (All-tail (Retires c target) y retires retire) learns)

-- an id that joins
joining-fits : (down : Ids) (c target : Configuration) → ValidByMember target → (id : ℕ) → has target.incoming id ≡ true → FitsIn down c target (learners_that_stay down c target) id
joining-fits down c target valid id joins = record {
  learns = λ learns. absurd (grind (arith, valid.learner_incoming id, joins, learns));
  learning = λ newcomer learners few. inr (inr few);
}

few-late : (down in_order : Ids) (c target : Configuration) (retires : List ℕ) → ((q : ℕ) → has in_order q ≡ true → has down q ≡ true) → ValidByMember target
    → let others = ascending (ids_where (λ id. not (has c.learners id)) (ascending (ids_where (λ id. not (has c.incoming id) && not (has in_order id)) (ascending target.incoming)))) in
    AreOnce (in_turn others retires ++ (joining (has in_order) c target ++ new_learners c target)) → All (Retires c target) retires
    → AreFew down c target (in_turn others retires ++ (joining (has in_order) c target ++ new_learners c target))
few-late down in_order c target retires within valid once retire =
    let some = learners_that_stay down c target in
    let joins = ids_where (λ id. not (has c.incoming id) && not (has in_order id)) (ascending target.incoming) in
    let others = ascending (ids_where (λ id. not (has c.learners id)) (ascending joins)) in
    let last = joining (has in_order) c target in
    let news = new_learners c target in
    let Fits : ℕ → Type 0 = FitsIn down c target some in
    let few : (learners : Ids) → size learners ≤ size some → AreFewLearners down c target learners = λ learners few. inr (inr (omega (arith, few))) in
    let others_fit = All-where Fits (λ id. not (has c.learners id)) joins (λ q here.
    joining-fits down c target valid q (grind (arith, here, has-where (λ id. not (has c.incoming id) && not (has in_order id)) target.incoming q))) in
    let retires_fit = All-weaker (Retires c target) Fits (λ q one. record {
      learns = λ learns. grind (arith, has-that_stay down c target q, one.votes, learns);
      learning = λ newcomer. absurd (grind (arith, newcomer, one.stops));
    }) retires retire in
    let last_fits = All-joining Fits (has in_order) c target (λ q here. joining-fits down c target valid q (grind (arith, here))) in
    few-among down c target some (in_turn others retires) (last ++ news) once few (All-in_turn Fits others retires others_fit retires_fit)
    (λ q here.
    let whole = times-append q (in_turn others retires) (last ++ news) in
    let end = times-append q last news in
    grind (
      arith,
      has-mixed c.learners target.learners (in_turn others retires ++ (last ++ news)) q,
      whole,
      end,
      times-in_turn q others retires,
      times-where q (λ id. not (has c.learners id)) joins,
      times-joining q (has in_order) c target,
      times-where q (λ id. not (has c.incoming id || has target.incoming id || has c.learners id)) target.learners,
      retires-no_learner c target q retires retire,
      valid.learner_incoming q,
      within q,
      has-that_stay down c target q,
      here,
    ))
    (λ once among. few-among down c target some last news once few last_fits among (λ once among. few-new down c target once))

-- ---- all of the order
pub order-is_few : (down in_order : Ids) (c target : Configuration) → ((q : ℕ) → has in_order q ≡ true → has down q ≡ true) → ValidByMember c → ValidByMember target
    → mixed c.learners target.learners (order in_order c target) ≡ c.learners → AreFew down c target (order in_order c target)
order-is_few down in_order c target within valid_c valid all =
    let some = learners_at_first down c target in
    let Fits : ℕ → Type 0 = FitsIn down c target some in
    let few : (learners : Ids) → size learners ≤ size some → AreFewLearners down c target learners = λ learners few. inl few in
    let up : ℕ → Bool = λ id. not (has in_order id) in
    let joins = ids_where (λ id. not (has c.incoming id) && up id) (ascending target.incoming) in
    few-among down c target some (retiring (has in_order) c target) _ (AreOnce-order in_order c target) few
    (All-where Fits (λ id. not (has target.incoming id) && has in_order id) c.incoming (λ q here. record {
      learns = λ learns. grind (arith, has-at_first down c target q, within q, here, learns);
      learning = λ newcomer. absurd (grind (arith, newcomer, here));
    }))
    (subst (λ ids. IsAmong ids some) (sym all) (λ q here. grind (arith, has-at_first down c target q, here)))
    (λ once among.
    few-among down c target some (leaving_learners c target) _ once few
    (All-where Fits (λ id. not (has c.incoming id || has target.incoming id || has target.learners id)) c.learners (λ q here. record {
      learns = λ learns. absurd (grind (arith, here, learns));
      learning = λ newcomer. absurd (grind (arith, newcomer, here));
    })) among
    (λ once among.
    few-in_turn down c target (ascending (ids_where (has c.learners) (ascending joins))) (ascending (ids_where (λ id. not (has c.learners id)) (ascending joins))) (retiring up c target)
    (joining (has in_order) c target ++ new_learners c target) once
    (All-where (IsPromoted c target) (has c.learners) joins (λ q here. record {
      learns = (and_parts (has c.learners q) _ here).0;
      votes = grind (arith, valid.learner_incoming q, here, has-where (λ id. not (has c.incoming id) && up id) target.incoming q);
    }))
    (All-where (Retires c target) (λ id. not (has target.incoming id) && up id) c.incoming (λ q here. record {
      votes = grind (arith, here);
      learns = grind (arith, valid_c.learner_incoming q, here);
      stops = grind (arith, here);
    }))
    (size-among _ some among) (λ retires once retire. few-late down in_order c target retires within valid once retire)))
