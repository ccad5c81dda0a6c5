-- Answers that are carried out one after another.
use Rattle.std.proofs.Common.{◌≡◌, ◌≢◌, ◌+◌, ◌≤◌, ◌<◌, List, [], ◌∷◌, length, refl, ap, subst, arith, inl, inr, ◌⊎◌}
use Rattle.quorum_sets.specs.Ids.{Ids}
use Rattle.conf_change.specs.Configuration.{Configuration}
use Rattle.conf_plan.specs.declared.strategy.Strategy.{Strategy}
use Rattle.conf_driver.specs.CarriedOut.{AreAnswered, IsAnswered}
use Rattle.conf_driver.specs.Hopeful.{IsHopeful}
use Rattle.conf_driver.specs.Moment.{IsMoment, Moment}
use Rattle.conf_driver.specs.Nearer.{left}
use Rattle.conf_driver.specs.Next.{next_of, situation}
use Rattle.conf_driver.specs.declared.action.Action.{Action}
use Rattle.conf_driver.specs.declared.action.Action.TheVariants.{Start, Stop, Transfer, Propose, Wait, Stuck, Done}
use Rattle.conf_driver.specs.declared.action.StuckReason.{StuckReason}
use Rattle.conf_driver.specs.declared.action.WaitReason.TheVariants.{NoLeader, Pending, Heard, Unheard, Behind, Leaving}
use Rattle.conf_driver.proofs.Hopes.{hopeful-next, stuck-not}
use Rattle.conf_driver.proofs.Moments.{AreKept}
use Rattle.conf_driver.proofs.NearerByAnswer.{moment-by_answer, nearer-by_answer}
use Rattle.conf_driver.proofs.Possible.{possible}
use Rattle.conf_driver.proofs.Said.{said}
use Rattle.conf_driver.proofs.StuckBy.{IsStuckBy-from_answer}
use Rattle.conf_driver.proofs.Ways.{steps_to}

-- ---- one answer
pub moment-answered : AreKept → (strategy : Strategy) (target : Configuration) (down : Ids) (now next : Moment) (answer : Action) → IsMoment strategy target now → IsAnswered strategy target down now answer next
    → IsMoment strategy target next
moment-answered kept strategy target down now next answer moment is =
    moment-by_answer kept strategy target down now next answer moment is.carried_out (said kept strategy target down now.view answer moment.can is.answer_is)

pub nearer-answered : AreKept → (strategy : Strategy) (target : Configuration) (down : Ids) (now next : Moment) (answer : Action) → IsMoment strategy target now → IsAnswered strategy target down now answer next
    → left strategy target down next < left strategy target down now
nearer-answered kept strategy target down now next answer moment is =
    nearer-by_answer kept strategy target down now next answer moment (moment-answered kept strategy target down now next answer moment is) is.carried_out (said kept strategy target down now.view answer moment.can is.answer_is)

pub hopeful-answered : AreKept → (strategy : Strategy) (target : Configuration) (down : Ids) (now next : Moment) (answer : Action) → IsMoment strategy target now → IsHopeful target down now
    → IsAnswered strategy target down now answer next → IsHopeful target down next
hopeful-answered kept strategy target down now next answer moment hopeful is =
    hopeful-next kept strategy target down now next answer moment hopeful is.carried_out (said kept strategy target down now.view answer moment.can is.answer_is)

-- ---- many
pub at_most : AreKept → (strategy : Strategy) (target : Configuration) (down : Ids) (now last : Moment) (answers : List Action) → IsMoment strategy target now → AreAnswered strategy target down now answers last
    → length answers + left strategy target down last ≤ left strategy target down now
at_most kept strategy target down now last [] moment are =
    let same : left strategy target down now ≡ left strategy target down last = ap (left strategy target down) are in
    omega (arith, same)
at_most kept strategy target down now last (answer ∷ answers) moment are =
    let less = nearer-answered kept strategy target down now are.0 answer moment are.1 in
    let more = at_most kept strategy target down are.0 last answers (moment-answered kept strategy target down now are.0 answer moment are.1) are.2 in
    omega (arith, less, more)

pub hopeful-last : AreKept → (strategy : Strategy) (target : Configuration) (down : Ids) (now last : Moment) (answers : List Action) → IsMoment strategy target now → IsHopeful target down now
    → AreAnswered strategy target down now answers last → IsMoment strategy target last × IsHopeful target down last
hopeful-last kept strategy target down now last [] moment hopeful are = (subst (IsMoment strategy target) are moment, subst (IsHopeful target down) are hopeful)
hopeful-last kept strategy target down now last (answer ∷ answers) moment hopeful are =
    hopeful-last kept strategy target down are.0 last answers (moment-answered kept strategy target down now are.0 answer moment are.1) (hopeful-answered kept strategy target down now are.0 answer moment hopeful are.1) are.2

-- ---- the last answer
-- an answer of another kind could be carried out
could : AreKept → (strategy : Strategy) (target : Configuration) (down : Ids) (last : Moment) (answer : Action) → IsMoment strategy target last → next_of strategy target down last.view ≡ answer
    → ((other : Action) (next : Moment) → IsAnswered strategy target down last other next → ⊥)
    → answer ≢ Done → ((why : StuckReason) (ids : Ids) → answer ≢ Stuck why ids) → ((ids : Ids) → answer ≢ Wait Heard ids) → ⊥
could kept strategy target down last answer moment is end not_done not_stuck not_heard =
    let next = possible kept strategy target down last answer moment (said kept strategy target down last.view answer moment.can is) not_done not_stuck not_heard in
    end answer next.0 (record { answer_is = is; carried_out = next.1 })

pub last-answer : AreKept → (strategy : Strategy) (target : Configuration) (down : Ids) (last : Moment) (answer : Action) → IsMoment strategy target last → IsHopeful target down last
    → next_of strategy target down last.view ≡ answer → ((other : Action) (next : Moment) → IsAnswered strategy target down last other next → ⊥)
    → (answer ≡ Done) ⊎ ((ids : Ids) × (answer ≡ Wait Heard ids))
last-answer kept strategy target down last (Start ids) moment hopeful is end = absurd (could kept strategy target down last (Start ids) moment is end (λ same. cc) (λ why others same. cc) (λ others same. cc))
last-answer kept strategy target down last (Stop ids) moment hopeful is end = absurd (could kept strategy target down last (Stop ids) moment is end (λ same. cc) (λ why others same. cc) (λ others same. cc))
last-answer kept strategy target down last (Transfer id) moment hopeful is end = absurd (could kept strategy target down last (Transfer id) moment is end (λ same. cc) (λ why others same. cc) (λ others same. cc))
last-answer kept strategy target down last (Propose step) moment hopeful is end = absurd (could kept strategy target down last (Propose step) moment is end (λ same. cc) (λ why others same. cc) (λ others same. cc))
last-answer kept strategy target down last (Wait NoLeader ids) moment hopeful is end = absurd (could kept strategy target down last (Wait NoLeader ids) moment is end (λ same. cc) (λ why others same. cc) (λ others same. cc))
last-answer kept strategy target down last (Wait Pending ids) moment hopeful is end = absurd (could kept strategy target down last (Wait Pending ids) moment is end (λ same. cc) (λ why others same. cc) (λ others same. cc))
last-answer kept strategy target down last (Wait Heard ids) moment hopeful is end = inr (ids, refl)
last-answer kept strategy target down last (Wait Unheard ids) moment hopeful is end = absurd (could kept strategy target down last (Wait Unheard ids) moment is end (λ same. cc) (λ why others same. cc) (λ others same. cc))
last-answer kept strategy target down last (Wait Behind ids) moment hopeful is end = absurd (could kept strategy target down last (Wait Behind ids) moment is end (λ same. cc) (λ why others same. cc) (λ others same. cc))
last-answer kept strategy target down last (Wait Leaving ids) moment hopeful is end = absurd (could kept strategy target down last (Wait Leaving ids) moment is end (λ same. cc) (λ why others same. cc) (λ others same. cc))
last-answer kept strategy target down last (Stuck why ids) moment hopeful is end =
    let s = situation strategy target down last.view in
    absurd (stuck-not kept strategy target down last why ids moment hopeful (IsStuckBy-from_answer s (steps_to strategy target down last.view.conf_state) why ids is))
last-answer kept strategy target down last Done moment hopeful is end = inl refl
