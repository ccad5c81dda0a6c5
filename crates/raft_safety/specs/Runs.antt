-- Runs of anything that takes actions: what they leave, and that each is allowed.
use Rattle.std.specs.Prelude.{List, [], ◌∷◌, ◌++◌}

-- what actions leave, one after another
abbrev pub after_all : {S A : Type 0} → (S → A → S) → S → List A → S
after_all step state [] = state
after_all step state (action ∷ actions) = after_all step (step state action) actions

-- each action is allowed where the ones before it lead
abbrev pub AreAllAllowed : {S A : Type 0} → (S → A → S) → (S → A → Type 0) → S → List A → Type 0
AreAllAllowed step IsAllowed state [] = Unit {0}
AreAllAllowed step IsAllowed state (action ∷ actions) =
    IsAllowed state action × AreAllAllowed step IsAllowed (step state action) actions

-- the claim holds after each allowed run from this state on
abbrev pub AfterEach : {S A : Type 0} → (S → A → S) → (S → A → Type 0) → S → (S → Type 0) → Type 0
AfterEach {A = A} step IsAllowed state Claim =
    (actions : List A) → AreAllAllowed step IsAllowed state actions → Claim (after_all step state actions)

-- the claim holds of an earlier moment of each such run and its end
abbrev pub AtTwo : {S A : Type 0} → (S → A → S) → (S → A → Type 0) → S → (S → S → Type 0) → Type 0
AtTwo {A = A} step IsAllowed state Claim =
    (early late : List A) → AreAllAllowed step IsAllowed state (early ++ late)
    → Claim (after_all step state early) (after_all step state (early ++ late))
