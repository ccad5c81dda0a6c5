-- The first change of a list that is refused, looked for position by position.
use Rattle.std.proofs.Common.{◌≡◌, ◌≢◌, ℕ, ◌+◌, ◌<◌, true, false, List, [], ◌∷◌, length, refl, ap, sym, ◌∙◌, subst, arith, slice_get, zero, suc}
use Rattle.std.specs.Prelude.{Option, Some, None, filter_map, is_some}
use Rattle.std.specs.List.{range_with_len}
use Rattle.std.proofs.lemmas.Option.{slice_get_within}
use Rattle.conf_change.specs.Configuration.{Configuration}
use Rattle.conf_change.specs.declared.change.Change.{Change}
use Rattle.plan_input.specs.Refusal.{first_refusal, list_refusal, refusal_at, IsFirstRefusal, NoneRefused}
use Rattle.plan_input.specs.declared.text_fault.TextFault.{TextFault}

-- ---- the first value of a function, from a number on
abbrev pub first_from : (ℕ → Option TextFault) → ℕ → ℕ → Option TextFault
first_from f a n = slice_get (filter_map f (range_with_len a n)) 0

first_from-none : (f : ℕ → Option TextFault) (a n : ℕ) → f a ≡ None → first_from f a (suc n) ≡ first_from f (a + 1) n
first_from-none f a n is = rw is refl

first_from-some : (f : ℕ → Option TextFault) (a n : ℕ) (why : TextFault) → f a ≡ Some why → first_from f a (suc n) ≡ Some why
first_from-some f a n why is = rw is refl

-- the loop: there is a value here, or there is none
pub first_from-here : (f : ℕ → Option TextFault) (a n m : ℕ) (r : Option TextFault) → n ≡ suc m → r ≡ f a → is_some r ≡ true → first_from f a n ≡ r
first_from-here f a n m None same is some = cc
first_from-here f a n m (Some why) same is some = ap (first_from f a) same ∙ first_from-some f a m why (sym is)

pub first_from-later : (f : ℕ → Option TextFault) (a n m : ℕ) (r : Option TextFault) → n ≡ suc m → r ≡ f a → is_some r ≡ false → first_from f a n ≡ first_from f (a + 1) m
first_from-later f a n m None same is none = ap (first_from f a) same ∙ first_from-none f a m (sym is)
first_from-later f a n m (Some why) same is none = cc

all-none : (f : ℕ → Option TextFault) (a n : ℕ) → ((k : ℕ) → f k ≡ None) → first_from f a n ≡ None
all-none f a zero none = refl
all-none f a (suc n) none = first_from-none f a n (none a) ∙ all-none f (a + 1) n none

-- the value at a + k, if there is none before
at-later : (f : ℕ → Option TextFault) (why : TextFault) (k a n : ℕ) → k < n → f (a + k) ≡ Some why → ((j : ℕ) → j < a + k → f j ≡ None) → first_from f a n ≡ Some why
at-later f why k a zero within is before = absurd (omega (arith, within))
at-later f why zero a (suc n) within is before = first_from-some f a n why (subst (λ m. f m ≡ Some why) (omega arith) is)
at-later f why (suc k) a (suc n) within is before =
    let same : a + suc k ≡ (a + 1) + k = omega arith in
    first_from-none f a n (before a (omega arith))
    ∙ at-later f why k (a + 1) n (omega (arith, within)) (subst (λ m. f m ≡ Some why) same is) (λ j below. before j (omega (arith, below)))

-- ---- of a list of changes
pub first_refusal-none : (now : Configuration) (changes : List Change) → NoneRefused now changes → first_refusal now changes ≡ None
first_refusal-none now changes none = all-none (refusal_at now changes) 0 (length changes) none

refused-within : (now : Configuration) (changes : List Change) (why : TextFault) (k : ℕ) (found : Option Change) → slice_get changes k ≡ found → refusal_at now changes k ≡ Some why → k < length changes
refused-within now changes why k (Some change) is refused = slice_get_within changes k change is
refused-within now changes why k None is refused = absurd (let e = rw is at refused in cc)

pub first_refusal-some : (now : Configuration) (changes : List Change) (why : TextFault) → IsFirstRefusal now changes why → first_refusal now changes ≡ Some why
first_refusal-some now changes why h =
    at-later (refusal_at now changes) why h.position 0 (length changes) (refused-within now changes why h.position _ refl h.reason)
    (subst (λ k. refusal_at now changes k ≡ Some why) (omega arith) h.reason) (λ j below. h.is_first j (omega (arith, below)))

pub list_refusal-none : (now : Configuration) (changes : List Change) → changes ≢ [] → NoneRefused now changes → list_refusal now changes ≡ None
list_refusal-none now [] some none = absurd (some refl)
list_refusal-none now (change ∷ changes) some none = first_refusal-none now (change ∷ changes) none

pub list_refusal-some : (now : Configuration) (changes : List Change) (why : TextFault) → IsFirstRefusal now changes why → list_refusal now changes ≡ Some why
list_refusal-some now [] why h = absurd (let e = h.reason in cc)
list_refusal-some now (change ∷ changes) why h = first_refusal-some now (change ∷ changes) why h
