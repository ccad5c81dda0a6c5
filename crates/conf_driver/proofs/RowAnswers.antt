-- What it means that a row answers.
use Rattle.std.proofs.Common.{◌≡◌, Bool, true, false, refl}
use Rattle.std.specs.Prelude.{Option, Some, None, if◌then◌else◌}
use Rattle.quorum_sets.specs.Ids.{Ids, is_empty}
use Rattle.conf_driver.specs.Rows.{if_any, when}
use Rattle.conf_driver.specs.declared.action.Action.{Action}

pub some-if : (test : Bool) (given : Option Action) (a : Action) → (if test then given else None) ≡ Some a → (test ≡ true) × (given ≡ Some a)
some-if true given a is = (refl, is)
some-if false given a is = absurd (cc)

pub some-unless : (test : Bool) (given : Option Action) (a : Action) → (if test then None else given) ≡ Some a → (test ≡ false) × (given ≡ Some a)
some-unless true given a is = absurd (cc)
some-unless false given a is = (refl, is)

pub when-some : (holds : Bool) (answer a : Action) → when holds answer ≡ Some a → (holds ≡ true) × (answer ≡ a)
when-some true answer a is = (refl, cc)
when-some false answer a is = absurd (cc)

some-same : (answer a : Action) → Some answer ≡ Some a → answer ≡ a
some-same answer a is = cc

pub if_any-some : (ids : Ids) (answer : Ids → Action) (a : Action) → if_any ids answer ≡ Some a → (is_empty ids ≡ false) × (answer ids ≡ a)
if_any-some ids answer a is = let parts = some-unless (is_empty ids) (Some (answer ids)) a is in (parts.0, some-same (answer ids) a parts.1)

-- ---- that a row does not answer
pub none-unless : (test : Bool) (given : Option Action) → (if test then None else given) ≡ None → test ≡ false → given ≡ None
none-unless true given is fails = absurd (cc)
none-unless false given is fails = is

pub none-if : (test : Bool) (given : Option Action) → (if test then given else None) ≡ None → test ≡ true → given ≡ None
none-if true given is holds = is
none-if false given is holds = absurd (cc)

pub holds-from_none : (test : Bool) (a : Action) → (if test then None else Some a) ≡ None → test ≡ true
holds-from_none true a is = refl
holds-from_none false a is = absurd (cc)

pub when-none : (holds : Bool) (answer : Action) → when holds answer ≡ None → holds ≡ false
when-none true answer is = absurd (cc)
when-none false answer is = refl

pub if_any-none : (ids : Ids) (answer : Ids → Action) → if_any ids answer ≡ None → is_empty ids ≡ true
if_any-none ids answer is = holds-from_none (is_empty ids) (answer ids) is
