-- Sets that lose ids: the servers that are to be started and stopped, and the members that lack something.
use Rattle.std.proofs.Common.{◌≡◌, ℕ, ◌+◌, ◌≤◌, ◌<◌, true, arith, inl, inr}
use Rattle.std.proofs.lemmas.Bool.{both_ways, cases_Bool}
use Rattle.quorum_sets.specs.Ids.{Ids, has, size}
use Rattle.quorum_sets.proofs.Offered.{has-union}
use Rattle.conf_driver.specs.IdSets.{◌∪◌, ◌∖◌}
use Rattle.conf_driver.proofs.IdsByMember.{has-without, has-without-is, in-without}
use Rattle.conf_driver.proofs.Sizes.{IsWithin, size-less, size-within}

-- ---- servers
-- once members that do not run are started, fewer are to be started, and no more to be stopped
pub fewer-once_started : (running members started : Ids) (x : ℕ) → IsWithin started (members ∖ running) → has started x ≡ true
    → size ((running ∪ started) ∖ members) + size (members ∖ (running ∪ started)) < size (running ∖ members) + size (members ∖ running)
fewer-once_started running members started x named here =
    let others = size-within ((running ∪ started) ∖ members) (running ∖ members) (λ q given.
    let parts = in-without (running ∪ started) members q given in
    elim (cases_Bool (has started q)) [
      | inl new ↦ absurd (both_ways _ parts.1 (in-without members running q (named q new)).0)
      | inr old ↦ grind (arith, parts.0, parts.1, old, has-union running started q, has-without running members q)
    ]) in
    let wanted = in-without members running x (named x here) in
    let less = size-less (members ∖ (running ∪ started)) (members ∖ running) x
    (λ q given. grind (arith, given, has-without members (running ∪ started) q, has-union running started q, has-without members running q))
    (has-without-is members running x wanted.0 wanted.1)
    (grind (arith, here, has-without members (running ∪ started) x, has-union running started x)) in
    omega (arith, others, less)

-- once servers that are no members are stopped, fewer are to be stopped, and no more to be started
pub fewer-once_stopped : (running members stopped : Ids) (x : ℕ) → IsWithin stopped (running ∖ members) → has stopped x ≡ true
    → size (running ∖ stopped ∖ members) + size (members ∖ (running ∖ stopped)) < size (running ∖ members) + size (members ∖ running)
fewer-once_stopped running members stopped x named here =
    let others = size-within (members ∖ (running ∖ stopped)) (members ∖ running) (λ q given.
    let parts = in-without members (running ∖ stopped) q given in
    elim (cases_Bool (has stopped q)) [
      | inl old ↦ absurd (both_ways _ (in-without running members q (named q old)).1 parts.0)
      | inr stays ↦ grind (arith, parts.0, parts.1, stays, has-without running stopped q, has-without members running q)
    ]) in
    let less = size-less (running ∖ stopped ∖ members) (running ∖ members) x
    (λ q given. grind (arith, given, has-without (running ∖ stopped) members q, has-without running stopped q, has-without running members q))
    (named x here)
    (grind (arith, here, has-without (running ∖ stopped) members x, has-without running stopped x)) in
    omega (arith, others, less)

-- ---- members
-- the ids of fewer, of which more have come, that have not come, nor are down
pub rest-within : (ids fewer down come more : Ids) → IsWithin fewer ids → ((q : ℕ) → has ids q ≡ true → has come q ≡ true → has more q ≡ true) → IsWithin (fewer ∖ down ∖ more) (ids ∖ down ∖ come)
rest-within ids fewer down come more within stays q given = grind (arith, in-without, has-without-is, cases_Bool, both_ways)

pub rest-size : (ids fewer down come more : Ids) → IsWithin fewer ids → ((q : ℕ) → has ids q ≡ true → has come q ≡ true → has more q ≡ true) → size (fewer ∖ down ∖ more) ≤ size (ids ∖ down ∖ come)
rest-size ids fewer down come more within stays = size-within _ _ (rest-within ids fewer down come more within stays)

-- one of them has come
pub rest-less : (ids fewer down come more : Ids) (x : ℕ) → IsWithin fewer ids → ((q : ℕ) → has ids q ≡ true → has come q ≡ true → has more q ≡ true)
    → has (ids ∖ down ∖ come) x ≡ true → has more x ≡ true → size (fewer ∖ down ∖ more) < size (ids ∖ down ∖ come)
rest-less ids fewer down come more x within stays lacked came = grind (arith, size-less, rest-within, has-without)

-- they are no more than the ids of a set that has them
pub rest-few : (ids down come all : Ids) → IsWithin ids all → size (ids ∖ down ∖ come) ≤ size all
rest-few ids down come all within = size-within _ _ (λ q given. within q (in-without ids down q (in-without (ids ∖ down) come q given).0).0)
