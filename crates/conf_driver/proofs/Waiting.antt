-- Which row waits, and whom it names.
use Rattle.std.proofs.Common.{◌≡◌, ℕ, Bool, true, false, not, List, [], ◌∷◌, refl, sym, ap, ◌∙◌, arith, inl, inr, ◌⊎◌}
use Rattle.std.specs.Prelude.{Option, Some, None, length, nat_eq, slice_get, option_map, unwrap_or, if◌then◌else◌}
use Rattle.std.proofs.lemmas.Bool.{both_ways, cases_Bool, cond-false, cond-true, not-true, or_left}
use Rattle.quorum_sets.specs.Ids.{Ids, ascending, has, is_empty}
use Rattle.quorum_sets.specs.Voters.{is_quorum}
use Rattle.quorum_sets.proofs.Offered.{has-union}
use Rattle.conf_change.specs.Configuration.{voters_of}
use Rattle.conf_change.specs.declared.step.Step.{Step}
use Rattle.conf_driver.specs.IdSets.{◌∪◌, ◌∩◌, ◌∖◌, least_of, or_else, or_second}
use Rattle.conf_driver.specs.Next.{answer_in, propose_first}
use Rattle.conf_driver.specs.Rows as row
use Rattle.conf_driver.specs.Rows.{done_or_wait, if_any, needed_at_target, transfer_to_one, wait_for}
use Rattle.conf_driver.specs.Situation.{Situation}
use Rattle.conf_driver.specs.declared.action.Action.{Action}
use Rattle.conf_driver.specs.declared.action.Action.TheVariants.{Done, Transfer, Wait}
use Rattle.conf_driver.specs.declared.action.WaitReason.{WaitReason}
use Rattle.conf_driver.specs.declared.action.WaitReason.TheVariants.{Unheard, Behind}
use Rattle.conf_driver.proofs.Counting.{quorum-has_voter}
use Rattle.conf_driver.proofs.FirstRow.{by_rows}
use Rattle.conf_driver.proofs.IdsByMember.{has-without, in-common, in-second, in-without, not-in_second}
use Rattle.conf_driver.proofs.RowAnswers.{if_any-some, none-unless, some-if, some-unless, when-some}
use Rattle.conf_driver.proofs.RowsPassed.{has_step-passed, quorum-passed}

-- ---- the rows that wait
-- what has been passed where a row waits for members: unless the leader does not vote, no change is pending, and raft is
-- to leave nothing by itself
pub record IsPassed (s : Situation) : Type 0 where
  pub quorum_lost : row.quorum_lost s ≡ None
  pub no_leader : row.no_leader s ≡ None
  pub later : has s.voters s.lead ≡ true → (row.is_pending s ≡ None) × (row.is_leaving s ≡ None)

-- the row that waits, and what those before it have passed
pub data Waits (s : Situation) (given : Option Action) : Type 0 where
  ByHeard : row.down_is_heard s ≡ given → Waits s given
  ByLeader : row.quorum_lost s ≡ None → row.no_leader s ≡ given → Waits s given
  ByNonvoter : IsPassed s → row.nonvoter_leads s ≡ given → Waits s given
  ByPending : row.down_is_heard s ≡ None → row.nonvoter_leads s ≡ None → row.is_pending s ≡ given → Waits s given
  ByLeaving : row.down_is_heard s ≡ None → row.nonvoter_leads s ≡ None → row.is_leaving s ≡ given → Waits s given
  BySuccessor : IsPassed s → row.leader_leaves s ≡ None → row.successor_lags s ≡ given → Waits s given
  ByTarget : IsPassed s → row.at_target s ≡ given → Waits s given
  ByNewVoter : IsPassed s → row.new_voter_lags s ≡ given → Waits s given
  ByBehind : IsPassed s → row.voter_is_behind s ≡ given → Waits s given
  ByQuorum : IsPassed s → row.no_quorum_is_up s ≡ given → Waits s given
  BySilent : IsPassed s → row.at_target s ≡ None → row.voter_is_silent s ≡ given → Waits s given

pub wait_not_last : {P : Type 0} (steps : List Step) (why : WaitReason) (ids : Ids) → propose_first steps ≡ Wait why ids → P
wait_not_last [] why ids is = absurd (cc)
wait_not_last (step ∷ steps) why ids is = absurd (cc)

passed : (s : Situation) → row.quorum_lost s ≡ None → row.no_leader s ≡ None → row.is_pending s ≡ None → row.is_leaving s ≡ None → IsPassed s
passed s a c f k = record { quorum_lost = a; no_leader = c; later = λ leads. (f, k) }

-- the row answers, so the leader does not vote
passed_early : (s : Situation) (why : WaitReason) (ids : Ids) → row.quorum_lost s ≡ None → row.no_leader s ≡ None → row.nonvoter_leads s ≡ Some (Wait why ids) → IsPassed s
passed_early s why ids a c here = record {
  quorum_lost = a;
  no_leader = c;
  later = λ leads. absurd (both_ways _ (some-unless (has s.voters s.lead) _ (Wait why ids) here).0 leads);
}

pub Waits-from_answer : (s : Situation) (steps : List Step) (why : WaitReason) (ids : Ids) → answer_in s steps ≡ Wait why ids → Waits s (Some (Wait why ids))
Waits-from_answer s steps why ids is = by_rows (Waits s (Some (Wait why ids))) s steps (Wait why ids) (λ a. (
  λ here. ByHeard here,
  λ b. (
    λ here. ByLeader a here,
    λ c. (
      λ here. ByNonvoter (passed_early s why ids a c here) here,
      λ d e. (
        λ here. ByPending b d here,
        λ f g h i j. (
          λ here. ByLeaving b d here,
          λ k l. (
            λ here. BySuccessor (passed s a c f k) l here,
            λ m. (
              λ here. ByTarget (passed s a c f k) here,
              λ n. (
                λ here. ByNewVoter (passed s a c f k) here,
                λ o. (
                  λ here. ByBehind (passed s a c f k) here,
                  λ p. (
                    λ here. ByQuorum (passed s a c f k) here,
                    λ q. (
                      λ here. BySilent (passed s a c f k) n here,
                      λ r last. wait_not_last steps why ids last,
                    ),
                  ),
                ),
              ),
            ),
          ),
        ),
      ),
    ),
  ),
)) is

pub same_wait : (a b : WaitReason) (x y : Ids) → Wait a x ≡ Wait b y → (a ≡ b) × (x ≡ y)
same_wait a b x y is = (cc, cc)

-- ---- the first set, or the second
pub in-or_else : (a b : Ids) (id : ℕ) → has (or_else a b) id ≡ true → (has a id ≡ true) ⊎ (has b id ≡ true)
in-or_else a b id here = grind (arith, cases_Bool, cond-true, cond-false)

pub or_else-some : (a b : Ids) → is_empty b ≡ false → is_empty (or_else a b) ≡ false
or_else-some a b some_second = grind (arith, cases_Bool, cond-true, cond-false)

-- ---- no leadership is moved, so none of the ids could lead
empty-list : (xs : List ℕ) → slice_get xs 0 ≡ None → nat_eq (length xs) 0 ≡ true
empty-list [] is = grind arith
empty-list (x ∷ xs) is = absurd (cc)

none-second : (a b : Option ℕ) → option_map Transfer (or_second a b) ≡ None → b ≡ None
none-second None None is = refl
none-second None (Some y) is = absurd (cc)
none-second (Some x) b is = absurd (cc)

pub none-to_lead : (s : Situation) (ids : Ids) → transfer_to_one s ids ≡ None → is_empty ids ≡ true
none-to_lead s ids is = empty-list (ascending ids) (none-second (least_of (ids ∩ s.target.incoming)) (least_of ids) is)

-- ---- who is behind, and who is not heard from
-- an id that lacks something: a member that is not down, and not up
pub record IsLagging (s : Situation) (id : ℕ) : Type 0 where
  pub not_down : has s.down id ≡ false
  pub not_up : has s.up id ≡ false
  pub member : has s.members id ≡ true

pub record NamesBehind (s : Situation) (why : WaitReason) (ids : Ids) : Type 0 where
  pub why_is : why ≡ Behind
  pub some : is_empty ids ≡ false
  pub heard : (id : ℕ) → has ids id ≡ true → has s.heard id ≡ true
  pub lagging : (id : ℕ) → has ids id ≡ true → IsLagging s id

pub record NamesUnheard (s : Situation) (why : WaitReason) (ids : Ids) : Type 0 where
  pub why_is : why ≡ Unheard
  pub some : is_empty ids ≡ false
  pub heard_not : (id : ℕ) → has ids id ≡ true → has s.heard id ≡ false
  pub not_down : (id : ℕ) → has ids id ≡ true → has s.down id ≡ false
  pub member : (id : ℕ) → has ids id ≡ true → (has s.members id ≡ true) ⊎ ((s.has_step ≡ true) × (has s.voters_after id ≡ true))

abbrev pub NamesLagging : Situation → WaitReason → Ids → Type 0
NamesLagging s why ids = NamesBehind s why ids ⊎ NamesUnheard s why ids

behind : (s : Situation) (set ids : Ids) (why : WaitReason) → Wait Behind set ≡ Wait why ids → is_empty set ≡ false → ((id : ℕ) → has set id ≡ true → has s.heard id ≡ true)
    → ((id : ℕ) → has set id ≡ true → IsLagging s id) → NamesBehind s why ids
behind s set ids why is some heard lagging =
    let same = same_wait Behind why set ids is in
    record {
      why_is = sym same.0;
      some = ap is_empty (sym same.1) ∙ some;
      heard = λ id here. heard id (ap (λ t. has t id) same.1 ∙ here);
      lagging = λ id here. lagging id (ap (λ t. has t id) same.1 ∙ here);
    }

unheard : (s : Situation) (set ids : Ids) (why : WaitReason) → Wait Unheard (set ∖ s.heard) ≡ Wait why ids → is_empty (set ∖ s.heard) ≡ false → ((id : ℕ) → has set id ≡ true → has s.down id ≡ false)
    → ((id : ℕ) → has set id ≡ true → (has s.members id ≡ true) ⊎ ((s.has_step ≡ true) × (has s.voters_after id ≡ true))) → NamesUnheard s why ids
unheard s set ids why is some not_down member =
    let same = same_wait Unheard why (set ∖ s.heard) ids is in
    let parts = λ (id : ℕ) (here : has ids id ≡ true). in-without set s.heard id (ap (λ t. has t id) same.1 ∙ here) in
    record {
      why_is = sym same.0;
      some = ap is_empty (sym same.1) ∙ some;
      heard_not = λ id here. (parts id here).1;
      not_down = λ id here. not_down id (parts id here).0;
      member = λ id here. member id (parts id here).0;
    }

names-wait_for : (s : Situation) (set ids : Ids) (why : WaitReason) → wait_for s set ≡ Wait why ids → is_empty set ≡ false → ((id : ℕ) → has set id ≡ true → IsLagging s id) → NamesLagging s why ids
names-wait_for s set ids why is some lagging = grind (arith, cases_Bool, behind, cond-true, some, in-second, lagging, unheard, cond-false)

-- ---- the rows on the step
-- how the sets of a situation hang together
pub record IsOfOneView (s : Situation) : Type 0 where
  pub voters : (id : ℕ) → has s.voters id ≡ true → has s.members id ≡ true
  pub needed : (id : ℕ) → has (s.before.incoming ∪ s.before.learners) id ≡ true → has s.members id ≡ true
  pub grows : is_empty (s.voters ∖ s.down ∖ s.up) ≡ true → is_quorum (voters_of s.before) (s.voters ∖ s.down) ≡ true → is_quorum (voters_of s.before) s.up ≡ true

pub names-successor : (s : Situation) (why : WaitReason) (ids : Ids) → IsOfOneView s → row.leader_leaves s ≡ None → row.successor_lags s ≡ Some (Wait why ids) → NamesLagging s why ids
names-successor s why ids sets stays is =
    let could = s.voters ∩ s.voters_after in
    let given = some-unless (has s.voters_after s.lead) (if_any (could ∖ s.down) (wait_for s)) (Wait why ids) is in
    let row = if_any-some (could ∖ s.down) (wait_for s) (Wait why ids) given.1 in
    let none_left = none-to_lead s (could ∩ s.up) (none-unless (has s.voters_after s.lead) (transfer_to_one s (could ∩ s.up)) stays given.0) in
    names-wait_for s (could ∖ s.down) ids why row.1 row.0 (λ id here.
    let parts = in-without could s.down id here in
    record { not_down = parts.1; not_up = not-in_second could s.up id none_left parts.0; member = sets.voters id (in-common s.voters s.voters_after id parts.0).0 })

-- where leadership does not move, the other answer waits
pub waits-unless_moved : (to : Option ℕ) (other : Action) (why : WaitReason) (ids : Ids) → unwrap_or (option_map Transfer to) other ≡ Wait why ids
    → (option_map Transfer to ≡ None) × (other ≡ Wait why ids)
waits-unless_moved None other why ids is = (refl, is)
waits-unless_moved (Some id) other why ids is = absurd (cc)

pub some_wait : (a : Action) (why : WaitReason) (ids : Ids) → Some a ≡ Some (Wait why ids) → a ≡ Wait why ids
some_wait a why ids is = cc

pub names-nonvoter : (s : Situation) (why : WaitReason) (ids : Ids) → IsOfOneView s → row.quorum_lost s ≡ None → row.nonvoter_leads s ≡ Some (Wait why ids) → NamesLagging s why ids
names-nonvoter s why ids sets counts is =
    let incoming = s.before.incoming in
    let ready = incoming ∩ s.up in
    let counted = incoming ∖ s.down in
    let given = some-unless (has s.voters s.lead) (Some (unwrap_or (transfer_to_one s ready) (wait_for s counted))) (Wait why ids) is in
    let waits = waits-unless_moved (or_second (least_of (ready ∩ s.target.incoming)) (least_of ready)) (wait_for s counted) why ids (some_wait _ why ids given.1) in
    let some : is_empty counted ≡ false = elim (cases_Bool (is_empty counted)) [
      | inl none ↦ absurd (quorum-has_voter s.before (s.voters ∖ s.down) (quorum-passed s counts) (λ x here. grind (arith, in-second incoming s.down x none here, has-without s.voters s.down x)))
      | inr some ↦ some
    ] in
    names-wait_for s counted ids why waits.1 some (λ id here.
    let parts = in-without incoming s.down id here in
    record {
      not_down = parts.1;
      not_up = not-in_second incoming s.up id (none-to_lead s ready waits.0) parts.0;
      member = sets.needed id (has-union incoming s.before.learners id ∙ or_left _ _ parts.0);
    })

in-needed : (s : Situation) (id : ℕ) → IsOfOneView s → has (needed_at_target s) id ≡ true → has s.members id ≡ true
in-needed s id sets here = grind (arith, cases_Bool, cond-true, cond-false)

pub done_or_wait-waits : (s : Situation) (set ids : Ids) (why : WaitReason) → done_or_wait s set ≡ Wait why ids → (is_empty set ≡ false) × (wait_for s set ≡ Wait why ids)
done_or_wait-waits s set ids why is = by_test (is_empty set) is
  where
    by_test : (test : Bool) → (if test then Done else wait_for s set) ≡ Wait why ids → (test ≡ false) × (wait_for s set ≡ Wait why ids)
    by_test true given = absurd (cc)
    by_test false given = (refl, given)

lags-from_rest : (s : Situation) (set : Ids) (id : ℕ) → ((q : ℕ) → has set q ≡ true → has s.members q ≡ true) → has (set ∖ s.down ∖ s.up) id ≡ true → IsLagging s id
lags-from_rest s set id within here =
    let of_up = in-without (set ∖ s.down) s.up id here in
    let of_down = in-without set s.down id of_up.0 in
    record { not_down = of_down.1; not_up = of_up.1; member = within id of_down.0 }

pub names-target : (s : Situation) (why : WaitReason) (ids : Ids) → IsOfOneView s → row.at_target s ≡ Some (Wait why ids) → NamesLagging s why ids
names-target s why ids sets is = grind (arith, when-some, not, done_or_wait-waits, names-wait_for, lags-from_rest, in-needed)

pub names-new_voter : (s : Situation) (why : WaitReason) (ids : Ids) → row.new_voter_lags s ≡ Some (Wait why ids) → NamesLagging s why ids
names-new_voter s why ids is = grind (arith, if_any-some, names-wait_for, lags-from_rest, in-common, in-without)

pub names-behind : (s : Situation) (why : WaitReason) (ids : Ids) → row.voter_is_behind s ≡ Some (Wait why ids) → NamesLagging s why ids
names-behind s why ids is = grind (arith, if_any-some, behind, in-common, in-without, lags-from_rest)

pub names-quorum : (s : Situation) (why : WaitReason) (ids : Ids) → IsOfOneView s → row.quorum_lost s ≡ None → row.no_quorum_is_up s ≡ Some (Wait why ids) → NamesLagging s why ids
names-quorum s why ids sets counts is = grind (arith, when-some, not, false, cases_Bool, both_ways, not-true, quorum-passed, names-wait_for, lags-from_rest)

pub names-silent : (s : Situation) (why : WaitReason) (ids : Ids) → row.at_target s ≡ None → row.voter_is_silent s ≡ Some (Wait why ids) → NamesLagging s why ids
names-silent s why ids on_the_way is = grind (arith, some-if, if_any-some, unheard, in-without, has_step-passed)
