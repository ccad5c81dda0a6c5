-- The members that have to catch up, as they are found.
use Rattle.std.proofs.Common.{◌≡◌, ℕ, ◌+◌, ◌<◌, Bool, not, ◌&&◌, ◌||◌, ◌==◌, List, length, take, get_or, ◌∙◌, arith}
use Rattle.std.specs.Cmp.{nat_eq_equiv}
use Rattle.std.proofs.lemmas.List.Folds.{list_any_more}
use Rattle.quorum_sets.specs.Ids.{Ids, has, ascending, ids_where, union}
use Rattle.quorum_sets.proofs.Offered.{has-ascending, has-ids_where, has-same_ids, has-union}
use Rattle.conf_change.specs.Change.{is_removal, removes}
use Rattle.conf_change.specs.Configuration.{Configuration, is_member, member_ids, members}
use Rattle.conf_change.specs.Progress.{keeps_progress}
use Rattle.conf_change.specs.Step.{changes_of}
use Rattle.conf_change.specs.declared.change.Change.{Change}
use Rattle.conf_change.specs.declared.step.Step.{Step}
use Rattle.conf_change.proofs.Offered.{any-members}
use Rattle.conf_plan.specs.OnTheWay.{catching_up}

-- a member after the step that was none before, or whose position a new one takes
pub catching_up-filtered : (before after : Configuration) (step : Step) (all removed filtered : Ids) → all ≡ member_ids after
    → ((q : ℕ) → has removed q ≡ removes (changes_of step) q)
    → filtered ≡ ids_where (λ id. not (is_member before id) || (has removed id && not (has after.outgoing id))) (ascending all)
    → filtered ≡ catching_up before step after
catching_up-filtered before after step all removed filtered all_are is_removed is =
    is ∙ has-same_ids _ _ (λ q.
    grind (
      arith,
      has-ids_where (λ id. not (is_member before id) || (has removed id && not (has after.outgoing id))) (ascending all) q,
      has-ids_where (λ id. not (keeps_progress before step after id)) (members after) q,
      any-members after q,
      has-ascending all q,
      all_are,
      has-union (union after.incoming after.outgoing) after.learners q,
      has-union after.incoming after.outgoing q,
      is_removed q,
    ))

-- ---- the ids that are removed, one change after another
-- so far these were removed
abbrev pub RemovedSoFar : Ids → List Change → ℕ → Ids → Type 0
RemovedSoFar before changes k now = (id : ℕ) → has now id ≡ (has before id || removes (take k changes) id)

-- one more change is read, which removes its id or does not
pub RemovedSoFar-more : (before now after : Ids) (changes : List Change) (k : ℕ) (x : Change) (removal : Bool) → k < length changes → is_removal (get_or changes k x).kind ≡ removal
    → ((id : ℕ) → has after id ≡ ((removal && (id == (get_or changes k x).id)) || has now id)) → RemovedSoFar before changes k now → RemovedSoFar before changes (k + 1) after
RemovedSoFar-more before now after changes k x removal within is added so_far id =
    let change = get_or changes k x in
    grind (arith, is, added id, so_far id, nat_eq_equiv.symm change.id id, list_any_more (λ c. (c.id == id) && is_removal c.kind) changes k x within)
