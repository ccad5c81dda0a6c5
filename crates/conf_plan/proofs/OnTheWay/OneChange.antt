-- What a step of one change makes of a configuration that is not joint.
use Rattle.std.proofs.Common.{◌≡◌, ℕ, ◌≤◌, Bool, true, false, cond, not, ◌==◌, [], ◌∷◌, refl, ap, subst, eqb-true, arith}
use Rattle.quorum_sets.specs.Ids.{Ids, has, is_empty, difference_count}
use Rattle.quorum_sets.proofs.Offered.{has-no_ids}
use Rattle.conf_change.specs.Change.{result_of}
use Rattle.conf_change.specs.Configuration.{Configuration}
use Rattle.conf_change.specs.declared.change.Kind.{Kind}
use Rattle.conf_change.specs.declared.change.Kind.TheVariants.{Voter, Learner, Remove}
use Rattle.conf_change.proofs.Offered.{outcome-simple_accepted, configuration-by_members, has-incoming_after, has-learners_after, has-next_after, last_effective-one, is_empty-no_ids, one_change-one_voter}
use Rattle.conf_plan.specs.OneAtATime.{one_change}
use Rattle.conf_plan.specs.Planned.{single_with}
use Rattle.conf_plan.specs.Run.{Gives}
use Rattle.conf_plan.proofs.FindingMoves.OfEachId.{change_of}

-- the kind of change by which an id becomes a voter or not, and a learner or not
abbrev pub kind_for : Bool → Bool → Kind
kind_for votes learns = cond votes Voter (cond learns Learner Remove)

-- the id gets these roles, and the others keep theirs
pub one_change-leads : (voters learners voters_after learners_after : Ids) (votes learns : Bool) (id : ℕ) → (id == 0) ≡ false → (votes ≡ true → learns ≡ false) → is_empty voters_after ≡ false
    → ((q : ℕ) → has voters_after q ≡ cond (q == id) votes (has voters q)) → ((q : ℕ) → has learners_after q ≡ cond (q == id) learns (has learners q))
    → Gives (single_with voters learners) (one_change (kind_for votes learns) id) (single_with voters_after learners_after)
one_change-leads voters learners voters_after learners_after votes learns id other apart some votes_at learns_at =
    let c = single_with voters learners in
    let after = single_with voters_after learners_after in
    let change = change_of id (kind_for votes learns) in
    let effect = λ (q : ℕ). last_effective-one change q in
    let named = eqb-true id in
    let made : result_of c (change ∷ []) ≡ after =
    configuration-by_members (result_of c (change ∷ [])) after
    (λ q. grind (arith, has-incoming_after c (change ∷ []) q, effect q, named q, other, votes_at q)) refl
    (λ q. grind (arith, has-learners_after c (change ∷ []) q, effect q, named q, other, learns_at q, has-no_ids q, apart))
    (λ q. grind (arith, has-next_after c (change ∷ []) q, effect q, named q, other, has-no_ids q)) refl in
    let FewDiffer : Configuration → Type 0 = λ d. difference_count voters d.incoming ≤ 1 in
    outcome-simple_accepted c after (change ∷ []) (ap not is_empty-no_ids) made (ap not some) (subst FewDiffer made (one_change-one_voter c change))
