-- One change changes one voter at most, and what it leaves of the voters.
use Rattle.std.proofs.Common.{◌≡◌, ◌≢◌, ℕ, ◌≤◌, Bool, true, false, ◌==◌, List, [], ◌∷◌, length, refl, sym, subst, ◌∙◌, arith, eqb-true, eq-eqb}
use Rattle.std.proofs.lemmas.Bool.{false≢true}
use Rattle.quorum_sets.specs.Ids.{difference_count}
use Rattle.quorum_sets.proofs.Offered.{difference_count-with_id, difference_count-without_id}
use Rattle.conf_change.specs.Configuration.{Configuration}
use Rattle.conf_change.specs.Change.{result_of}
use Rattle.conf_change.specs.declared.change.Change.{Change}
use Rattle.conf_change.specs.declared.change.Kind.{Kind}
use Rattle.conf_change.specs.declared.change.Kind.TheVariants.{Voter, Learner, Remove, Update}
use Rattle.conf_change.proofs.Configurations.Equality.{is_same_set-refl}
use Rattle.conf_change.proofs.ListsOfChanges.ResultOfEach.{only, incoming_of-change, result_of-update, result_of-zero}

-- ---- the voters after one change
apart_from : (id : ℕ) → (id == 0) ≡ false → id ≢ 0
apart_from id e z = false≢true (sym e ∙ eq-eqb id 0 z)

unaltered : (c d : Configuration) → c ≡ d → difference_count c.incoming d.incoming ≤ 1
unaltered c d same = grind (arith, eqb-true, is_same_set-refl)

one_at_most : (kind : Kind) (c : Configuration) (id : ℕ) (zero : Bool) → (id == 0) ≡ zero → difference_count c.incoming (result_of c (only kind id)).incoming ≤ 1
one_at_most kind c id true e = unaltered c (result_of c (only kind id)) (result_of-zero c (record { kind = kind; id = id }) (eqb-true id 0 e))
one_at_most Voter c id false e = subst (λ ids. difference_count c.incoming ids ≤ 1) (incoming_of-change Voter c id (apart_from id e) refl) (difference_count-with_id c.incoming id)
one_at_most Learner c id false e = subst (λ ids. difference_count c.incoming ids ≤ 1) (incoming_of-change Learner c id (apart_from id e) refl) (difference_count-without_id c.incoming id)
one_at_most Remove c id false e = subst (λ ids. difference_count c.incoming ids ≤ 1) (incoming_of-change Remove c id (apart_from id e) refl) (difference_count-without_id c.incoming id)
one_at_most Update c id false e = unaltered c (result_of c (only Update id)) (result_of-update c (record { kind = Update; id = id }) refl)

pub one_change-one_voter : (c : Configuration) (x : Change) → difference_count c.incoming (result_of c (x ∷ [])).incoming ≤ 1
one_change-one_voter c x = one_at_most x.kind c x.id (x.id == 0) refl

pub few_voters : (c : Configuration) (changes : List Change) → length changes ≡ 1 → difference_count c.incoming (result_of c changes).incoming ≤ 1
few_voters c [] e = absurd (omega (arith, e))
few_voters c (x ∷ []) e = one_change-one_voter c x
few_voters c (x ∷ y ∷ rest) e = absurd (omega (arith, e))
