-- What progress each id has.
use Rattle.std.proofs.Common.{◌≡◌, ℕ, cond, ◌||◌, ◌==◌, List, [], ◌∷◌, map, refl, sym, ap, subst, ◌∙◌, arith}
use Rattle.std.specs.Prelude.{Some, None, if◌then◌else◌}
use Rattle.std.specs.Ordering.{nat_cmp}
use Rattle.std.specs.Cmp.{nat_cmp_total, unsigned_tied}
use Rattle.std.specs.FinMap as finite
use Rattle.std.specs.FinMap.{find, nat_cmp-IsAntisymmetric}
use Rattle.std.specs.List.{list_any}
use Rattle.std.proofs.lemmas.Bool.Decides.{nat_tests}
use Rattle.std.proofs.lemmas.List.Folds.{list_any-append}
use Rattle.quorum_sets.specs.Ids.{Ids, has, ascending, union}
use Rattle.quorum_sets.specs.AscendingLists.{IsAscending}
use Rattle.quorum_sets.proofs.Offered.{ascending-is_ascending, has-ascending, has-union}
use Rattle.conf_change.specs.Configuration.{Configuration, is_member, members}
use Rattle.conf_change.specs.Progress.{progress_by}
use Rattle.conf_change.specs.declared.progress.Progress.{Progress}

-- in a list of ids, each with its own, an id of the list has its own
pub find-of_each : (of : ℕ → Progress) (q : ℕ) (xs : List ℕ)
    → find nat_cmp q (map (λ id. (id, of id)) xs) ≡ cond (list_any (λ x. q == x) xs) (Some (of q)) None
find-of_each of q [] = refl
find-of_each of q (x ∷ xs) = grind (arith, nat_tests, unsigned_tied q x, find-of_each of q xs)

-- the list of the members has the members
pub any-members : (c : Configuration) (q : ℕ) → list_any (λ x. q == x) (members c) ≡ is_member c q
any-members c q = grind (arith, list_any-append, has-ascending)

-- each member has its own, and no other id has any
pub get-progress_by : (c : Configuration) (of : ℕ → Progress) (id : ℕ)
    → finite.get (progress_by c of) id ≡ (if is_member c id then Some (of id) else None)
get-progress_by c of id =
    finite.get-from_entries nat_cmp_total (map (λ m. (m, of m)) (members c)) id
    ∙ find-of_each of id (members c)
    ∙ ap (λ b. cond b (Some (of id)) None) (any-members c id)

-- ---- the members as a set
pub has-all_members : (c : Configuration) (q : ℕ) → has (union (union c.incoming c.outgoing) c.learners) q ≡ is_member c q
has-all_members c q = has-union (union c.incoming c.outgoing) c.learners q ∙ ap (λ b. b || has c.learners q) (has-union c.incoming c.outgoing q)

keys-of_each : (of : ℕ → Progress) (xs : List ℕ) → map (λ (m : ℕ × Progress). m.0) (map (λ id. (id, of id)) xs) ≡ xs
keys-of_each of [] = refl
keys-of_each of (x ∷ xs) = ap (λ ys. x ∷ ys) (keys-of_each of xs)

pub ascends-of_each : (of : ℕ → Progress) (ids : Ids) → IsAscending (map (λ (m : ℕ × Progress). m.0) (map (λ id. (id, of id)) (ascending ids)))
ascends-of_each of ids = subst IsAscending (sym (keys-of_each of (ascending ids))) (ascending-is_ascending ids)

pub progress_by-all_members : (c : Configuration) (of : ℕ → Progress)
    → finite.from_entries {R = nat_cmp} (map (λ id. (id, of id)) (ascending (union (union c.incoming c.outgoing) c.learners))) ≡ progress_by c of
progress_by-all_members c of =
    let ids = union (union c.incoming c.outgoing) c.learners in
    finite.same_map nat_cmp_total nat_cmp-IsAntisymmetric _ _ (λ q.
    finite.get-from_entries nat_cmp_total (map (λ id. (id, of id)) (ascending ids)) q
    ∙ find-of_each of q (ascending ids)
    ∙ ap (λ b. cond b (Some (of q)) None) (sym (has-ascending ids q) ∙ has-all_members c q)
    ∙ sym (get-progress_by c of q))
