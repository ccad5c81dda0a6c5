-- How the definitions of sets of ids relate.
use Rattle.std.proofs.Common.{◌≡◌, ℕ, Bool, false, cond, not, ◌&&◌, ◌||◌, T, List, [], ◌∷◌, map, length, is_some, refl, sym, ap, ◌∙◌, arith, ◌==◌, ◌+◌, ◌<◌, take, get_or, eqb-true}
use Rattle.std.specs.Prelude.{Option, Some}
use Rattle.std.specs.declared.cmp.Ordering.TheVariants.{Less}
use Rattle.std.specs.Ordering.{nat_cmp, eq_by_cmp}
use Rattle.std.specs.Cmp.{nat_cmp_total, unsigned_tied}
use Rattle.std.specs.BTreeMap.{is_at}
use Rattle.std.specs.Map.{lookup}
use Rattle.std.specs.List.{list_any, AllByRecursion, Contains}
use Rattle.std.specs.List.Sorted.{IsStrictlySortedBy, IsPermutation}
use Rattle.std.specs.FinMap as finite
use Rattle.std.specs.FinMap.{nat_cmp-IsAntisymmetric, is_sorted, put}
use Rattle.std.specs.FinMap.Entries.{below_all, by_order}
use Rattle.std.proofs.lemmas.Bool.Decides.{same_from_decides, Decides-like, Decides-eqb}
use Rattle.std.proofs.lemmas.List.{nil_from_length}
use Rattle.std.proofs.lemmas.List.Folds.{list_any_more}
use Rattle.std.proofs.lemmas.List.Sorted.{list_any-IsPermutation}
use Rattle.std.proofs.lemmas.Map.Made.{is_member-Decides}
use Rattle.std.proofs.lemmas.Map.Views.{any-filter_same}
use Rattle.quorum_sets.specs.Ids.{Ids, no_ids, has, with_id, without_id, ascending, ids_of, ids_where}

-- ---- what `has` answers
pub has-no_ids : (q : ℕ) → has no_ids q ≡ false
has-no_ids q = ap is_some (finite.get-empty nat_cmp q)

pub has-with_id : (s : Ids) (id q : ℕ) → has (with_id s id) q ≡ ((q == id) || has s q)
has-with_id s id q = grind (arith, finite.get-insert nat_cmp_total s id tt q, unsigned_tied q id)

pub has-without_id : (s : Ids) (id q : ℕ) → has (without_id s id) q ≡ (not (q == id) && has s q)
has-without_id s id q = grind (arith, finite.get-remove nat_cmp_total s id q, unsigned_tied q id)

-- a set has the ids of its list
pub has-ids_of : (xs : List ℕ) (q : ℕ) → has (ids_of xs) q ≡ list_any (λ x. q == x) xs
has-ids_of [] q = has-no_ids q
has-ids_of (x ∷ xs) q = has-with_id (ids_of xs) x q ∙ ap (λ b. (q == x) || b) (has-ids_of xs q)

any_alike : (q : ℕ) (xs : List ℕ) → list_any (eq_by_cmp nat_cmp q) xs ≡ list_any (λ x. q == x) xs
any_alike q [] = refl
any_alike q (x ∷ xs) = λ i. unsigned_tied q x i || any_alike q xs i

-- as a tree's `contains` has it
pub has_by_cmp-ids_of : (xs : List ℕ) (q : ℕ) → has (ids_of xs) q ≡ list_any (eq_by_cmp nat_cmp q) xs
has_by_cmp-ids_of xs q = has-ids_of xs q ∙ sym (any_alike q xs)

pub has-ascending : (s : Ids) (q : ℕ) → has s q ≡ list_any (λ x. q == x) (ascending s)
has-ascending s q = finite.contains_key-keys s q ∙ any_alike q (ascending s)

pub has-ids_where : (test : ℕ → Bool) (xs : List ℕ) (q : ℕ) → has (ids_where test xs) q ≡ (test q && list_any (λ x. q == x) xs)
has-ids_where test xs q = has-ids_of _ q ∙ any-filter_same (λ x. q == x) test (test q) (λ x same. ap test (sym (eqb-true q x same))) xs

-- ---- two sets with the same members are equal
same_unit : (x y : Option (Unit {0})) → is_some x ≡ is_some y → x ≡ y
same_unit x y alike = grind arith

pub has-same_ids : (s t : Ids) → ((q : ℕ) → has s q ≡ has t q) → s ≡ t
has-same_ids s t alike = finite.same_map nat_cmp_total nat_cmp-IsAntisymmetric s t (λ q. same_unit _ _ (alike q))

-- the sets of two lists with the same items
pub ids_of-same_items : (xs ys : List ℕ) → ((q : ℕ) → Contains xs q → Contains ys q) → ((q : ℕ) → Contains ys q → Contains xs q) → ids_of xs ≡ ids_of ys
ids_of-same_items xs ys there back = has-same_ids _ _ (λ q.
    has-ids_of xs q
    ∙ same_from_decides _ _ (Decides-like _ (there q) (back q) (is_member-Decides Decides-eqb xs q)) (is_member-Decides Decides-eqb ys q)
    ∙ sym (has-ids_of ys q))

-- the order of the list is no matter
pub ids_of-permuted : (xs ys : List ℕ) → IsPermutation xs ys → ids_of ys ≡ ids_of xs
ids_of-permuted xs ys moved = grind (arith, has-same_ids, has-ids_of, list_any-IsPermutation)

-- one more id of the list
pub ids_of-one_more : (xs : List ℕ) (k : ℕ) (s : Ids) → k < length xs → s ≡ ids_of (take k xs) → with_id s (get_or xs k 0) ≡ ids_of (take (k + 1) xs)
ids_of-one_more xs k s lt so_far = has-same_ids _ _ (λ q.
    grind (arith, has-with_id s (get_or xs k 0) q, ap (λ t. has t q) so_far, has-ids_of (take k xs) q, has-ids_of (take (k + 1) xs) q, list_any_more (λ x. q == x) xs k 0 lt))

-- ---- the ascending list
pub entries-no_ids : finite.entries no_ids ≡ []
entries-no_ids = nil_from_length _ (sym (finite.len-entries no_ids) ∙ finite.len-empty nat_cmp (Unit {0}))

pub ascending-no_ids : ascending no_ids ≡ []
ascending-no_ids = ap (map (λ e. e.0)) entries-no_ids

above_all : (x : ℕ) (es : List (ℕ × Unit {0})) → T (below_all nat_cmp x es) → AllByRecursion (λ y. nat_cmp x y ≡ Less) (map (λ e. e.0) es)
above_all x [] h = tt
above_all x (e ∷ es) h = (grind arith, above_all x es (grind arith))

keys_ascend : (es : List (ℕ × Unit {0})) → T (is_sorted nat_cmp es) → IsStrictlySortedBy nat_cmp (map (λ e. e.0) es)
unfolding IsStrictlySortedBy
keys_ascend [] h = tt
keys_ascend (e ∷ es) h = (above_all e.0 es (grind arith), keys_ascend es (grind arith))

pub ascending-is_sorted : (s : Ids) → IsStrictlySortedBy nat_cmp (ascending s)
ascending-is_sorted s = keys_ascend (finite.entries s) (finite.entries_sorted s)

-- a set made of an ascending list has that list
abbrev entry : ℕ → ℕ × Unit {0}
entry id = (id, tt)

entries-ids_of : (xs : List ℕ) → IsStrictlySortedBy nat_cmp xs → finite.entries (ids_of xs) ≡ map entry xs
unfolding IsStrictlySortedBy
entries-ids_of [] up = entries-no_ids
entries-ids_of (x ∷ []) up = finite.entries-insert nat_cmp_total no_ids x tt ∙ ap (put nat_cmp x tt) entries-no_ids
entries-ids_of (x ∷ y ∷ xs) up =
    finite.entries-insert nat_cmp_total (ids_of (y ∷ xs)) x tt ∙ ap (put nat_cmp x tt) (entries-ids_of (y ∷ xs) up.1)
    ∙ ap (λ o. by_order o (entry x ∷ entry y ∷ map entry xs) (entry y ∷ map entry xs) (entry y ∷ put nat_cmp x tt (map entry xs))) up.0.0

keys-entries : (xs : List ℕ) → map (λ e. e.0) (map entry xs) ≡ xs
keys-entries [] = refl
keys-entries (x ∷ xs) = ap (λ ys. x ∷ ys) (keys-entries xs)

pub ascending-ids_of : (xs : List ℕ) → IsStrictlySortedBy nat_cmp xs → ascending (ids_of xs) ≡ xs
ascending-ids_of xs up = ap (map (λ e. e.0)) (entries-ids_of xs up) ∙ keys-entries xs

-- ---- a tree of entries, as a finite map
-- what a tree has at an id, the finite map of its entries has
pub lookup-from_entries : {X : Type 0} (q : ℕ) (es : List (ℕ × X)) → lookup (is_at (nat_cmp q)) es ≡ finite.get (finite.from_entries {R = nat_cmp} es) q
lookup-from_entries q [] = sym (finite.get-empty nat_cmp q)
lookup-from_entries q (e ∷ es) = ap (cond (eq_by_cmp nat_cmp q e.0) (Some e.1)) (lookup-from_entries q es) ∙ sym (finite.get-insert nat_cmp_total _ e.0 e.1 q)

pub ruleset entries_steps = (lookup-from_entries)
