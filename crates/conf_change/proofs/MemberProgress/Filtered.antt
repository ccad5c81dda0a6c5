-- Members that are filtered from a list, in its order, each with its progress.
use Rattle.std.proofs.Common.{◌≡◌, ℕ, Bool, cond, ◌==◌, List, [], ◌∷◌, ◌++◌, map, sym, ap, ◌∙◌, arith}
use Rattle.std.specs.Prelude.{Option, Some, None, is_some}
use Rattle.std.specs.Ordering.{nat_cmp}
use Rattle.std.specs.Cmp.{nat_cmp_total, unsigned_tied}
use Rattle.std.specs.declared.cmp.Ordering.TheVariants.{Less}
use Rattle.std.specs.FinMap as finite
use Rattle.std.specs.FinMap.{find}
use Rattle.std.specs.FinMap.Entries.{is_some-find}
use Rattle.std.specs.List.{list_any, flat_map, AllByRecursion}
use Rattle.std.specs.List.Sorted.{IsStrictlySortedBy}
use Rattle.std.proofs.lemmas.Bool.Decides.{nat_tests}
use Rattle.quorum_sets.specs.AscendingLists.{IsAscending}
use Rattle.quorum_sets.proofs.Offered.{ascends-sorted, sorted-ascends}
use Rattle.conf_change.specs.TrackerEdits.{entries_of, progress_kept}
use Rattle.conf_change.specs.declared.progress.Progress.{Progress}

-- those that have progress, by their ids
abbrev pub filtered : {X : Type 0} → (X → ℕ) → (X → Option Progress) → List X → List (ℕ × Progress)
filtered key entry xs = flat_map (λ x. entries_of (key x) (entry x)) xs

-- ---- they rise where the list does
kept_above : (P : ℕ → Type 0) (id : ℕ) (o : Option Progress) (rest : List (ℕ × Progress)) → P id → AllByRecursion P (map (λ m. m.0) rest) → AllByRecursion P (map (λ m. m.0) (entries_of id o ++ rest))
kept_above P id None rest here more = more
kept_above P id (Some p) rest here more = (here, more)

all_above : {X : Type 0} (P : ℕ → Type 0) (key : X → ℕ) (entry : X → Option Progress) (xs : List X) → AllByRecursion P (map key xs) → AllByRecursion P (map (λ m. m.0) (filtered key entry xs))
all_above P key entry [] h = tt
all_above P key entry (x ∷ xs) h = kept_above P (key x) (entry x) (filtered key entry xs) h.0 (all_above P key entry xs h.1)

kept_sorted : (id : ℕ) (o : Option Progress) (rest : List (ℕ × Progress)) → AllByRecursion (λ y. nat_cmp id y ≡ Less) (map (λ m. m.0) rest) → IsStrictlySortedBy nat_cmp (map (λ m. m.0) rest)
    → IsStrictlySortedBy nat_cmp (map (λ m. m.0) (entries_of id o ++ rest))
unfolding IsStrictlySortedBy
kept_sorted id None rest above more = more
kept_sorted id (Some p) rest above more = (above, more)

sorted-filtered : {X : Type 0} (key : X → ℕ) (entry : X → Option Progress) (xs : List X) → IsStrictlySortedBy nat_cmp (map key xs) → IsStrictlySortedBy nat_cmp (map (λ m. m.0) (filtered key entry xs))
unfolding IsStrictlySortedBy
sorted-filtered key entry [] h = tt
sorted-filtered key entry (x ∷ xs) h =
    kept_sorted (key x) (entry x) (filtered key entry xs) (all_above (λ y. nat_cmp (key x) y ≡ Less) key entry xs h.0) (sorted-filtered key entry xs h.1)

pub ascends-filtered : {X : Type 0} (key : X → ℕ) (entry : X → Option Progress) (xs : List X) → IsAscending (map key xs) → IsAscending (map (λ m. m.0) (filtered key entry xs))
ascends-filtered key entry xs up = sorted-ascends _ (sorted-filtered key entry xs (ascends-sorted _ up))

-- ---- what each id has
abbrev or_rest : Option Progress → Option Progress → Option Progress
or_rest None rest = rest
or_rest (Some p) rest = Some p

find_one : (q id : ℕ) (o : Option Progress) (rest : List (ℕ × Progress)) → find nat_cmp q (entries_of id o ++ rest) ≡ cond (q == id) (or_rest o (find nat_cmp q rest)) (find nat_cmp q rest)
find_one q id o rest = grind (arith, unsigned_tied q id)

-- ---- an id has an entry where it is a key
pub keys-find : {X : Type 0} (es : List (ℕ × X)) (q : ℕ) → is_some (find nat_cmp q es) ≡ list_any (λ x. q == x) (map (λ m. m.0) es)
keys-find es q = is_some-find nat_cmp q es ∙ (λ i. list_any (λ x. unsigned_tied q x i) (map (λ m. m.0) es))

-- ---- members that keep theirs
abbrev pub kept_entry : (ℕ → Bool) → (ℕ → Bool) → ℕ × Progress → Option Progress
kept_entry member learner m = progress_kept (member m.0) (learner m.0) (Some m.1)

find-kept : (member learner : ℕ → Bool) (es : List (ℕ × Progress)) (q : ℕ) → find nat_cmp q (filtered (λ m. m.0) (kept_entry member learner) es) ≡ progress_kept (member q) (learner q) (find nat_cmp q es)
find-kept member learner [] q = grind arith
find-kept member learner (e ∷ es) q = grind (arith, nat_tests, find_one, find-kept member learner es q)

pub get-kept : (member learner : ℕ → Bool) (es : List (ℕ × Progress)) (q : ℕ)
    → finite.get (finite.from_entries {R = nat_cmp} (filtered (λ m. m.0) (kept_entry member learner) es)) q ≡ progress_kept (member q) (learner q) (finite.get (finite.from_entries {R = nat_cmp} es) q)
get-kept member learner es q =
    finite.get-from_entries nat_cmp_total (filtered (λ m. m.0) (kept_entry member learner) es) q ∙ find-kept member learner es q
    ∙ ap (progress_kept (member q) (learner q)) (sym (finite.get-from_entries nat_cmp_total es q))
