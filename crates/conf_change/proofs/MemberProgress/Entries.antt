-- The entries of a map that is made of entries in ascending order.
use Rattle.std.proofs.Common.{◌≡◌, ℕ, zero, suc, ◌+◌, ◌-◌, ◌<◌, ◌≤◌, Bool, true, false, cond, ◌&&◌, ◌==◌, T, List, [], ◌∷◌, ◌++◌, length, map, take, drop, get_or, set, slice_get, Bor, refl, sym, ap, subst, ◌∙◌, arith, eq-eqb, eqb-true, add-one}
use Rattle.std.specs.Prelude.{Option, Some, None, Result, Ok, Err, MatchResult, is_some}
use Rattle.std.specs.Option.{option_copied}
use Rattle.std.specs.Slice.{IsItemAt}
use Rattle.std.specs.List.Sorted.{IsBinarySearchResult, IsSearchInRange, IsStrictlySortedBy}
use Rattle.std.specs.FinMap.{nat_cmp-IsAntisymmetric, is_sorted, find}
use Rattle.std.specs.List.{insert, AllByRecursion}
use Rattle.std.specs.Ordering.{nat_cmp, is_lt, ordering_index}
use Rattle.std.specs.Cmp.{unsigned_tied, nat_cmp_total}
use Rattle.std.proofs.lemmas.Bool.{ne_eqb, cases_lt, cases_order}
use Rattle.std.proofs.lemmas.Option.{slice_get_past, slice_get-get_or}
use Rattle.std.proofs.lemmas.List.{length-map, length-drop, get_or_default, get_or-map, get_or-drop, map-append, map-set, set-get_or, set_split, take-map, take-append-drop, drop-map, drop_more}
use Rattle.std.proofs.lemmas.List.Folds.{list_any_none}
use Rattle.std.proofs.lemmas.List.Sorted.{searched}
use Rattle.std.proofs.lemmas.Result.{MatchResult-weaker}
use Rattle.quorum_sets.specs.AscendingLists.{IsAscending, IsAtPosition, IsInsertionPoint}
use Rattle.quorum_sets.proofs.Offered.{ascends-insert}
use Rattle.conf_change.specs.declared.progress.Progress.{Progress}
use Rattle.conf_change.proofs.MemberProgress.Filtered.{keys-find}
use Rattle.std.specs.declared.cmp.Ordering.{Ordering}
use Rattle.std.specs.declared.cmp.Ordering.TheVariants.{Less}
use Rattle.std.specs.FinMap as finite

-- the key is below each of these
abbrev below_all : {X : Type 0} → ℕ → List (ℕ × X) → Bool
below_all x [] = true
below_all x (e ∷ es) = is_lt (nat_cmp x e.0) && below_all x es

all_above : {X : Type 0} (x : ℕ) (es : List (ℕ × X)) → AllByRecursion (λ y. nat_cmp x y ≡ Less) (map (λ e. e.0) es) → T (below_all x es)
all_above x [] h = tt
all_above x (e ∷ es) h = grind (arith, h.0, all_above x es h.1)

entries_ascend : {X : Type 0} (es : List (ℕ × X)) → IsStrictlySortedBy nat_cmp (map (λ e. e.0) es) → T (is_sorted nat_cmp es)
unfolding IsStrictlySortedBy
entries_ascend [] h = tt
entries_ascend (e ∷ es) h = grind (arith, all_above e.0 es h.0, entries_ascend es h.1)

pub entries-from_entries : {X : Type 0} (es : List (ℕ × X)) → IsStrictlySortedBy nat_cmp (map (λ e. e.0) es) → finite.entries (finite.from_entries {R = nat_cmp} es) ≡ es
entries-from_entries es h =
    let up = entries_ascend es h in
    let alike : finite.from_entries es ≡ finite.from_sorted es =
    finite.same_map nat_cmp_total nat_cmp-IsAntisymmetric _ _ (λ q.
    finite.get-from_entries nat_cmp_total es q ∙ sym (finite.get-from_sorted nat_cmp es q up)) in
    ap finite.entries alike ∙ finite.entries-from_sorted nat_cmp es up

-- ---- an entry that is read
pub item-copied : {X : Type 0} (xs : List X) (i : ℕ) (r : Option (Bor X)) → IsItemAt xs i r → option_copied r ≡ slice_get xs i
item-copied xs i None item = sym (slice_get_past xs i item.3)
item-copied xs i (Some x) item = ap Some (item.3.1 x.now) ∙ sym (slice_get-get_or xs i x.now item.3.0)

-- ---- entries in ascending order
abbrev pub keys : {X : Type 0} → List (ℕ × X) → List ℕ
keys es = map (λ e. e.0) es

pub length-keys : {X : Type 0} (es : List (ℕ × X)) → length (keys es) ≡ length es
length-keys {X} es = length-map es (λ (e : ℕ × X). e.0)

-- a binary search over the entries is one over their keys
keyed : {X : Type 0} (order : ℕ → Ordering) (es : List (ℕ × X)) (r : Result ℕ ℕ) → IsSearchInRange r (length es) → IsBinarySearchResult (λ e. order e.0) es r
    → IsBinarySearchResult order (keys es) r
keyed order [] (Ok i) within found = absurd (omega arith)
keyed order [] (Err i) within parted = λ up. ((λ k d low high. absurd (omega arith)), (λ k d low high. absurd (omega arith)))
keyed order (e ∷ es) (Ok i) within found = λ d. ap order (get_or-map (λ m. m.0) (e ∷ es) i e d within) ∙ found e
keyed {X} order (e ∷ es) (Err i) within parted = λ up.
    let all = e ∷ es in
    let long = length-keys all in
    let key : (k d : ℕ) (m : ℕ × X) → k < length all → get_or (keys all) k d ≡ (get_or all k m).0 = λ k d m inside. get_or-map (λ x. x.0) all k m d inside in
    let point = parted (λ a b m le inside.
    let low = ap (λ x. ordering_index (order x)) (key a 0 m (omega arith)) in
    let high = ap (λ x. ordering_index (order x)) (key b 0 m inside) in
    let rise = up a b 0 le (omega arith) in omega arith) in
    ((λ k d low high. ap order (key k d e (omega arith)) ∙ point.0 k e low high), (λ k d low high. ap order (key k d e (omega arith)) ∙ point.1 k e low (omega arith)))

not_falling : (xs : List ℕ) → IsAscending xs → (i j : ℕ) → i ≤ j → j < length xs → get_or xs i 0 ≤ get_or xs j 0
not_falling xs up i j le within = grind (arith, cases_order, within)

pub search-in_entries : {X : Type 0} (es : List (ℕ × X)) (id : ℕ) (r : Result ℕ ℕ) → IsAscending (keys es) → IsSearchInRange r (length es) → IsBinarySearchResult (λ m. nat_cmp m.0 id) es r
    → MatchResult r (IsAtPosition (keys es) id) (IsInsertionPoint (keys es) id)
search-in_entries es id r up within found =
    MatchResult-weaker r (searched (keys es) id r (keyed (λ key. nat_cmp key id) es r within found) (not_falling (keys es) up))
    (λ i there. record { within = there.0; there = there.1 })
    (λ i there. record { within = there.0; below = there.1; above = there.2 })

-- ---- the value of a key
both_not : {X : Type 0} (a b : Bool) (v : X) (new o : Option X) → (a ≡ true → b ≡ true → ⊥) → cond a (Some v) (cond b new o) ≡ cond b new (cond a (Some v) o)
both_not a b v new o apart = grind arith

-- other entries from a position on that give x another value do so in the whole, since the keys before are smaller
find-from : {X : Type 0} (es rest : List (ℕ × X)) (i x q : ℕ) (new : Option X) → i ≤ length es → ((k : ℕ) → k < i → get_or (keys es) k 0 < x)
    → find nat_cmp q rest ≡ cond (q == x) new (find nat_cmp q (drop i es)) → find nat_cmp q (take i es ++ rest) ≡ cond (q == x) new (find nat_cmp q es)
find-from es rest zero x q new within below is = is
find-from [] rest (suc i) x q new within below is = absurd (omega arith)
find-from (e ∷ es) rest (suc i) x q new within below is =
    let less : e.0 < x = below 0 (omega arith) in
    ap (λ b. cond b (Some e.1) (find nat_cmp q (take i es ++ rest))) (unsigned_tied q e.0)
    ∙ ap (λ o. cond (q == e.0) (Some e.1) o) (find-from es rest i x q new (omega arith) (λ k lt. below (suc k) (omega arith)) is)
    ∙ both_not (q == e.0) (q == x) e.1 new (find nat_cmp q es) (λ one other. (let a : q ≡ e.0 = eqb-true q e.0 one in let b : q ≡ x = eqb-true q x other in omega arith))
    ∙ ap (λ b. cond (q == x) new (cond b (Some e.1) (find nat_cmp q es))) (sym (unsigned_tied q e.0))

none_some : {X : Type 0} (o : Option X) → is_some o ≡ false → None ≡ o
none_some o e = grind arith

absent : {X : Type 0} (es : List (ℕ × X)) (id : ℕ) → ((k : ℕ) → k < length (keys es) → id ≡ get_or (keys es) k 0 → ⊥) → None ≡ find nat_cmp id es
absent es id apart =
    none_some _ (keys-find es id ∙ list_any_none (λ x. id == x) (keys es) (λ k d within.
    ap (λ x. id == x) (get_or_default (keys es) k d 0 within) ∙ ne_eqb id _ (apart k within)))

pub find-missing : {X : Type 0} (es : List (ℕ × X)) (id i : ℕ) → IsInsertionPoint (keys es) id i → None ≡ find nat_cmp id es
find-missing es id i goes = grind (arith, absent, cases_lt)

-- the entry at a position, and those after it
record Standing {X : Type 0} (es : List (ℕ × X)) (id i : ℕ) (d : ℕ × X) : Type 0 where
  within : i < length es
  below : (k : ℕ) → k < i → get_or (keys es) k 0 < id
  here : (q : ℕ) → find nat_cmp q (drop i es) ≡ cond (q == id) (Some (get_or es i d).1) (find nat_cmp q (drop (suc i) es))
  later : None ≡ find nat_cmp id (drop (suc i) es)

standing : {X : Type 0} (es : List (ℕ × X)) (id i : ℕ) (d : ℕ × X) → IsAscending (keys es) → IsAtPosition (keys es) id i → Standing es id i d
standing es id i d up at =
    let long = length-keys es in
    let there = at.there in
    let inside = at.within in
    let within : i < length es = omega arith in
    let is : (get_or es i d).0 ≡ id = sym (get_or-map (λ e. e.0) es i d 0 within) ∙ there in
    let rest = drop (suc i) es in
    record {
      within = within;
      below = λ k lt. (let less = up k i lt inside in omega arith);
      here = λ q.
          ap (find nat_cmp q) (drop_more es i d within ∙ ap (λ n. get_or es i d ∷ drop n es) (add-one i))
          ∙ ap (λ b. cond b (Some (get_or es i d).1) (find nat_cmp q rest)) (unsigned_tied q (get_or es i d).0 ∙ ap (λ n. q == n) is);
      later = absent rest id (λ k later same.
          let moved : keys rest ≡ drop (suc i) (keys es) = sym (drop-map (λ e. e.0) (suc i) es) in
          let key : get_or (keys rest) k 0 ≡ get_or (keys es) (suc i + k) 0 = ap (λ ks. get_or ks k 0) moved ∙ get_or-drop (suc i) (keys es) k 0 in
          let left : length (keys rest) ≡ length (keys es) - suc i = ap length moved ∙ length-drop (suc i) (keys es) in
          let more = up i (suc i + k) (omega arith) (omega arith) in
          omega arith);
    }

pub find-standing : {X : Type 0} (es : List (ℕ × X)) (id i : ℕ) (d : ℕ × X) → IsAscending (keys es) → IsAtPosition (keys es) id i → find nat_cmp id es ≡ Some (get_or es i d).1
find-standing es id i d up at =
    let s = standing es id i d up at in
    let own : (id == id) ≡ true = eq-eqb id id refl in
    let value = Some (get_or es i d).1 in
    let first = s.here id ∙ ap (λ b. cond b value (find nat_cmp id (drop (suc i) es))) own in
    ap (find nat_cmp id) (sym (take-append-drop i es))
    ∙ find-from es (drop i es) i id id value (omega (arith, s.within)) s.below (first ∙ sym (ap (λ b. cond b value (find nat_cmp id (drop i es))) own))
    ∙ ap (λ b. cond b value (find nat_cmp id es)) own

-- ---- entries that are set, inserted and removed
over : {X : Type 0} (b : Bool) (v old rest : Option X) → cond b v rest ≡ cond b v (cond b old rest)
over b v old rest = grind arith

pub find-set : {X : Type 0} (es : List (ℕ × X)) (id i : ℕ) (v : X) → IsAscending (keys es) → IsAtPosition (keys es) id i
    → (q : ℕ) → find nat_cmp q (set es i (id, v)) ≡ cond (q == id) (Some v) (find nat_cmp q es)
find-set es id i v up at q =
    let s = standing es id i (id, v) up at in
    let rest = find nat_cmp q (drop (suc i) es) in
    ap (find nat_cmp q) (set_split es i (id, v) s.within)
    ∙ find-from es ((id, v) ∷ drop (suc i) es) i id q (Some v) (omega (arith, s.within)) s.below
    (ap (λ b. cond b (Some v) rest) (unsigned_tied q id) ∙ over (q == id) (Some v) (Some (get_or es i (id, v)).1) rest ∙ ap (cond (q == id) (Some v)) (sym (s.here q)))

pub find-insert : {X : Type 0} (es : List (ℕ × X)) (id i : ℕ) (v : X) → IsInsertionPoint (keys es) id i
    → (q : ℕ) → find nat_cmp q (insert es i (id, v)) ≡ cond (q == id) (Some v) (find nat_cmp q es)
find-insert es id i v goes q = grind (arith, length-keys, find-from)

pub keys-set : {X : Type 0} (es : List (ℕ × X)) (id i : ℕ) (v : X) → IsAtPosition (keys es) id i → keys (set es i (id, v)) ≡ keys es
keys-set es id i v at = map-set (λ m. m.0) es i (id, v) ∙ ap (set (keys es) i) (sym at.there) ∙ set-get_or (keys es) i 0

pub ascends-put : {X : Type 0} (es : List (ℕ × X)) (id i : ℕ) (v : X) → IsAscending (keys es) → IsInsertionPoint (keys es) id i → IsAscending (keys (insert es i (id, v)))
ascends-put es id i v up goes =
    let moved : keys (insert es i (id, v)) ≡ insert (keys es) i id =
    map-append (λ m. m.0) (take i es) ((id, v) ∷ drop i es) ∙ (λ j. sym (take-map (λ m. m.0) i es) j ++ id ∷ sym (drop-map (λ m. m.0) i es) j) in
    subst IsAscending (sym moved) (ascends-insert (keys es) i id up goes)

-- ---- the progress of members
abbrev Members : Type 0
Members = List (ℕ × Progress)

abbrev progress_in : Members → ℕ → Option Progress
progress_in es q = finite.get (finite.from_entries {R = nat_cmp} es) q

found : (es : Members) (q : ℕ) → progress_in es q ≡ find nat_cmp q es
found es q = finite.get-from_entries nat_cmp_total es q

pub get-standing : (es : Members) (id i : ℕ) (d : ℕ × Progress) → IsAscending (keys es) → IsAtPosition (keys es) id i → Some (get_or es i d).1 ≡ progress_in es id
get-standing es id i d up at = sym (found es id ∙ find-standing es id i d up at)

pub get-missing : (es : Members) (id i : ℕ) → IsInsertionPoint (keys es) id i → None ≡ progress_in es id
get-missing es id i goes = find-missing es id i goes ∙ sym (found es id)

pub get-set : (es : Members) (id i : ℕ) (p : Progress) → IsAscending (keys es) → IsAtPosition (keys es) id i
    → (q : ℕ) → progress_in (set es i (id, p)) q ≡ cond (q == id) (Some p) (progress_in es q)
get-set es id i p up at q = found (set es i (id, p)) q ∙ find-set es id i p up at q ∙ ap (cond (q == id) (Some p)) (sym (found es q))
