-- A sorted list after edits, one edit after another: which item each id has, and that the list still ascends.
use Rattle.std.proofs.Common.{◌≡◌, ℕ, zero, suc, ◌+◌, ◌<◌, ◌≤◌, inl, inr, Bool, true, false, cond, ◌||◌, ◌==◌, is_some, List, [], ◌∷◌, ◌++◌, length, map, take, drop, get_or, slice_get, refl, sym, ap, subst, ◌∙◌, arith, eqb-true, append_assoc, length-append, eq-eqb, ◌≢◌}
use Rattle.std.specs.Prelude.{Option, Some, None, IfSome, filter, find, nat_lt}
use Rattle.std.specs.Option.{option_or, option_to_list}
use Rattle.std.specs.Ordering.{nat_cmp}
use Rattle.std.specs.Cmp.{nat_cmp_total, unsigned_tied, nat_eq_equiv}
use Rattle.std.specs.FinMap as finite
use Rattle.std.specs.FinMap.Entries.{find-append as find-append_one}
use Rattle.std.specs.List.{AllByRecursion, list_any}
use Rattle.std.proofs.lemmas.Bool.{cases_order, ne_eqb}
use Rattle.std.proofs.lemmas.Bool.Decides.{nat_tests}
use Rattle.std.proofs.lemmas.List.{map-append, length-map, get_or-map, take_more, get_or_append_left, drop_all, drop_more, append-nil, take-append-drop}
use Rattle.std.proofs.lemmas.List.Folds.{find-append}
use Rattle.quorum_sets.specs.AscendingLists.{IsAscending}
use Rattle.quorum_sets.specs.Edits.{item_of, edited, edited_by}
use Rattle.quorum_sets.specs.Ids.{Ids, has, ids_of, with_id, without_id}
use Rattle.quorum_sets.proofs.IdSets.Members.{has-ids_of, has-with_id, has-without_id}

-- the list after the edits: what is below the first id, what its edit makes of it, and what is above it after the others
abbrev pub merged : {T E : Type 0} → (T → ℕ) → (E → ℕ → Option T → Option T) → List T → List (ℕ × E) → List T
merged key after items [] = items
merged key after items (e ∷ es) =
    filter (λ x. nat_lt (key x) e.0) items
    ++ (option_to_list (after e.1 e.0 (item_of key e.0 items)) ++ merged key after (filter (λ x. nat_lt e.0 (key x)) items) es)

-- each item after an edit has the id of the edit
abbrev pub KeepsIds : {T E : Type 0} → (T → ℕ) → (E → ℕ → Option T → Option T) → Type 0
KeepsIds {T} {E} key after = (e : E) (id : ℕ) (item : Option T) → IfSome (after e id item) (λ x. key x ≡ id)

-- each key is below those after it
abbrev pub RisesBy : {T : Type 0} → (T → ℕ) → List T → Type 0
RisesBy key [] = Unit {0}
RisesBy key (x ∷ xs) = AllByRecursion (λ y. key x < key y) xs × RisesBy key xs

-- ---- which item an id has
item_of-filter : {T : Type 0} (key : T → ℕ) (p : ℕ → Bool) (items : List T) (q : ℕ) → item_of key q (filter (λ x. p (key x)) items) ≡ cond (p q) (item_of key q items) None
item_of-filter key p [] q = grind arith
item_of-filter {T} key p (x ∷ xs) q = by (key x == q) refl (item_of-filter key p xs q)
  where
    kept : List T
    kept = filter (λ y. p (key y)) xs

    by : (b : Bool) → (key x == q) ≡ b → item_of key q kept ≡ cond (p q) (item_of key q xs) None
        → item_of key q (cond (p (key x)) (x ∷ kept) kept) ≡ cond (p q) (cond b (Some x) (item_of key q xs)) None
    by true same rest = let e = ap p (eqb-true (key x) q same) in grind arith
    by false other rest = grind arith

item_of-option : {T : Type 0} (key : T → ℕ) (id q : ℕ) (o : Option T) → IfSome o (λ x. key x ≡ id) → item_of key q (option_to_list o) ≡ cond (id == q) o None
item_of-option key id q None h = grind arith
item_of-option key id q (Some x) h = ap (λ n. cond (n == q) (Some x) None) h

find-above : {E : Type 0} (es : List (ℕ × E)) (id q : ℕ) → AllByRecursion (λ e. id < e.0) es → q ≤ id → finite.find nat_cmp q es ≡ None
find-above [] id q above le = refl
find-above (e ∷ es) id q above le = grind (arith, ne_eqb, above, find-above es id q above.1 le)

-- the three parts together, where the id is below that of the first edit, is that id, and is above it
abbrev Together : {T E : Type 0} → (E → Option T → Option T) → E → Option E → Option T → Option T → Bool → Bool → Bool → Type 0
Together f e edit first had lt eq gt =
    option_or (cond lt had None) (option_or (cond eq first None) (edited_by f edit (cond gt had None))) ≡ edited_by f (cond eq (Some e) edit) had

together : {T E : Type 0} (f : E → Option T → Option T) (e : E) (edit : Option E) (first had : Option T) (lt eq gt lt' eq' gt' : Bool) → lt ≡ lt' → eq ≡ eq' → gt ≡ gt'
    → Together f e edit first had lt' eq' gt' → Together f e edit first had lt eq gt
together f e edit first had lt eq gt lt' eq' gt' a b c h = grind arith

or_none : {T : Type 0} (o : Option T) → option_or o None ≡ o
or_none None = refl
or_none (Some x) = refl

together-below : {T E : Type 0} (f : E → Option T → Option T) (e : E) (edit : Option E) (first had : Option T) → edit ≡ None → Together f e edit first had true false false
together-below f e edit first had none = (λ i. option_or had (option_or None (edited_by f (none i) None))) ∙ or_none had ∙ sym (λ i. edited_by f (none i) had)

together-at : {T E : Type 0} (f : E → Option T → Option T) (e : E) (edit : Option E) (had : Option T) → edit ≡ None → Together f e edit (f e had) had false true false
together-at f e edit had none = (λ i. option_or None (option_or (f e had) (edited_by f (none i) None))) ∙ or_none (f e had)

-- each id has what the edits make of what it had
pub item_of-merged : {T E : Type 0} (key : T → ℕ) (after : E → ℕ → Option T → Option T) → KeepsIds key after → (items : List T) (es : List (ℕ × E)) → RisesBy (λ e. e.0) es
    → (q : ℕ) → item_of key q (merged key after items es) ≡ edited (λ e. after e q) es q (item_of key q items)
item_of-merged key after keeps items [] up q = refl
item_of-merged {T} {E} key after keeps items (e ∷ es) up q =
    let id = e.0 in
    let low = filter (λ x. nat_lt (key x) id) items in
    let here = option_to_list (after e.1 id (item_of key id items)) in
    let high = filter (λ x. nat_lt id (key x)) items in
    let rest = merged key after high es in
    let f = λ (edit : E). after edit q in
    let had = item_of key q items in
    let edit = finite.find nat_cmp q es in
    find-append (λ x. key x == q) low (here ++ rest) ∙ ap (option_or (item_of key q low)) (find-append (λ x. key x == q) here rest)
    ∙ (λ i. option_or (item_of-filter key (λ n. nat_lt n id) items q i)
    (option_or (item_of-option key id q (after e.1 id (item_of key id items)) (keeps e.1 id (item_of key id items)) i)
    ((item_of-merged key after keeps high es up.1 q ∙ ap (edited_by f edit) (item_of-filter key (λ n. nat_lt id n) items q)) i)))
    ∙ elim (cases_order q id) [
      | inl same ↦
          ap (λ n. option_or (cond (nat_lt q id) had None) (option_or (cond (id == q) (after e.1 n (item_of key n items)) None) (edited_by f edit (cond (nat_lt id q) had None)))) (sym same)
          ∙ together f e.1 edit (f e.1 had) had (nat_lt q id) (id == q) (nat_lt id q) false true false (grind (arith, nat_tests)) (grind (arith, nat_tests)) (grind (arith, nat_tests))
          (together-at f e.1 edit had (find-above es id q up.0 (omega arith)))
      | inr (inl lt) ↦
          together f e.1 edit (after e.1 id (item_of key id items)) had (nat_lt q id) (id == q) (nat_lt id q) true false false (grind (arith, nat_tests)) (grind (arith, nat_tests)) (grind (arith, nat_tests))
          (together-below f e.1 edit (after e.1 id (item_of key id items)) had (find-above es id q up.0 (omega arith)))
      | inr (inr gt) ↦
          together f e.1 edit (after e.1 id (item_of key id items)) had (nat_lt q id) (id == q) (nat_lt id q) false false true (grind (arith, nat_tests)) (grind (arith, nat_tests)) (grind (arith, nat_tests)) refl
    ]
    ∙ ap (λ b. edited_by f (cond b (Some e.1) edit) had) (sym (unsigned_tied q id ∙ nat_eq_equiv.symm q id))

-- ---- that it ascends
all-append : {T : Type 0} (P : T → Type 0) (xs ys : List T) → AllByRecursion P xs → AllByRecursion P ys → AllByRecursion P (xs ++ ys)
all-append P [] ys h k = k
all-append P (x ∷ xs) ys h k = (h.0, all-append P xs ys h.1 k)

all-weaker : {T : Type 0} (P Q : T → Type 0) (xs : List T) → ((x : T) → P x → Q x) → AllByRecursion P xs → AllByRecursion Q xs
all-weaker P Q [] f h = tt
all-weaker P Q (x ∷ xs) f h = (f x h.0, all-weaker P Q xs f h.1)

all-cond : {T : Type 0} (P : T → Type 0) (b : Bool) (x : T) (xs : List T) → (b ≡ true → P x) → AllByRecursion P xs → AllByRecursion P (cond b (x ∷ xs) xs)
all-cond P true x xs h k = (h refl, k)
all-cond P false x xs h k = k

all-filter : {T : Type 0} (P : T → Type 0) (p : T → Bool) (xs : List T) → AllByRecursion P xs → AllByRecursion P (filter p xs)
all-filter P p [] h = tt
all-filter P p (x ∷ xs) h = all-cond P (p x) x (filter p xs) (λ _. h.0) (all-filter P p xs h.1)

all-passed : {T : Type 0} (p : T → Bool) (xs : List T) → AllByRecursion (λ x. p x ≡ true) (filter p xs)
all-passed p [] = tt
all-passed p (x ∷ xs) = all-cond (λ y. p y ≡ true) (p x) x (filter p xs) (λ e. e) (all-passed p xs)

all-option : {T : Type 0} (P : T → Type 0) (o : Option T) → IfSome o P → AllByRecursion P (option_to_list o)
all-option P None h = tt
all-option P (Some x) h = (h, tt)

if_some-weaker : {T : Type 0} (P Q : T → Type 0) (o : Option T) → ((x : T) → P x → Q x) → IfSome o P → IfSome o Q
if_some-weaker P Q None f h = tt
if_some-weaker P Q (Some x) f h = f x h

rises-append : {T : Type 0} (key : T → ℕ) (id : ℕ) (xs ys : List T) → RisesBy key xs → AllByRecursion (λ x. key x < id) xs → RisesBy key ys → AllByRecursion (λ y. id ≤ key y) ys → RisesBy key (xs ++ ys)
rises-append key id [] ys up below up_then above = up_then
rises-append key id (x ∷ xs) ys up below up_then above = grind (arith, all-append, all-weaker, below, above, rises-append key id xs ys up.1 below.1 up_then above)

rises-cond : {T : Type 0} (key : T → ℕ) (b : Bool) (x : T) (xs : List T) → AllByRecursion (λ y. key x < key y) xs → RisesBy key xs → RisesBy key (cond b (x ∷ xs) xs)
rises-cond key true x xs above up = (above, up)
rises-cond key false x xs above up = up

rises-filter : {T : Type 0} (key : T → ℕ) (p : T → Bool) (xs : List T) → RisesBy key xs → RisesBy key (filter p xs)
rises-filter key p [] up = tt
rises-filter key p (x ∷ xs) up = rises-cond key (p x) x (filter p xs) (all-filter (λ y. key x < key y) p xs up.0) (rises-filter key p xs up.1)

rises-option : {T : Type 0} (key : T → ℕ) (o : Option T) → RisesBy key (option_to_list o)
rises-option key None = tt
rises-option key (Some x) = (tt, tt)

all-merged : {T E : Type 0} (P : ℕ → Type 0) (key : T → ℕ) (after : E → ℕ → Option T → Option T) → KeepsIds key after → (items : List T) (es : List (ℕ × E))
    → AllByRecursion (λ x. P (key x)) items → AllByRecursion (λ e. P e.0) es → AllByRecursion (λ x. P (key x)) (merged key after items es)
all-merged P key after keeps items [] h k = h
all-merged {T} P key after keeps items (e ∷ es) h k =
    let here = after e.1 e.0 (item_of key e.0 items) in
    let high = filter (λ x. nat_lt e.0 (key x)) items in
    all-append (λ x. P (key x)) _ _ (all-filter (λ x. P (key x)) (λ x. nat_lt (key x) e.0) items h)
    (all-append (λ x. P (key x)) _ _
    (all-option (λ x. P (key x)) here (if_some-weaker (λ x. key x ≡ e.0) (λ x. P (key x)) here (λ x same. subst P (sym same) k.0) (keeps e.1 e.0 (item_of key e.0 items))))
    (all-merged P key after keeps high es (all-filter (λ x. P (key x)) (λ x. nat_lt e.0 (key x)) items h) k.1))

rises-merged : {T E : Type 0} (key : T → ℕ) (after : E → ℕ → Option T → Option T) → KeepsIds key after → (items : List T) (es : List (ℕ × E)) → RisesBy key items → RisesBy (λ e. e.0) es
    → RisesBy key (merged key after items es)
rises-merged key after keeps items [] up edits_up = up
rises-merged {T} key after keeps items (e ∷ es) up edits_up =
    let id = e.0 in
    let low = filter (λ x. nat_lt (key x) id) items in
    let here = after e.1 id (item_of key id items) in
    let high = filter (λ x. nat_lt id (key x)) items in
    let has_id = keeps e.1 id (item_of key id items) in
    let above = all-merged (λ n. id < n) key after keeps high es (all-weaker (λ x. nat_lt id (key x) ≡ true) (λ x. id < key x) high (λ x t. grind (arith, nat_tests)) (all-passed (λ x. nat_lt id (key x)) items)) edits_up.0 in
    rises-append key id low _ (rises-filter key (λ x. nat_lt (key x) id) items up)
    (all-weaker (λ x. nat_lt (key x) id ≡ true) (λ x. key x < id) low (λ x t. grind (arith, nat_tests)) (all-passed (λ x. nat_lt (key x) id) items))
    (rises-append key (suc id) (option_to_list here) _ (rises-option key here)
    (all-option (λ x. key x < suc id) here (if_some-weaker (λ x. key x ≡ id) (λ x. key x < suc id) here (λ x same. omega arith) has_id))
    (rises-merged key after keeps high es (rises-filter key (λ x. nat_lt id (key x)) items up) edits_up.1)
    (all-weaker (λ x. id < key x) (λ x. suc id ≤ key x) _ (λ x lt. omega arith) above))
    (all-append (λ x. id ≤ key x) _ _
    (all-option (λ x. id ≤ key x) here (if_some-weaker (λ x. key x ≡ id) (λ x. id ≤ key x) here (λ x same. omega arith) has_id))
    (all-weaker (λ x. id < key x) (λ x. id ≤ key x) _ (λ x lt. omega arith) above))

-- ---- ascending by index, and by recursion
all-from_index : {T : Type 0} (P : ℕ → Type 0) (key : T → ℕ) (xs : List T) → ((k : ℕ) → k < length (map key xs) → P (get_or (map key xs) k 0)) → AllByRecursion (λ x. P (key x)) xs
all-from_index P key [] f = tt
all-from_index P key (x ∷ xs) f = (f 0 (omega arith), all-from_index P key xs (λ k within. f (suc k) (omega arith)))

all-at : {T : Type 0} (P : ℕ → Type 0) (key : T → ℕ) (xs : List T) → AllByRecursion (λ x. P (key x)) xs → (k : ℕ) → k < length (map key xs) → P (get_or (map key xs) k 0)
all-at P key [] h k within = absurd (omega arith)
all-at P key (x ∷ xs) h zero within = h.0
all-at P key (x ∷ xs) h (suc k) within = all-at P key xs h.1 k (omega arith)

pub rises-from_ascending : {T : Type 0} (key : T → ℕ) (xs : List T) → IsAscending (map key xs) → RisesBy key xs
rises-from_ascending key [] up = tt
rises-from_ascending key (x ∷ xs) up = (
  all-from_index (λ n. key x < n) key xs (λ k within. up 0 (suc k) (omega arith) (omega arith)),
  rises-from_ascending key xs (λ i j lt within. up (suc i) (suc j) (omega arith) (omega arith)),
)

pub ascending-from_rises : {T : Type 0} (key : T → ℕ) (xs : List T) → RisesBy key xs → IsAscending (map key xs)
ascending-from_rises key [] up i j lt within = absurd (omega arith)
ascending-from_rises key (x ∷ xs) up i zero lt within = absurd (omega arith)
ascending-from_rises key (x ∷ xs) up zero (suc j) lt within = all-at (λ n. key x < n) key xs up.0 j (omega arith)
ascending-from_rises key (x ∷ xs) up (suc i) (suc j) lt within = ascending-from_rises key xs up.1 i j (omega arith) (omega arith)

pub ascends-merged : {T E : Type 0} (key : T → ℕ) (after : E → ℕ → Option T → Option T) → KeepsIds key after → (items : List T) (es : List (ℕ × E)) → IsAscending (map key items) → IsAscending (map (λ e. e.0) es)
    → IsAscending (map key (merged key after items es))
ascends-merged key after keeps items es up edits_up = grind (arith, ascending-from_rises, rises-merged, rises-from_ascending)

-- what is there of it so far ascends too
ascends-part : {T : Type 0} (key : T → ℕ) (part rest all : List T) → part ++ rest ≡ all → IsAscending (map key all) → IsAscending (map key part)
ascends-part key part rest all e up i j lt within = grind (arith, map-append, get_or_append_left, length-append)

pub ascends-so_far : {T E : Type 0} (key : T → ℕ) (after : E → ℕ → Option T → Option T) → KeepsIds key after → (others : List T) (edits : List (ℕ × E)) → IsAscending (map key others) → IsAscending (map (λ e. e.0) edits)
    → (part rest now : List T) → part ++ rest ≡ merged key after others edits → now ≡ part → IsAscending (map key now)
ascends-so_far key after keeps others edits up edits_up part rest now so_far is =
    subst (λ xs. IsAscending (map key xs)) (sym is) (ascends-part key part rest _ so_far (ascends-merged key after keeps others edits up edits_up))

-- the next edit: what is below its id is copied, and then its item
pub merged-copied : {T E : Type 0} (key : T → ℕ) (after : E → ℕ → Option T → Option T) (done below above rest all copied : List T) (edits : List (ℕ × E)) (i : ℕ) (e : ℕ × E) (item found : Option T)
    → i < length edits → e ≡ get_or edits i e → below ≡ filter (λ x. nat_lt (key x) e.0) rest → found ≡ item_of key e.0 rest → above ≡ filter (λ x. nat_lt e.0 (key x)) rest
    → item ≡ after e.1 e.0 found → done ++ merged key after rest (drop i edits) ≡ all → copied ≡ done ++ below
    → copied ++ (option_to_list item ++ merged key after above (drop (i + 1) edits)) ≡ all
merged-copied key after done below above rest all copied edits i e item found within is below_is found_is above_is item_is so_far copied_is = grind (arith, item, above, append_assoc, below, drop_more)

pub merged-pushed : {T E : Type 0} (key : T → ℕ) (after : E → ℕ → Option T → Option T) (above copied all now : List T) (edits : List (ℕ × E)) (item : Option T)
    → copied ++ (option_to_list item ++ merged key after above edits) ≡ all → now ≡ copied ++ option_to_list item → now ++ merged key after above edits ≡ all
merged-pushed key after above copied all now edits item so_far is = grind (arith, above, append_assoc, item)

-- after the last edit
pub merged-end : {T E : Type 0} (key : T → ℕ) (after : E → ℕ → Option T → Option T) (done rest all now : List T) (edits : List (ℕ × E)) (i : ℕ) → length edits ≤ i
    → done ++ merged key after rest (drop i edits) ≡ all → now ≡ done ++ rest → now ≡ all
merged-end key after done rest all now edits i past so_far is = is ∙ sym (ap (λ es. done ++ merged key after rest es) (drop_all i edits past)) ∙ so_far

pub ascends-filter : {T : Type 0} (key : T → ℕ) (p : T → Bool) (items kept : List T) → IsAscending (map key items) → kept ≡ filter p items → IsAscending (map key kept)
ascends-filter key p items kept up is =
    subst (λ xs. IsAscending (map key xs)) (sym is) (ascending-from_rises key (filter p items) (rises-filter key p items (rises-from_ascending key items up)))

-- ---- the parts of a list, around an id
filter-all : {T : Type 0} (p : T → Bool) (xs : List T) → AllByRecursion (λ x. p x ≡ true) xs → filter p xs ≡ xs
filter-all p [] h = refl
filter-all p (x ∷ xs) h = ap (λ b. cond b (x ∷ filter p xs) (filter p xs)) h.0 ∙ ap (λ ys. x ∷ ys) (filter-all p xs h.1)

filter-none : {T : Type 0} (p : T → Bool) (xs : List T) → AllByRecursion (λ x. p x ≡ false) xs → filter p xs ≡ []
filter-none p [] h = refl
filter-none p (x ∷ xs) h = ap (λ b. cond b (x ∷ filter p xs) (filter p xs)) h.0 ∙ filter-none p xs h.1

filter-append : {T : Type 0} (p : T → Bool) (xs ys : List T) → filter p (xs ++ ys) ≡ filter p xs ++ filter p ys
filter-append p [] ys = refl
filter-append {T} p (x ∷ xs) ys = by (p x) (filter-append p xs ys)
  where
    by : (b : Bool) → filter p (xs ++ ys) ≡ filter p xs ++ filter p ys → cond b (x ∷ filter p (xs ++ ys)) (filter p (xs ++ ys)) ≡ cond b (x ∷ filter p xs) (filter p xs) ++ filter p ys
    by true e = ap (λ zs. x ∷ zs) e
    by false e = e

find-none : {T : Type 0} (p : T → Bool) (xs : List T) → AllByRecursion (λ x. p x ≡ false) xs → find p xs ≡ None
find-none p [] h = refl
find-none p (x ∷ xs) h = ap (λ b. cond b (Some x) (find p xs)) h.0 ∙ find-none p xs h.1

low_part : {T : Type 0} (key : T → ℕ) (id : ℕ) (xs : List T) (n : ℕ) → ((k : ℕ) → k < n → get_or (map key xs) k 0 < id) → AllByRecursion (λ x. key x < id) (take n xs)
low_part key id xs zero f = tt
low_part key id [] (suc n) f = tt
low_part key id (x ∷ xs) (suc n) f = (f 0 (omega arith), low_part key id xs n (λ k lt. f (suc k) (omega arith)))

high_part : {T : Type 0} (key : T → ℕ) (id : ℕ) (xs : List T) (n : ℕ) → IsAscending (map key xs) → (n < length xs → id ≤ get_or (map key xs) n 0) → AllByRecursion (λ x. id ≤ key x) (drop n xs)
high_part key id [] zero up f = tt
high_part key id [] (suc n) up f = tt
high_part key id (x ∷ xs) zero up f = (f (omega arith), all-from_index (λ m. id ≤ m) key xs (λ k within. let lt = up 0 (suc k) (omega arith) (omega arith) in let le = f (omega arith) in omega arith))
high_part key id (x ∷ xs) (suc n) up f = high_part key id xs n (λ i j lt within. up (suc i) (suc j) (omega arith) (omega arith)) (λ within. f (omega arith))

-- the parts, where the items below the id are known by their number
pub record Parts {T : Type 0} (key : T → ℕ) (id : ℕ) (items low high : List T) (found : Option T) : Type 0 where
  pub below : low ≡ filter (λ x. nat_lt (key x) id) items
  pub item : found ≡ item_of key id items
  pub above : high ≡ filter (λ x. nat_lt id (key x)) items

parts-of : {T : Type 0} (key : T → ℕ) (id : ℕ) (items low high above : List T) (item : Option T) → low ++ high ≡ items → AllByRecursion (λ x. key x < id) low → AllByRecursion (λ x. id ≤ key x) high
    → item ≡ item_of key id high → above ≡ filter (λ x. nat_lt id (key x)) high → Parts key id items low above item
parts-of key id items low high above item e lows highs item_is above_is = record {
  below =
      sym (
      ap (filter (λ x. nat_lt (key x) id)) (sym e) ∙ filter-append (λ x. nat_lt (key x) id) low high
      ∙ (λ i. filter-all (λ x. nat_lt (key x) id) low (all-weaker _ (λ x. nat_lt (key x) id ≡ true) low (λ x lt. grind (arith, nat_tests)) lows) i
      ++ filter-none (λ x. nat_lt (key x) id) high (all-weaker _ (λ x. nat_lt (key x) id ≡ false) high (λ x le. grind (arith, nat_tests)) highs) i)
      ∙ append-nil low
      );
  item =
      item_is ∙ sym (
      ap (item_of key id) (sym e) ∙ find-append (λ x. key x == id) low high
      ∙ ap (λ o. option_or o (item_of key id high)) (find-none (λ x. key x == id) low (all-weaker _ (λ x. (key x == id) ≡ false) low (λ x lt. grind (arith, nat_tests)) lows))
      );
  above =
      above_is ∙ sym (
      ap (filter (λ x. nat_lt id (key x))) (sym e) ∙ filter-append (λ x. nat_lt id (key x)) low high
      ∙ ap (λ zs. zs ++ filter (λ x. nat_lt id (key x)) high) (filter-none (λ x. nat_lt id (key x)) low (all-weaker _ (λ x. nat_lt id (key x) ≡ false) low (λ x lt. grind (arith, nat_tests)) lows))
      );
}

-- the first item that is not below the id is that of the id, or above it
abbrev IsSplitAt : {T : Type 0} → (T → ℕ) → ℕ → List T → ℕ → Type 0
IsSplitAt key id items n = ((k : ℕ) → k < n → get_or (map key items) k 0 < id) × (n < length items → id ≤ get_or (map key items) n 0)

rises-drop : {T : Type 0} (key : T → ℕ) (xs : List T) (n : ℕ) → RisesBy key xs → RisesBy key (drop n xs)
rises-drop key xs zero up = up
rises-drop key [] (suc n) up = tt
rises-drop key (x ∷ xs) (suc n) up = rises-drop key xs n up.1

pub parts-found : {T : Type 0} (key : T → ℕ) (id : ℕ) (items rest : List T) (n : ℕ) (x : T) → IsAscending (map key items) → IsSplitAt key id items n → drop n items ≡ x ∷ rest → key x ≡ id
    → Parts key id items (take n items) rest (Some x)
parts-found {T} key id items rest n x up split is same =
    let highs = subst (AllByRecursion (λ y. id ≤ key y)) is (high_part key id items n up split.1) in
    let later : AllByRecursion (λ y. key x < key y) rest = (subst (RisesBy key) is (rises-drop key items n (rises-from_ascending key items up))).0 in
    let not_above : nat_lt id (key x) ≡ false = grind (arith, nat_tests) in
    parts-of key id items (take n items) (x ∷ rest) rest (Some x) (ap (λ ys. take n items ++ ys) (sym is) ∙ take-append-drop n items) (low_part key id items n split.0) highs
    (sym (ap (λ b. cond b (Some x) (item_of key id rest)) (eq-eqb (key x) id same)))
    (sym (ap (λ b. cond b (x ∷ filter (λ y. nat_lt id (key y)) rest) (filter (λ y. nat_lt id (key y)) rest)) not_above
    ∙ filter-all (λ y. nat_lt id (key y)) rest (all-weaker (λ y. key x < key y) (λ y. nat_lt id (key y) ≡ true) rest (λ y lt. grind (arith, nat_tests)) later)))

parts-above : {T : Type 0} (key : T → ℕ) (id : ℕ) (items high : List T) (n : ℕ) → IsAscending (map key items) → IsSplitAt key id items n → drop n items ≡ high → AllByRecursion (λ y. id < key y) high
    → Parts key id items (take n items) high None
parts-above key id items high n up split is above =
    parts-of key id items (take n items) high high None (ap (λ ys. take n items ++ ys) (sym is) ∙ take-append-drop n items) (low_part key id items n split.0)
    (all-weaker (λ y. id < key y) (λ y. id ≤ key y) high (λ y lt. omega arith) above)
    (sym (find-none (λ y. key y == id) high (all-weaker (λ y. id < key y) (λ y. (key y == id) ≡ false) high (λ y lt. grind (arith, nat_tests)) above)))
    (sym (filter-all (λ y. nat_lt id (key y)) high (all-weaker (λ y. id < key y) (λ y. nat_lt id (key y) ≡ true) high (λ y lt. grind (arith, nat_tests)) above)))

pub parts-none : {T : Type 0} (key : T → ℕ) (id : ℕ) (items high : List T) (n : ℕ) → IsAscending (map key items) → IsSplitAt key id items n → drop n items ≡ high → None ≡ slice_get high 0
    → Parts key id items (take n items) high None
parts-none key id items [] n up split is none = parts-above key id items [] n up split is tt
parts-none key id items (x ∷ xs) n up split is none = cc

pub parts-other : {T : Type 0} (key : T → ℕ) (id : ℕ) (items high : List T) (n : ℕ) (x : T) → IsAscending (map key items) → IsSplitAt key id items n → drop n items ≡ high → Some x ≡ slice_get high 0 → key x ≢ id
    → Parts key id items (take n items) high None
parts-other key id items [] n x up split is first apart = cc
parts-other {T} key id items (y ∷ ys) n x up split is first apart =
    let rise = subst (RisesBy key) is (rises-drop key items n (rises-from_ascending key items up)) in
    let highs = subst (AllByRecursion (λ z. id ≤ key z)) is (high_part key id items n up split.1) in
    let same : key x ≡ key y = cc in
    let above : id < key y = (let le = highs.0 in omega arith) in
    parts-above key id items (y ∷ ys) n up split is (above, all-weaker (λ z. key y < key z) (λ z. id < key z) ys (λ z lt. omega arith) rise.0)

pub parts-first : {T : Type 0} (key : T → ℕ) (id : ℕ) (items high : List T) (n : ℕ) (x : T) → IsAscending (map key items) → IsSplitAt key id items n → drop n items ≡ high → Some x ≡ slice_get high 0 → key x ≡ id
    → Parts key id items (take n items) (drop 1 high) (Some x)
parts-first key id items [] n x up split is first same = cc
parts-first key id items (y ∷ ys) n x up split is first same =
    let here : x ≡ y = cc in
    subst (λ z. Parts key id items (take n items) ys (Some z)) (sym here) (parts-found key id items ys n y up split is (ap key (sym here) ∙ same))

-- ---- sets of ids
any-find : (xs : List ℕ) (q : ℕ) → list_any (λ x. q == x) xs ≡ is_some (item_of (λ x. x) q xs)
any-find [] q = refl
any-find (x ∷ xs) q = (λ i. nat_eq_equiv.symm q x i || any-find xs q i) ∙ either (x == q)
  where
    either : (b : Bool) → (b || is_some (item_of (λ y. y) q xs)) ≡ is_some (cond b (Some x) (item_of (λ y. y) q xs))
    either true = refl
    either false = refl

has-item_of : (xs : List ℕ) (q : ℕ) → has (ids_of xs) q ≡ is_some (item_of (λ x. x) q xs)
has-item_of xs q = has-ids_of xs q ∙ any-find xs q

some-edited : {E : Type 0} (is_in : E → Bool) (edit : Option E) (q : ℕ) (had : Option ℕ)
    → is_some (edited_by (λ e _. cond (is_in e) (Some q) None) edit had) ≡ edited_by (λ e _. is_in e) edit (is_some had)
some-edited is_in None q had = refl
some-edited is_in (Some e) q had = there (is_in e)
  where
    there : (b : Bool) → is_some (cond b (Some q) None) ≡ b
    there true = refl
    there false = refl

-- each id of an ascending list is left as the edits state
abbrev pub IsEditedList : {E : Type 0} → (E → Bool) → List ℕ → List ℕ → List (ℕ × E) → Type 0
IsEditedList is_in xs ys edits = (q : ℕ) → item_of (λ x. x) q ys ≡ edited (λ e _. cond (is_in e) (Some q) None) edits q (item_of (λ x. x) q xs)

-- a set as an ascending list has what the edits leave it
pub has-edited_list : {E : Type 0} (is_in : E → Bool) (xs ys : List ℕ) (edits : List (ℕ × E)) (q : ℕ) → item_of (λ x. x) q ys ≡ edited (λ e _. cond (is_in e) (Some q) None) edits q (item_of (λ x. x) q xs)
    → has (ids_of ys) q ≡ edited (λ e _. is_in e) edits q (has (ids_of xs) q)
has-edited_list is_in xs ys edits q is = grind (arith, has-item_of, some-edited)

-- one more edit, of an id that is above the others
find-below : {E : Type 0} (es : List (ℕ × E)) (id : ℕ) → AllByRecursion (λ e. e.0 < id) es → finite.find nat_cmp id es ≡ None
find-below [] id below = refl
find-below (e ∷ es) id below = grind (arith, ne_eqb, below, find-below es id below.1)

pub find-one_more : {E : Type 0} (edits : List (ℕ × E)) (i : ℕ) (e : ℕ × E) → IsAscending (map (λ x. x.0) edits) → i < length edits → e ≡ get_or edits i e
    → (q : ℕ) → finite.find nat_cmp q (take (i + 1) edits) ≡ cond (q == e.0) (Some e.1) (finite.find nat_cmp q (take i edits))
find-one_more edits i e up within is q =
    let long = length-map edits (λ x. x.0) in
    let key : get_or (map (λ x. x.0) edits) i 0 ≡ e.0 = get_or-map (λ x. x.0) edits i e 0 within ∙ ap (λ x. x.0) (sym is) in
    let below = low_part (λ x. x.0) e.0 edits i (λ k lt. let less = up k i lt (omega arith) in omega arith) in
    ap (finite.find nat_cmp q) (take_more edits i e within ∙ ap (λ x. take i edits ++ x ∷ []) (sym is))
    ∙ find-append_one nat_cmp nat_cmp_total (take i edits) e.0 e.1 q (find-below (take i edits) e.0 below)
    ∙ ap (λ b. cond b (Some e.1) (finite.find nat_cmp q (take i edits))) (unsigned_tied q e.0)

-- a set with one more edit made
has-one_more : {E : Type 0} (is_in : E → Bool) (s t u : Ids) (edits : List (ℕ × E)) (i : ℕ) (e : ℕ × E) → IsAscending (map (λ x. x.0) edits) → i < length edits → e ≡ get_or edits i e
    → ((q : ℕ) → has t q ≡ edited (λ e _. is_in e) (take i edits) q (has s q)) → u ≡ cond (is_in e.1) (with_id t e.0) (without_id t e.0)
    → (q : ℕ) → has u q ≡ edited (λ e _. is_in e) (take (i + 1) edits) q (has s q)
has-one_more {E} is_in s t u edits i e up within is so_far made q =
    ap (λ v. has v q) made ∙ put (is_in e.1) ∙ ap (λ b. cond (q == e.0) (is_in e.1) b) (so_far q)
    ∙ into (q == e.0) (finite.find nat_cmp q (take i edits)) ∙ sym (ap (λ o. edited_by (λ x _. is_in x) o (has s q)) (find-one_more edits i e up within is q))
  where
    put : (b : Bool) → has (cond b (with_id t e.0) (without_id t e.0)) q ≡ cond (q == e.0) b (has t q)
    put true = grind (arith, has-with_id t e.0 q)
    put false = grind (arith, has-without_id t e.0 q)

    into : (b : Bool) (o : Option E) → cond b (is_in e.1) (edited_by (λ x _. is_in x) o (has s q)) ≡ edited_by (λ x _. is_in x) (cond b (Some e.1) o) (has s q)
    into true o = refl
    into false o = refl

pub has-one_in : {E : Type 0} (is_in : E → Bool) (s t u : Ids) (edits : List (ℕ × E)) (i : ℕ) (e : ℕ × E) → IsAscending (map (λ x. x.0) edits) → i < length edits → e ≡ get_or edits i e
    → ((q : ℕ) → has t q ≡ edited (λ e _. is_in e) (take i edits) q (has s q)) → is_in e.1 ≡ true → u ≡ with_id t e.0
    → (q : ℕ) → has u q ≡ edited (λ e _. is_in e) (take (i + 1) edits) q (has s q)
has-one_in is_in s t u edits i e up within is so_far there made =
    has-one_more is_in s t u edits i e up within is so_far (made ∙ sym (ap (λ b. cond b (with_id t e.0) (without_id t e.0)) there))

pub has-one_out : {E : Type 0} (is_in : E → Bool) (s t u : Ids) (edits : List (ℕ × E)) (i : ℕ) (e : ℕ × E) → IsAscending (map (λ x. x.0) edits) → i < length edits → e ≡ get_or edits i e
    → ((q : ℕ) → has t q ≡ edited (λ e _. is_in e) (take i edits) q (has s q)) → is_in e.1 ≡ false → u ≡ without_id t e.0
    → (q : ℕ) → has u q ≡ edited (λ e _. is_in e) (take (i + 1) edits) q (has s q)
has-one_out is_in s t u edits i e up within is so_far out made =
    has-one_more is_in s t u edits i e up within is so_far (made ∙ sym (ap (λ b. cond b (with_id t e.0) (without_id t e.0)) out))
