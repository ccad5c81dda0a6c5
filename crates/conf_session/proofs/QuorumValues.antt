-- The ids of a quorum, each once, and the value of each.
use Rattle.std.proofs.Common.{◌≡◌, ◌≢◌, ℕ, zero, suc, ◌+◌, ◌<◌, ◌≤◌, ◌==◌, Bool, true, false, cond, not, List, [], ◌∷◌, ◌++◌, length, drop, map, filter, get_or, refl, sym, ap, ◌∙◌, subst, arith, inl, inr}
use Rattle.std.specs.Prelude.{◌&&◌, ◌||◌, nat_eq, is_some, Option, Some, None, slice_get, unwrap_or, option_map}
use Rattle.std.specs.List.{list_any}
use Rattle.std.specs.Ordering.{nat_cmp, eq_by_cmp}
use Rattle.std.specs.Cmp.{nat_cmp_total, unsigned_tied, eq_by_cmp_equiv}
use Rattle.std.specs.FinMap as finite
use Rattle.std.specs.FinMap.{nat_cmp-IsAntisymmetric}
use Rattle.std.proofs.Math.ListN.{set, length-set}
use Rattle.std.proofs.lemmas.List.{append-nil, append_assoc, drop_more, get_or_default, length-append, length-drop}
use Rattle.std.proofs.lemmas.List.Elements.{filter-append}
use Rattle.std.proofs.lemmas.List.Folds.{Any-from_list_any, list_any_at}
use Rattle.std.proofs.lemmas.Map.Views.{any-filter_same}
use Rattle.std.proofs.lemmas.Bool.{cases_lt, eq-eqb, eqb-true, false_from_ne_true}
use Rattle.std.proofs.lemmas.Bool.Decides.{nat_tests}
use Rattle.std.proofs.lemmas.Option.{slice_get_within, slice_get-get_or, slice_get-map, get_or_from_slice_get}
use Rattle.quorum_sets.proofs.Offered.{has-ascending, has-goes, has-ids_of}
use Rattle.quorum_sets.specs.AscendingLists.{IsAscending, IsAtPosition, IsInsertionPoint}
use Rattle.quorum_sets.specs.Ids.{ascending, ids_of}
use Rattle.conf_session.specs.Quorum.{each_once, known, with_value, values_by_id}

tied : (id q : ℕ) → eq_by_cmp nat_cmp id q ≡ (q == id)
tied id q = (eq_by_cmp_equiv nat_cmp_total).symm id q ∙ unsigned_tied q id

-- ---- each id once
once-more : (xs : List ℕ) (x : ℕ) → each_once (xs ++ x ∷ []) ≡ each_once xs ++ cond (list_any (λ id. x == id) xs) [] (x ∷ [])
once-more [] x = refl
once-more (id ∷ xs) x =
    let others : List ℕ → List ℕ = filter (λ other. not (other == id)) in
    ap (λ t. id ∷ others t) (once-more xs x) ∙ ap (λ t. id ∷ t) (filter-append (λ other. not (other == id)) (each_once xs) (cond (list_any (λ id. x == id) xs) [] (x ∷ []))
    ∙ ap (λ t. others (each_once xs) ++ t) (at (list_any (λ id. x == id) xs) (x == id) refl)) where
      at : (there same : Bool) → (x == id) ≡ same → filter (λ other. not (other == id)) (cond there [] (x ∷ [])) ≡ cond (same || there) [] (x ∷ [])
      at there same e = grind arith

-- the ids are those of the list
once-any : (xs : List ℕ) (x : ℕ) → list_any (λ id. x == id) (each_once xs) ≡ list_any (λ id. x == id) xs
once-any [] x = refl
once-any (y ∷ xs) x =
    ap (λ b. (x == y) || b) (any-filter_same (λ id. x == id) (λ other. not (other == y)) (not (x == y)) (λ z same. ap (λ o. not (o == y)) (sym (eqb-true x z same))) (each_once xs))
    ∙ ap (λ b. (x == y) || (not (x == y) && b)) (once-any xs x) ∙ or-not (x == y) (list_any (λ id. x == id) xs) where
      or-not : (a b : Bool) → (a || (not a && b)) ≡ (a || b)
      or-not a b = grind arith

-- a longer list has no fewer
once-longer : (ys xs : List ℕ) → length (each_once xs) ≤ length (each_once (xs ++ ys))
once-longer [] xs = let same = ap (λ zs. length (each_once zs)) (append-nil xs) in omega arith
once-longer (y ∷ ys) xs = grind (arith, once-more, length-append, append_assoc, once-longer ys (xs ++ y ∷ []))

pub drop-here : {X : Type 0} (xs : List X) (i : ℕ) (x : X) → slice_get xs i ≡ Some x → drop i xs ≡ x ∷ drop (i + 1) xs
drop-here xs i x e = drop_more xs i x (slice_get_within xs i x e) ∙ ap (λ y. y ∷ drop (i + 1) xs) (get_or_from_slice_get xs i x x e)

-- ---- the value of an id
get-with : {V : Type 0} (map : finite.FinMap nat_cmp V) (x id : ℕ) (one : Option V) (same : Bool) → (x == id) ≡ same → finite.get (with_value map x one) id ≡ cond same one (finite.get map id)
get-with map x id None same is = finite.get-remove nat_cmp_total map x id ∙ ap (λ b. cond b None (finite.get map id)) (tied id x ∙ is)
get-with map x id (Some v) same is = finite.get-insert nat_cmp_total map x v id ∙ ap (λ b. cond b (Some v) (finite.get map id)) (tied id x ∙ is)

or-first : (a b : Bool) → (a || b) ≡ false → a ≡ false
or-first a b e = grind arith

or-second : (a b : Bool) → (a || b) ≡ false → b ≡ false
or-second a b e = grind arith

-- an id that is not named has none
pub value-absent : {V : Type 0} (id : ℕ) (ids : List ℕ) (values : List (Option V)) → list_any (λ x. id == x) ids ≡ false → finite.get (values_by_id ids values) id ≡ None
value-absent id [] values absent = finite.get-empty nat_cmp id
value-absent id (x ∷ ids) [] absent = finite.get-empty nat_cmp id
value-absent id (x ∷ ids) (one ∷ values) absent =
    let other : (x == id) ≡ false = false_from_ne_true _ (λ same. let is = eq-eqb id x (sym (eqb-true x id same)) in let not_first = or-first (id == x) (list_any (λ y. id == y) ids) absent in cc) in
    get-with (values_by_id ids values) x id one false other ∙ value-absent id ids values (or-second (id == x) (list_any (λ y. id == y) ids) absent)

swapped : {X : Type 0} (i x q : ℕ) (a b : Bool) (v one rest : X) → (i == q) ≡ a → (x == q) ≡ b → (x == i) ≡ false → cond a v (cond b one rest) ≡ cond b one (cond a v rest)
swapped i x q true true v one rest e f apart = let same : x ≡ i = eqb-true x q f ∙ sym (eqb-true i q e) in let no = eq-eqb x i same in cc
swapped i x q true false v one rest e f apart = refl
swapped i x q false b v one rest e f apart = refl

-- one more id, with its value
value-more : {V : Type 0} (ids : List ℕ) (x : ℕ) (values : List (Option V)) (one : Option V) (q : ℕ) → list_any (λ id. x == id) ids ≡ false → slice_get values (length ids) ≡ Some one → finite.get (values_by_id (ids ++ x ∷ []) values) q ≡ cond (x == q) one (finite.get (values_by_id ids values) q)
value-more [] x [] one q absent at = cc
value-more [] x (v ∷ values) one q absent at = let same : v ≡ one = cc in get-with (values_by_id [] values) x q v (x == q) refl ∙ ap (λ o. cond (x == q) o (finite.get (values_by_id [] values) q)) same
value-more (i ∷ ids) x [] one q absent at = cc
value-more (i ∷ ids) x (v ∷ values) one q absent at =
    let apart : (x == i) ≡ false = or-first (x == i) (list_any (λ id. x == id) ids) absent in
    get-with (values_by_id (ids ++ x ∷ []) values) i q v (i == q) refl
    ∙ ap (cond (i == q) v) (value-more ids x values one q (or-second (x == i) (list_any (λ id. x == id) ids) absent) at)
    ∙ swapped i x q (i == q) (x == q) v one (finite.get (values_by_id ids values) q) refl refl apart
    ∙ ap (cond (x == q) one) (sym (get-with (values_by_id ids values) i q v (i == q) refl))

-- the value at an index of a list of values, if it is known
abbrev pub value_at : {V : Type 0} → Option (Option V) → Option V
value_at None = None
value_at (Some one) = one

value-first : {V : Type 0} (id index : ℕ) (ids : List ℕ) (values : List (Option V)) → slice_get ids index ≡ Some id → ((k : ℕ) → k < index → slice_get ids k ≢ Some id) → finite.get (values_by_id ids values) id ≡ value_at (slice_get values index)
value-first id index [] values there none = cc
value-first id index (x ∷ ids) [] there none = finite.get-empty nat_cmp id
value-first id zero (x ∷ ids) (one ∷ values) there none = grind (arith, get-with, eq-eqb)
value-first id (suc index) (x ∷ ids) (one ∷ values) there none =
    let other : (x == id) ≡ false = false_from_ne_true _ (λ same. none 0 (omega arith) (ap Some (eqb-true x id same))) in
    get-with (values_by_id ids values) x id one false other ∙ value-first id index ids values there (λ k less. none (suc k) (omega arith))

pub at-position : (ids : List ℕ) (id position : ℕ) → IsAtPosition ids id position → slice_get ids position ≡ Some id
at-position ids id position at = slice_get-get_or ids position 0 at.within ∙ ap Some at.there

pub value-at_position : {V : Type 0} (ids : List ℕ) (values : List (Option V)) (id position : ℕ) → IsAscending ids → IsAtPosition ids id position → finite.get (values_by_id ids values) id ≡ value_at (slice_get values position)
value-at_position ids values id position up at = grind (arith, at-position, at, value-first, get_or_from_slice_get)

-- the value at the position of an id
pub value-here : {V : Type 0} (ids xs : List ℕ) (own ys : List (Option (Option V))) (id position : ℕ) (o : Option (Option (Option V))) → IsAscending ids → xs ≡ ids → ys ≡ own → IsAtPosition xs id position → slice_get ys position ≡ o →
    finite.get (values_by_id ids (known own)) id ≡ value_at (option_map (λ value. unwrap_or value None) o)
value-here ids xs own ys id position o up same same_own at e =
    let there : IsAtPosition ids id position = subst (λ zs. IsAtPosition zs id position) same at in
    let value : slice_get own position ≡ o = ap (λ zs. slice_get zs position) (sym same_own) ∙ e in
    value-at_position ids (known own) id position up there ∙ ap value_at (slice_get-map (λ value. unwrap_or value None) own position ∙ ap (option_map (λ value. unwrap_or value None)) value)

-- an id that is not in the list
pub value-nowhere : {V : Type 0} (ids xs : List ℕ) (values : List (Option V)) (id position : ℕ) → xs ≡ ids → IsInsertionPoint xs id position → finite.get (values_by_id ids values) id ≡ None
value-nowhere ids xs values id position same goes =
    value-absent id ids values (ap (list_any (λ x. id == x)) (sym same) ∙ sym (has-ids_of xs id) ∙ has-goes xs id position goes)

-- ---- how the values are assigned
-- what an id has been assigned after these ids of the list
abbrev pub assigned : {V : Type 0} → List ℕ → List (Option V) → ℕ → Option (Option V)
assigned taken values id = cond (list_any (λ x. id == x) taken) (Some (finite.get (values_by_id (each_once taken) values) id)) None

-- each id of an ascending list has what it has been assigned, and the other values are left
pub record IsAssigned {V : Type 0} (ids taken : List ℕ) (values : List (Option V)) (own : List (Option (Option V))) (rest : List (Option V)) : Type 0 where
  pub within : length own ≡ length ids
  pub each : (j id : ℕ) → slice_get ids j ≡ Some id → slice_get own j ≡ Some (assigned taken values id)
  pub left : rest ≡ drop (length (each_once taken)) values
  pub enough : length (each_once taken) ≤ length values

any-more : (xs : List ℕ) (x q : ℕ) → list_any (λ y. q == y) (xs ++ x ∷ []) ≡ (list_any (λ y. q == y) xs || (q == x))
any-more [] x q = or-none (q == x) where
  or-none : (a : Bool) → (a || false) ≡ a
  or-none a = grind arith
any-more (y ∷ xs) x q = ap (λ b. (q == y) || b) (any-more xs x q) ∙ or-apart (q == y) (list_any (λ y. q == y) xs) (q == x) where
  or-apart : (a b c : Bool) → (a || (b || c)) ≡ ((a || b) || c)
  or-apart a b c = grind arith

-- an id that came before
pub assigned-before : {V : Type 0} (ids taken : List ℕ) (id : ℕ) (values : List (Option V)) (own : List (Option (Option V))) (rest : List (Option V)) → list_any (λ x. id == x) taken ≡ true → IsAssigned ids taken values own rest → IsAssigned ids (taken ++ id ∷ []) values own rest
assigned-before ids taken id values own rest some is =
    let once : each_once (taken ++ id ∷ []) ≡ each_once taken = once-more taken id ∙ ap (λ b. each_once taken ++ cond b [] (id ∷ [])) some ∙ append-nil (each_once taken) in
    let any : (q : ℕ) → list_any (λ x. q == x) (taken ++ id ∷ []) ≡ list_any (λ x. q == x) taken = λ q. any-more taken id q ∙ there q (q == id) refl in
    let same : (q : ℕ) → assigned taken values q ≡ assigned (taken ++ id ∷ []) values q = λ q. (λ i. cond (sym (any q) i) (Some (finite.get (values_by_id (sym once i) values) q)) None) in
    record {
      within = is.within;
      each = λ j q at. is.each j q at ∙ ap Some (same q);
      left = is.left ∙ ap (λ xs. drop (length xs) values) (sym once);
      enough = let e = ap length once in let less = is.enough in omega arith;
    } where
      there : (q : ℕ) (b : Bool) → (q == id) ≡ b → (list_any (λ x. q == x) taken || b) ≡ list_any (λ x. q == x) taken
      there q true e = let same = eqb-true q id e in let here : list_any (λ x. q == x) taken ≡ true = ap (λ z. list_any (λ x. z == x) taken) same ∙ some in grind (arith, here)
      there q false e = grind arith

-- the head of what is left
drop-head : {X : Type 0} (n : ℕ) (xs : List X) (x : X) (ys : List X) → drop n xs ≡ x ∷ ys → (slice_get xs n ≡ Some x) × (ys ≡ drop (suc n) xs) × (n < length xs)
drop-head zero [] x ys e = cc
drop-head zero (z ∷ xs) x ys e = (cc, cc, omega arith)
drop-head (suc n) [] x ys e = cc
drop-head (suc n) (z ∷ xs) x ys e = let h = drop-head n xs x ys e in (h.0, h.1, let less = h.2 in omega arith)

set-here : {X : Type 0} (xs : List X) (i : ℕ) (y : X) → i < length xs → slice_get (set xs i y) i ≡ Some y
set-here [] i y less = absurd (omega arith)
set-here (x ∷ xs) zero y less = refl
set-here (x ∷ xs) (suc i) y less = set-here xs i y (omega arith)

set-there : {X : Type 0} (xs : List X) (i j : ℕ) (y : X) → j ≢ i → slice_get (set xs i y) j ≡ slice_get xs j
set-there [] i j y apart = refl
set-there (x ∷ xs) zero zero y apart = absurd (apart refl)
set-there (x ∷ xs) zero (suc j) y apart = refl
set-there (x ∷ xs) (suc i) zero y apart = refl
set-there (x ∷ xs) (suc i) (suc j) y apart = set-there xs i j y (λ e. apart (ap suc e))

-- the same id is at one position
one-position : (ids : List ℕ) (i j id : ℕ) → IsAscending ids → slice_get ids i ≡ Some id → slice_get ids j ≡ Some id → i ≡ j
one-position ids i j id up at there =
    let a = get_or_from_slice_get ids i id 0 at in
    let b = get_or_from_slice_get ids j id 0 there in
    let within = slice_get_within ids i id at in
    let within_too = slice_get_within ids j id there in
    elim (cases_lt i j) [
      | inl less ↦ let below = up i j less within_too in absurd (omega arith)
      | inr more ↦ elim (cases_lt j i) [
        | inl less ↦ let below = up j i less within in absurd (omega arith)
        | inr same ↦ omega arith
      ]
    ]

assigned-more : {V : Type 0} (taken : List ℕ) (id q : ℕ) (values : List (Option V)) (one : Option V) (b : Bool) → list_any (λ x. id == x) taken ≡ false → slice_get values (length (each_once taken)) ≡ Some one → (q == id) ≡ b →
    assigned (taken ++ id ∷ []) values q ≡ cond b (Some one) (assigned taken values q)
assigned-more taken id q values one b none at same =
    let once : each_once (taken ++ id ∷ []) ≡ each_once taken ++ id ∷ [] = once-more taken id ∙ ap (λ b. each_once taken ++ cond b [] (id ∷ [])) none in
    let got : finite.get (values_by_id (each_once (taken ++ id ∷ [])) values) q ≡ cond (id == q) one (finite.get (values_by_id (each_once taken) values) q) =
    ap (λ xs. finite.get (values_by_id xs values) q) once ∙ value-more (each_once taken) id values one q (once-any taken id ∙ none) at in
    (λ i. cond (any-more taken id q i) (Some (got i)) None) ∙ cases b same (id == q) refl where
      cases : (b : Bool) → (q == id) ≡ b → (c : Bool) → (id == q) ≡ c → cond (list_any (λ x. q == x) taken || (q == id)) (Some (cond (id == q) one (finite.get (values_by_id (each_once taken) values) q))) None ≡ cond b (Some one) (assigned taken values q)
      cases true e true f = grind arith
      cases true e false f = let same = eqb-true q id e in let no = eq-eqb id q (sym same) in cc
      cases false e true f = let same = eqb-true id q f in let no = eq-eqb q id (sym same) in cc
      cases false e false f = grind arith

assigned-each : {V : Type 0} (ids taken : List ℕ) (id position : ℕ) (values : List (Option V)) (own : List (Option (Option V))) (one : Option V) {rest : List (Option V)} → IsAscending ids → slice_get ids position ≡ Some id → position < length own → IsAssigned ids taken values own rest →
    ((q : ℕ) (b : Bool) → (q == id) ≡ b → assigned (taken ++ id ∷ []) values q ≡ cond b (Some one) (assigned taken values q)) → (j q : ℕ) → slice_get ids j ≡ Some q → (b : Bool) → (q == id) ≡ b → slice_get (set own position (Some one)) j ≡ Some (assigned (taken ++ id ∷ []) values q)
assigned-each ids taken id position values own one up there inside is more j q at true e =
    let same = eqb-true q id e in
    let here : j ≡ position = one-position ids j position id up (at ∙ ap Some same) there in
    ap (slice_get (set own position (Some one))) here ∙ set-here own position (Some one) inside ∙ ap Some (sym (more q true e))
assigned-each ids taken id position values own one up there inside is more j q at false e =
    let apart : j ≢ position = λ same. let e2 : Some q ≡ Some id = sym at ∙ ap (slice_get ids) same ∙ there in let is_id : q ≡ id = cc in let yes = eq-eqb q id is_id in cc in
    set-there own position j (Some one) apart ∙ is.each j q at ∙ ap Some (sym (more q false e))

-- an id that comes first
pub assigned-first : {V : Type 0} (ids taken : List ℕ) (id position : ℕ) (values : List (Option V)) (own : List (Option (Option V))) (one : Option V) (rest after : List (Option V)) → IsAscending ids → list_any (λ x. id == x) taken ≡ false → slice_get ids position ≡ Some id →
    rest ≡ one ∷ after → IsAssigned ids taken values own rest → IsAssigned ids (taken ++ id ∷ []) values (set own position (Some one)) after
assigned-first ids taken id position values own one rest after up none there parts is =
    let count : length (each_once (taken ++ id ∷ [])) ≡ suc (length (each_once taken)) = (let e = ap length (once-more taken id ∙ ap (λ b. each_once taken ++ cond b [] (id ∷ [])) none) in let n = length-append (each_once taken) (id ∷ []) in omega arith) in
    let head = drop-head (length (each_once taken)) values one after (sym is.left ∙ parts) in
    let inside : position < length own = (let at = slice_get_within ids position id there in let same = is.within in omega arith) in
    record {
      within = length-set own position (Some one) ∙ is.within;
      each = λ j q at. assigned-each ids taken id position values own one up there inside is (λ q b. assigned-more taken id q values one b none head.0) j q at (q == id) refl;
      left = head.1 ∙ ap (λ n. drop n values) (sym count);
      enough = let less = head.2 in omega arith;
    }

-- the values, once all are assigned
pub assigned-all : {V : Type 0} (ids named : List ℕ) (values : List (Option V)) (own : List (Option (Option V))) → ids ≡ ascending (ids_of named) → IsAscending ids → IsAssigned ids named values own [] → values_by_id ids (known own) ≡ values_by_id (each_once named) values
assigned-all ids named values own same up is = finite.same_map nat_cmp_total nat_cmp-IsAntisymmetric _ _ (λ q. at q (list_any (λ x. q == x) ids) refl) where
  members : (q : ℕ) → list_any (λ x. q == x) ids ≡ list_any (λ x. q == x) named
  members q = ap (list_any (λ x. q == x)) same ∙ sym (has-ascending (ids_of named) q) ∙ has-ids_of named q

  at : (q : ℕ) (b : Bool) → list_any (λ x. q == x) ids ≡ b → finite.get (values_by_id ids (known own)) q ≡ finite.get (values_by_id (each_once named) values) q
  at q true some =
      let found = Any-from_list_any (λ x. q == x) ids some in
      let j = found.0 in
      let within : j < length ids = found.2 in
      let here : get_or ids j 0 ≡ q = get_or_default ids j 0 found.1 within ∙ found.3 ∙ sym (eqb-true q found.1 found.4) in
      let there : slice_get ids j ≡ Some q = slice_get-get_or ids j 0 within ∙ ap Some here in
      value-here ids ids own own q j (Some (assigned named values q)) up refl refl (record { within = within; there = here }) (is.each j q there)
      ∙ ap (λ b. unwrap_or (cond b (Some (finite.get (values_by_id (each_once named) values) q)) None) None) (sym (members q) ∙ some)
  at q false none = value-absent q ids (known own) none ∙ sym (value-absent q (each_once named) values (once-any named q ∙ sym (members q) ∙ none))

-- an id that comes first after all values are assigned
pub assigned-too_few : {V : Type 0} (ids taken : List ℕ) (id : ℕ) (later : List ℕ) (values : List (Option V)) (own : List (Option (Option V))) → list_any (λ x. id == x) taken ≡ false → IsAssigned ids taken values own [] → nat_eq (length values) (length (each_once ((taken ++ id ∷ []) ++ later))) ≡ false
assigned-too_few ids taken id later values own none is =
    let n = ap length is.left ∙ length-drop (length (each_once taken)) values in
    let e = ap length (once-more taken id ∙ ap (λ b. each_once taken ++ cond b [] (id ∷ [])) none) in
    let m = length-append (each_once taken) (id ∷ []) in
    let more = once-longer later (taken ++ id ∷ []) in
    let less = is.enough in grind (arith, nat_tests)

-- an id has something where it came before
pub seen-before : {V : Type 0} (ids taken : List ℕ) (id position : ℕ) (values : List (Option V)) (own : List (Option (Option V))) (rest : List (Option V)) (d : Option (Option V)) → IsAssigned ids taken values own rest → IsAtPosition ids id position →
    is_some (get_or own position d) ≡ list_any (λ x. id == x) taken
seen-before ids taken id position values own rest d is at =
    ap is_some (get_or_from_slice_get own position _ d (is.each position id (at-position ids id position at))) ∙ some-if (list_any (λ x. id == x) taken) (finite.get (values_by_id (each_once taken) values) id) where
      some-if : {X : Type 0} (b : Bool) (x : X) → is_some (cond b (Some x) None) ≡ b
      some-if b x = grind arith

-- an id of the list is in its set
pub not-nowhere : (ids named : List ℕ) (k position : ℕ) → ids ≡ ascending (ids_of named) → k < length named → IsInsertionPoint ids (get_or named k 0) position → ⊥
not-nowhere ids named k position same within goes =
    let id = get_or named k 0 in
    let there : list_any (λ x. id == x) named ≡ true = list_any_at (λ x. id == x) named k 0 within (eq-eqb id id refl) in
    let nowhere : list_any (λ x. id == x) named ≡ false = sym (has-ids_of named id) ∙ has-ascending (ids_of named) id ∙ ap (list_any (λ x. id == x)) (sym same) ∙ sym (has-ids_of ids id) ∙ has-goes ids id position goes in
    let no : true ≡ false = sym there ∙ nowhere in cc
