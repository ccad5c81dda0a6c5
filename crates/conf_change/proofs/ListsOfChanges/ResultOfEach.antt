-- What a list of changes makes of each id.
use Rattle.std.proofs.Common.{◌≡◌, ℕ, Bool, true, false, cond, ◌&&◌, ◌||◌, ◌==◌, List, [], ◌∷◌, ◌++◌, map, reverse, refl, sym, ap, ◌∙◌, ◌≢◌, arith}
use Rattle.std.specs.Prelude.{Option, Some, None, find, option_map, is_some}
use Rattle.std.proofs.Math.Bool.{or-false}
use Rattle.std.proofs.lemmas.Bool.{or_right}
use Rattle.std.proofs.lemmas.Bool.Decides.{nat_tests}
use Rattle.std.proofs.lemmas.List.{reverse-append}
use Rattle.std.proofs.lemmas.List.Folds.{list_any-append}
use Rattle.std.specs.List.{list_any}
use Rattle.quorum_sets.specs.Ids.{Ids, has, ids_where, with_id, without_id}
use Rattle.quorum_sets.proofs.Offered.{has-ids_where, has-ascending, has-same_ids, has-with_id, has-without_id}
use Rattle.conf_change.specs.Configuration.{Configuration}
use Rattle.conf_change.specs.Change.{names, last_effective, named_or_in, is_update, is_removal, is_incoming_after, is_learner_after, is_next_after, removes, result_of}
use Rattle.conf_change.specs.declared.change.Change.{Change}
use Rattle.conf_change.specs.declared.change.Kind.{Kind}
use Rattle.conf_change.specs.declared.change.Kind.TheVariants.{Update}

-- ---- the last effective change
pub option_map-cond : {X Y : Type 0} (f : X → Y) (b : Bool) (x : X) (o : Option X) → option_map f (cond b (Some x) o) ≡ cond b (Some (f x)) (option_map f o)
option_map-cond f true x o = refl
option_map-cond f false x o = refl

reverse-push : (xs : List Change) (x : Change) → reverse (xs ++ x ∷ []) ≡ x ∷ reverse xs
reverse-push xs x = reverse-append xs (x ∷ [])

-- one more change has the last effective change on the ids that it names
pub last_effective-push : (xs : List Change) (x : Change) (id : ℕ) → last_effective (xs ++ x ∷ []) id ≡ cond (names id x) (Some x.kind) (last_effective xs id)
last_effective-push xs x id = ap (λ ys. option_map (λ change. change.kind) (find (names id) ys)) (reverse-push xs x) ∙ option_map-cond (λ change. change.kind) (names id x) x _

pub removes-push : (xs : List Change) (x : Change) (id : ℕ) → removes (xs ++ x ∷ []) id ≡ (removes xs id || ((x.id == id) && is_removal x.kind))
removes-push xs x id = grind (arith, list_any-append, or-false)

-- a list of one change
pub last_effective-one : (x : Change) (q : ℕ) → last_effective (x ∷ []) q ≡ cond (names q x) (Some x.kind) None
last_effective-one x q = option_map-cond (λ change. change.kind) (names q x) x None

-- no change is effective for 0
find-zero : (xs : List Change) → find (names 0) xs ≡ None
find-zero [] = refl
find-zero (x ∷ xs) = grind (arith, find-zero xs)

pub last_effective-zero : (xs : List Change) → last_effective xs 0 ≡ None
last_effective-zero xs = ap (option_map (λ change. change.kind)) (find-zero (reverse xs))

-- ---- an id with a last effective change is named
is_some-find : (p : Change → Bool) (xs : List Change) → is_some (find p xs) ≡ list_any p xs
is_some-find p [] = refl
is_some-find p (x ∷ xs) = grind (arith, is_some-find p xs)

any_reverse : (p : Change → Bool) (xs : List Change) → list_any p (reverse xs) ≡ list_any p xs
any_reverse p [] = refl
any_reverse p (x ∷ xs) = ap (list_any p) (reverse-append (x ∷ []) xs) ∙ list_any-append p (reverse xs) (x ∷ []) ∙ grind (arith, any_reverse p xs)

pub is_some-last_effective : (xs : List Change) (id : ℕ) → is_some (last_effective xs id) ≡ list_any (names id) xs
is_some-last_effective xs id = some_if (find (names id) (reverse xs)) ∙ is_some-find (names id) (reverse xs) ∙ any_reverse (names id) xs
  where
    some_if : (o : Option Change) → is_some (option_map (λ change. change.kind) o) ≡ is_some o
    some_if o = grind arith

-- where a change has a say on the id, the id is among the named ones
named_among : (id : ℕ) (xs : List Change) → list_any (names id) xs ≡ true → list_any (λ m. id == m) (map (λ change. change.id) xs) ≡ true
named_among id [] e = e
named_among id (x ∷ xs) e = grind (arith, nat_tests, named_among id xs)

-- ---- what is decided by the last effective change alone
some_of_map : (o : Option Change) → is_some (option_map (λ change. change.kind) o) ≡ true → is_some o ≡ true
some_of_map o e = grind arith

pub last_effective-is_named : (xs : List Change) (id : ℕ) → is_some (last_effective xs id) ≡ true → list_any (λ m. id == m) (map (λ change. change.id) xs) ≡ true
last_effective-is_named xs id e = named_among id xs (sym (any_reverse (names id) xs) ∙ sym (is_some-find (names id) (reverse xs)) ∙ some_of_map _ e)

pub all_in : (t a : Bool) → (t ≡ true → a ≡ true) → (t && a) ≡ t
all_in t a f = grind arith

among : (decide : Option Kind → Bool → Bool) → ((was : Bool) → decide None was ≡ was) → (s : Ids) (xs : List Change) (q : ℕ) (o : Option Kind)
    → last_effective xs q ≡ o → decide o (has s q) ≡ true → list_any (λ m. q == m) (named_or_in xs s) ≡ true
among decide same s xs q None e d = grind (arith, list_any-append, or_right, has-ascending)
among decide same s xs q (Some k) e d = grind (arith, list_any-append, last_effective-is_named)

has-decided : (decide : ℕ → Option Kind → Bool → Bool) → ((id : ℕ) (was : Bool) → decide id None was ≡ was) → (s : Ids) (xs : List Change) (q : ℕ)
    → has (ids_where (λ id. decide id (last_effective xs id) (has s id)) (named_or_in xs s)) q ≡ decide q (last_effective xs q) (has s q)
has-decided decide same s xs q =
    has-ids_where (λ id. decide id (last_effective xs id) (has s id)) (named_or_in xs s) q
    ∙ all_in (decide q (last_effective xs q) (has s q)) (list_any (λ m. q == m) (named_or_in xs s)) (λ d. among (decide q) (same q) s xs q (last_effective xs q) refl d)

-- each id by itself
pub has-incoming_after : (c : Configuration) (xs : List Change) (q : ℕ) → has (result_of c xs).incoming q ≡ is_incoming_after (last_effective xs q) (has c.incoming q)
has-incoming_after c xs q = has-decided (λ _ o was. is_incoming_after o was) (λ _ _. refl) c.incoming xs q

pub has-learners_after : (c : Configuration) (xs : List Change) (q : ℕ) → has (result_of c xs).learners q ≡ is_learner_after (last_effective xs q) (has c.outgoing q) (has c.learners q)
has-learners_after c xs q = has-decided (λ id o was. is_learner_after o (has c.outgoing id) was) (λ _ _. refl) c.learners xs q

pub has-next_after : (c : Configuration) (xs : List Change) (q : ℕ) → has (result_of c xs).learners_next q ≡ is_next_after (last_effective xs q) (has c.outgoing q) (has c.learners_next q)
has-next_after c xs q = has-decided (λ id o was. is_next_after o (has c.outgoing id) was) (λ _ _. refl) c.learners_next xs q

-- ---- two configurations with the same members
pub configuration-by_members : (c d : Configuration)
    → ((q : ℕ) → has c.incoming q ≡ has d.incoming q) → c.outgoing ≡ d.outgoing
    → ((q : ℕ) → has c.learners q ≡ has d.learners q) → ((q : ℕ) → has c.learners_next q ≡ has d.learners_next q)
    → c.auto_leave ≡ d.auto_leave → c ≡ d
configuration-by_members c d incoming outgoing learners next auto_leave i = record {
  incoming = has-same_ids c.incoming d.incoming incoming i;
  outgoing = outgoing i;
  learners = has-same_ids c.learners d.learners learners i;
  learners_next = has-same_ids c.learners_next d.learners_next next i;
  auto_leave = auto_leave i;
}

-- ---- one change
abbrev pub only : Kind → ℕ → List Change
only kind id = record { kind = kind; id = id } ∷ []

-- a change has its say on its id alone
last_effective-only : (kind : Kind) (q id : ℕ) → id ≢ 0 → is_update kind ≡ false → last_effective (only kind id) q ≡ cond (q == id) (Some kind) None
last_effective-only kind q id apart e = grind (arith, nat_tests, last_effective-one)

-- the set with the id or without it
abbrev pub put_to : Bool → Ids → ℕ → Ids
put_to true s id = with_id s id
put_to false s id = without_id s id

has-put_to : (b : Bool) (s : Ids) (id q : ℕ) → has (put_to b s id) q ≡ cond (q == id) b (has s q)
has-put_to true s id q = grind (arith, has-with_id s id q)
has-put_to false s id q = grind (arith, has-without_id s id q)

set_made : (decide : ℕ → Option Kind → Bool → Bool) → ((id : ℕ) (was : Bool) → decide id None was ≡ was) → (kind : Kind) (s t : Ids) (id : ℕ)
    → id ≢ 0 → is_update kind ≡ false → t ≡ put_to (decide id (Some kind) (has s id)) s id
    → (q : ℕ) → has t q ≡ decide q (last_effective (only kind id) q) (has s q)
set_made decide same kind s t id apart e made q = grind (arith, nat_tests, has-put_to, last_effective-only)

pub incoming_of-change : (kind : Kind) (c : Configuration) (id : ℕ) → id ≢ 0 → is_update kind ≡ false
    → put_to (is_incoming_after (Some kind) (has c.incoming id)) c.incoming id ≡ (result_of c (only kind id)).incoming
incoming_of-change kind c id apart e =
    has-same_ids (put_to (is_incoming_after (Some kind) (has c.incoming id)) c.incoming id) (result_of c (only kind id)).incoming
    (λ q. set_made (λ _ o was. is_incoming_after o was) (λ _ _. refl) kind c.incoming (put_to (is_incoming_after (Some kind) (has c.incoming id)) c.incoming id) id apart e refl q
    ∙ sym (has-incoming_after c (only kind id) q))

-- a list that has no say
no_effect : (c : Configuration) (xs : List Change) → ((q : ℕ) → last_effective xs q ≡ None) → c ≡ result_of c xs
no_effect c xs empty_summary = grind (arith, configuration-by_members, has-incoming_after, has-learners_after, has-next_after)

pub result_of-none : (c : Configuration) → c ≡ result_of c []
result_of-none c = no_effect c [] (λ q. refl)

-- an update and a change of the id 0
no_names : (x : Change) (q : ℕ) → names q x ≡ false → last_effective (x ∷ []) q ≡ None
no_names x q e = last_effective-one x q ∙ ap (λ b. cond b (Some x.kind) None) e

pub result_of-update : (c : Configuration) (x : Change) → x.kind ≡ Update → c ≡ result_of c (x ∷ [])
result_of-update c x e = no_effect c (x ∷ []) (λ q. no_names x q (grind (arith, ap is_update e)))

pub result_of-zero : (c : Configuration) (x : Change) → x.id ≡ 0 → c ≡ result_of c (x ∷ [])
result_of-zero c x zero = no_effect c (x ∷ []) (λ q. no_names x q (grind (arith, nat_tests, zero)))

-- ---- one change after others
pub result_of-push : (c : Configuration) (xs : List Change) (x : Change) → result_of (result_of c xs) (x ∷ []) ≡ result_of c (xs ++ x ∷ [])
result_of-push c xs x =
    let now = result_of c xs in
    let all = xs ++ x ∷ [] in
    configuration-by_members (result_of now (x ∷ [])) (result_of c all)
    (λ q. grind (arith, has-incoming_after now (x ∷ []) q, has-incoming_after c xs q, has-incoming_after c all q, last_effective-push xs x q, last_effective-one x q))
    refl
    (λ q. grind (arith, has-learners_after now (x ∷ []) q, has-learners_after c xs q, has-learners_after c all q, last_effective-push xs x q, last_effective-one x q))
    (λ q. grind (arith, has-next_after now (x ∷ []) q, has-next_after c xs q, has-next_after c all q, last_effective-push xs x q, last_effective-one x q))
    refl
