-- What is wrong with a configuration or a saved form is there exactly if it is not valid.
use Rattle.std.proofs.lemmas.Grind.{common_steps}
use Rattle.std.proofs.Common.{◌≡◌, ℕ, ◌<◌, ◌≤◌, Bool, true, not, ◌&&◌, ◌||◌, List, [], ◌∷◌, length, refl, sym, ap, subst, ◌∙◌, eq-eqb, eqb-true, arith}
use Rattle.std.specs.Prelude.{Option, Some, None, Result, Ok, Err, ◌↔◌, find, option_map, is_some}
use Rattle.std.specs.Option.{option_or}
use Rattle.std.specs.List.{list_all}
use Rattle.std.proofs.Math.Bool.{not-not}
use Rattle.std.proofs.lemmas.Option.{cond_some}
use Rattle.quorum_sets.specs.Ids.{has, ascending, size, ids_of}
use Rattle.quorum_sets.proofs.Offered.{ascending-no_ids, size-with_id}
use Rattle.conf_change.specs.Configuration.{Configuration, keeps, is_valid, invariants, first_broken}
use Rattle.conf_change.specs.ConfState.{ConfStateLists, Describes, names_once, names_each_once, named_by}
use Rattle.conf_change.specs.Described.{described}
use Rattle.conf_change.specs.Violation.{violation_of, first_repeat, repeat_in, unless_violated, valid_of}
use Rattle.conf_change.specs.declared.config.Invariant.{Invariant}
use Rattle.conf_change.specs.declared.config.Invariant.TheVariants.{ZeroId, NextNotOutgoing, NextAndIncoming, LearnerAndVoter, NotJointButNext, NotJointButAutoLeave}
use Rattle.conf_change.specs.declared.violation.Violation.{Violation}
use Rattle.conf_change.specs.declared.violation.Violation.TheVariants.{ListedTwice}
use Rattle.conf_change.specs.declared.violation.Violation.TheVariants as violated
use Rattle.conf_change.proofs.SetWalks.FindId.{list_all-find}
use Rattle.conf_change.proofs.Configurations.Validity.{next_is_joint}
use Rattle.conf_change.proofs.Configurations.DescribedByLists.{Describes-from_names_each_once, described-from_Describes}

-- ---- the first broken invariant
-- no id is in one of two sets exactly if none is in either
both_apart : (a b : ℕ → Bool) (xs : List ℕ) → (list_all (λ x. not (a x)) xs && list_all (λ x. not (b x)) xs) ≡ not (is_some (find (λ x. a x || b x) xs))
both_apart a b [] = refl
both_apart a b (x ∷ xs) = grind (arith, both_apart a b xs)

-- the invariant that a violation breaks
abbrev pub broken_by : Violation → Invariant
broken_by (ListedTwice _) = ZeroId
broken_by violated.ZeroId = ZeroId
broken_by (violated.NextNotOutgoing _) = NextNotOutgoing
broken_by (violated.NextAndIncoming _) = NextAndIncoming
broken_by (violated.LearnerAndVoter _) = LearnerAndVoter
broken_by violated.NotJointButAutoLeave = NotJointButAutoLeave

pub first_broken-by_violation : (c : Configuration) → first_broken c ≡ option_map broken_by (violation_of c)
first_broken-by_violation c =
    let outside = find (λ id. not (has c.outgoing id)) (ascending c.learners_next) in
    let within : keeps c NextNotOutgoing ≡ not (is_some outside) = list_all-find (has c.outgoing) _ (ascending c.learners_next) (λ id. sym (not-not (has c.outgoing id))) in
    let apart : keeps c NextAndIncoming ≡ not (is_some (find (has c.incoming) (ascending c.learners_next))) = list_all-find _ (has c.incoming) (ascending c.learners_next) (λ id. refl) in
    let learns : keeps c LearnerAndVoter ≡ not (is_some (find (λ id. has c.incoming id || has c.outgoing id) (ascending c.learners))) = both_apart (has c.incoming) (has c.outgoing) (ascending c.learners) in
    let joint : keeps c NextNotOutgoing ≡ true → keeps c NotJointButNext ≡ true = next_is_joint c in
    grind (arith, within, apart, learns, joint)

-- a configuration is valid exactly if it has no violation
pub is_valid-by_violation : (c : Configuration) → is_valid c ≡ not (is_some (violation_of c))
is_valid-by_violation c =
    list_all-find (keeps c) (λ i. not (keeps c i)) invariants (λ i. sym (not-not (keeps c i)))
    ∙ ap (λ o. not (is_some o)) (first_broken-by_violation c) ∙ same (violation_of c)
  where
    same : (o : Option Violation) → not (is_some (option_map broken_by o)) ≡ not (is_some o)
    same o = grind arith

none-from_is_valid : (c : Configuration) → is_valid c ≡ true → violation_of c ≡ None
none-from_is_valid c valid = grind (arith, is_valid-by_violation c)

is_valid-from_none : (c : Configuration) → violation_of c ≡ None → is_valid c ≡ true
is_valid-from_none c none = is_valid-by_violation c ∙ ap (λ o. not (is_some o)) none

-- the first broken invariant is that of the violation
pub first_exactly : (c : Configuration) (violation : Violation) (result : Result (Unit {0}) Invariant) → Some violation ≡ violation_of c → result ≡ Err (broken_by violation)
    → (broken : Invariant) → (result ≡ Err broken) ↔ (first_broken c ≡ Some broken)
first_exactly c violation result is made broken = grind (arith, first_broken-by_violation)

pub no_violation : (c : Configuration) (o : Option Violation) → o ≡ violation_of c → (o ≡ None) ↔ (is_valid c ≡ true)
no_violation c o is = (λ none. is_valid-by_violation c ∙ ap (λ o. not (is_some o)) (sym is ∙ none), λ valid. is ∙ none-from_is_valid c valid)

-- ---- lists that name an id twice
size-few : (list : List ℕ) → size (ids_of list) ≤ length list
size-few [] = let none : size (ids_of []) ≡ 0 = ap length ascending-no_ids in omega (arith, none)
size-few (x ∷ list) = grind (arith, size-few list, size-with_id (ids_of list) x)

-- no id is named again
size-once : (list : List ℕ) → first_repeat list ≡ None → size (ids_of list) ≡ length list
size-once [] e = ap length ascending-no_ids
size-once (x ∷ list) e = grind (arith, size-once list, size-with_id (ids_of list) x)

-- one is
size-twice : (list : List ℕ) (id : ℕ) → first_repeat list ≡ Some id → size (ids_of list) < length list
size-twice [] id e = cc
size-twice (x ∷ list) id e = grind (arith, size-few list, size-twice list id, size-with_id (ids_of list) x)

names_once-from_none : (list : List ℕ) → first_repeat list ≡ None → names_once list ≡ true
names_once-from_none list e = eq-eqb (length list) (size (ids_of list)) (sym (size-once list e))

none-from_names_once : (list : List ℕ) → names_once list ≡ true → first_repeat list ≡ None
none-from_names_once list once = grind (arith, eqb-true, once, size-twice)

-- a form that is described names no id twice, and its configuration is the one that it names
pub record IsNamed (saved : ConfStateLists) (c : Configuration) : Type 0 where
  pub named : named_by saved ≡ c
  pub once : repeat_in saved ≡ None

pub IsNamed-from_described : (saved : ConfStateLists) (c : Configuration) → described saved ≡ Some c → IsNamed saved c
IsNamed-from_described saved c e =
    let parts = cond_some (names_each_once saved) (named_by saved) c e in
    record {
      named = parts.1;
      once = grind (arith, parts.0, none-from_names_once saved.voters, none-from_names_once saved.voters_outgoing, none-from_names_once saved.learners, none-from_names_once saved.learners_next);
    }

names_each_once-from_none : (saved : ConfStateLists) → repeat_in saved ≡ None → names_each_once saved ≡ true
names_each_once-from_none saved e = grind (arith, names_once-from_none)

-- one that is not described names an id twice
pub repeat_in-there : (saved : ConfStateLists) → described saved ≡ None → repeat_in saved ≡ None → ⊥
repeat_in-there saved none e = grind (arith, names_each_once-from_none)

-- ---- the valid configuration of a form
pub valid_of-described : (saved : ConfStateLists) (c : Configuration) → described saved ≡ Some c → valid_of saved ≡ unless_violated c (violation_of c)
valid_of-described saved c e = grind (arith, common_steps, IsNamed-from_described)

-- it is the one that the form describes, and is valid
pub record IsValidOf (saved : ConfStateLists) (c : Configuration) : Type 0 where
  pub describes : Describes saved c
  pub valid : is_valid c ≡ true

valid_parts : (repeat : Option ℕ) (violation : Option Violation) (d c : Configuration) → unless_violated d (option_or (option_map ListedTwice repeat) violation) ≡ Ok c
    → (repeat ≡ None) × (violation ≡ None) × (d ≡ c)
valid_parts repeat violation d c e = (grind arith, grind arith, grind arith)

pub IsValidOf-from_valid_of : (saved : ConfStateLists) (c : Configuration) → valid_of saved ≡ Ok c → IsValidOf saved c
IsValidOf-from_valid_of saved c e =
    let parts = valid_parts (repeat_in saved) (violation_of (named_by saved)) (named_by saved) c e in
    subst (IsValidOf saved) parts.2 (record {
      describes = Describes-from_names_each_once saved (names_each_once-from_none saved parts.0);
      valid = is_valid-from_none (named_by saved) parts.1;
    })

pub valid_of-from_Describes : (saved : ConfStateLists) (c : Configuration) → Describes saved c → is_valid c ≡ true → valid_of saved ≡ Ok c
valid_of-from_Describes saved c is valid =
    valid_of-described saved c (described-from_Describes saved c is) ∙ ap (unless_violated c) (none-from_is_valid c valid)

-- what a saved form or a line names is valid
pub is_valid-from_valid_of : (saved : ConfStateLists) (c : Configuration) → valid_of saved ≡ Ok c → is_valid c ≡ true
is_valid-from_valid_of saved c e = (IsValidOf-from_valid_of saved c e).valid
