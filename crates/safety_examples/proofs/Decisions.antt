-- Decisions that compute: what holds, or fails, at a concrete state is seen by computing a test.
use Rattle.std.proofs.Common.{◌≡◌, ℕ, ◌<◌, ◌≤◌, ◌⊎◌, Bool, true, false, not, ◌&&◌, ◌||◌, ◌==◌, List, [], ◌∷◌, Decides, true≢false, refl, sym, subst, ◌∙◌, inl, inr, arith, nat_eq, nat_lt}
use Rattle.std.specs.Prelude.{nat_le}
use Rattle.std.specs.List.{list_any}
use Rattle.std.proofs.lemmas.Bool.{cases_eq, and_parts}
use Rattle.std.proofs.lemmas.Bool.Decides.{nat_tests, not_from_Decides, Decides-eqb, Decides-ltb}
use Rattle.quorum_sets.specs.Ids.{has, ids_of}
use Rattle.quorum_sets.proofs.Offered.{has-ids_of}
use Rattle.raft_safety.specs.Cluster.{In}

-- a test whether a statement holds, and one whether it fails. Where neither is true, it is not decided
pub record Decision (P : Type 0) : Type 0 where
  pub holds : Bool
  pub fails : Bool
  pub shows : holds ≡ true → P
  pub refutes : fails ≡ true → ¬ P

-- ---- what is known
abbrev pub yes : {P : Type 0} → P → Decision P
yes p = record { holds = true; fails = false; shows = λ e. p; refutes = λ e. absurd (true≢false (sym e)) }

abbrev pub no : {P : Type 0} → ¬ P → Decision P
no n = record { holds = false; fails = true; shows = λ e. absurd (true≢false (sym e)); refutes = λ e. n }

abbrev pub undecided : {P : Type 0} → Decision P
undecided = record { holds = false; fails = false; shows = λ e. absurd (true≢false (sym e)); refutes = λ e. absurd (true≢false (sym e)) }

pub fails_from : {P : Type 0} → (test : Bool) → Decides test P → not test ≡ true → ¬ P
fails_from true tells e = absurd (true≢false (sym e))
fails_from false tells e = not_from_Decides false tells refl

abbrev pub by_test : {P : Type 0} → (test : Bool) → Decides test P → Decision P
by_test test tells = record { holds = test; fails = not test; shows = tells.0; refutes = fails_from test tells }

abbrev pub number_is : (a b : ℕ) → Decision (a ≡ b)
number_is a b = by_test (nat_eq a b) (Decides-eqb a b)

abbrev pub less : (a b : ℕ) → Decision (a < b)
less a b = by_test (nat_lt a b) (Decides-ltb a b)

pub tells_at_most : (a b : ℕ) → Decides (nat_le a b) (a ≤ b)
tells_at_most a b = (λ e. grind (arith, nat_tests), λ e. grind (arith, nat_tests))

abbrev pub at_most : (a b : ℕ) → Decision (a ≤ b)
at_most a b = by_test (nat_le a b) (tells_at_most a b)

-- ---- what follows
either_true : (a b : Bool) → (a || b) ≡ true → (a ≡ true) ⊎ (b ≡ true)
either_true true b e = inl refl
either_true false b e = inr e

abbrev pub like : {P Q : Type 0} → (P → Q) → (Q → P) → Decision P → Decision Q
like forth back d = record { holds = d.holds; fails = d.fails; shows = λ e. forth (d.shows e); refutes = λ e q. d.refutes e (back q) }

-- what follows from a statement holds if that does
abbrev pub so : {P Q : Type 0} → (P → Q) → Decision P → Decision Q
so forth d = record { holds = d.holds; fails = false; shows = λ e. forth (d.shows e); refutes = λ e. absurd (true≢false (sym e)) }

abbrev pub negated : {P : Type 0} → Decision P → Decision (¬ P)
negated d = record { holds = d.fails; fails = d.holds; shows = d.refutes; refutes = λ e n. n (d.shows e) }

module _ {P Q : Type 0} where
  pub shows_both : (p : Decision P) → (q : Decision Q) → (p.holds && q.holds) ≡ true → P × Q
  shows_both p q e = let parts = and_parts p.holds q.holds e in (p.shows parts.0, q.shows parts.1)

  pub refutes_both : (p : Decision P) → (q : Decision Q) → (p.fails || q.fails) ≡ true → ¬ (P × Q)
  refutes_both p q e pair = elim (either_true p.fails q.fails e) [ inl first ↦ p.refutes first pair.0 | inr second ↦ q.refutes second pair.1 ]

  abbrev pub both : Decision P → Decision Q → Decision (P × Q)
  both p q = record { holds = p.holds && q.holds; fails = p.fails || q.fails; shows = shows_both p q; refutes = refutes_both p q }

  pub shows_either : (p : Decision P) → (q : Decision Q) → (p.holds || q.holds) ≡ true → P ⊎ Q
  shows_either p q e = elim (either_true p.holds q.holds e) [ inl first ↦ inl (p.shows first) | inr second ↦ inr (q.shows second) ]

  pub refutes_either : (p : Decision P) → (q : Decision Q) → (p.fails && q.fails) ≡ true → ¬ (P ⊎ Q)
  refutes_either p q e either = grind (arith, and_parts)

  abbrev pub either : Decision P → Decision Q → Decision (P ⊎ Q)
  either p q = record { holds = p.holds || q.holds; fails = p.fails && q.fails; shows = shows_either p q; refutes = refutes_either p q }

  pub shows_implied : (p : Decision P) → (q : Decision Q) → (p.fails || q.holds) ≡ true → P → Q
  shows_implied p q e premise = elim (either_true p.fails q.holds e) [ inl first ↦ absurd (p.refutes first premise) | inr second ↦ q.shows second ]

  pub refutes_implied : (p : Decision P) → (q : Decision Q) → (p.holds && q.fails) ≡ true → ¬ (P → Q)
  refutes_implied p q e implied = let parts = and_parts p.holds q.fails e in q.refutes parts.1 (implied (p.shows parts.0))

  abbrev pub implied : Decision P → Decision Q → Decision (P → Q)
  implied p q = record { holds = p.fails || q.holds; fails = p.holds && q.fails; shows = shows_implied p q; refutes = refutes_implied p q }

-- ---- lists
module _ {X : Type 0} (P : X → Type 0) where
  pub all_more : (x : X) (xs : List X) → P x × ((y : X) → In y xs → P y) → (y : X) → In y (x ∷ xs) → P y
  all_more x xs parts y is = elim is [ inl same ↦ subst P (sym same) parts.0 | inr later ↦ parts.1 y later ]

  pub all_parts : (x : X) (xs : List X) → ((y : X) → In y (x ∷ xs) → P y) → P x × ((y : X) → In y xs → P y)
  all_parts x xs all = (all x (inl refl), λ y is. all y (inr is))

  abbrev pub all_in : ((x : X) → Decision (P x)) → (xs : List X) → Decision ((x : X) → In x xs → P x)
  all_in each [] = yes (λ x is. absurd is)
  all_in each (x ∷ xs) = like (all_more x xs) (all_parts x xs) (both (each x) (all_in each xs))

  pub some_more : (x : X) (xs : List X) → P x ⊎ ((y : X) × In y xs × P y) → (y : X) × In y (x ∷ xs) × P y
  some_more x xs (inl first) = (x, inl refl, first)
  some_more x xs (inr found) = (found.0, inr found.1, found.2)

  pub some_parts : (x : X) (xs : List X) → (y : X) × In y (x ∷ xs) × P y → P x ⊎ ((y : X) × In y xs × P y)
  some_parts x xs found = elim found.1 [ inl same ↦ inl (subst P same found.2) | inr later ↦ inr (found.0, later, found.2) ]

  abbrev pub some_in : ((x : X) → Decision (P x)) → (xs : List X) → Decision ((x : X) × In x xs × P x)
  some_in each [] = no (λ found. absurd found.1)
  some_in each (x ∷ xs) = like (some_more x xs) (some_parts x xs) (either (each x) (some_in each xs))

module _ {X : Type 0} (is : (a b : X) → Decision (a ≡ b)) where
  abbrev pub is_in : (x : X) → (xs : List X) → Decision (In x xs)
  is_in x [] = no (λ h. h)
  is_in x (y ∷ ys) = either (is x y) (is_in x ys)

  pub same_items : (x y : X) (xs ys : List X) → (x ≡ y) × (xs ≡ ys) → x ∷ xs ≡ y ∷ ys
  same_items x y xs ys parts i = parts.0 i ∷ parts.1 i

  pub items_of : (x y : X) (xs ys : List X) → x ∷ xs ≡ y ∷ ys → (x ≡ y) × (xs ≡ ys)
  items_of x y xs ys same = (cc, cc)

  pub nothing_is_no_list : (x : X) (xs : List X) → ¬ ([] ≡ x ∷ xs)
  nothing_is_no_list x xs same = cc

  abbrev pub list_is : (xs ys : List X) → Decision (xs ≡ ys)
  list_is [] [] = yes refl
  list_is [] (y ∷ ys) = no (nothing_is_no_list y ys)
  list_is (x ∷ xs) [] = no (λ same. nothing_is_no_list x xs (sym same))
  list_is (x ∷ xs) (y ∷ ys) = like (same_items x y xs ys) (items_of x y xs ys) (both (is x y) (list_is xs ys))

-- ---- each id of a set that is written as a list
module _ (P : ℕ → Type 0) where
  pub each_more : (x : ℕ) (xs : List ℕ) → P x × ((id : ℕ) → has (ids_of xs) id ≡ true → P id) → (id : ℕ) → has (ids_of (x ∷ xs)) id ≡ true → P id
  each_more x xs parts id is = elim (cases_eq id x) [
    | inl same ↦ subst P (sym same) parts.0
    | inr other ↦ (
        let one : ((id == x) || list_any (λ y. id == y) xs) ≡ true = sym (has-ids_of (x ∷ xs) id) ∙ is in
        let later : list_any (λ y. id == y) xs ≡ true = grind (arith, nat_tests) in
        parts.1 id (has-ids_of xs id ∙ later))
  ]

  pub each_parts : (x : ℕ) (xs : List ℕ) → ((id : ℕ) → has (ids_of (x ∷ xs)) id ≡ true → P id) → P x × ((id : ℕ) → has (ids_of xs) id ≡ true → P id)
  each_parts x xs each = (
    each x (has-ids_of (x ∷ xs) x ∙ grind (arith, nat_tests)),
    λ id is. each id (has-ids_of (x ∷ xs) id ∙ (let later : list_any (λ y. id == y) xs ≡ true = sym (has-ids_of xs id) ∙ is in grind (arith, nat_tests))),
  )

  pub none_of : (id : ℕ) → has (ids_of []) id ≡ true → P id
  none_of id is = absurd (true≢false (sym is ∙ has-ids_of [] id))

  abbrev pub each_id : ((id : ℕ) → Decision (P id)) → (ids : List ℕ) → Decision ((id : ℕ) → has (ids_of ids) id ≡ true → P id)
  each_id each [] = yes none_of
  each_id each (x ∷ xs) = like (each_more x xs) (each_parts x xs) (both (each x) (each_id each xs))
