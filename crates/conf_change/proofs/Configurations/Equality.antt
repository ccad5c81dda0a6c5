-- Sets and configurations that are found to be the same are equal.
use Rattle.std.proofs.Common.{◌≡◌, ℕ, ◌<◌, suc, max, Bool, true, false, cond, not, ◌==◌, List, [], ◌∷◌, length, get_or, slice_get, refl, sym, ap, subst, ◌∙◌, arith, eqb-true, eq-eqb}
use Rattle.std.specs.Prelude.{◌↔◌, Some, count_by}
use Rattle.std.specs.Bool.{beq, MatchBool}
use Rattle.std.specs.List.{AllWithin, HoldsAt, list_any, range_with_len}
use Rattle.std.proofs.lemmas.Bool.{not_from_true, false_from_ne_true}
use Rattle.std.proofs.lemmas.List.FromFn.{get_or-range_with_len, length-range_with_len}
use Rattle.std.proofs.lemmas.List.Sums.{sum_by-cons}
use Rattle.std.proofs.lemmas.Bool.Decides.{nat_tests}
use Rattle.quorum_sets.specs.Ids.{Ids, has, ascending, size}
use Rattle.quorum_sets.proofs.Offered.{count_by-none, has-ascending, has-same_ids}
use Rattle.conf_change.specs.Configuration.{Configuration, is_same_set, is_same}

-- ---- a count of 0
none_counted : (test : ℕ → Bool) (xs : List ℕ) → count_by test xs ≡ 0 → (q : ℕ) → list_any (λ x. q == x) xs ≡ true → test q ≡ false
none_counted test [] none q here = cc
none_counted test (x ∷ xs) none q here = grind (arith, nat_tests, sum_by-cons (λ y. cond (test y) 1 0) x xs, none_counted test xs, eqb-true q x)

-- ---- sets
alike : (a b : Bool) → (a ≡ true → not b ≡ false) → (b ≡ true → not a ≡ false) → a ≡ b
alike a b f g = grind arith

-- each id of the first set is in the second
each_in : (a b : Ids) → count_by (λ id. not (has b id)) (ascending a) ≡ 0 → (q : ℕ) → has a q ≡ true → not (has b q) ≡ false
each_in a b none q here = none_counted (λ id. not (has b id)) (ascending a) none q (sym (has-ascending a q) ∙ here)

pub is_same_set-equal : (a b : Ids) → is_same_set a b ≡ true → a ≡ b
is_same_set-equal a b e = grind (arith, eqb-true, has-same_ids, alike, each_in)

pub is_same_set-refl : (a : Ids) → is_same_set a a ≡ true
is_same_set-refl a = grind (arith, count_by-none, not_from_true, has-ascending, eq-eqb)

-- ---- lists of ids that agree at each index
same_items : (xs ys : List ℕ) → ((k : ℕ) → k < max (length xs) (length ys) → slice_get xs k ≡ slice_get ys k) → xs ≡ ys
same_items [] [] same = refl
same_items [] (y ∷ ys) same = let first = same 0 (omega arith) in cc
same_items (x ∷ xs) [] same = let first = same 0 (omega arith) in cc
same_items (x ∷ xs) (y ∷ ys) same =
    let first : x ≡ y = let found : Some x ≡ Some y = same 0 (omega arith) in cc in
    λ i. first i ∷ same_items xs ys (λ k below. same (suc k) (omega arith)) i

-- a test of each index finds whether the sets of two lists are the same
pub is_same_set-by_index : (a b : Ids) (end : ℕ) (found : Bool) → end ≡ max (size a) (size b)
    → MatchBool found (AllWithin (λ k. slice_get (ascending a) k ≡ slice_get (ascending b) k) (range_with_len 0 end) 0 (length (range_with_len 0 end)))
    ((k : ℕ) × (k < length (range_with_len 0 end)) × HoldsAt (λ j. slice_get (ascending a) j ≡ slice_get (ascending b) j → ⊥) (range_with_len 0 end) k)
    → found ≡ is_same_set a b
is_same_set-by_index a b end true is each =
    let same = same_items (ascending a) (ascending b) (λ k below.
    let within : k < end = omega arith in
    subst (λ j. slice_get (ascending a) j ≡ slice_get (ascending b) j) (get_or-range_with_len 0 end k 0 within ∙ omega arith) (each k 0 (omega arith) (rw (length-range_with_len 0 end) within))) in
    sym (subst (λ s. is_same_set a s ≡ true) (has-same_ids a b (λ q. has-ascending a q ∙ ap (list_any (λ x. q == x)) same ∙ sym (has-ascending b q))) (is_same_set-refl a))
is_same_set-by_index a b end false is other =
    sym (false_from_ne_true (is_same_set a b) (λ same. other.2 0 (ap (λ s. slice_get (ascending s) (get_or (range_with_len 0 end) other.0 0)) (is_same_set-equal a b same))))

-- ---- configurations
same_flags : (a b : Bool) → beq a b ≡ true → a ≡ b
same_flags a b e = grind arith

pub is_same-equal : (a b : Configuration) → is_same a b ≡ true → a ≡ b
is_same-equal a b e =
    λ i. record {
      incoming = is_same_set-equal a.incoming b.incoming (grind arith) i;
      outgoing = is_same_set-equal a.outgoing b.outgoing (grind arith) i;
      learners = is_same_set-equal a.learners b.learners (grind arith) i;
      learners_next = is_same_set-equal a.learners_next b.learners_next (grind arith) i;
      auto_leave = same_flags a.auto_leave b.auto_leave (grind arith) i;
    }

is_same-refl : (c : Configuration) → is_same c c ≡ true
is_same-refl c = grind (arith, is_same_set-refl c.incoming, is_same_set-refl c.outgoing, is_same_set-refl c.learners, is_same_set-refl c.learners_next)

pub is_same-is_equality : (a b : Configuration) → (is_same a b ≡ true) ↔ (a ≡ b)
is_same-is_equality a b = grind (arith, is_same-equal, is_same-refl)

-- a test that answers as this one decides whether they are equal
pub is_same-by_test : (a b : Configuration) (found : Bool) → found ≡ is_same a b → (found ≡ true) ↔ (a ≡ b)
is_same-by_test a b found e = let same = is_same-is_equality a b in (λ yes. same.0 (sym e ∙ yes), λ equal. e ∙ same.1 equal)
