-- Members that are read one after another.
use Rattle.std.proofs.Common.{◌≡◌, ℕ, ◌+◌, ◌<◌, ◌≤◌, Bool, true, false, List, [], ◌∷◌, ◌++◌, length, map, take, get_or, sym, ap, ◌∙◌, arith}
use Rattle.std.specs.Prelude.{◌&&◌}
use Rattle.std.specs.List.{list_all, slice_index}
use Rattle.std.proofs.lemmas.List.{map_more, take_all}
use Rattle.std.proofs.lemmas.List.FromFn.{get_or-range_with_len, length-range_with_len}
use Rattle.std.proofs.lemmas.List.Folds.{list_all_at, list_all_more}
use Rattle.conf_driver.specs.declared.view.MemberView.{MemberView}
use Rattle.confscript_c.specs.Views.{member_in, member_indices, members_in}

-- a member that is counted
counted : (numbers : List ℕ) (k : ℕ) → k < slice_index numbers 5 → get_or (member_indices numbers) k 0 ≡ k
counted numbers k within = omega (arith, get_or-range_with_len 0 (slice_index numbers 5) k 0 within)

in_range : (numbers : List ℕ) (k : ℕ) → k < slice_index numbers 5 → k < length (member_indices numbers)
in_range numbers k within = omega (arith, length-range_with_len 0 (slice_index numbers 5))

all_taken : (numbers : List ℕ) (k : ℕ) → slice_index numbers 5 ≤ k → take k (member_indices numbers) ≡ member_indices numbers
all_taken numbers k past = take_all k (member_indices numbers) (omega (arith, length-range_with_len 0 (slice_index numbers 5)))

-- ---- a test of each member, as that of its flag or its id
-- one more member passes
pub passes_more : (test : ℕ → Bool) (numbers : List ℕ) (k : ℕ) → k < slice_index numbers 5 → list_all test (take k (member_indices numbers)) ≡ true
    → test k ≡ true → list_all test (take (k + 1) (member_indices numbers)) ≡ true
passes_more test numbers k within so_far passes =
    list_all_more test (member_indices numbers) k 0 (in_range numbers k within)
    ∙ ap (λ b. b && test (get_or (member_indices numbers) k 0)) so_far
    ∙ ap test (counted numbers k within) ∙ passes

-- a member does not
pub fails_one : (test : ℕ → Bool) (numbers : List ℕ) (k : ℕ) → k < slice_index numbers 5 → test k ≡ false → list_all test (member_indices numbers) ≡ false
fails_one test numbers k within fails = list_all_at test (member_indices numbers) k 0 (in_range numbers k within) (ap test (counted numbers k within) ∙ fails)

-- all do
pub passes_all : (test : ℕ → Bool) (numbers : List ℕ) (k : ℕ) → slice_index numbers 5 ≤ k → list_all test (take k (member_indices numbers)) ≡ true → list_all test (member_indices numbers) ≡ true
passes_all test numbers k past so_far = sym (ap (list_all test) (all_taken numbers k past)) ∙ so_far

-- ---- members
-- one more member
pub members_more : (numbers : List ℕ) (k : ℕ) (so_far : List MemberView) → k < slice_index numbers 5 → so_far ≡ map (member_in numbers) (take k (member_indices numbers))
    → so_far ++ member_in numbers k ∷ [] ≡ map (member_in numbers) (take (k + 1) (member_indices numbers))
members_more numbers k so_far within is =
    ap (λ members. members ++ member_in numbers k ∷ []) is
    ∙ sym (map_more (member_in numbers) (member_indices numbers) k 0 (in_range numbers k within)
    ∙ ap (λ member. map (member_in numbers) (take k (member_indices numbers)) ++ member_in numbers member ∷ []) (counted numbers k within))

-- all members
pub members_all : (numbers : List ℕ) (k : ℕ) (so_far : List MemberView) → slice_index numbers 5 ≤ k → so_far ≡ map (member_in numbers) (take k (member_indices numbers))
    → so_far ≡ members_in numbers
members_all numbers k so_far past is = is ∙ ap (map (member_in numbers)) (all_taken numbers k past)
