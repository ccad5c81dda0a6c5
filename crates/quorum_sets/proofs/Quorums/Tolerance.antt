-- How many ids may be down: by trying every set of ids, and by counting.
use Rattle.std.proofs.Common.{◌≡◌, ℕ, ◌+◌, ◌-◌, ◌≤◌, Bool, true, false, cond, not, ◌&&◌, ◌||◌, List, [], ◌∷◌, length, take, drop, refl, sym, ap, subst, ◌∙◌, arith, length-take, length-drop, is_some, ◌↔◌}
use Rattle.std.specs.Prelude.{filter, Option, Some, None}
use Rattle.std.proofs.lemmas.Bool.{cases_Bool, both_ways, or_left, or_right, ltb-true, lt-ltb, leb-true, leb-false, cond-true, cond-false, cond_both}
use Rattle.std.proofs.lemmas.Bool.Decides.{nat_tests}
use Rattle.std.proofs.lemmas.List.Folds.{list_any-append}
use Rattle.std.proofs.lemmas.List.Sums.{sum_by-take-drop, count_by-le-length, length-filter}
use Rattle.quorum_sets.specs.Ids.{Ids, no_ids, has, ascending, size, ids_of, union, count_of, majority_passes, is_empty}
use Rattle.quorum_sets.specs.Voters.{Voters, majority, is_quorum}
use Rattle.quorum_sets.specs.Tolerance.{commits_without, Tolerates, IsMostDown, surplus, least, may_be_down, least_minority}
use Rattle.quorum_sets.proofs.IdSets.Members.{has-ascending, has-ids_of, has-ids_where, has-no_ids, ascending-no_ids}
use Rattle.quorum_sets.proofs.IdSets.Difference.{count_of-rest, count_of-within, size-with_id}
use Rattle.quorum_sets.proofs.IdSets.Union.{has-union}
use Rattle.quorum_sets.proofs.Quorums.Counts.{count_by-filter, count_by-le, count_by-mono, count_by-none, passes_in, passes_in-from, passes_in-parts}

-- ---- which voters are left
-- a majority rests on the ids of the set alone
majority_passes-alike : (p q : ℕ → Bool) (ids : Ids) → ((x : ℕ) → has ids x ≡ true → p x ≡ q x) → majority_passes p ids ≡ majority_passes q ids
majority_passes-alike p q ids alike = grind (arith, count_by-mono, has-ascending)

passes_in-alike : (voters : Voters) (p q : ℕ → Bool) → ((x : ℕ) → (has voters.incoming x || has voters.outgoing x) ≡ true → p x ≡ q x) → passes_in voters p ≡ passes_in voters q
passes_in-alike voters p q alike = grind (arith, majority_passes-alike, or_left, or_right)

abbrev pub stay : Ids → ℕ → Bool
stay uncounted id = not (has uncounted id)

-- the voters that are left are a quorum where, in both sets, more than half are counted
pub commits_without-majority_passes : (voters : Voters) (uncounted : Ids) → commits_without voters uncounted ≡ (majority_passes (stay uncounted) voters.incoming && (is_empty voters.outgoing || majority_passes (stay uncounted) voters.outgoing))
commits_without-majority_passes voters uncounted = grind (arith, passes_in-alike, has-ids_where, list_any-append, has-ascending)

-- any ids that have just the counted voters are a quorum where these commit
pub is_quorum-without : (voters : Voters) (uncounted ids : Ids) → ((q : ℕ) → (has voters.incoming q || has voters.outgoing q) ≡ true → has ids q ≡ not (has uncounted q))
    → is_quorum voters ids ≡ commits_without voters uncounted
is_quorum-without voters uncounted ids stays = passes_in-alike voters (has ids) (stay uncounted) stays ∙ sym (commits_without-majority_passes voters uncounted)

-- ---- a set, and how many are down
-- the counted ids of a set
abbrev counted : Ids → Ids → ℕ
counted ids uncounted = count_of (stay uncounted) ids

-- a majority stays where at most k are down and the counted ids are k more than a majority
majority_passes-lasts : (ids uncounted down : Ids) (k : ℕ) → majority (size ids) + k ≤ counted ids uncounted → size down ≤ k → majority_passes (stay (union down uncounted)) ids ≡ true
majority_passes-lasts ids uncounted down k enough few =
    let lost = count_by-le (stay uncounted) (stay (union down uncounted)) (has down) (ascending ids) (λ x here is. grind (arith, is, has-union down uncounted x)) in
    lt-ltb _ _ (omega (arith, lost, count_of-within ids down (count_of (has down) ids) refl))

size-ids_of : (xs : List ℕ) → size (ids_of xs) ≤ length xs
size-ids_of [] = omega (arith, ap length ascending-no_ids)
size-ids_of (x ∷ xs) = grind (arith, size-ids_of xs, size-with_id (ids_of xs) x)

-- where it stays whichever k are down, the first k of the counted ids among them, the counted ids are k more
counted-from_lasting : (ids uncounted : Ids) (k : ℕ) → ((down : Ids) → size down ≤ k → majority_passes (stay (union down uncounted)) ids ≡ true) → majority (size ids) + k ≤ counted ids uncounted
counted-from_lasting ids uncounted k lasts =
    let xs = filter (stay uncounted) (ascending ids) in
    let down = ids_of (take k xs) in
    let left = stay (union down uncounted) in
    let most = ltb-true _ _ (lasts down (omega (arith, size-ids_of (take k xs), length-take k xs))) in
    let kept = count_by-mono left (λ x. stay uncounted x && left x) (ascending ids) (λ x here is. grind (arith, is, has-union down uncounted x)) in
    let none = count_by-none left (take k xs) (λ x here. grind (arith, here, has-union down uncounted x, has-ids_of (take k xs) x)) in
    omega (arith, most, kept, count_by-filter left (stay uncounted) (ascending ids), none, sum_by-take-drop (λ x. cond (left x) 1 0) xs k, count_by-le-length left (drop k xs), length-drop k xs, length-filter (stay uncounted) (ascending ids))

-- ---- a pair of sets
-- both sets have counted ids that are k more than a majority
pub record HaveMore (voters : Voters) (uncounted : Ids) (k : ℕ) : Type 0 where
  pub incoming : majority (size voters.incoming) + k ≤ count_of (λ id. not (has uncounted id)) voters.incoming
  pub outgoing : is_empty voters.outgoing ≡ false → majority (size voters.outgoing) + k ≤ count_of (λ id. not (has uncounted id)) voters.outgoing

pub Tolerates-from_counts : (voters : Voters) (uncounted : Ids) (k : ℕ) → HaveMore voters uncounted k → Tolerates voters uncounted k
Tolerates-from_counts voters uncounted k more down few =
    commits_without-majority_passes voters (union down uncounted)
    ∙ passes_in-from voters (stay (union down uncounted)) (majority_passes-lasts voters.incoming uncounted down k more.incoming few)
    (λ some_voter. majority_passes-lasts voters.outgoing uncounted down k (more.outgoing some_voter) few)

pub counts-from_Tolerates : (voters : Voters) (uncounted : Ids) (k : ℕ) → Tolerates voters uncounted k → HaveMore voters uncounted k
counts-from_Tolerates voters uncounted k tolerates =
    let parts = λ (down : Ids) (few : size down ≤ k). passes_in-parts voters (stay (union down uncounted)) (sym (commits_without-majority_passes voters (union down uncounted)) ∙ tolerates down few) in
    record {
      incoming = counted-from_lasting voters.incoming uncounted k (λ down few. (parts down few).0);
      outgoing = λ some_voter. counted-from_lasting voters.outgoing uncounted k (λ down few. (parts down few).1 some_voter);
    }

-- ---- the answer by counting
-- at most this many, or not even 0
abbrev Allows : Option ℕ → ℕ → Type 0
Allows None k = ⊥
Allows (Some n) k = k ≤ n

Allows-least : (a b : Option ℕ) (k : ℕ) → Allows (least a b) k ↔ (Allows a k × Allows b k)
Allows-least None b k = (λ h. absurd h, λ h. h.0)
Allows-least (Some a) None k = (λ h. absurd h, λ h. h.1)
Allows-least (Some a) (Some b) k = (λ h. (omega arith, omega arith), λ h. omega (arith, h.0, h.1))

Allows-surplus : (ids uncounted : Ids) (k : ℕ) → Allows (surplus ids uncounted) k ↔ (majority (size ids) + k ≤ counted ids uncounted)
Allows-surplus ids uncounted k = grind (arith, cond_both, leb-true, leb-false)

Allows-may_be_down : (voters : Voters) (uncounted : Ids) (k : ℕ) → Allows (may_be_down voters uncounted) k ↔ HaveMore voters uncounted k
Allows-may_be_down voters uncounted k =
    let first = Allows-surplus voters.incoming uncounted k in
    let second = Allows-surplus voters.outgoing uncounted k in
    let both = Allows-least (surplus voters.incoming uncounted) (surplus voters.outgoing uncounted) k in
    cond_both (is_empty voters.outgoing) _ _ (λ a. Allows a k ↔ HaveMore voters uncounted k)
    (λ single. (λ h. record { incoming = first.0 h; outgoing = λ some_voter. absurd (both_ways _ some_voter single) }, λ more. first.1 more.incoming))
    (λ joint. (λ h. record { incoming = first.0 (both.0 h).0; outgoing = λ some_voter. second.0 (both.0 h).1 }, λ more. both.1 (first.1 more.incoming, second.1 (more.outgoing joint))))

IsMostDown-from_Allows : (voters : Voters) (uncounted : Ids) (answer : Option ℕ) → ((k : ℕ) → Allows answer k ↔ HaveMore voters uncounted k) → IsMostDown voters uncounted answer
IsMostDown-from_Allows voters uncounted None by_count = record { tolerated = tt; greatest = tt; none = λ tolerates. (by_count 0).1 (counts-from_Tolerates voters uncounted 0 tolerates) }
IsMostDown-from_Allows voters uncounted (Some k) by_count = record {
  tolerated = Tolerates-from_counts voters uncounted k ((by_count k).0 (omega arith));
  greatest = λ other tolerates. (by_count other).1 (counts-from_Tolerates voters uncounted other tolerates);
  none = tt;
}

pub IsMostDown-may_be_down : (voters : Voters) (uncounted : Ids) → IsMostDown voters uncounted (may_be_down voters uncounted)
IsMostDown-may_be_down voters uncounted = IsMostDown-from_Allows voters uncounted _ (Allows-may_be_down voters uncounted)

-- an answer that is the one by counting
pub IsMostDown-from_counted : (voters : Voters) (uncounted : Ids) (answer : Option ℕ) → answer ≡ may_be_down voters uncounted → IsMostDown voters uncounted answer
IsMostDown-from_counted voters uncounted answer is = let P : Option ℕ → Type 0 = IsMostDown voters uncounted in subst P (sym is) (IsMostDown-may_be_down voters uncounted)

tolerates_none : (voters : Voters) (uncounted : Ids) (k : ℕ) → Tolerates voters uncounted k → Tolerates voters uncounted 0
tolerates_none voters uncounted k tolerates = λ down few. tolerates down (omega arith)

pub IsMostDown-alone : (voters : Voters) (uncounted : Ids) (a b : Option ℕ) → IsMostDown voters uncounted a → IsMostDown voters uncounted b → a ≡ b
IsMostDown-alone voters uncounted None None a_is b_is = refl
IsMostDown-alone voters uncounted None (Some b) a_is b_is = absurd (a_is.none (tolerates_none voters uncounted b b_is.tolerated))
IsMostDown-alone voters uncounted (Some a) None a_is b_is = absurd (b_is.none (tolerates_none voters uncounted a a_is.tolerated))
IsMostDown-alone voters uncounted (Some a) (Some b) a_is b_is = let same : a ≡ b = omega (arith, b_is.greatest a a_is.tolerated, a_is.greatest b b_is.tolerated) in ap Some same

-- ---- where every id counts
pub counted-all : (ids : Ids) → count_of (λ id. not (has no_ids id)) ids ≡ size ids
counted-all ids = omega (arith, count_of-rest ids no_ids, count_by-none (has no_ids) (ascending ids) (λ x here. has-no_ids x))

surplus-all : (ids : Ids) → is_empty ids ≡ false → surplus ids no_ids ≡ Some (size ids - majority (size ids))
surplus-all ids some_voter = grind (arith, nat_tests, some_voter, counted-all ids)

pub may_be_down-all : (voters : Voters) → is_empty voters.incoming ≡ false → may_be_down voters no_ids ≡ Some (least_minority voters)
may_be_down-all voters some_voter = grind (arith, cases_Bool, cond-true, surplus-all, cond-false)

-- ---- where no id votes
pub may_be_down-no_voter : (voters : Voters) (uncounted : Ids) → is_empty voters.incoming ≡ true → may_be_down voters uncounted ≡ None
may_be_down-no_voter voters uncounted no_voter = grind (arith, nat_tests, count_by-le-length, cond_both)

-- ---- whether the voters commit
is_some-surplus : (ids uncounted : Ids) → majority_passes (stay uncounted) ids ≡ is_some (surplus ids uncounted)
is_some-surplus ids uncounted = grind (arith, nat_tests)

is_some-least : (single : Bool) (a b : Option ℕ) → (is_some a && (single || is_some b)) ≡ is_some (cond single a (least a b))
is_some-least true a b = grind arith
is_some-least false (Some a) (Some b) = refl
is_some-least false (Some a) None = refl
is_some-least false None b = refl

pub commits_without-is_some : (voters : Voters) (uncounted : Ids) → commits_without voters uncounted ≡ is_some (may_be_down voters uncounted)
commits_without-is_some voters uncounted =
    commits_without-majority_passes voters uncounted
    ∙ (λ i. is_some-surplus voters.incoming uncounted i && (is_empty voters.outgoing || is_some-surplus voters.outgoing uncounted i))
    ∙ is_some-least (is_empty voters.outgoing) (surplus voters.incoming uncounted) (surplus voters.outgoing uncounted)
