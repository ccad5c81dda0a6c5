-- Small cases, worked out by hand.
use Rattle.std.proofs.Common.{◌≡◌, ℕ, true, false, List, [], ◌∷◌, refl, ◌^◌, ◌-◌, cond}
use Rattle.std.specs.Prelude.{Some, None, codes}
use Rattle.std.specs.Ordering.{nat_cmp, eq_by_cmp}
use Rattle.std.specs.Cmp.{nat_cmp_total}
use Rattle.std.specs.Fmt.{digits}
use Rattle.std.specs.FinMap as finite
use Rattle.quorum_sets.specs.Ids.{Ids, ids_of, difference_count}
use Rattle.quorum_sets.specs.Voters.{pair, is_quorum, majority}
use Rattle.quorum_sets.specs.Committed.{Acks, IsCommitted, IsJointCommitted, committed_index, joint_committed_index}
use Rattle.quorum_sets.specs.Chart.{chart_text}
use Rattle.quorum_sets.specs.Votes.{Votes, vote_result, joint_vote_result}
use Rattle.quorum_sets.specs.declared.voting.VoteResult.TheVariants.{VotePending, VoteLost, VoteWon}
use Rattle.quorum_sets.proofs.IdSets.WrittenOut.{entries-insert_id, entries-empty, written_out}

-- ---- what lets a finite map of written numbers compute
get_in : {X : Type 0} (map : finite.FinMap nat_cmp X) (k : ℕ) (v : X) (q : ℕ) → finite.get (finite.insert map k v) q ≡ cond (eq_by_cmp nat_cmp q k) (Some v) (finite.get map q)
get_in map k v q = finite.get-insert nat_cmp_total map k v q

get_unknown : {X : Type 0} (q : ℕ) → finite.get (finite.empty {K = ℕ} {X = X} {R = nat_cmp}) q ≡ None
get_unknown q = finite.get-empty nat_cmp q

-- for acknowledged indexes and votes too
ruleset of_maps = (entries-insert_id, entries-empty, get_in, get_unknown)

abbrev acks_of : List (ℕ × ℕ) → Acks
acks_of entries = finite.from_entries entries

abbrev no_voter : Ids
no_voter = ids_of []

abbrev three : Ids
three = ids_of (1 ∷ 2 ∷ 3 ∷ [])

abbrev four : Ids
four = ids_of (1 ∷ 2 ∷ 3 ∷ 4 ∷ [])

abbrev nine : Ids
nine = ids_of (1 ∷ 2 ∷ 3 ∷ 4 ∷ 5 ∷ 6 ∷ 7 ∷ 8 ∷ 9 ∷ [])

-- ---- quorums
majorities : (majority 0 ≡ 1) × (majority 1 ≡ 1) × (majority 2 ≡ 2) × (majority 3 ≡ 2) × (majority 4 ≡ 3)
majorities = (refl, refl, refl, refl, refl)

-- the pair without voters has no quorum
no_quorum_of_no_voter : is_quorum (pair no_voter no_voter) three ≡ false
no_quorum_of_no_voter = simp written_out refl

-- half of an even set is no quorum of it
half_is_no_quorum : is_quorum (pair four no_voter) (ids_of (1 ∷ 2 ∷ [])) ≡ false
half_is_no_quorum = simp written_out refl

-- a quorum of the incoming voters alone is none of the pair
quorum_of_one_set : is_quorum (pair three (ids_of (4 ∷ []))) three ≡ false
quorum_of_one_set = simp written_out refl

quorum_of_both_sets : is_quorum (pair three (ids_of (4 ∷ []))) (ids_of (1 ∷ 2 ∷ 4 ∷ [])) ≡ true
quorum_of_both_sets = simp written_out refl

two_differ : difference_count three (ids_of (2 ∷ 3 ∷ 4 ∷ [])) ≡ 2
two_differ = simp written_out refl

-- ---- committed indexes
-- 1 at 5 and 3 at 7 of three
abbrev by_two : Acks
by_two = acks_of ((1, 5) ∷ (3, 7) ∷ [])

committed_five : committed_index three by_two ≡ 5
committed_five = simp of_maps refl

-- the same by counting
counted_five : IsCommitted three by_two 5
counted_five = record {
  of_empty = λ empty. (let no : false ≡ true = simp of_maps at empty in cc);
  reached = λ some. simp of_maps refl;
  not_passed = λ some. simp of_maps refl;
}

counted_by_no_voter : IsCommitted no_voter by_two (2 ^ 64 - 1)
counted_by_no_voter = record {
  of_empty = λ empty. refl;
  reached = λ some. (let no : true ≡ false = simp of_maps at some in cc);
  not_passed = λ some. (let no : true ≡ false = simp of_maps at some in cc);
}

counted_of_both : IsJointCommitted (pair three no_voter) by_two 5
counted_of_both = record {
  of_incoming = 5;
  of_outgoing = 2 ^ 64 - 1;
  incoming = counted_five;
  outgoing = counted_by_no_voter;
  smaller = refl;
}

-- each id at its own number
abbrev by_all : Acks
by_all = acks_of ((1, 1) ∷ (2, 2) ∷ (3, 3) ∷ (4, 4) ∷ (5, 5) ∷ (6, 6) ∷ (7, 7) ∷ (8, 8) ∷ (9, 9) ∷ [])

committed_of_nine : committed_index nine by_all ≡ 5
committed_of_nine = simp of_maps refl

-- an even set: the definition that takes the position n / 2 has 3 here
committed_of_four : committed_index four by_all ≡ 2
committed_of_four = simp of_maps refl

committed_by_no_voter : committed_index no_voter by_two ≡ 2 ^ 64 - 1
committed_by_no_voter = simp of_maps refl

joint_with_no_voter : joint_committed_index (pair three no_voter) by_two ≡ 5
joint_with_no_voter = simp of_maps refl

joint_of_nine_and_one : joint_committed_index (pair nine (ids_of (1 ∷ []))) by_all ≡ 1
joint_of_nine_and_one = simp of_maps refl

-- 2 has acknowledged nothing
joint_with_unknown : joint_committed_index (pair (ids_of (1 ∷ [])) (ids_of (2 ∷ []))) (acks_of ((1, 100) ∷ [])) ≡ 0
joint_with_unknown = simp of_maps refl

-- ---- votes
-- yes of 1 and 2, no of 4
abbrev some_votes : Votes
some_votes = finite.from_entries ((1, true) ∷ (2, true) ∷ (4, false) ∷ [])

-- no of 3 as well
abbrev more_votes : Votes
more_votes = finite.from_entries ((1, true) ∷ (2, true) ∷ (3, false) ∷ (4, false) ∷ [])

-- won in the first set, pending in the second; a definition by which either set is enough has VoteWon
pending_in_one : joint_vote_result (pair three (ids_of (3 ∷ 4 ∷ 5 ∷ []))) some_votes ≡ VotePending
pending_in_one = simp of_maps refl

lost_in_one : joint_vote_result (pair three (ids_of (3 ∷ 4 ∷ 5 ∷ []))) more_votes ≡ VoteLost
lost_in_one = simp of_maps refl

won_by_no_voter : joint_vote_result (pair no_voter no_voter) some_votes ≡ VoteWon
won_by_no_voter = simp of_maps refl

-- half of an even set is not enough, and with no of the other half the vote is lost
half_is_pending : vote_result (ids_of (2 ∷ 5 ∷ [])) some_votes ≡ VotePending
half_is_pending = simp of_maps refl

half_is_lost : vote_result (ids_of (2 ∷ 4 ∷ [])) some_votes ≡ VoteLost
half_is_lost = simp of_maps refl

-- ---- charts
chart_of_four : chart_text (1 ∷ 2 ∷ 3 ∷ 4 ∷ []) by_all ≡ codes "        idx\n>         1    (id=1)\nx>        2    (id=2)\nxx>       3    (id=3)\nxxx>      4    (id=4)\n"
unfolding digits
chart_of_four = simp of_maps refl

chart_with_unknown : chart_text (1 ∷ 2 ∷ []) (acks_of ((1, 100) ∷ [])) ≡ codes "      idx\nx>    100    (id=1)\n?       0    (id=2)\n"
unfolding digits
chart_with_unknown = simp of_maps refl

chart_with_a_tie : chart_text (1 ∷ 2 ∷ []) (acks_of ((1, 3) ∷ (2, 3) ∷ [])) ≡ codes "      idx\n>       3    (id=1)\n>       3    (id=2)\n"
unfolding digits
chart_with_a_tie = simp of_maps refl

-- a known 0 ties with an unknown index
chart_of_zero : chart_text (1 ∷ 2 ∷ []) (acks_of ((2, 0) ∷ [])) ≡ codes "      idx\n?       0    (id=1)\n>       0    (id=2)\n"
unfolding digits
chart_of_zero = simp of_maps refl

chart_of_no_voter : chart_text [] by_all ≡ codes "<empty majority quorum>"
chart_of_no_voter = refl
