-- How the definitions of votes relate: of sets, of lists, and of counts.
use Rattle.std.proofs.Common.{◌≡◌, Bool, true, false, cond, not, ◌≤◌, ◌&&◌, ◌||◌, List, length, map, sym, ◌∙◌, arith}
use Rattle.std.specs.Prelude.{Option, Some, None, nat_eq, unwrap_or, if◌then◌else◌}
use Rattle.std.specs.FinMap as finite
use Rattle.std.proofs.lemmas.Bool.Decides.{nat_tests}
use Rattle.std.proofs.lemmas.List.{length-map}
use Rattle.std.proofs.lemmas.List.Sums.{sum_by-le-sum_by}
use Rattle.std.proofs.lemmas.List.Sorted.{length_permutation, IsPermutation-refl}
use Rattle.quorum_sets.specs.Ids.{Ids, ascending, is_empty, majority_passes}
use Rattle.quorum_sets.specs.Voters.{Voters, pair, most}
use Rattle.quorum_sets.specs.Votes.{Votes, AreVotesOf, is_won_by, is_lost_by, vote_of, vote_result, joint_vote_of, joint_vote_result, both}
use Rattle.quorum_sets.specs.declared.voting.VoteResult.{VoteResult}
use Rattle.quorum_sets.specs.declared.voting.VoteResult.TheVariants.{VotePending, VoteLost, VoteWon}
use Rattle.quorum_sets.proofs.Quorums.Counts.{most-permuted, majority_passes-values}

-- ---- votes in a list
yes_may_be : (vote : Option Bool) → cond (unwrap_or vote false) 1 0 ≤ cond (unwrap_or vote true) 1 0
yes_may_be None = omega arith
yes_may_be (Some vote) = omega arith

is_won_by-is_lost_by : (list : List (Option Bool)) → is_won_by list ≡ true → is_lost_by list ≡ false
is_won_by-is_lost_by list won = grind (arith, sum_by-le-sum_by, yes_may_be, nat_tests)

by_each : (w l v m : Bool) → (w ≡ true → l ≡ false) → (v ≡ true → m ≡ false) → (if w && v then VoteWon else (if l || m then VoteLost else VotePending)) ≡ both (if w then VoteWon else (if l then VoteLost else VotePending)) (if v then VoteWon else (if m then VoteLost else VotePending))
by_each w l v m first second = grind arith

pub joint_vote_of-both : (incoming outgoing : List (Option Bool)) → joint_vote_of incoming outgoing ≡ both (vote_of incoming) (vote_of outgoing)
joint_vote_of-both incoming outgoing = by_each _ _ _ _ (is_won_by-is_lost_by incoming) (is_won_by-is_lost_by outgoing)

pub both-won : (vote : VoteResult) → both vote VoteWon ≡ vote
both-won vote = grind arith

-- ---- votes of a set
-- where an id that has not voted counts as this
half-listed : (silent : Bool) (list : List (Option Bool)) (ids : Ids) (votes : Votes) → AreVotesOf list ids votes
    → (nat_eq (length list) 0 || most (λ vote. unwrap_or vote silent) list) ≡ (is_empty ids || majority_passes (λ id. unwrap_or (finite.get votes id) silent) ids)
half-listed silent list ids votes are =
    let many = sym (length_permutation _ _ are) ∙ length-map (ascending ids) (finite.get votes) in
    let passes = sym (most-permuted (λ vote. unwrap_or vote silent) _ _ are) ∙ sym (majority_passes-values (λ vote. unwrap_or vote silent) (finite.get votes) ids) in
    λ i. nat_eq (many i) 0 || passes i

pub vote_of-ids : (list : List (Option Bool)) (ids : Ids) (votes : Votes) → AreVotesOf list ids votes → vote_of list ≡ vote_result ids votes
vote_of-ids list ids votes are = λ i. if half-listed false list ids votes are i then VoteWon else (if not (half-listed true list ids votes are i) then VoteLost else VotePending)

pub joint_vote_of-voters : (incoming outgoing : List (Option Bool)) (voters : Voters) (votes : Votes) → AreVotesOf incoming voters.incoming votes → AreVotesOf outgoing voters.outgoing votes
    → joint_vote_of incoming outgoing ≡ joint_vote_result voters votes
joint_vote_of-voters incoming outgoing voters votes first second =
    λ i. if half-listed false incoming voters.incoming votes first i && half-listed false outgoing voters.outgoing votes second i then VoteWon
    else (if not (half-listed true incoming voters.incoming votes first i) || not (half-listed true outgoing voters.outgoing votes second i) then VoteLost else VotePending)

pub joint_vote_result-both : (incoming outgoing : Ids) (votes : Votes) → joint_vote_result (pair incoming outgoing) votes ≡ both (vote_result incoming votes) (vote_result outgoing votes)
joint_vote_result-both incoming outgoing votes =
    let first = map (finite.get votes) (ascending incoming) in
    let second = map (finite.get votes) (ascending outgoing) in
    sym (joint_vote_of-voters first second (pair incoming outgoing) votes (IsPermutation-refl first) (IsPermutation-refl second))
    ∙ joint_vote_of-both first second
    ∙ (λ i. both (vote_of-ids first incoming votes (IsPermutation-refl first) i) (vote_of-ids second outgoing votes (IsPermutation-refl second) i))
