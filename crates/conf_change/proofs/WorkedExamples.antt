-- Small cases, worked out by hand.
use Rattle.std.proofs.Common.{◌≡◌, ℕ, Bool, true, false, List, [], ◌∷◌, refl, ap, ◌∙◌}
use Rattle.std.specs.Prelude.{Some, None, codes, Ok, Err}
use Rattle.quorum_sets.specs.Ids.{has, ids_of, no_ids}
use Rattle.quorum_sets.proofs.Offered.{has-ids_of, written_out}
use Rattle.conf_change.specs.Configuration.{Configuration, first_broken}
use Rattle.conf_change.specs.Change.{result_of, last_effective, is_learner_after, is_next_after}
use Rattle.conf_change.specs.Edits.{edit_of, has_role, has_member_role}
use Rattle.conf_change.specs.declared.edit_list.Role.TheVariants as role
use Rattle.conf_change.specs.Outcome.{simple_outcome, enter_outcome, leave_outcome}
use Rattle.conf_change.specs.Progress.{keeps_progress}
use Rattle.conf_change.specs.declared.config.Invariant.TheVariants.{ZeroId, NextNotOutgoing, NextAndIncoming}
use Rattle.conf_change.specs.declared.refused.Refused.TheVariants.{NotJoint, ZeroVoterJoint, SimpleInJoint, RemovedAllVoters}
use Rattle.conf_change.specs.declared.step.Step.TheVariants.{Simple, EnterJoint}
use Rattle.ascii_text.specs.Tokens.{tokens_in}
use Rattle.conf_change.specs.ChangeList.{changes_in, unknown_token, unknown_input, bad_number}
use Rattle.conf_change.specs.ConfStateLine.{conf_state_in}
use Rattle.conf_change.specs.PrintedConfig.{config_tokens_in, config_in}
use Rattle.conf_change.specs.ConfState.{ConfStateLists, restored}
use Rattle.conf_change.proofs.ListsOfChanges.ResultOfEach.{has-incoming_after, has-learners_after, has-next_after}
use Rattle.conf_change.specs.declared.change.Change.{Change}
use Rattle.conf_change.specs.declared.change.Kind.{Kind}
use Rattle.conf_change.specs.declared.change.Kind.TheVariants.{Voter, Learner, Remove, Update}

abbrev change : Kind → ℕ → Change
change kind id = record { kind = kind; id = id }

-- one voter, in the joint configuration that it enters
abbrev one_voter : Configuration
one_voter = record { incoming = ids_of (1 ∷ []); outgoing = ids_of (1 ∷ []); learners = no_ids; learners_next = no_ids; auto_leave = false }

-- r1 r2 r9 v2 v3 v4 v2 v3 v4 l2 l2 r4 r4 l1 l1
abbrev many : List Change
many = change Remove 1 ∷ change Remove 2 ∷ change Remove 9 ∷ change Voter 2 ∷ change Voter 3 ∷ change Voter 4 ∷ change Voter 2 ∷ change Voter 3
    ∷ change Voter 4 ∷ change Learner 2 ∷ change Learner 2 ∷ change Remove 4 ∷ change Remove 4 ∷ change Learner 1 ∷ change Learner 1 ∷ []

change_summary : (last_effective many 1 ≡ Some Learner) × (last_effective many 2 ≡ Some Learner) × (last_effective many 3 ≡ Some Voter) × (last_effective many 4 ≡ Some Remove) × (last_effective many 9 ≡ Some Remove) × (last_effective many 5 ≡ None)
change_summary = (refl, refl, refl, refl, refl, refl)

-- of v4 r4 l4 the edit of 4 is Learner with a removal; an outgoing voter waits, and stays a member when it is removed
edit_of_4 : edit_of (change Voter 4 ∷ change Remove 4 ∷ change Learner 4 ∷ change Update 4 ∷ []) (ids_of (1 ∷ [])) 4 ≡ Some (record { kind = Learner; removed = true; outgoing = false })
edit_of_4 = ap (λ b. Some (record { kind = Learner; removed = true; outgoing = b })) (has-ids_of (1 ∷ []) 4)

no_edit : (edit_of (change Voter 0 ∷ change Update 1 ∷ []) no_ids 0 ≡ None) × (edit_of (change Voter 0 ∷ change Update 1 ∷ []) no_ids 1 ≡ None)
no_edit = (refl, refl)

roles_of_edits : (has_role (record { kind = Learner; removed = true; outgoing = false }) role.Learner ≡ true) × (has_role (record { kind = Learner; removed = true; outgoing = true }) role.Learner ≡ false)
    × (has_role (record { kind = Learner; removed = true; outgoing = true }) role.Next ≡ true) × (has_member_role (record { kind = Remove; removed = true; outgoing = true }) ≡ true)
    × (has_member_role (record { kind = Remove; removed = true; outgoing = false }) ≡ false)
roles_of_edits = (refl, refl, refl, refl, refl)

-- a change of 0 and an update have no say
no_effective_change : (last_effective (change Voter 0 ∷ change Update 1 ∷ []) 0 ≡ None) × (last_effective (change Voter 0 ∷ change Update 1 ∷ []) 1 ≡ None)
no_effective_change = (refl, refl)

incoming_3 : has (result_of one_voter many).incoming 3 ≡ true
incoming_3 = has-incoming_after one_voter many 3

incoming_1 : has (result_of one_voter many).incoming 1 ≡ false
incoming_1 = has-incoming_after one_voter many 1

learner_2 : has (result_of one_voter many).learners 2 ≡ true
learner_2 = has-learners_after one_voter many 2 ∙ ap (λ b. is_learner_after (Some Learner) b (has no_ids 2)) (has-ids_of (1 ∷ []) 2)

-- a learner that is an outgoing voter waits: a definition that lets it learn at once has true here
learner_1 : has (result_of one_voter many).learners 1 ≡ false
learner_1 = has-learners_after one_voter many 1 ∙ ap (λ b. is_learner_after (Some Learner) b (has no_ids 1)) (has-ids_of (1 ∷ []) 1)

next_1 : has (result_of one_voter many).learners_next 1 ≡ true
next_1 = has-next_after one_voter many 1 ∙ ap (λ b. is_next_after (Some Learner) b (has no_ids 1)) (has-ids_of (1 ∷ []) 1)

nothing_of_4 : (has (result_of one_voter many).incoming 4 ≡ false) × (has (result_of one_voter many).learners 4 ≡ false)
nothing_of_4 = (has-incoming_after one_voter many 4, has-learners_after one_voter many 4)

-- ---- texts
two_tokens : tokens_in (codes " v1 \n l2") ≡ codes "v1" ∷ codes "l2" ∷ []
two_tokens = refl

read_two : changes_in (codes " v1 \n l02") ≡ Ok (change Voter 1 ∷ change Learner 2 ∷ [])
read_two = refl

too_short : changes_in (codes "v1 v x5") ≡ Err (unknown_token (codes "v"))
too_short = refl

unknown : changes_in (codes "v1 x5 v") ≡ Err (unknown_input (codes "x5"))
unknown = refl

too_large : changes_in (codes "v18446744073709551616") ≡ Err (bad_number (codes "v18446744073709551616"))
too_large = refl

largest : changes_in (codes "v18446744073709551615") ≡ Ok (change Voter 18446744073709551615 ∷ [])
largest = refl

abbrev saved_row : ConfStateLists
saved_row = record { voters = 1 ∷ 2 ∷ 3 ∷ []; voters_outgoing = 1 ∷ 2 ∷ 4 ∷ 6 ∷ []; learners = 5 ∷ []; learners_next = []; auto_leave = false }

reads_saved : conf_state_in (codes "  Voters:[1 2 3] VotersOutgoing:[1 2 4 6] Learners:[5] LearnersNext:[] AutoLeave:false\n") ≡ Some saved_row
reads_saved = refl

-- two spaces between the fields are refused, and so is a space before a bracket
refuses_saved : (conf_state_in (codes "Voters: [1] VotersOutgoing:[] Learners:[] LearnersNext:[] AutoLeave:false") ≡ None)
    × (conf_state_in (codes "Voters:[1]  VotersOutgoing:[] Learners:[] LearnersNext:[] AutoLeave:false") ≡ None)
    × (conf_state_in (codes "Voters:[1 ] VotersOutgoing:[] Learners:[] LearnersNext:[] AutoLeave:false") ≡ None)
refuses_saved = (refl, refl, refl)

-- ---- printed configurations
printed_tokens : config_tokens_in (codes "voters=(1 2)&&(3)") ≡ codes "voters" ∷ codes "=" ∷ codes "(" ∷ codes "1" ∷ codes "2" ∷ codes ")" ∷ codes "&&" ∷ codes "(" ∷ codes "3" ∷ codes ")" ∷ []
printed_tokens = refl

abbrev saved : List ℕ → List ℕ → List ℕ → List ℕ → Bool → ConfStateLists
saved voters voters_outgoing learners learners_next auto_leave =
    record { voters = voters; voters_outgoing = voters_outgoing; learners = learners; learners_next = learners_next; auto_leave = auto_leave }

reads_printed : config_in (codes "voters=(2 3)&&(1 2) learners=(4) learners_next=(1) autoleave") ≡ Some (saved (2 ∷ 3 ∷ []) (1 ∷ 2 ∷ []) (4 ∷ []) (1 ∷ []) true)
reads_printed = refl

reads_empty : config_in (codes "voters=()") ≡ Some (saved [] [] [] [] false)
reads_empty = refl

-- white space between tokens, and zeros before a number
reads_spaced : config_in (codes " voters = ( 02 1 ) && (3)\tlearners=(4)\n") ≡ Some (saved (2 ∷ 1 ∷ []) (3 ∷ []) (4 ∷ []) [] false)
reads_spaced = refl

-- a part that is empty, two parts in another order, a space within a token, and what is not a number
refuses_printed : (config_in (codes "voters=(1) learners=()") ≡ None) × (config_in (codes "voters=(1) learners_next=(2) learners=(3)") ≡ None)
    × (config_in (codes "voters=(1)& &(2)") ≡ None) × (config_in (codes "voters=(1 -2)") ≡ None)
refuses_printed = (refl, refl, refl, refl)

abbrev config : List ℕ → List ℕ → List ℕ → List ℕ → Configuration
config incoming outgoing learners next = record { incoming = ids_of incoming; outgoing = ids_of outgoing; learners = ids_of learners; learners_next = ids_of next; auto_leave = false }

-- ---- the first invariant that is broken
next_not_outgoing : first_broken (config (1 ∷ []) (2 ∷ []) [] (1 ∷ [])) ≡ Some NextNotOutgoing
next_not_outgoing = simp written_out refl

next_and_incoming : first_broken (config (1 ∷ []) (1 ∷ []) [] (1 ∷ [])) ≡ Some NextAndIncoming
next_and_incoming = simp written_out refl

zero_id : first_broken (config (0 ∷ []) [] (0 ∷ []) []) ≡ Some ZeroId
zero_id = simp written_out refl

none_broken : first_broken (config (3 ∷ []) (1 ∷ []) (2 ∷ []) (1 ∷ [])) ≡ None
none_broken = simp written_out refl

-- ---- refusals
all_voters : simple_outcome (config [] [] [] []) (change Learner 1 ∷ []) ≡ Err RemovedAllVoters
all_voters = simp written_out refl

simple_in_joint : simple_outcome (config (1 ∷ []) (1 ∷ []) [] []) (change Voter 2 ∷ []) ≡ Err SimpleInJoint
simple_in_joint = simp written_out refl

no_voter_yet : enter_outcome (config [] [] [] []) false (change Voter 1 ∷ []) ≡ Err ZeroVoterJoint
no_voter_yet = simp written_out refl

not_joint : leave_outcome (config (1 ∷ []) [] [] []) ≡ Err NotJoint
not_joint = simp written_out refl

-- a member that goes and returns in one list is fresh; a definition that asks for the last effective change alone has true here
returned_is_fresh : keeps_progress (config (1 ∷ 2 ∷ []) [] [] []) (Simple (change Remove 2 ∷ change Voter 2 ∷ [])) (config (1 ∷ 2 ∷ []) [] [] []) 2 ≡ false
returned_is_fresh = simp written_out refl

-- as an outgoing voter it keeps its progress
outgoing_is_kept : keeps_progress (config (1 ∷ 2 ∷ []) [] [] []) (EnterJoint false (change Remove 2 ∷ [])) (config (1 ∷ []) (1 ∷ 2 ∷ []) [] []) 2 ≡ true
outgoing_is_kept = simp written_out refl

-- ---- saved configurations
named_twice : restored (record { voters = 1 ∷ 1 ∷ []; voters_outgoing = []; learners = []; learners_next = []; auto_leave = false }) ≡ None
named_twice = simp written_out refl

next_of_no_voter : restored (record { voters = 1 ∷ 2 ∷ 3 ∷ []; voters_outgoing = 1 ∷ 2 ∷ 4 ∷ 6 ∷ []; learners = 5 ∷ []; learners_next = 7 ∷ []; auto_leave = false }) ≡ None
next_of_no_voter = simp written_out refl

learner_alone : restored (record { voters = []; voters_outgoing = []; learners = 1 ∷ []; learners_next = []; auto_leave = false }) ≡ None
learner_alone = simp written_out refl
