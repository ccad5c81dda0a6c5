-- What goes wrong without a rule of Steps.antt. Each run leaves out one field of one guard: each of its actions is allowed, but
-- for one, of whose guard all but that field holds; and in the end a claim of Claims.antt is false. So each of these rules is
-- needed, and the claims do not hold of just anything. The number is that of the field in its guard.
--
-- Four fields have no run, since the others leave nothing to them. What a quorum acknowledged in a term is in the log of its
-- leader (`leads` and `in_log` of Commit). A leader whose commit index falls only knows less (`longer_than`). What a server that
-- does not lead takes to be committed goes nowhere (`leads` of Learn).
use Rattle.std.proofs.Common.{[], ◌∷◌, ◌++◌, refl}
use Rattle.quorum_sets.specs.Ids.{ids_of}
use Rattle.conf_change.specs.declared.change.Kind.TheVariants.{Voter, Remove}
use Rattle.raft_safety.specs.Logs.{Log}
use Rattle.raft_safety.specs.Configurations.{IsQuorumAfter}
use Rattle.raft_safety.specs.Claims.{ElectionSafety, LeaderCompleteness, LogMatching, CommittedIsStored, CommitOneLog}
use Rattle.safety_examples.proofs.ListedVoters.{configuration_of, quorum}
use Rattle.safety_examples.proofs.ListedRuns.{Run, state_before, last_state}
use Rattle.safety_examples.proofs.DecidedSteps.{steps, Campaign, SeeTerm, GrantVote, BecomeLeader, Learn, Propose, Receive, Commit, Restart, AllButField, all_but_field}
use Rattle.safety_examples.proofs.DecidedClaims.{Refutes, refutes, two_leaders, incomplete_leader, different_entries, not_stored, two_logs}
use Rattle.safety_examples.proofs.Beginnings.{one, three, command, one_change, request, takes, x, y, z, election, first_command, third_elected, added, moved, proposals, move}

-- ---- campaigns
-- `later`: a campaign is in a later term than the server's own. Server 1 leads term 1 by its own vote and that of server 2.
-- Server 2, in the same term, campaigns and so votes for itself too, and wins with server 3: term 1 has two leaders, after six
-- actions.
abbrev campaign_again : Run steps
campaign_again = record {
  first = three;
  before = election;
  action = Campaign 2 1 [];
  rest = GrantVote 3 (request 1 2 [] []) ∷ BecomeLeader (request 1 2 [] []) (2 ∷ 3 ∷ []) ∷ [];
}

without_later : Refutes 1 ElectionSafety campaign_again
without_later = (refutes 1 campaign_again (two_leaders 1 1 2)).shows refl

-- `committed`: what a candidate counts by is committed. Server 1, the only voter, leads, adds server 2, and proposes that server
-- 1 be removed. Server 2 takes both changes, of which it knows none to be committed, counts by them, and is elected in term 2 by
-- itself; so is server 1, which still counts by the first configuration, after eleven actions.
abbrev campaign_by_its_log : Run steps
campaign_by_its_log = record {
  first = one;
  before = proposals ++ (takes 2 1 1 moved ∷ []);
  action = Campaign 2 2 moved;
  rest = BecomeLeader (request 2 2 moved moved) (2 ∷ []) ∷ Campaign 1 2 [] ∷ BecomeLeader (request 2 1 added []) (1 ∷ []) ∷ [];
}

without_committed : Refutes 2 ElectionSafety campaign_by_its_log
without_committed = (refutes 2 campaign_by_its_log (two_leaders 2 2 1)).shows refl

-- `one_change_beyond`: at most one change in a candidate's log is beyond what it counts by. Server 1 was the only voter; that
-- server 2 is added, and server 1 removed, is committed by both, and server 2 is elected in term 2 by itself, as it may. Server 1
-- counts as if nothing had changed, and elects itself in term 2 too, after fourteen actions.
abbrev campaign_by_an_old_one : Run steps
campaign_by_an_old_one = record {
  first = one;
  before = move ++ (Campaign 2 2 moved ∷ BecomeLeader (request 2 2 moved moved) (2 ∷ []) ∷ []);
  action = Campaign 1 2 [];
  rest = BecomeLeader (request 2 1 moved []) (1 ∷ []) ∷ [];
}

without_one_change_beyond : Refutes 3 ElectionSafety campaign_by_an_old_one
without_one_change_beyond = (refutes 3 campaign_by_an_old_one (two_leaders 2 2 1)).shows refl

-- ---- terms
-- `higher`: a server's term rises. Server 1 leads term 1 by its own vote and that of server 2. Server 2 forgets its term,
-- campaigns in term 1, and wins with server 3: term 1 has two leaders, after seven actions.
abbrev term_falls : Run steps
term_falls = record {
  first = three;
  before = election;
  action = SeeTerm 2 0;
  rest = Campaign 2 1 [] ∷ GrantVote 3 (request 1 2 [] []) ∷ BecomeLeader (request 1 2 [] []) (2 ∷ 3 ∷ []) ∷ [];
}

without_higher : Refutes 1 ElectionSafety term_falls
without_higher = (refutes 1 term_falls (two_leaders 1 1 2)).shows refl

-- ---- votes
-- `asked`: who votes was asked. Server 1 has committed x by 1 and 2. Server 2 votes for server 3 in term 2 by a request with x in
-- its log, which server 3 never made. Server 3 campaigns with an empty log, and that vote counts: it leads term 2 without x, after
-- ten actions.
abbrev vote_unasked : Run steps
vote_unasked = record {
  first = three;
  before = first_command;
  action = GrantVote 2 (request 2 3 (x ∷ []) []);
  rest = Campaign 3 2 [] ∷ BecomeLeader (request 2 3 [] []) (2 ∷ 3 ∷ []) ∷ [];
}

without_asked : Refutes 1 LeaderCompleteness vote_unasked
without_asked = (refutes 1 vote_unasked (incomplete_leader 2 3)).shows refl

-- `not_past`: no vote is for a past term. Server 1 campaigns in term 1, and again in term 2, where it has the vote of server 2.
-- Then server 2 votes for it in term 1, and so is in term 1 again. It campaigns in term 2, votes for itself too, and wins with
-- server 3: term 2 has two leaders, after eight actions.
abbrev vote_in_the_past : Run steps
vote_in_the_past = record {
  first = three;
  before = Campaign 1 1 [] ∷ Campaign 1 2 [] ∷ GrantVote 2 (request 2 1 [] []) ∷ [];
  action = GrantVote 2 (request 1 1 [] []);
  rest =
      Campaign 2 2 [] ∷ GrantVote 3 (request 2 2 [] []) ∷ BecomeLeader (request 2 1 [] []) (1 ∷ 2 ∷ [])
      ∷ BecomeLeader (request 2 2 [] []) (2 ∷ 3 ∷ []) ∷ [];
}

without_not_past : Refutes 2 ElectionSafety vote_in_the_past
without_not_past = (refutes 2 vote_in_the_past (two_leaders 2 1 2)).shows refl

-- `once`: one vote a term. Servers 1 and 2 campaign in term 1, and server 3 votes for both: each has its own vote and that of
-- server 3, a majority. So term 1 has two leaders, after six actions.
abbrev vote_twice : Run steps
vote_twice = record {
  first = three;
  before = Campaign 1 1 [] ∷ Campaign 2 1 [] ∷ GrantVote 3 (request 1 1 [] []) ∷ [];
  action = GrantVote 3 (request 1 2 [] []);
  rest = BecomeLeader (request 1 1 [] []) (1 ∷ 3 ∷ []) ∷ BecomeLeader (request 1 2 [] []) (2 ∷ 3 ∷ []) ∷ [];
}

without_once : Refutes 3 ElectionSafety vote_twice
without_once = (refutes 3 vote_twice (two_leaders 1 1 2)).shows refl

-- `up_to_date`: the candidate's log is at least as up to date as the voter's. Server 1 has committed x by 1 and 2. Server 3, which
-- has nothing, is elected in term 2 by the vote of server 2, and lacks x. It commits y by 2 and 3, so that the two leaders have
-- committed different entries at index 1, after fourteen actions.
abbrev vote_for_less : Run steps
vote_for_less = record {
  first = three;
  before = first_command ++ (Campaign 3 2 [] ∷ []);
  action = GrantVote 2 (request 2 3 [] []);
  rest =
      BecomeLeader (request 2 3 [] []) (2 ∷ 3 ∷ []) ∷ Propose 2 3 y ∷ takes 3 2 3 (y ∷ []) ∷ takes 2 2 3 (y ∷ [])
      ∷ Commit 2 3 (y ∷ []) [] (2 ∷ 3 ∷ []) ∷ [];
}

without_up_to_date : Refutes 4 LeaderCompleteness vote_for_less × ¬ CommitOneLog (last_state steps vote_for_less) (last_state steps vote_for_less)
without_up_to_date = (
  (refutes 4 vote_for_less (incomplete_leader 2 3)).shows refl,
  (two_logs 1 1 2 3 (last_state steps vote_for_less) (last_state steps vote_for_less)).shows refl,
)

-- ---- elections
-- `asked`: a candidate wins with the request that it made. Server 1 has committed x by 1 and 2. Server 2, which has x, campaigns in
-- term 2 and has the vote of server 3, but begins to lead with an empty log: it lacks x, after ten actions.
abbrev lead_unasked : Run steps
lead_unasked = record {
  first = three;
  before = first_command ++ (Campaign 2 2 [] ∷ GrantVote 3 (request 2 2 (x ∷ []) []) ∷ []);
  action = BecomeLeader (request 2 2 [] []) (2 ∷ 3 ∷ []);
  rest = [];
}

without_its_request : Refutes 1 LeaderCompleteness lead_unasked
without_its_request = (refutes 1 lead_unasked (incomplete_leader 2 2)).shows refl

-- `not_yet`: a server becomes leader of a term once. Server 1, leader of term 1, stores x. It becomes leader of term 1 again by the
-- same votes, begins anew with the empty log of its request, and server 2 stores z: two logs have different entries of term 1 at
-- index 1, after eight actions.
abbrev lead_again : Run steps
lead_again = record {
  first = three;
  before = election ++ (Propose 1 1 x ∷ takes 1 1 1 (x ∷ []) ∷ []);
  action = BecomeLeader (request 1 1 [] []) (1 ∷ 2 ∷ []);
  rest = Propose 1 1 z ∷ takes 2 1 1 (z ∷ []) ∷ [];
}

without_not_yet : Refutes 2 LogMatching lead_again
without_not_yet = (refutes 2 lead_again (different_entries 1 2 x z [] [])).shows refl

-- `voted`: the votes of a winner were cast. Servers 1 and 2 campaign in term 1, and server 3 votes for server 1. Server 2 takes that
-- vote for its own too, and so term 1 has two leaders, after five actions.
abbrev lead_without_votes : Run steps
lead_without_votes = record {
  first = three;
  before = Campaign 1 1 [] ∷ Campaign 2 1 [] ∷ GrantVote 3 (request 1 1 [] []) ∷ BecomeLeader (request 1 1 [] []) (1 ∷ 3 ∷ []) ∷ [];
  action = BecomeLeader (request 1 2 [] []) (2 ∷ 3 ∷ []);
  rest = [];
}

without_voted : Refutes 3 ElectionSafety lead_without_votes
without_voted = (refutes 3 lead_without_votes (two_leaders 1 1 2)).shows refl

-- `quorum`: the votes of a winner are a quorum. Server 1 leads term 1 by its own vote and that of server 2. Server 3 campaigns in
-- term 1, and its own vote is enough: term 1 has two leaders, after five actions.
abbrev lead_by_one_vote : Run steps
lead_by_one_vote = record {
  first = three;
  before = election ++ (Campaign 3 1 [] ∷ []);
  action = BecomeLeader (request 1 3 [] []) (3 ∷ []);
  rest = [];
}

without_quorum : Refutes 4 ElectionSafety lead_by_one_vote
without_quorum = (refutes 4 lead_by_one_vote (two_leaders 1 1 3)).shows refl

-- `quorum`, of the configuration that the candidate had applied: it counts by an older one. Server 1 was the only voter; that server
-- 2 is added, and server 1 removed, is committed by both, and server 2 is elected in term 2 by itself, as it may. Server 1, which
-- knows that server 2 was added, elects itself by the configuration before that: two leaders of term 2, after fourteen actions.
abbrev lead_by_an_old_one : Run steps
lead_by_an_old_one = record {
  first = one;
  before = move ++ (Campaign 2 2 moved ∷ BecomeLeader (request 2 2 moved moved) (2 ∷ []) ∷ Campaign 1 2 added ∷ []);
  action = BecomeLeader (request 2 1 moved added) (1 ∷ []);
  rest = [];
}

without_the_applied_configuration : Refutes 4 ElectionSafety lead_by_an_old_one × IsQuorumAfter (configuration_of one) [] (ids_of (1 ∷ []))
without_the_applied_configuration = (
  (refutes 4 lead_by_an_old_one (two_leaders 2 2 1)).shows refl,
  (quorum one [] (1 ∷ [])).shows refl,
)

-- ---- leaders that learn
-- `same_term`: a leader learns from its server only while that is in the leader's term. Server 1, the only voter, leads term 1 with
-- three commands that server 2 takes, and then term 2. There it commits that server 2 is added, and that server 1 is removed. As
-- leader of term 1 it learns both from its server, and so commits the commands by server 2 alone, after eighteen actions.
abbrev commands : Log
commands = x ∷ x ∷ x ∷ []

abbrev added_later : Log
added_later = one_change 2 Voter 2 ∷ []

abbrev moved_later : Log
moved_later = one_change 2 Remove 1 ∷ added_later

abbrev learn_later : Run steps
learn_later = record {
  first = one;
  before =
      Campaign 1 1 [] ∷ BecomeLeader (request 1 1 [] []) (1 ∷ []) ∷ Propose 1 1 x ∷ Propose 1 1 x ∷ Propose 1 1 x
      ∷ takes 2 1 1 commands ∷ Campaign 1 2 [] ∷ BecomeLeader (request 2 1 [] []) (1 ∷ []) ∷ Propose 2 1 (one_change 2 Voter 2)
      ∷ takes 1 2 1 added_later ∷ Commit 2 1 added_later [] (1 ∷ []) ∷ Propose 2 1 (one_change 2 Remove 1)
      ∷ Receive 1 2 1 moved_later added_later moved_later ∷ Receive 2 2 1 moved_later added_later moved_later
      ∷ Commit 2 1 moved_later added_later (1 ∷ 2 ∷ []) ∷ Receive 1 2 1 moved_later moved_later moved_later ∷ [];
  action = Learn 1 1 moved_later;
  rest = Commit 1 1 commands moved_later (2 ∷ []) ∷ [];
}

without_same_term : AllButField 2 learn_later × ¬ CommitOneLog (last_state steps learn_later) (last_state steps learn_later)
without_same_term = ((all_but_field 2 learn_later).shows refl, (two_logs 1 1 2 1 (last_state steps learn_later) (last_state steps learn_later)).shows refl)

-- `known_of`: a leader learns what its server knows to be committed. Server 1, leader of term 1, has committed x, and takes z to be
-- committed instead, after eight actions.
abbrev learn_anything : Run steps
learn_anything = record { first = three; before = first_command; action = Learn 1 1 (z ∷ []); rest = [] }

without_known_of : AllButField 3 learn_anything × ¬ CommitOneLog (state_before steps learn_anything) (last_state steps learn_anything)
without_known_of = ((all_but_field 3 learn_anything).shows refl, (two_logs 1 1 1 1 (state_before steps learn_anything) (last_state steps learn_anything)).shows refl)

-- ---- proposals
-- `own_term`: a leader's entries are of its own term. Server 1, leader of term 1, stores an entry that says that it is of term 2.
-- Server 3 is elected in term 2, and stores another entry of term 2 at that index: that two entries of one term at one index are
-- the same, by which logs are compared, is no longer so, after ten actions.
abbrev propose_later : Run steps
propose_later = record {
  first = three;
  before = election;
  action = Propose 1 1 (command 2 7);
  rest = takes 1 1 1 (command 2 7 ∷ []) ∷ (third_elected ++ (Propose 2 3 y ∷ takes 3 2 3 (y ∷ []) ∷ []));
}

without_own_term : Refutes 1 LogMatching propose_later
without_own_term = (refutes 1 propose_later (different_entries 1 3 (command 2 7) y [] [])).shows refl

-- ---- appends
-- `leads`: what a server takes is of a leader. Server 1, leader of term 1, has committed x. Server 3 does not lead, proposes z in
-- that term, and stores it: two logs have different entries of term 1 at index 1, after nine actions.
abbrev take_of_any_server : Run steps
take_of_any_server = record {
  first = three;
  before = first_command ++ (Propose 1 3 z ∷ []);
  action = takes 3 1 3 (z ∷ []);
  rest = [];
}

without_leads : Refutes 1 LogMatching take_of_any_server
without_leads = (refutes 1 take_of_any_server (different_entries 1 3 x z [] [])).shows refl

-- `not_past`: a server takes nothing from the leader of a past term. Server 1, leader of term 1, proposes x, and server 3 is elected
-- in term 2 by servers 2 and 3. Then server 2 takes x from server 1, which so commits it by 1 and 2: server 3 leads term 2 without
-- x, after ten actions.
abbrev take_from_the_past : Run steps
take_from_the_past = record {
  first = three;
  before = election ++ (Propose 1 1 x ∷ (third_elected ++ (takes 1 1 1 (x ∷ []) ∷ [])));
  action = takes 2 1 1 (x ∷ []);
  rest = Commit 1 1 (x ∷ []) [] (1 ∷ 2 ∷ []) ∷ [];
}

without_the_term_of_appends : Refutes 2 LeaderCompleteness take_from_the_past
without_the_term_of_appends = (refutes 2 take_from_the_past (incomplete_leader 2 3)).shows refl

-- `sent_of`: what a server takes is of the leader's log. Server 2 takes z as sent by server 1, leader of term 1, which never had it.
-- Then server 1 proposes x, and stores it: two logs have different entries of term 1 at index 1, after six actions.
abbrev take_anything : Run steps
take_anything = record {
  first = three;
  before = election;
  action = takes 2 1 1 (z ∷ []);
  rest = Propose 1 1 x ∷ takes 1 1 1 (x ∷ []) ∷ [];
}

without_sent_of : Refutes 3 LogMatching take_anything
without_sent_of = (refutes 3 take_anything (different_entries 1 2 x z [] [])).shows refl

-- `known_of`: what a server learns to be committed is in what it takes (the commit index of an append is at most its last index).
-- Server 1 has committed x. Server 3 takes an empty append, and learns from it that x is committed: its log does not have x, after
-- eight actions.
abbrev learn_what_it_lacks : Run steps
learn_what_it_lacks = record { first = three; before = first_command; action = Receive 3 1 1 [] (x ∷ []) []; rest = [] }

without_known_in_what_is_sent : Refutes 4 CommittedIsStored learn_what_it_lacks
without_known_in_what_is_sent = (refutes 4 learn_what_it_lacks (not_stored 3)).shows refl

-- `committed`: a server learns to be committed only what the leader committed. Server 1, leader of term 1, stores x, and takes it as
-- committed although no other server has it. Server 3 is elected in term 2 by servers 2 and 3, and server 1 takes y from it at that
-- index: it has lost what it took as committed, after ten actions.
abbrev learn_too_much : Run steps
learn_too_much = record {
  first = three;
  before = election ++ (Propose 1 1 x ∷ []);
  action = Receive 1 1 1 (x ∷ []) (x ∷ []) (x ∷ []);
  rest = third_elected ++ (Propose 2 3 y ∷ takes 1 2 3 (y ∷ []) ∷ []);
}

without_the_leaders_commit : Refutes 5 CommittedIsStored learn_too_much
without_the_leaders_commit = (refutes 5 learn_too_much (not_stored 1)).shows refl

-- `taken`: an append cuts nothing off that agrees with it. Server 1 has committed x by 1 and 2. An older, empty append of server 1
-- reaches server 2, which cuts its log back to it. Server 3, which has nothing, is elected in term 2 by the vote of server 2: it
-- lacks x, after eleven actions.
abbrev cut_off : Run steps
cut_off = record {
  first = three;
  before = first_command;
  action = Receive 2 1 1 [] [] [];
  rest = third_elected;
}

without_taken : Refutes 6 LeaderCompleteness cut_off
without_taken = (refutes 6 cut_off (incomplete_leader 2 3)).shows refl

-- ---- commitments
-- `own_term`: a leader commits up to an entry of its own term: figure 8 of the Raft paper. Server 1 stores x in term 1, server 3
-- stores y in term 2, and server 1 is elected again, in term 3: by then 1 and 2 have x, and server 1 commits it. Then server 3,
-- whose log ends in term 2, is elected in term 4 by the vote of server 2: it lacks x, after nineteen actions.
abbrev commit_of_past_terms : Run steps
commit_of_past_terms = record {
  first = three;
  before =
      election
      ++ (Propose 1 1 x ∷ takes 1 1 1 (x ∷ []) ∷ (third_elected ++ (Propose 2 3 y ∷ takes 3 2 3 (y ∷ []) ∷ Campaign 1 3 []
      ∷ GrantVote 2 (request 3 1 (x ∷ []) []) ∷ BecomeLeader (request 3 1 (x ∷ []) []) (1 ∷ 2 ∷ []) ∷ takes 1 3 1 (x ∷ [])
      ∷ takes 2 3 1 (x ∷ []) ∷ [])));
  action = Commit 3 1 (x ∷ []) [] (1 ∷ 2 ∷ []);
  rest = Campaign 3 4 [] ∷ GrantVote 2 (request 4 3 (y ∷ []) []) ∷ BecomeLeader (request 4 3 (y ∷ []) []) (2 ∷ 3 ∷ []) ∷ [];
}

without_own_term_of_commits : Refutes 4 LeaderCompleteness commit_of_past_terms
without_own_term_of_commits = (refutes 4 commit_of_past_terms (incomplete_leader 4 3)).shows refl

-- `acknowledged`: what is committed was acknowledged. Server 1, leader of term 1, proposes x, and commits it by servers 1 and 2
-- before either has stored it. Server 3 is elected in term 2 by the vote of server 2: it lacks x, after eight actions.
abbrev commit_unacknowledged : Run steps
commit_unacknowledged = record {
  first = three;
  before = election ++ (Propose 1 1 x ∷ []);
  action = Commit 1 1 (x ∷ []) [] (1 ∷ 2 ∷ []);
  rest = third_elected;
}

without_acknowledged : Refutes 5 LeaderCompleteness commit_unacknowledged
without_acknowledged = (refutes 5 commit_unacknowledged (incomplete_leader 2 3)).shows refl

-- `counted`: a leader counts by a configuration that is committed. Server 1 was the only voter, has committed that server 2 is added,
-- and proposes that server 1 be removed. Server 2 alone takes that, and server 1 commits it by server 2 alone, as if it were
-- committed already. Server 1 campaigns in term 2. It has not learned yet that anything is committed, so its own vote is enough: it
-- leads without the second change, after ten actions.
abbrev count_uncommitted : Run steps
count_uncommitted = record {
  first = one;
  before = proposals ++ (Receive 2 1 1 moved added moved ∷ []);
  action = Commit 1 1 moved moved (2 ∷ []);
  rest = Campaign 1 2 [] ∷ BecomeLeader (request 2 1 added []) (1 ∷ []) ∷ [];
}

without_counted : Refutes 6 LeaderCompleteness count_uncommitted
without_counted = (refutes 6 count_uncommitted (incomplete_leader 2 1)).shows refl

-- `one_change_beyond`: a leader counts by a configuration that lacks at most one change of its log. Server 1 was the only voter, has
-- committed that server 2 is added, and proposes that server 1 be removed, and then x. It commits all of that by itself alone, as if
-- nothing had changed. Server 2 takes the two changes, hears that they are committed, and is elected in term 2 by itself, as it may:
-- it lacks x, after twelve actions.
abbrev count_by_an_old_one : Run steps
count_by_an_old_one = record {
  first = one;
  before = proposals ++ (Propose 1 1 x ∷ Receive 1 1 1 (x ∷ moved) added (x ∷ moved) ∷ []);
  action = Commit 1 1 (x ∷ moved) [] (1 ∷ []);
  rest = Receive 2 1 1 moved moved moved ∷ Campaign 2 2 moved ∷ BecomeLeader (request 2 2 moved moved) (2 ∷ []) ∷ [];
}

without_the_latest_configuration : Refutes 7 LeaderCompleteness count_by_an_old_one
without_the_latest_configuration = (refutes 7 count_by_an_old_one (incomplete_leader 2 2)).shows refl

-- `quorum`: what is committed was acknowledged by a quorum. Server 1, leader of term 1, stores x, and commits it by itself alone.
-- Server 3 is elected in term 2 by the vote of server 2: it lacks x, after nine actions.
abbrev commit_alone : Run steps
commit_alone = record {
  first = three;
  before = election ++ (Propose 1 1 x ∷ takes 1 1 1 (x ∷ []) ∷ []);
  action = Commit 1 1 (x ∷ []) [] (1 ∷ []);
  rest = third_elected;
}

without_quorum_of_acknowledgements : Refutes 8 LeaderCompleteness commit_alone
without_quorum_of_acknowledgements = (refutes 8 commit_alone (incomplete_leader 2 3)).shows refl

-- ---- restarts
-- `known_of`: what a server knows to be committed after a restart it knew before. A server that has nothing restarts with a commit
-- index of 1: it has not stored what it takes to be committed, after one action.
abbrev restart_knowing_more : Run steps
restart_knowing_more = record { first = three; before = []; action = Restart 1 (x ∷ []); rest = [] }

without_known_at_restart : Refutes 1 CommittedIsStored restart_knowing_more
without_known_at_restart = (refutes 1 restart_knowing_more (not_stored 1)).shows refl
