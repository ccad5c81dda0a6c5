-- Runs where memory and disk are apart. First two of which each action is allowed; then what goes wrong without a rule, where each
-- action but one is allowed, and of the guard of that one all but a field holds.
use Rattle.std.proofs.Common.{ℕ, List, [], ◌∷◌, ◌++◌, refl, inl, inr}
use Rattle.quorum_sets.proofs.Offered.{written_out}
use Rattle.raft_safety.specs.Logs.{Log}
use Rattle.raft_safety.specs.Claims.{ElectionSafety}
use Rattle.raft_safety.specs.EtcdRules.{MayCampaignApplied, MayRestartDurable}
use Rattle.raft_safety.specs.EtcdRules as etcd
use Rattle.raft_safety.specs.DiskCluster.{Message, Ask, Grant, Acknowledge, DiskCluster, memory, new_disk_cluster}
use Rattle.raft_safety.specs.DiskRules.{Campaign, Take, Say, Propose, Send, ApplyAsLeader, Apply, Crash, MayUse}
use Rattle.raft_safety.specs.DiskRuns.{AreAllowedOnDisk}
use Rattle.raft_safety.specs.DiskClaims.{AreGivenOneLog}
use Rattle.safety_examples.proofs.Decisions.{yes}
use Rattle.safety_examples.proofs.ListedVoters.{configuration_of}
use Rattle.safety_examples.proofs.Equality.{prefix}
use Rattle.safety_examples.proofs.DecidedClaims.{two_leaders}
use Rattle.safety_examples.proofs.DecidedEtcd.{campaigns, decided}
use Rattle.safety_examples.proofs.ListedRuns.{Run, AllButOne, actions_of, after, after_one, are_allowed, all_but_one, is_refused, state_before, last_state}
use Rattle.safety_examples.proofs.DecidedDisk.{ListedAction, Do, SaveOldest, LeadBy, RaiseBy, UseLatest, MaySaveWithAny, MayUseUnsaved, after_oldest, disks, latest, uses_unsaved}
use Rattle.safety_examples.proofs.Beginnings.{one, three, request, no_servers, all_servers, x, y, add, remove, added, moved}
use Rattle.safety_examples.proofs.EtcdRuns.{append, candidacy}

abbrev start : DiskCluster
start = new_disk_cluster no_servers

abbrev vote : (term voter candidate : ℕ) → Message
vote term voter candidate = Grant (record { term = term; voter = voter; candidate = candidate })

-- server 1, the only voter, leads term 1
abbrev pub lead : List ListedAction
lead = Do (Campaign 1 1) ∷ SaveOldest 1 1 [] ∷ Do (Say (vote 1 1 1)) ∷ LeadBy (candidacy (request 1 1 [] []) []) [] (1 ∷ []) ∷ []

-- ---- saved first: the commit index of server 1 rises before its disk has the entry, and it may use that only afterwards. Server 2
-- takes the entry, applies it before its disk has it, and crashes
abbrev until_it_rose : List ListedAction
until_it_rose =
    lead ++ (Do (Propose 1 1 x) ∷ Do (Send 1 1 [] (x ∷ [])) ∷ Do (Take 1 (etcd.Receive 1 (append 1 0 0 (x ∷ []) 0))) ∷ RaiseBy 1 1 (x ∷ []) (1 ∷ []) ∷ [])

abbrev saved_first : List ListedAction
saved_first =
    until_it_rose
    ++ (SaveOldest 1 1 [] ∷ UseLatest ∷ Do (ApplyAsLeader 1 1 (x ∷ [])) ∷ Do (Send 1 1 [] (x ∷ [])) ∷ Do (Take 2 (etcd.Receive 2 (append 1 0 0 (x ∷ []) 1)))
    ∷ Do (Apply 2 (x ∷ [])) ∷ Do (Crash 2 [] [] []) ∷ Do (Say (Ask (request 1 1 [] []))) ∷ [])

saved_first_is_allowed : AreAllowedOnDisk (configuration_of one) start (actions_of disks start saved_first)
saved_first_is_allowed = (are_allowed disks one start saved_first).shows refl

not_yet_used : ¬ MayUse (after disks start until_it_rose) (latest (after disks start until_it_rose).raised)
not_yet_used may = let found = may.own_saved (simp written_out refl) in absurd found.1

-- ---- looked first: servers look at their own log before they campaign. Server 1 adds server 2, and then proposes that it be removed
-- itself. It saves both changes without a commit index, and crashes. It may not campaign, since both changes of its log are not
-- applied, and it may once it has applied the first one
abbrev pub until_applied : List ListedAction
until_applied =
    lead
    ++ (Do (Propose 1 1 add) ∷ Do (Send 1 1 [] added) ∷ Do (Take 1 (etcd.Receive 1 (append 1 0 0 added 0))) ∷ SaveOldest 1 1 []
    ∷ RaiseBy 1 1 added (1 ∷ []) ∷ UseLatest ∷ Do (ApplyAsLeader 1 1 added) ∷ [])

abbrev pub until_both : List ListedAction
until_both = Do (Propose 1 1 remove) ∷ Do (Send 1 1 [] moved) ∷ Do (Take 1 (etcd.Receive 1 (append 1 0 0 moved 1))) ∷ []

abbrev pub until_crash : List ListedAction
until_crash = SaveOldest 1 1 [] ∷ Do (Crash 1 [] [] []) ∷ []

abbrev pub after_crash : List ListedAction
after_crash = Do (Take 1 (etcd.Heartbeat 1 1 1 added)) ∷ Do (Apply 1 added) ∷ Do (Campaign 1 2) ∷ []

abbrev pub all_look : DiskCluster
all_look = new_disk_cluster all_servers

looked_first_is_allowed : AreAllowedOnDisk (configuration_of one) all_look (actions_of disks all_look (until_applied ++ until_both ++ until_crash ++ after_crash))
looked_first_is_allowed = (are_allowed disks one all_look (until_applied ++ until_both ++ until_crash ++ after_crash)).shows refl

-- it sees two changes in its log, and counts by the configuration before them
may_not_campaign : ¬ MayCampaignApplied (configuration_of one) (memory (after disks all_look (until_applied ++ until_both ++ until_crash)) 1) 1 2 []
may_not_campaign = (campaigns one (memory (after disks all_look (until_applied ++ until_both ++ until_crash)) 1) 1 2 []).refutes refl

-- ---- without `saved` of Say: a vote is said only when it is on disk. Of the voters 1, 2 and 3, server 2 votes for 1 and says so before
-- it has saved that, and crashes; then it votes for 3. Both lead term 1, after sixteen actions
abbrev say_unsaved : Run disks
say_unsaved = record {
  first = three;
  before =
      Do (Campaign 1 1) ∷ SaveOldest 1 1 [] ∷ Do (Say (Ask (request 1 1 [] []))) ∷ Do (Say (vote 1 1 1))
      ∷ Do (Take 2 (etcd.GrantVote 2 (request 1 1 [] []))) ∷ [];
  action = Do (Say (vote 1 2 1));
  rest =
      LeadBy (candidacy (request 1 1 [] []) []) [] (1 ∷ 2 ∷ []) ∷ Do (Crash 2 [] [] []) ∷ Do (Campaign 3 1) ∷ SaveOldest 3 1 []
      ∷ Do (Say (Ask (request 1 3 [] []))) ∷ Do (Say (vote 1 3 3)) ∷ Do (Take 2 (etcd.GrantVote 2 (request 1 3 [] []))) ∷ SaveOldest 2 1 []
      ∷ Do (Say (vote 1 2 3)) ∷ LeadBy (candidacy (request 1 3 [] []) []) [] (2 ∷ 3 ∷ []) ∷ [];
}

without_saved : AllButOne disks say_unsaved (Unit {0}) × ¬ ElectionSafety (last_state disks say_unsaved).disk.cluster
without_saved = ((all_but_one disks say_unsaved (yes tt) (is_refused disks say_unsaved)).shows refl, (two_leaders 1 1 3 (last_state disks say_unsaved).disk.cluster).shows refl)

-- ---- without `own_saved` of Use: a leader uses a commit index for which its own server was counted only once that has the entries on
-- disk. Server 1 is the only voter. It proposes x, commits and applies it at once, and crashes; it has lost x, and commits and applies y
-- at the same index, after 22 actions. (etcd-io/etcd#14370)
abbrev use_unsaved : Run disks
use_unsaved = record {
  first = one;
  before = until_it_rose;
  action = UseLatest;
  rest =
      Do (ApplyAsLeader 1 1 (x ∷ [])) ∷ Do (Crash 1 [] [] []) ∷ Do (Campaign 1 2) ∷ SaveOldest 1 1 [] ∷ Do (Say (vote 2 1 1))
      ∷ LeadBy (candidacy (request 2 1 [] []) []) [] (1 ∷ []) ∷ Do (Propose 2 1 y) ∷ Do (Send 2 1 [] (y ∷ []))
      ∷ Do (Take 1 (etcd.Receive 1 (append 2 0 0 (y ∷ []) 0))) ∷ RaiseBy 2 1 (y ∷ []) (1 ∷ []) ∷ SaveOldest 1 1 [] ∷ UseLatest
      ∷ Do (ApplyAsLeader 2 1 (y ∷ [])) ∷ [];
}

taken_back : ¬ AreGivenOneLog (last_state disks use_unsaved) (last_state disks use_unsaved)
taken_back claim = elim (claim (record { server = 1; log = x ∷ [] }) (record { server = 1; log = y ∷ [] }) (inr (inl refl)) (inl refl)) [
  | inl less ↦ (prefix (x ∷ []) (y ∷ [])).refutes refl less
  | inr more ↦ (prefix (y ∷ []) (x ∷ [])).refutes refl more
]

without_own_saved : AllButOne disks use_unsaved (MayUseUnsaved (state_before disks use_unsaved)) × ¬ AreGivenOneLog (last_state disks use_unsaved) (last_state disks use_unsaved)
without_own_saved = ((all_but_one disks use_unsaved (uses_unsaved (state_before disks use_unsaved)) (yes not_yet_used)).shows refl, taken_back)

-- ---- the configuration moves from server 1 to servers 1 and 2, and on to server 2. Server 1 has both changes on disk, and with them a
-- commit index. Server 2 takes both, commits them with server 1, and is elected in term 2 by itself. Then server 1 crashes, and is
-- elected in term 2 as well, by the first configuration
abbrev until_2_has_both : List ListedAction
until_2_has_both = until_applied ++ until_both ++ (Do (Take 2 (etcd.Receive 2 (append 1 0 0 moved 1))) ∷ [])

abbrev until_2_leads : List ListedAction
until_2_leads =
    SaveOldest 2 1 added ∷ Do (Say (Acknowledge (record { term = 1; server = 2; log = moved }))) ∷ RaiseBy 1 1 moved (1 ∷ 2 ∷ []) ∷ UseLatest
    ∷ Do (Send 1 1 moved []) ∷ Do (Take 2 (etcd.Receive 2 (append 1 2 1 [] 2))) ∷ Do (Apply 2 moved) ∷ Do (Campaign 2 2) ∷ SaveOldest 2 2 moved
    ∷ Do (Say (vote 2 2 2)) ∷ LeadBy (candidacy (request 2 2 moved moved) moved) moved (2 ∷ []) ∷ []

abbrev until_1_leads : Log → List ListedAction
until_1_leads kept = Do (Say (vote 2 1 1)) ∷ LeadBy (candidacy (request 2 1 moved kept) []) [] (1 ∷ []) ∷ []

-- without `configuration_of_applied` of Crash: a server restarts with the configuration of what it has applied. Server 1 says that it
-- has applied the first change, and counts by the configuration before it
abbrev restart_with_an_older_one : Run disks
restart_with_an_older_one = record {
  first = one;
  before = until_2_has_both ++ (SaveOldest 1 1 added ∷ until_2_leads);
  action = Do (Crash 1 added added []);
  rest = Do (Campaign 1 2) ∷ SaveOldest 1 1 added ∷ until_1_leads added;
}

without_configuration_of_applied : AllButOne disks restart_with_an_older_one (MayRestartDurable (state_before disks restart_with_an_older_one).disk 1 added)
    × ¬ ElectionSafety (last_state disks restart_with_an_older_one).disk.cluster
without_configuration_of_applied = (
  (all_but_one disks restart_with_an_older_one (decided one (state_before disks restart_with_an_older_one).disk (etcd.Restart 1 added)) (is_refused disks restart_with_an_older_one)).shows refl,
  (two_leaders 2 2 1 (last_state disks restart_with_an_older_one).disk.cluster).shows refl,
)

-- without `commit_kept` of Save: at most one change of the voters on disk is beyond the commit index there. Server 1 saves two changes,
-- and no commit index. After the crash it does not know that the first is committed. That save and the next one of server 1 are not
-- allowed, by this rule alone
abbrev both_saved : Run disks
both_saved = record {
  first = one;
  before = until_2_has_both;
  action = SaveOldest 1 1 [];
  rest = until_2_leads ++ (Do (Crash 1 [] [] []) ∷ Do (Campaign 1 2) ∷ []);
}

abbrev vote_saved : DiskCluster
vote_saved = after_one disks (last_state disks both_saved) (SaveOldest 1 1 [])

without_commit_kept : AllButOne disks both_saved (MaySaveWithAny (state_before disks both_saved) 1 1 [])
    × MaySaveWithAny (last_state disks both_saved) 1 1 []
    × AreAllowedOnDisk (configuration_of one) vote_saved (actions_of disks vote_saved (until_1_leads []))
    × ¬ ElectionSafety (after disks vote_saved (until_1_leads [])).disk.cluster
without_commit_kept = (
  (all_but_one disks both_saved (prefix [] ((after_oldest (state_before disks both_saved) 1 1).cluster.servers 1).committed) (is_refused disks both_saved)).shows refl,
  (prefix [] ((after_oldest (last_state disks both_saved) 1 1).cluster.servers 1).committed).shows refl,
  (are_allowed disks one vote_saved (until_1_leads [])).shows refl,
  (two_leaders 2 2 1 (after disks vote_saved (until_1_leads [])).disk.cluster).shows refl,
)
