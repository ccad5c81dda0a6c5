-- What small runs are made of, and where they begin.
use Rattle.std.proofs.Common.{ℕ, Bool, true, false, List, [], ◌∷◌, ◌++◌}
use Rattle.conf_change.specs.declared.change.Kind.{Kind}
use Rattle.conf_change.specs.declared.change.Kind.TheVariants.{Voter, Remove}
use Rattle.conf_change.specs.declared.step.Step.TheVariants.{Simple}
use Rattle.raft_safety.specs.Logs.{Command, ConfChange, Entry, Log}
use Rattle.raft_safety.specs.Cluster.{VoteRequest}
use Rattle.safety_examples.proofs.ListedVoters.{Lists}
use Rattle.safety_examples.proofs.DecidedSteps.{ListedAction, Campaign, GrantVote, BecomeLeader, Propose, Receive, Commit}

-- ---- voters, entries and requests
-- these voters, not joint
abbrev pub voters : List ℕ → Lists
voters ids = record { incoming = ids; outgoing = [] }

abbrev pub one : Lists
one = voters (1 ∷ [])

abbrev pub three : Lists
three = voters (1 ∷ 2 ∷ 3 ∷ [])

-- an entry of the term with a command of one byte
abbrev pub command : ℕ → ℕ → Entry
command term byte = record { term = term; payload = Command (byte ∷ []) }

-- an entry of the term with a simple step of one change
abbrev pub one_change : ℕ → Kind → ℕ → Entry
one_change term kind id = record { term = term; payload = ConfChange (Simple (record { kind = kind; id = id } ∷ [])) }

abbrev pub request : ℕ → ℕ → Log → Log → VoteRequest
request term candidate log committed = record { term = term; candidate = candidate; log = log; committed = committed }

-- of servers that look at their own log before they campaign: none, or all
abbrev pub no_servers : ℕ → Bool
no_servers = λ server. false

abbrev pub all_servers : ℕ → Bool
all_servers = λ server. true

-- a server takes this log of a leader in place of its own, and learns nothing of it to be committed
abbrev pub takes : ℕ → ℕ → ℕ → Log → ListedAction
takes server term leader log = Receive server term leader log [] log

-- ---- three voters
-- two commands of term 1, and one of term 2
abbrev pub x : Entry
x = command 1 7

abbrev pub z : Entry
z = command 1 8

abbrev pub y : Entry
y = command 2 8

-- server 1 is elected in term 1 by its own vote and that of server 2
abbrev pub election : List ListedAction
election = Campaign 1 1 [] ∷ GrantVote 2 (request 1 1 [] []) ∷ BecomeLeader (request 1 1 [] []) (1 ∷ 2 ∷ []) ∷ []

-- and commits the command x by 1 and 2
abbrev pub first_command : List ListedAction
first_command =
    election
    ++ (Propose 1 1 x ∷ takes 1 1 1 (x ∷ []) ∷ takes 2 1 1 (x ∷ []) ∷ Commit 1 1 (x ∷ []) [] (1 ∷ 2 ∷ []) ∷ [])

-- server 3, with nothing, is elected in term 2 by its own vote and that of server 2
abbrev pub third_elected : List ListedAction
third_elected = Campaign 3 2 [] ∷ GrantVote 2 (request 2 3 [] []) ∷ BecomeLeader (request 2 3 [] []) (2 ∷ 3 ∷ []) ∷ []

-- ---- the configuration moves from server 1 to servers 1 and 2, and on to server 2: quorums before the two changes and after
-- them need not meet
abbrev pub add : Entry
add = one_change 1 Voter 2

abbrev pub remove : Entry
remove = one_change 1 Remove 1

abbrev pub added : Log
added = add ∷ []

abbrev pub moved : Log
moved = remove ∷ added

-- server 1 is elected in term 1, adds server 2, commits that by itself, and proposes that server 1 be removed
abbrev pub proposals : List ListedAction
proposals =
    Campaign 1 1 [] ∷ BecomeLeader (request 1 1 [] []) (1 ∷ []) ∷ Propose 1 1 add ∷ takes 1 1 1 added
    ∷ Commit 1 1 added [] (1 ∷ []) ∷ Propose 1 1 remove ∷ []

-- both servers take that, it is committed by both, and server 2 knows it: it alone is the voter now
abbrev pub move : List ListedAction
move =
    proposals
    ++ (Receive 1 1 1 moved added moved ∷ Receive 2 1 1 moved added moved ∷ Commit 1 1 moved added (1 ∷ 2 ∷ [])
    ∷ Receive 2 1 1 moved moved moved ∷ [])
