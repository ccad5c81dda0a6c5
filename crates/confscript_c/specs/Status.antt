-- The codes of the statuses and their texts, which include/confscript.h gives to callers.
use Rattle.std.specs.Prelude.{ℕ, List, [], ◌∷◌, codes, slice_index_or}
use Rattle.confscript_c.specs.declared.status.Status.{Status}
use Rattle.confscript_c.specs.declared.status.Status.TheVariants.{Done, TooSmall, NoMemory, BadConfState, RepeatedId, NotAConfiguration, NoVoter, BadLine, NotAMember, AlreadyJoint, ZeroVoterJoint, NotJoint, SimpleInJoint, RemovedAllVoters, MoreThanOneVoter, ZeroId, NextNotOutgoing, NextAndIncoming, LearnerAndVoter, AddedAgain, NotJointButAutoLeave, DifferentLengths, BadVote, NoQuorum, BadStrategy, JointTarget, BadStep, BadChange, BadOutput, UnknownForm, BadPrinted, BadJson, BadChangeList, DownNotAMember, StrategyMayStall, AutoLeaveTarget, NoConfIndex, NoLeaderProgress}

-- the code of a status; codes never change
abbrev pub code_of : Status → ℕ
code_of Done = 0
code_of TooSmall = 1
code_of NoMemory = 2
code_of BadConfState = 3
code_of RepeatedId = 4
code_of NotAConfiguration = 5
code_of NoVoter = 6
code_of BadLine = 7
code_of NotAMember = 8
code_of AlreadyJoint = 9
code_of ZeroVoterJoint = 10
code_of NotJoint = 11
code_of SimpleInJoint = 12
code_of RemovedAllVoters = 13
code_of MoreThanOneVoter = 14
code_of ZeroId = 15
code_of NextNotOutgoing = 16
code_of NextAndIncoming = 17
code_of LearnerAndVoter = 18
code_of AddedAgain = 19
code_of NotJointButAutoLeave = 20
code_of DifferentLengths = 21
code_of BadVote = 22
code_of NoQuorum = 23
code_of BadStrategy = 24
code_of JointTarget = 25
code_of BadStep = 26
code_of BadChange = 27
code_of BadOutput = 28
code_of UnknownForm = 29
code_of BadPrinted = 30
code_of BadJson = 31
code_of BadChangeList = 32
code_of DownNotAMember = 33
code_of StrategyMayStall = 34
code_of AutoLeaveTarget = 35
code_of NoConfIndex = 36
code_of NoLeaderProgress = 37

-- what the statuses mean, in the order of their codes; the text of a refused step is what the program prints
abbrev pub status_texts : List (List ℕ)
status_texts =
    codes "done"
    ∷ codes "the buffer is too small"
    ∷ codes "out of memory"
    ∷ codes "not a ConfState line: expected Voters:[1 2] VotersOutgoing:[] Learners:[3] LearnersNext:[] AutoLeave:false"
    ∷ codes "an id is named twice"
    ∷ codes "not a configuration: an id is 0 or listed twice, a learner is a voter, a next learner is not an outgoing voter alone, or auto-leave has no outgoing voters"
    ∷ codes "no incoming voter"
    ∷ codes "not a step: expected simple l4 l5, enter-joint autoleave=false r1 v4, or leave-joint"
    ∷ codes "not a member"
    ∷ codes "config is already joint"
    ∷ codes "can't make a zero-voter config joint"
    ∷ codes "can't leave a non-joint config"
    ∷ codes "can't apply simple config change in joint config"
    ∷ codes "removed all voters"
    ∷ codes "more than one voter changed without entering joint config"
    ∷ codes "the id 0"
    ∷ codes "a next learner is not an outgoing voter"
    ∷ codes "a next learner is an incoming voter"
    ∷ codes "a learner is a voter"
    ∷ codes "removed and added again: a server that lost its log needs a new id"
    ∷ codes "auto-leave without outgoing voters"
    ∷ codes "the counts do not match the length"
    ∷ codes "a vote is neither 0, 1 nor 2"
    ∷ codes "the voters are no quorum"
    ∷ codes "unknown strategy"
    ∷ codes "the target is joint"
    ∷ codes "unknown step"
    ∷ codes "unknown kind of change"
    ∷ codes "unknown output"
    ∷ codes "no form of a configuration: expected voters=(1 2 3) learners=(4), a ConfState line, or JSON of a ConfState or of etcdctl member list"
    ∷ codes "not a printed configuration: expected voters=(1 2)&&(1 2 3) learners=(4) learners_next=(3) autoleave, without what is empty, with spaces between ids"
    ∷ codes "not the JSON of a configuration: expected voters, voters_outgoing, learners, learners_next and auto_leave, or etcdctl member list -w json, with decimal numbers as ids"
    ∷ codes "not a list of changes: expected changes as r1 v4 l5, or a configuration as voters=(1 2 3), a ConfState line, or JSON"
    ∷ codes "down and not a member"
    ∷ codes "by this strategy the cluster may stall"
    ∷ codes "the target has auto-leave: raft leaves it by itself"
    ∷ codes "there is a leader, and the index of the configuration is 0"
    ∷ codes "the leader is a member, and the view has no progress of it" ∷ []

-- what the status of a code means; the numbers above 37 are codes of none
abbrev pub text_of_code : ℕ → List ℕ
text_of_code code = slice_index_or status_texts code (codes "unknown status")
