-- Simple steps of one change each. etcd's raft takes a proposal of several changes with the transition Auto through a
-- joint configuration, so a simple step of several is proposed change by change.
use Rattle.std.specs.Prelude.{◌≡◌, ◌⊎◌, List, [], ◌∷◌, map, flat_map}
use Rattle.quorum_sets.specs.Ids.{Ids}
use Rattle.conf_change.specs.Configuration.{Configuration, voters_of}
use Rattle.conf_change.specs.declared.step.Step.{Step}
use Rattle.conf_change.specs.declared.step.Step.TheVariants.{Simple, EnterJoint, LeaveJoint}
use Rattle.conf_plan.specs.OnTheWay.{EachOnTheWay, HasMembersOf, KeepsQuorums, KeepsTolerance, NoVoterCatchesUp, VotersLearnFirst}
use Rattle.conf_plan.specs.Run.{Gives, IsRun, IsRunWith}

-- a simple step for each change of a simple step, in the order of the list; other steps stay as they are
abbrev pub each_change : Step → List Step
each_change (Simple changes) = map (λ change. Simple (change ∷ [])) changes
each_change (EnterJoint auto_leave changes) = EnterJoint auto_leave changes ∷ []
each_change LeaveJoint = LeaveJoint ∷ []

-- the steps, each simple one as steps of one change: simple l4 l5, leave-joint becomes simple l4, simple l5, leave-joint
abbrev pub one_change_each : List Step → List Step
one_change_each steps = flat_map each_change steps

-- the configuration has the voters, incoming and outgoing, of one on the way of the steps: of the first one, or of one
-- after a step
abbrev pub HasVotersOnTheWay : Configuration → List Step → Configuration → Type 0
HasVotersOnTheWay now [] c = voters_of c ≡ voters_of now
HasVotersOnTheWay now (step ∷ steps) c = (voters_of c ≡ voters_of now) ⊎ ((next : Configuration) × Gives now step next × HasVotersOnTheWay next steps c)

-- Steps that lead to the target also if each change of a simple step is a step of its own. Each configuration on that
-- way has the voters of one on the way of the steps, so the quorums and the tolerance that the steps keep are kept. Its
-- members are those of the ends. If the new voters of the steps were learners with progress, or no id that has to catch
-- up is a voter, so it is for the single changes.
pub record LeadsChangeByChange (now : Configuration) (steps : List Step) (target : Configuration) : Type 0 where
  pub run : IsRun now (one_change_each steps) target
  pub voters : EachOnTheWay (HasVotersOnTheWay now steps) now (one_change_each steps) target
  pub quorums : KeepsQuorums now steps target → KeepsQuorums now (one_change_each steps) target
  pub tolerance : (down : Ids) → KeepsTolerance down now steps target → KeepsTolerance down now (one_change_each steps) target
  pub members : EachOnTheWay (HasMembersOf now target) now (one_change_each steps) target
  pub ready : VotersLearnFirst now steps target → VotersLearnFirst now (one_change_each steps) target
  pub caught_up : IsRunWith NoVoterCatchesUp now steps target → IsRunWith NoVoterCatchesUp now (one_change_each steps) target
